use Rattle.std.proofs.Common.{◌≡◌, ℕ, zero, suc, ◌+◌, ◌-◌, ◌^◌, ◌<◌, ◌≤◌, Bool, true, false, List, [], ◌∷◌, length, get_or, set, drop, refl, ap, sym, ◌∙◌, subst, inl, inr, arith, add-one}
use Rattle.std.proofs.lemmas.Bool.{cases_Bool, cases_eq, eq-eqb, ne_eqb}
use Rattle.std.proofs.lemmas.List.{get_or-set_same, get_or-set_other, drop_more}
use Rattle.page_partition.specs.declared.table.Mark.{Mark}
use Rattle.page_partition.specs.declared.table.Role.{Role}
use Rattle.page_partition.specs.declared.table.Mark.TheVariants.{Left, Out, Deposited}
use Rattle.page_partition.specs.Scan.{is_left, is_out, places_from, out_of, IsNamed, AllNamed}
use Rattle.page_partition.specs.Table.{IsTable, IsCounted}
use Rattle.page_partition.specs.Marks.{places_drop_none}

pub AllNamed-get_or : (ms : List Mark) (q : ℕ) (d : Mark) → AllNamed ms → q < length ms → IsNamed (get_or ms q d)
AllNamed-get_or [] q d a h = absurd (omega arith)
AllNamed-get_or (x ∷ xs) zero d a h = a.0
AllNamed-get_or (x ∷ xs) (suc q) d a h = AllNamed-get_or xs q d a.1 (omega arith)

pub named_left : (ms : List Mark) (q : ℕ) (d : Mark) (r : ℕ) → AllNamed ms → q < length ms → get_or ms q d ≡ Left r → r < 64
named_left ms q d r a h e = subst IsNamed e (AllNamed-get_or ms q d a h)

pub not_left : (r : ℕ) (m : Mark) → ((x : ℕ) → m ≡ Left x → ⊥) → is_left r m ≡ false
not_left r (Left x) h = absurd (h x refl)
not_left r (Out x) h = refl
not_left r Deposited h = refl

pub places_few : (t : Mark → Bool) (p : ℕ) (ms : List Mark) → length (places_from p t ms) ≤ length ms
places_few t p [] = omega arith
places_few t p (x ∷ xs) =
    let ih = places_few t (suc p) xs in
    elim (cases_Bool (t x)) [ inl e ↦ simp e (omega arith) | inr e ↦ simp e (omega arith) ]

pub counted_skip : (ms : List Mark) (q r : ℕ) (y : Role) (d : Mark) → q < length ms → is_left r (get_or ms q d) ≡ false → IsCounted ms (q + 1) r y → IsCounted ms q r y
counted_skip ms q r y d h e s =
    let rest : drop q ms ≡ get_or ms q d ∷ drop (q + 1) ms = drop_more ms q d h in
    let next : y.next - q ≡ suc (y.next - (q + 1)) = (let low = s.low in omega arith) in
    record {
      low = (let low = s.low in omega arith);
      next_in = s.next_in;
      none = rw (rest, next) (simp (e, add-one) (simp add-one at s.none));
      count = rw rest (simp (e, add-one) (simp add-one at s.count));
      out = s.out;
    }

pub counted_here : (ms : List Mark) (q r : ℕ) (y : Role) (d : Mark) → q < length ms → is_left r (get_or ms q d) ≡ true → IsCounted ms (q + 1) r y → IsCounted ms q r (record { next = q; left = y.left + 1; out = [] })
counted_here ms q r y d h e s =
    let rest : drop q ms ≡ get_or ms q d ∷ drop (q + 1) ms = drop_more ms q d h in
    let none : q - q ≡ 0 = omega arith in
    record {
      low = omega arith;
      next_in = omega arith;
      none = rw none refl;
      count = rw rest (simp (e, add-one) (let count = simp add-one at s.count in omega arith));
      out = refl;
    }

-- the position of role `here` is counted
pub counted_set : (ms : List Mark) (q here : ℕ) (roles : List Role) (y d : Role) → q < length ms → length roles ≡ 64 → here < 64 → get_or ms q (Left 0) ≡ Left here → y ≡ get_or roles here y → ((r : ℕ) (d : Role) → r < 64 → IsCounted ms (q + 1) r (get_or roles r d))
    → (r : ℕ) → r < 64 → IsCounted ms q r (get_or (set roles here (record { next = q; left = y.left + 1; out = [] })) r d)
counted_set ms q here roles y d h sizes lt is same each r lt' =
    elim (cases_eq r here) [
      | inl e ↦ rw e (let inside : here < length roles = omega arith in rw (get_or-set_same roles here _ d inside)
          (counted_here ms q here y (Left 0) h (ap (is_left here) is ∙ eq-eqb here here refl) (subst (λ (z : Role). IsCounted ms (q + 1) here z) (sym same) (each here y lt))))
      | inr ne ↦ rw (get_or-set_other roles here r _ d ne) (counted_skip ms q r (get_or roles r d) (Left 0) h (ap (is_left r) is ∙ ne_eqb here r (λ e. ne (sym e))) (each r d lt'))
    ]

pub table_of_counted : (ms : List Mark) (roles : List Role) → length ms < 2 ^ 32 → AllNamed ms → length roles ≡ 64 → ((r : ℕ) → r < 64 → out_of ms r ≡ []) → ((r : ℕ) (d : Role) → r < 64 → IsCounted ms 0 r (get_or roles r d)) → IsTable ms roles
table_of_counted ms roles fits named sizes idle each = record {
  fits = fits;
  named = named;
  sizes = sizes;
  each = λ r d lt.
      let s = each r d lt in
      let y = get_or roles r d in
      let z : y.next - 0 ≡ y.next = omega arith in
      record {
        next_in = s.next_in;
        none_before = rw z at s.none;
        none_out_after = places_drop_none (is_out r) y.next ms s.next_in (idle r lt);
        count = s.count;
        out = s.out ∙ sym (idle r lt);
      };
}
