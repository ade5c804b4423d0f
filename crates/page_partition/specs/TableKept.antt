use Rattle.std.proofs.Common.{◌≡◌, ℕ, ◌+◌, ◌-◌, ◌<◌, ◌≤◌, Bool, false, List, [], ◌∷◌, ◌++◌, length, get_or, set, take, drop, refl, ap, sym, ◌∙◌, subst, inl, inr, arith}
use Rattle.std.proofs.lemmas.Bool.{cases_eq, ne_eqb, eq-eqb}
use Rattle.std.proofs.lemmas.List.{get_or-set_same, get_or-set_other, length-set, drop_all, length-drop, length-take, append-nil, take-take, get_or-take, get_or-drop}
use Rattle.page_partition.specs.declared.table.Mark.{Mark}
use Rattle.page_partition.specs.declared.table.Role.{Role}
use Rattle.page_partition.specs.declared.table.Mark.TheVariants.{Left, Out, Deposited}
use Rattle.page_partition.specs.Scan.{is_left, is_out, places_from, places, left_of, out_of, mark_first, mark_all, given_back, AllNamed}
use Rattle.page_partition.specs.Table.{IsRole, IsTable}
use Rattle.page_partition.specs.Places.{places_split, places-mark_first_same, places-mark_first_other, places-mark_first_new, length-mark_first}
use Rattle.page_partition.specs.Marks.{Apart, left-out, out-left, left-left, out-out, take-mark_first, drop-mark_first, AllNamed-mark_first, AllNamed-mark_all, length-mark_all, take-mark_all, drop-mark_all, places-mark_all_same, places-mark_all_other, length-places-mark_all, length-places_both, none_before_first, places_shift, places_drop_none, places_take_none, places_bound, given_back_none, take-given_back}

-- a write of one role's entry
pub IsTable-set : (ms ms' : List Mark) (roles : List Role) (role : ℕ) (x : Role) → IsTable ms roles → role < 64 → length ms' ≡ length ms → AllNamed ms' → IsRole ms' role x → ((r : ℕ) (y : Role) → (r ≡ role → ⊥) → IsRole ms r y → IsRole ms' r y) → IsTable ms' (set roles role x)
IsTable-set ms ms' roles role x t lt same named own others = record {
  fits = rw same t.fits;
  named = named;
  sizes = length-set roles role x ∙ t.sizes;
  each = λ r d h. elim (cases_eq r role) [
    | inl e ↦ subst (λ (q : ℕ). IsRole ms' q (get_or (set roles role x) q d)) (sym e) (let lt' : role < length roles = omega (arith, t.sizes) in rw (get_or-set_same roles role x d lt') own)
    | inr ne ↦ rw (get_or-set_other roles role r x d ne) (others r (get_or roles r d) ne (t.each r d h))
  ];
}

-- another role's marks stay where one role's become another kind of its own
pub IsRole-mark_first_other : (t : Mark → Bool) (m : Mark) (k : ℕ) (ms : List Mark) (r : ℕ) (y : Role) → is_left r m ≡ false → is_out r m ≡ false → Apart t (is_left r) → Apart t (is_out r) → IsRole ms r y → IsRole (mark_first t k m ms) r y
IsRole-mark_first_other t m k ms r y hl ho al ao s = record {
  next_in = rw (length-mark_first t m k ms) s.next_in;
  none_before = rw (take-mark_first t m y.next k ms) (places-mark_first_other t (is_left r) m hl al k 0 (take y.next ms) ∙ s.none_before);
  none_out_after = rw (drop-mark_first t m y.next k 0 ms) (places-mark_first_other t (is_out r) m ho ao _ 0 (drop y.next ms) ∙ s.none_out_after);
  count = s.count ∙ sym (ap length (places-mark_first_other t (is_left r) m hl al k 0 ms));
  out = s.out ∙ sym (places-mark_first_other t (is_out r) m ho ao k 0 ms);
}

pub IsRole-mark_all_other : (t : Mark → Bool) (m : Mark) (ms : List Mark) (r : ℕ) (y : Role) → is_left r m ≡ false → is_out r m ≡ false → Apart t (is_left r) → Apart t (is_out r) → IsRole ms r y → IsRole (mark_all t m ms) r y
IsRole-mark_all_other t m ms r y hl ho al ao s = record {
  next_in = rw (length-mark_all t m ms) s.next_in;
  none_before = rw (take-mark_all t m y.next ms) (places-mark_all_other t (is_left r) m hl al 0 (take y.next ms) ∙ s.none_before);
  none_out_after = rw (drop-mark_all t m y.next ms) (places-mark_all_other t (is_out r) m ho ao 0 (drop y.next ms) ∙ s.none_out_after);
  count = s.count ∙ sym (ap length (places-mark_all_other t (is_left r) m hl al 0 ms));
  out = s.out ∙ sym (places-mark_all_other t (is_out r) m ho ao 0 ms);
}

drop_all_of : (n : ℕ) (xs : List ℕ) → drop n (take n xs) ≡ []
drop_all_of n xs = drop_all n (take n xs) (omega (arith, length-take n xs))

-- the role itself, after a take
pub IsRole-taken : (ms : List Mark) (role next count : ℕ) (y : Role) → IsRole ms role y → next ≤ length ms → out_of ms role ≡ [] → count ≤ y.left → left_of (take next ms) role ≡ take count (left_of ms role)
    → IsRole (mark_first (is_left role) count (Out role) ms) role (record { next = next; left = y.left - count; out = take count (left_of ms role) })
IsRole-taken ms role next count y s h idle few found = record {
  next_in = rw (length-mark_first (is_left role) (Out role) count ms) h;
  none_before = rw (take-mark_first (is_left role) (Out role) next count ms) (places-mark_first_same (is_left role) (Out role) refl count 0 (take next ms) ∙ ap (drop count) found ∙ drop_all_of count (left_of ms role));
  none_out_after =
      let z : count - length (left_of (take next ms) role) ≡ 0 = omega (arith, ap length found, length-take count (left_of ms role), s.count) in
      ap (λ xs. out_of xs role) (drop-mark_first (is_left role) (Out role) next count 0 ms ∙ ap (λ k. mark_first (is_left role) k (Out role) (drop next ms)) z) ∙ places_drop_none (is_out role) next ms h idle;
  count =
      let rest = places-mark_first_same (is_left role) (Out role) refl count 0 ms in
      omega (arith, ap length rest, length-drop count (left_of ms role), s.count);
  out = sym (places-mark_first_new (is_left role) (is_out role) (Out role) (eq-eqb role role refl) (left-out role role) count 0 ms idle);
}

pub IsTable-taken : (ms : List Mark) (roles : List Role) (role next count : ℕ) (y : Role) → IsTable ms roles → role < 64 → IsRole ms role y → next ≤ length ms → out_of ms role ≡ [] → count ≤ y.left → left_of (take next ms) role ≡ take count (left_of ms role)
    → IsTable (mark_first (is_left role) count (Out role) ms) (set roles role (record { next = next; left = y.left - count; out = take count (left_of ms role) }))
IsTable-taken ms roles role next count y t lt s h idle few found =
    IsTable-set ms _ roles role _ t lt (length-mark_first (is_left role) (Out role) count ms) (AllNamed-mark_first (is_left role) (Out role) lt count ms t.named) (IsRole-taken ms role next count y s h idle few found)
    (λ r z ne of_z. IsRole-mark_first_other (is_left role) (Out role) count ms r z refl (ne_eqb role r (λ e. ne (sym e))) (left-left role r (λ e. ne (sym e))) (left-out role r) of_z)

-- where the next search begins after a batch was given back
pub next_given : (ms : List Mark) (role : ℕ) (y : Role) → IsRole ms role y → (q : ℕ) → q ≡ get_or (out_of ms role) 0 y.next → (q ≤ y.next) × (out_of (take q ms) role ≡ [])
next_given ms role y s q e = go (out_of ms role) refl e
  where
    go : (qs : List ℕ) → out_of ms role ≡ qs → q ≡ get_or qs 0 y.next → (q ≤ y.next) × (out_of (take q ms) role ≡ [])
    go [] is same = (omega arith, places_take_none (is_out role) 0 q ms is)
    go (a ∷ bs) is same =
        let front : out_of ms role ≡ out_of (take y.next ms) role =
        places_split (is_out role) ms y.next s.next_in ∙ ap (λ zs. out_of (take y.next ms) role ++ zs) (places_shift (is_out role) 0 y.next (drop y.next ms) s.none_out_after) ∙ append-nil (out_of (take y.next ms) role) in
        let some : 0 < length (out_of (take y.next ms) role) = omega (arith, ap length front, ap length is) in
        let b = places_bound (is_out role) 0 (take y.next ms) 0 0 some in
        let first : get_or (out_of (take y.next ms) role) 0 0 ≡ a = ap (λ xs. get_or xs 0 0) (sym front ∙ is) in
        let z : a - 0 ≡ a = omega arith in
        let here : q ≡ a = same in (
          omega (arith, length-take y.next ms),
          subst (λ (v : ℕ). out_of (take v ms) role ≡ []) (sym here) (subst (λ (v : ℕ). places_from 0 (is_out role) (take v ms) ≡ []) z (none_before_first (is_out role) 0 a ms bs is)),
        )

pub IsRole-given : (ms : List Mark) (role next done : ℕ) (y : Role) → IsRole ms role y → done ≤ length (out_of ms role) → next ≤ y.next → out_of (take next ms) role ≡ []
    → IsRole (given_back role done ms) role (record { next = next; left = y.left + (length (out_of ms role) - done); out = [] })
IsRole-given ms role next done y s few h idle = record {
  next_in = rw (length-mark_all (is_out role) (Left role) _) (rw (length-mark_first (is_out role) Deposited done ms) (let i = s.next_in in omega arith));
  none_before =
      ap (λ xs. left_of xs role) (take-given_back role done next ms ∙ given_back_none role done (take next ms) idle)
      ∙ ap (λ xs. left_of xs role) (sym (take-take next y.next ms h)) ∙ places_take_none (is_left role) 0 next (take y.next ms) s.none_before;
  none_out_after = ap (λ xs. out_of xs role) (drop-mark_all (is_out role) (Left role) next _) ∙ places-mark_all_same (is_out role) (Left role) refl 0 (drop next (mark_first (is_out role) done Deposited ms));
  count =
      let a = length-places-mark_all (is_out role) (is_left role) (Left role) (eq-eqb role role refl) (out-left role role) 0 (mark_first (is_out role) done Deposited ms) in
      let b = places-mark_first_same (is_out role) Deposited refl done 0 ms in
      let d = places-mark_first_other (is_out role) (is_left role) Deposited refl (out-left role role) done 0 ms in
      omega (arith, a, ap length b, ap length d, length-drop done (out_of ms role), s.count);
  out = sym (places-mark_all_same (is_out role) (Left role) refl 0 (mark_first (is_out role) done Deposited ms));
}

pub IsTable-given : (ms : List Mark) (roles : List Role) (role next done : ℕ) (y : Role) → IsTable ms roles → role < 64 → IsRole ms role y → done ≤ length (out_of ms role) → next ≤ y.next → out_of (take next ms) role ≡ []
    → IsTable (given_back role done ms) (set roles role (record { next = next; left = y.left + (length (out_of ms role) - done); out = [] }))
IsTable-given ms roles role next done y t lt s few h idle =
    IsTable-set ms _ roles role _ t lt (length-mark_all (is_out role) (Left role) _ ∙ length-mark_first (is_out role) Deposited done ms) (AllNamed-mark_all (is_out role) (Left role) lt _ (AllNamed-mark_first (is_out role) Deposited tt done ms t.named)) (IsRole-given ms role next done y s few h idle)
    (λ r z ne of_z. IsRole-mark_all_other (is_out role) (Left role) _ r z (ne_eqb role r (λ e. ne (sym e))) refl (out-left role r) (out-out role r (λ e. ne (sym e)))
    (IsRole-mark_first_other (is_out role) Deposited done ms r z refl refl (out-left role r) (out-out role r (λ e. ne (sym e))) of_z))

pub places_range_take : (t : Mark → Bool) (ms : List Mark) (k : ℕ) (qs : List ℕ) → qs ≡ take k (places t ms) → (i : ℕ) → i < length qs → get_or qs i 0 < length ms
places_range_take t ms k qs e i h =
    let h' : i < length (take k (places t ms)) = omega (arith, ap length e) in
    let in_k : i < k = omega (arith, length-take k (places t ms)) in
    let in_all : i < length (places t ms) = omega (arith, length-take k (places t ms)) in
    let b = places_bound t 0 ms i 0 in_all in
    rw e (rw (get_or-take k (places t ms) i 0 in_k) (omega arith))

pub places_range_drop : (t : Mark → Bool) (ms : List Mark) (k : ℕ) (qs : List ℕ) → qs ≡ drop k (places t ms) → (i : ℕ) → i < length qs → get_or qs i 0 < length ms
places_range_drop t ms k qs e i h =
    let in_all : k + i < length (places t ms) = omega (arith, ap length e, length-drop k (places t ms)) in
    let b = places_bound t 0 ms (k + i) 0 in_all in
    rw e (rw (get_or-drop k (places t ms) i 0) (omega arith))

-- what is left for a role and out with it are positions of the scan
pub role_sum : (ms : List Mark) (role : ℕ) (y : Role) → IsRole ms role y → y.left + length (out_of ms role) ≤ length ms
role_sum ms role y s = let b = length-places_both (is_left role) (is_out role) (left-out role role) 0 ms in omega (arith, s.count)
