-- The scan of a page's items.
use Rattle.std.proofs.Common.{◌≡◌, ℕ, zero, suc, ◌+◌, ◌-◌, ◌<◌, ◌≤◌, Bool, true, false, cond, List, [], ◌∷◌, ◌++◌, length, drop, Option, Some, None, refl, sym, ap, subst, ◌∙◌, arith}
use Rattle.std.specs.Prelude.{◌==◌, slice_get}
use Rattle.std.specs.List.{list_all}
use Rattle.std.specs.Option.{option_and_then}
use Rattle.std.proofs.lemmas.List.{length-append, append-nil}
use Rattle.std.proofs.lemmas.Bool.{eq-eqb, ne_eqb}
use Rattle.lists.specs.Arranged.{one_if}
use Rattle.heap_page.specs.Fields.{short_at}
use Rattle.rows.specs.declared.field.ColType.{ColType}
use Rattle.rows.specs.declared.value.Value.{Value}
use Rattle.key_index.specs.Aims.{chosen, count, first_of}
use Rattle.key_index.specs.Entries.{Item, blank}
use Rattle.key_index.specs.Readings.{item_front, items_in, page_fault, prepend, rest_fault, tail_front}
use Rattle.key_index.proofs.Reached.{count-append}

-- above the leaves the level and the number make no difference
pub tail_above : (level number : ℕ) (key : Value) (bytes : List ℕ) → (level ≡ 0 → ⊥) → tail_front 1 0 key bytes ≡ tail_front level number key bytes
tail_above zero number key bytes ne = absurd (ne refl)
tail_above (suc level) number key bytes ne = refl

assoc : (xs ys zs : List Item) → (xs ++ ys) ++ zs ≡ xs ++ (ys ++ zs)
assoc [] ys zs = refl
assoc (x ∷ xs) ys zs = ap (λ (r : List Item). x ∷ r) (assoc xs ys zs)

nothing_first : (r : Option (List Item × List ℕ)) → prepend [] r ≡ r
nothing_first None = refl
nothing_first (Some r) = refl

twice : (xs ys : List Item) (r : Option (List Item × List ℕ)) → prepend xs (prepend ys r) ≡ prepend (xs ++ ys) r
twice xs ys None = refl
twice xs ys (Some r) = ap (λ (l : List Item). Some (l, r.1)) (sym (assoc xs ys r.0))

chosen_append : (p : Item → Bool) (d : Item) (xs : List Item) (e : Item) → chosen p d (xs ++ e ∷ []) ≡ cond (p e) e (chosen p d xs)
chosen_append p d [] e = refl
chosen_append p d (x ∷ xs) e = chosen_append p (cond (p x) x d) xs e

-- the chosen item is one of them
chosen_place : (p : Item → Bool) (d : Item) (xs : List Item) → (i : ℕ) × (slice_get (d ∷ xs) i ≡ Some (chosen p d xs))
chosen_place p d [] = (0, refl)
chosen_place p d (x ∷ xs) = by (p x) (chosen_place p x xs) (chosen_place p d xs) where
  by : (b : Bool) → (i : ℕ) × (slice_get (x ∷ xs) i ≡ Some (chosen p x xs)) → (i : ℕ) × (slice_get (d ∷ xs) i ≡ Some (chosen p d xs)) → (i : ℕ) × (slice_get (d ∷ x ∷ xs) i ≡ Some (chosen p (cond b x d) xs))
  by true (i, h) other = (suc i, h)
  by false other (zero, h) = (0, h)
  by false other (suc i, h) = (suc (suc i), h)

pub chosen_one : (p : Item → Bool) (xs : List Item) → 0 < length xs → (i : ℕ) × (slice_get xs i ≡ Some (chosen p (first_of xs) xs))
chosen_one p [] lt = absurd (omega arith)
chosen_one p (x ∷ xs) lt = by (p x) (chosen_place p x xs) where
  by : (b : Bool) → (i : ℕ) × (slice_get (x ∷ xs) i ≡ Some (chosen p x xs)) → (i : ℕ) × (slice_get (x ∷ xs) i ≡ Some (chosen p (cond b x x) xs))
  by true h = h
  by false h = h

-- what was read so far
pub record Reading (t : ColType) (level start n : ℕ) (p : Item → Bool) (body : List ℕ) (first : Item) (place counted : ℕ) (entry : Item) (rest : List ℕ) : Type 0 where
  pub done : List Item
  pub len : length done ≡ place
  pub whole : items_in t level start n body ≡ prepend done (items_in t level (start + place) (n - place) rest)
  pub counts : counted ≡ count p done
  pub few : counted ≤ place
  pub last : entry ≡ chosen p first done

module _ (t : ColType) (level start n : ℕ) (p : Item → Bool) (body : List ℕ) (first : Item) where
  pub begun : Reading t level start n p body first 0 0 first body
  begun = record {
    done = [];
    len = refl;
    whole = let a : start + 0 ≡ start = omega arith in let b : n - 0 ≡ n = omega arith in rw (a, b) (sym (nothing_first (items_in t level start n body)));
    counts = refl;
    few = omega arith;
    last = refl;
  }

  module _ (place counted : ℕ) (entry : Item) (rest : List ℕ) (lt : place < n) (r : Reading t level start n p body first place counted entry rest) where
    next_whole : (e : Item) (behind : List ℕ) → Some (e, behind) ≡ item_front t level (start + place) rest → items_in t level start n body ≡ prepend (r.done ++ e ∷ []) (items_in t level (start + (place + 1)) (n - (place + 1)) behind)
    next_whole e behind has =
        let a : start + (place + 1) ≡ suc (start + place) = omega arith in
        let b : n - place ≡ suc (n - (place + 1)) = omega (arith, lt) in
        let one : items_in t level (start + place) (n - place) rest ≡ prepend (e ∷ []) (items_in t level (suc (start + place)) (n - (place + 1)) behind) = rw (b, ← has) refl in
        rw a (r.whole ∙ (ap (λ (o : Option (List Item × List ℕ)). prepend r.done o) one ∙ twice r.done (e ∷ []) _))

    -- one more item
    pub more : (e : Item) (behind : List ℕ) → Some (e, behind) ≡ item_front t level (start + place) rest → (after : ℕ) (now : Item) → after ≡ counted + one_if (p e) → now ≡ cond (p e) e entry →
        Reading t level start n p body first (place + 1) after now behind
    more e behind has after now ka kn = record {
      done = r.done ++ e ∷ [];
      len = omega (arith, length-append r.done (e ∷ []), r.len);
      whole = next_whole e behind has;
      counts = omega (arith, ka, r.counts, count-append p r.done (e ∷ []));
      few = omega (arith, ka, r.few, one_le (p e));
      last = kn ∙ (ap (λ (x : Item). cond (p e) e x) r.last ∙ sym (chosen_append p first r.done e));
    } where
      one_le : (b : Bool) → one_if b ≤ 1
      one_le true = omega arith
      one_le false = omega arith

    pub missing : None ≡ item_front t level (start + place) rest → items_in t level start n body ≡ None
    missing has =
        let b : n - place ≡ suc (n - (place + 1)) = omega (arith, lt) in
        let one : items_in t level (start + place) (n - place) rest ≡ None = rw (b, ← has) refl in
        r.whole ∙ ap (λ (o : Option (List Item × List ℕ)). prepend r.done o) one

  pub ended : (place counted : ℕ) (entry : Item) (rest : List ℕ) → n ≤ place → (r : Reading t level start n p body first place counted entry rest) → items_in t level start n body ≡ Some (r.done, rest)
  ended place counted entry rest le r =
      let b : n - place ≡ 0 = omega (arith, le) in
      r.whole ∙ rw b (ap (λ (l : List Item). Some (l, rest)) (append-nil r.done))

-- ---- what is wrong with a page

pub no_level : (t : ColType) (level start : ℕ) (bytes : List ℕ) → (short_at bytes 16 ≡ level → ⊥) → page_fault t level start bytes ≡ Some 6
unfolding page_fault
no_level t level start bytes ne = let a : (short_at bytes 16 == level) ≡ false = ne_eqb _ _ ne in rw a refl

pub no_items : (t : ColType) (level start : ℕ) (bytes : List ℕ) → short_at bytes 16 ≡ level → short_at bytes 6 ≡ 0 → page_fault t level start bytes ≡ Some 7
unfolding page_fault
no_items t level start bytes at none =
    let a : (short_at bytes 16 == level) ≡ true = eq-eqb _ _ at in
    let b : (short_at bytes 6 == 0) ≡ true = eq-eqb _ _ none in
    rw (a, b) refl

module _ (t : ColType) (level start n : ℕ) (bytes : List ℕ) (at_level : short_at bytes 16 ≡ level) (counted : short_at bytes 6 ≡ n) (some : 0 < n) where
  pub by_rest : page_fault t level start bytes ≡ rest_fault (items_in t level start n (drop 20 bytes))
  unfolding page_fault
  by_rest =
      let a : (short_at bytes 16 == level) ≡ true = eq-eqb _ _ at_level in
      let b : (short_at bytes 6 == 0) ≡ false = ne_eqb _ _ (λ z. absurd (omega (arith, z, counted, some))) in
      rw (a, b) (ap (λ (k : ℕ). rest_fault (items_in t level start k (drop 20 bytes))) counted)

  pub cut_short : items_in t level start n (drop 20 bytes) ≡ None → page_fault t level start bytes ≡ Some 7
  cut_short e = by_rest ∙ ap rest_fault e

  pub first_missing : None ≡ item_front t level start (drop 20 bytes) → page_fault t level start bytes ≡ Some 7
  first_missing has =
      let a : start + 0 ≡ start = omega arith in
      cut_short (missing t level start n (λ _. true) (drop 20 bytes) blank 0 0 blank (drop 20 bytes) some (begun t level start n (λ _. true) (drop 20 bytes) blank) (rw a has))

  pub not_zeros : (items : List Item) (rest : List ℕ) → items_in t level start n (drop 20 bytes) ≡ Some (items, rest) → list_all (λ b. b == 0) rest ≡ false → page_fault t level start bytes ≡ Some 8
  not_zeros items rest e z = by_rest ∙ (ap rest_fault e ∙ rw z refl)

  pub all_zeros : (items : List Item) (rest : List ℕ) → items_in t level start n (drop 20 bytes) ≡ Some (items, rest) → list_all (λ b. b == 0) rest ≡ true → page_fault t level start bytes ≡ None
  all_zeros items rest e z = by_rest ∙ (ap rest_fault e ∙ rw z refl)

abbrev got : Option (List Item × List ℕ) → List Item
got None = []
got (Some r) = r.0

pub same_items : (xs ys : List Item) (r s : List ℕ) → ◌≡◌ {A = Option (List Item × List ℕ)} (Some (xs, r)) (Some (ys, s)) → xs ≡ ys
same_items xs ys r s same = ap got same

-- the first item of a page
pub heads : (t : ColType) (level start n : ℕ) (body : List ℕ) (items : List Item) (rest : List ℕ) (e : Item) (behind : List ℕ) → 0 < n → items_in t level start n body ≡ Some (items, rest) → Some (e, behind) ≡ item_front t level start body →
    (0 < length items) × (first_of items ≡ e)
heads t level start zero body items rest e behind lt whole has = absurd (omega arith)
heads t level start (suc n) body items rest e behind lt whole has =
    by (items_in t level (suc start) n behind) (ap (λ (f : Option (Item × List ℕ)). option_and_then (λ (p : Item × List ℕ). prepend (p.0 ∷ []) (items_in t level (suc start) n p.1)) f) has ∙ whole) where
      by : (r : Option (List Item × List ℕ)) → prepend (e ∷ []) r ≡ Some (items, rest) → (0 < length items) × (first_of items ≡ e)
      by None f = absurd cc
      by (Some q) f = let k : e ∷ q.0 ≡ items = ap got f in subst (λ (xs : List Item). (0 < length xs) × (first_of xs ≡ e)) k (omega arith, refl)
