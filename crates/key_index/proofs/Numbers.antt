-- Entries by their number.
use Rattle.std.proofs.Common.{◌≡◌, ℕ, suc, ◌+◌, ◌-◌, ◌<◌, ◌≤◌, Bool, true, false, List, [], ◌∷◌, length, sym, ap, ◌∙◌, arith, inl, inr}
use Rattle.std.specs.Prelude.{nat_le}
use Rattle.std.proofs.lemmas.Bool.{cases_lt}
use Rattle.lists.specs.Arranged.{one_if}
use Rattle.key_index.specs.Aims.{count, NonePass, IsFront}
use Rattle.key_index.specs.Entries.{Item}
use Rattle.key_index.proofs.Levels.{no_count}

abbrev pub Numbered : ℕ → List Item → Type 0
Numbered s [] = Unit {0}
Numbered s (x ∷ xs) = (x.left ≡ s) × Numbered (suc s) xs

abbrev upto : ℕ → Item → Bool
upto m e = nat_le e.left m

above : (a m : ℕ) → m < a → nat_le a m ≡ false
above a m lt = grind (arith, lt)

below : (a m : ℕ) → a ≤ m → nat_le a m ≡ true
below a m le = grind (arith, le)

none_upto : (s m : ℕ) (xs : List Item) → Numbered s xs → m < s → NonePass (upto m) xs
none_upto s m [] h lt = tt
none_upto s m (x ∷ xs) h lt = (above x.left m (omega (arith, h.0, lt)), none_upto (suc s) m xs h.1 (omega (arith, lt)))

pub front_upto : (s m : ℕ) (xs : List Item) → Numbered s xs → IsFront (upto m) xs
front_upto s m [] h = tt
front_upto s m (x ∷ xs) h = (
  (λ no. elim (cases_lt m s) [
    | inl lt ↦ none_upto (suc s) m xs h.1 (omega (arith, lt))
    | inr le ↦ (let yes = below x.left m (omega (arith, h.0, le)) in let bad : true ≡ false = sym yes ∙ no in absurd cc)
  ]),
  front_upto (suc s) m xs h.1,
)

pub count_upto : (s m : ℕ) (xs : List Item) → Numbered s xs → s ≤ m → m < s + length xs → count (upto m) xs ≡ suc (m - s)
count_upto s m [] h le lt = absurd (omega (arith, le, lt))
count_upto s m (x ∷ xs) h le lt =
    let one : one_if (nat_le x.left m) ≡ 1 = ap one_if (below x.left m (omega (arith, h.0, le))) in
    elim (cases_lt s m) [
      | inl more ↦ omega (arith, one, count_upto (suc s) m xs h.1 (omega (arith, more)) (omega (arith, lt)), more)
      | inr same ↦ omega (arith, one, no_count (upto m) xs (none_upto (suc s) m xs h.1 (omega (arith, same))), same, le)
    ]
