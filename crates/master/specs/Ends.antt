-- What is left of a run at its end.
use Rattle.std.specs.Prelude.{ℕ, ◌<◌, ◌≡◌, ◌==◌, Bool, true, false, not, List, [], ◌∷◌, length, map, Option, Some, if◌then◌else◌}
use Rattle.hash_join.specs.Table.{Table}
use Rattle.plan_tree.specs.declared.fragment.Fragment.{Fragment}
use Rattle.master.specs.Kind.{Slotted, is_ended, value_in}
use Rattle.master.specs.Ledger.{Ledger, at}
use Rattle.master.specs.Lasts.{last_flags}
use Rattle.master.specs.Meaning.{Meaning}

abbrev pub AllEnded : List Slotted → Type 0
AllEnded slots = (f : ℕ) → f < length slots → is_ended (at slots f) ≡ true

-- the values of those fragments that are marked, in order
abbrev pub marked_values : List Bool → List Slotted → List (Option Table)
marked_values [] slots = []
marked_values (b ∷ bs) [] = []
marked_values (b ∷ bs) (s ∷ slots) = if b then value_in s.stage ∷ marked_values bs slots else marked_values bs slots

-- the answers of a run: where every fragment is finished, the values of the statements' last fragments, in order of the
-- statements; else none
pub record AreAnswers (m : Meaning) (c : Ledger) (answers : List Table) : Type 0 where
  pub all : AllEnded c.slots → map Some answers ≡ marked_values (last_flags m.fragments) c.slots
  pub none : (AllEnded c.slots → ⊥) → answers ≡ []
