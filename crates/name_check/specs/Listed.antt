-- What is found of statements, in lists.
use Rattle.std.specs.Prelude.{◌≡◌, ℕ, ◌+◌, List, [], ◌∷◌, ◌++◌, map, Option, None, IfSome, ⊤}
use Rattle.aggregate_op.specs.declared.fold.FoldPlan.{FoldPlan}
use Rattle.kept_relations.specs.declared.kept.Kept.{Kept}
use Rattle.kept_relations.specs.KeptNames.{place_named}
use Rattle.name_check.specs.declared.heading.HeadColumn.{HeadColumn}
use Rattle.name_check.specs.Headers.{kept_as, kept_column}
use Rattle.name_check.specs.Steps.{Asked}

abbrev pub plan_by : Asked → Option FoldPlan
plan_by a = a.plan

abbrev pub header_by : Asked → List (List ℕ)
header_by a = map (λ c. c.name) a.head

abbrev pub kept_named : List HeadColumn → ℕ → List ℕ → Kept
kept_named head statement name =
    record {
      name = name;
      statement = statement;
      columns = map kept_column head;
      bounds =
          map (λ c. c.layout.bound) head;
    }

abbrev pub kept_by : ℕ → List Asked → List Kept
kept_by statement [] = []
kept_by statement (a ∷ others) = kept_as a.head statement a.into ++ kept_by (statement + 1) others

-- the name after `into` is none of those that are kept
abbrev pub IsNew : List Kept → Option (List ℕ) → Type 0
IsNew kept into = IfSome into (λ name. place_named name kept ≡ None)

-- nor is any later one
abbrev pub AreNew : List Kept → ℕ → List Asked → Type 0
AreNew kept statement [] = ⊤
AreNew kept statement (a ∷ others) =
    IsNew kept a.into × AreNew (kept ++ kept_as a.head statement a.into) (statement + 1) others
