-- Runs for tests: their fragments read no column, and end with a build without key columns.
use Rattle.std.specs.Prelude.{ℕ, ◌≡◌, Bool, true, false, List, [], ◌∷◌, None}
use Rattle.std.specs.List.{AllByRecursion}
use Rattle.rows.specs.declared.plain.LayoutPart.{LayoutPart}
use Rattle.rows.specs.declared.field.ColType.TheVariants.{Int4}
use Rattle.plan_tree.specs.declared.fragment.Fragment.{Fragment}
use Rattle.plan_tree.specs.declared.fragment.Probe.{Probe}
use Rattle.plan_tree.specs.declared.fragment.Source.{Source}
use Rattle.plan_tree.specs.declared.fragment.Source.TheVariants as source
use Rattle.plan_tree.specs.declared.fragment.End.TheVariants as end
use Rattle.master.specs.Meaning.{Meaning}

abbrev pub sample_layout : List LayoutPart
sample_layout = record { var = 0; columns = [] } ∷ []

abbrev pub sample : ℕ → Source → List Probe → ℕ → ℕ → ℕ → Fragment
sample statement from probes positions pages time = record {
  statement = statement;
  pipe = record { source = from; columns = []; tests = []; probes = probes };
  end = end.Build [];
  layout = sample_layout;
  positions = positions;
  pages = pages;
  time = time;
}

-- the pages of a heap file
abbrev pub sample_pages : ℕ → ℕ → ℕ → Fragment
sample_pages statement positions time = sample statement (source.Heap 0 0) [] positions positions time

-- the entries of an index
abbrev pub sample_entries : ℕ → ℕ → ℕ → ℕ → Fragment
sample_entries statement positions pages time =
    sample statement (source.Index 0 (record { file = 0; key_type = Int4; entries = positions; pages = 1; height = 1; heap_pages = 1 }) 0 (record { from = 0; upto = positions })) [] positions pages time

-- the entries of an index, or the pages of a heap file
abbrev pub sample_scan : ℕ → Bool → ℕ → ℕ → ℕ → Fragment
sample_scan statement true positions pages time = sample_entries statement positions pages time
sample_scan statement false positions pages time = sample_pages statement positions time

-- one position, which reads what another fragment gives
abbrev pub sample_reader : ℕ → ℕ → ℕ → Fragment
sample_reader statement input time = sample statement source.One (record { input = input; keys = []; tests = []; layout = sample_layout } ∷ []) 1 0 time

-- its files aren't told, and all its fragments end so
pub record IsSample (m : Meaning) : Type 0 where
  pub untold : m.image ≡ None
  pub ends : AllByRecursion (λ (f : Fragment). f.end ≡ end.Build []) m.fragments
