-- What a run is told at its start.
use Rattle.std.specs.Prelude.{List, [], Option, None, map}
use Rattle.rows.specs.declared.plain.Machine.{Machine}
use Rattle.rows.specs.declared.plain.Step.{Step}
use Rattle.plan_tree.specs.declared.fragment.Fragment.{Fragment}
use Rattle.plan_tree.specs.Ends.{is_by_entries}
use Rattle.plan_tree.specs.Fragments.{Stored}
use Rattle.plan_tree.specs.Inputs.{inputs_of}
use Rattle.plan_tree.specs.Pieces.{piece_of}
use Rattle.history.specs.Outline.{Outline, Run}

-- the fragments of a run in order, its machine, the steps by which the machine changes, and, where they are told, the files
-- that it reads
pub record Meaning : Type 0 where
  pub fragments : List Fragment
  pub machine : Machine
  pub steps : List Step
  pub image : Option Stored

abbrev pub outline_of : Fragment → Outline
outline_of f = record {
  positions = f.positions;
  by_entries = is_by_entries f.pipe.source;
  inputs = inputs_of (piece_of f);
  pages = f.pages;
  time = f.time;
}

-- the run of which a history speaks
abbrev pub run_of : Meaning → Run
run_of m = record { fragments = map outline_of m.fragments; machine = m.machine; steps = m.steps }

-- a run of no fragments, for a name that says nothing
abbrev pub no_run : Meaning
no_run = record { fragments = []; machine = record { backends = 1; drives = 1; batch = 1 }; steps = []; image = None }
