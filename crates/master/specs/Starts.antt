-- The fragments before the first decision.
use Rattle.std.specs.Prelude.{ℕ, ◌+◌, List, [], ◌∷◌, length, replicate, None}
use Rattle.adjust_protocol.specs.Calls.{fresh}
use Rattle.plan_tree.specs.Ends.{is_by_entries}
use Rattle.plan_tree.specs.Inputs.{inputs_of}
use Rattle.plan_tree.specs.Pieces.{piece_of}
use Rattle.plan_tree.specs.declared.fragment.Fragment.{Fragment}
use Rattle.history.specs.Boards.{rule_by}
use Rattle.master.specs.Kind.{Slotted, waiting}

-- a fragment of a run of so many: its board has room for one ask for each of them, and for its begin
abbrev pub start_of : ℕ → ℕ → Fragment → Slotted
start_of number asks f = record {
  by_entries = is_by_entries f.pipe.source;
  inputs = inputs_of (piece_of f);
  load = record { fragment = number; pages = f.pages; time = f.time };
  stage = waiting;
  board = record { running = fresh (rule_by (is_by_entries f.pipe.source)) f.positions 1 (asks + 1); outputs = replicate f.positions None };
}

-- the fragments of a list, numbered from a number on
abbrev pub starts_from : ℕ → ℕ → List Fragment → List Slotted
starts_from number asks [] = []
starts_from number asks (f ∷ fs) = start_of number asks f ∷ starts_from (number + 1) asks fs

abbrev pub starts : List Fragment → List Slotted
starts fragments = starts_from 0 (length fragments) fragments
