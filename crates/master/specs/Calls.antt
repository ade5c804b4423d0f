-- What the calls of a control add to its history, and what they answer.
use Rattle.std.specs.Prelude.{ℕ, ◌<◌, ◌≡◌, true, false, List, [], ◌∷◌, ◌++◌, length, reverse, slice_set, Option, Some, None, map, unwrap_or}
use Rattle.rows.specs.declared.value.Value.{Value}
use Rattle.adjust_protocol.specs.Moves.{Running, Move, run}
use Rattle.adjust_protocol.specs.Moves as move
use Rattle.adjust_protocol.specs.Answers.{claim_moves, settle_moves}
use Rattle.adjust_protocol.specs.Outputs.{put_outputs}
use Rattle.adjust_protocol.specs.declared.answers.Settled.{Settled}
use Rattle.adjust_protocol.specs.declared.answers.Settled.TheVariants.{More, Cut, Finished}
use Rattle.adjust_protocol.specs.declared.answers.Claimed.{Claimed}
use Rattle.adjust_protocol.specs.declared.answers.Claimed.TheVariants as claimed
use Rattle.page_partition.specs.Scan.{out_of}
use Rattle.history.specs.declared.event.Event.{Event}
use Rattle.history.specs.declared.event.Event.TheVariants as event
use Rattle.history.specs.Boards.{rule_by}
use Rattle.master.specs.Kind.{Slotted, scan_of}
use Rattle.master.specs.Boards.{with_board}
use Rattle.master.specs.Ledger.{at}

-- ---- the fragment after a call
-- a fragment whose board made these moves
abbrev pub moved : Slotted → List Move → Slotted
moved s moves = with_board s (run (rule_by s.by_entries) (scan_of s) moves) s.board.outputs

-- the fragments after one of them made these moves
abbrev pub moved_at : List Slotted → ℕ → List Move → List Slotted
moved_at slots f moves = slice_set slots f (moved (at slots f) moves)

-- a fragment after a settle: the outputs stand at the first places of the batch
abbrev pub settled : Slotted → ℕ → List (List (List Value)) → Settled → Slotted
settled s role outputs answer =
    with_board s (run (rule_by s.by_entries) (scan_of s) (settle_moves (scan_of s).asked role (length outputs) answer)) (put_outputs (out_of (scan_of s).scan.marks role) outputs s.board.outputs)

abbrev pub settled_at : List Slotted → ℕ → ℕ → List (List (List Value)) → Settled → List Slotted
settled_at slots f role outputs answer = slice_set slots f (settled (at slots f) role outputs answer)

-- ---- the events of a call
abbrev pub claim_events : ℕ → ℕ → Claimed → List Event
claim_events f role (claimed.Batch ps) = event.Claim f role ps ∷ []
claim_events f role claimed.Hold = []
claim_events f role claimed.Leave = []

-- a settle, and the divide that it causes
abbrev pub settle_events : ℕ → ℕ → ℕ → Option ℕ → Settled → List Event
settle_events f role count asked More = event.Settle f role count ∷ []
settle_events f role count asked (Cut k) = event.Settle f role count ∷ event.Divide f (unwrap_or asked 0) k ∷ []
settle_events f role count asked Finished = event.Settle f role count ∷ []
