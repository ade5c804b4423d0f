-- The boards of a run, beside its history.
use Rattle.std.specs.Prelude.{ℕ, ◌<◌, Bool, true, false, List, [], ◌∷◌, ◌≡◌, length, Option, Some, None}
use Rattle.page_partition.specs.Stride.{page_cut, stride_marks}
use Rattle.range_partition.specs.Share.{undeposited, share_marks}
use Rattle.adjust_protocol.specs.Moves.{Rule, Running, Move, Makes}
use Rattle.adjust_protocol.specs.Moves as move
use Rattle.adjust_protocol.specs.Calls.{fresh}
use Rattle.adjust_protocol.specs.HistoryLaws.{Stands}
use Rattle.history.specs.declared.event.Event.{Event}
use Rattle.history.specs.Outline.{Run, outline}
use Rattle.history.specs.Projected.{begun, moves_of}
use Rattle.history.specs.State.{setting_from}
use Rattle.history.specs.Allowed.{IsLegal}

abbrev pub rule_by : Bool → Rule
rule_by false = record { redivided = stride_marks; cut = page_cut }
rule_by true = record { redivided = share_marks; cut = undeposited }

abbrev pub rule_of : Run → ℕ → Rule
rule_of run f = rule_by (outline run f).by_entries

-- the board of a fragment that hasn't begun is a fresh one. Once it began with a degree, the board is as its moves say
abbrev pub BoardIs : Run → ℕ → Option ℕ → List Move → Running → Type 0
BoardIs run f None xs s = (from : ℕ) × (room : ℕ) × (s ≡ fresh (rule_of run f) (outline run f).positions from room)
BoardIs run f (Some d) xs s = Stands (setting_from run f (Some d)) xs s

-- a legal history, and the boards that it leads to, by the numbers of their fragments
pub record Follows (run : Run) (h : List Event) (boards : ℕ → Running) : Type 0 where
  pub legal : IsLegal run h
  pub each : (f : ℕ) → f < length run.fragments → BoardIs run f (begun h f) (moves_of h f) (boards f)

-- one board changed
pub record Changed (boards later : ℕ → Running) (g : ℕ) (s : Running) : Type 0 where
  pub here : later g ≡ s
  pub others : (f : ℕ) → (f ≡ g → ⊥) → later f ≡ boards f

-- what a decision does to a board: one that hasn't begun begins, and one that runs is asked
abbrev pub GivenTo : Run → ℕ → Option ℕ → Bool → Option ℕ → Running → Running → Type 0
GivenTo run f None fin None s later = later ≡ s
GivenTo run f None fin (Some k) s later = (room : ℕ) × (later ≡ fresh (rule_of run f) (outline run f).positions k room)
GivenTo run f (Some d) true n s later = later ≡ s
GivenTo run f (Some d) false None s later = later ≡ s
GivenTo run f (Some d) false (Some k) s later = Makes (rule_of run f) run.machine.batch s (move.Ask k ∷ []) later
