-- The text that shows a run's decisions, divisions and finished fragments.
use Rattle.std.specs.Prelude.{ℕ, List, [], ◌++◌, codes, decimal, Option, Some, None}
use Rattle.std.specs.List.{flat_map}
use Rattle.io_cpu_scheduler.specs.declared.load.Part.{Part}
use Rattle.io_cpu_scheduler.specs.declared.load.Decision.{Decision}
use Rattle.history.specs.declared.event.Event.{Event}
use Rattle.history.specs.declared.event.Event.TheVariants as event

-- a fragment and how many roles it is to have
abbrev pub part_text : Part → List ℕ
part_text part = decimal part.fragment ++ codes ":" ++ decimal part.degree

abbrev pub parts_text : Option Part → Option Part → List ℕ
parts_text None None = codes "nothing"
parts_text (Some part) None = part_text part
parts_text None (Some part) = part_text part
parts_text (Some first) (Some second) = part_text first ++ codes " " ++ part_text second

-- what is to run: `nothing`, or its parts in their order, which is that of the fragments
abbrev pub decision_text : Decision → List ℕ
decision_text decision = parts_text decision.first decision.second

abbrev pub begin_line : Decision → List ℕ
begin_line decision = codes "# begin " ++ decision_text decision ++ codes "\n"

abbrev pub divide_line : ℕ → ℕ → ℕ → List ℕ
divide_line fragment degree cut =
    codes "# divide " ++ decimal fragment ++ codes " to " ++ decimal degree ++ codes " cut "
    ++ decimal cut ++ codes "\n"

abbrev pub finish_line : ℕ → Decision → List ℕ
finish_line fragment decision =
    codes "# finish " ++ decimal fragment ++ codes " then " ++ decision_text decision ++ codes "\n"

-- the line of an event; what the backends do with their positions has none
abbrev pub event_line : Event → List ℕ
event_line (event.Begin decision) = begin_line decision
event_line (event.Seat backend fragment role) = []
event_line (event.Claim fragment role places) = []
event_line (event.Settle fragment role count) = []
event_line (event.Divide fragment degree cut) = divide_line fragment degree cut
event_line (event.Leave fragment role) = []
event_line (event.Collect backend fragment) = []
event_line (event.Uncollect fragment) = []
event_line (event.Finish fragment decision) = finish_line fragment decision

-- the lines of the events of a run, the earliest first
abbrev pub trace_of : List Event → List ℕ
trace_of events = flat_map event_line events
