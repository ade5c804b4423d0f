use Rattle.std.proofs.Common.{◌≡◌, ◌++◌, drop}
use Rattle.run_trace.specs.TraceText.{trace_of}
use Rattle.run_trace.proofs.trace.trace_text.Given as goal

-- the lines so far and those to come are all lines
abbrev pub invariant-loop-event : goal.invariant-loop-event
invariant-loop-event l = l.out.items ++ trace_of (drop l.event-index l.events) ≡ trace_of l.events
