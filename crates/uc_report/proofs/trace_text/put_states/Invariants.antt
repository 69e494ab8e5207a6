use Rattle.std.proofs.Common.{◌≡◌, ◌++◌, drop}
use Rattle.uc_report.specs.Described.{described}
use Rattle.uc_report.specs.TraceText.{states_text}
use Rattle.uc_report.proofs.trace_text.put_states.Given as goal

abbrev pub invariant-loop-place : goal.invariant-loop-place
invariant-loop-place l =
    l.out.items ++ states_text (described l.d) l.cells l.place (drop l.place l.states) ≡ l.initial.out.items ++ states_text (described l.d) l.cells 0 l.states
