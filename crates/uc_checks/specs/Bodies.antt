-- Executions of a procedure by their entry, their exit and their choices.
use Rattle.std.specs.Prelude.{◌≡◌, List, [], ◌∷◌, Option, Some, None}
use Rattle.uc_meaning.specs.declared.scope.Interp.{Interp}
use Rattle.uc_syntax.specs.declared.declaration.Procedure.{Procedure}
use Rattle.uc_meaning.specs.declared.scope.Scope.{Scope}
use Rattle.uc_meaning.specs.declared.scope.State.{State}
use Rattle.uc_meaning.specs.declared.scope.Site.{Site}
use Rattle.uc_meaning.specs.declared.line.What.{What}
use Rattle.uc_meaning.specs.Lookup.{System}
use Rattle.uc_meaning.specs.Code.{Ending, Goes, Running}
use Rattle.uc_meaning.specs.Runs.{Position}
use Rattle.uc_meaning.specs.Lines.{BodyFails}
use Rattle.uc_executions.specs.Executions.{entry_at, body_ending, body_met}
use Rattle.uc_checks.specs.declared.bodies.Ends.{Ends}
use Rattle.uc_checks.specs.declared.bodies.Execution.{Execution}
use Rattle.uc_checks.specs.Tellings.{Telling, Of, Followed}
use Rattle.uc_checks.specs.Refutations.{EndsIn, ExitTells}

-- the two positions of a single copy
abbrev pub two_of : List (List Position) → Option (Position × Position)
two_of ((entry ∷ (exit ∷ [])) ∷ []) = Some (entry, exit)
two_of copies = None

abbrev pub positions_of : Ends → Position × Position
positions_of e = (e.first.now, e.last.now)

-- a body that ended with all choices used
abbrev pub ended : Scope → List Site → Running
ended s sites = record { scope = s; sites = sites; left = [] }

-- how the body of an execution ends
abbrev pub ending_at : System → Interp → Execution → Ending
ending_at system i e =
    body_ending system e.code.now e.procedure.now (entry_at system e.code.now i e.procedure.now e.entry.now e.arguments.now) e.choices.now

-- an ending is in the exit state with all choices used, and the subject fails there
abbrev pub FailsAtExit : System → Procedure → State → State → Ending → What → Type 0
FailsAtExit system p entry exit (Goes end) what = (end.left ≡ []) × (end.scope.before ≡ exit) × BodyFails system p entry end what
FailsAtExit system p entry exit other what = ⊥

abbrev pub ExecutionTells : System → Interp → Execution → What → Telling
ExecutionTells system i e what =
    Followed (Of (body_met system e.code.now e.procedure.now (entry_at system e.code.now i e.procedure.now e.entry.now e.arguments.now) e.choices.now))
    (EndsIn e.exit.now (ending_at system i e)) (ExitTells system e.procedure.now e.entry.now (ending_at system i e) what)
