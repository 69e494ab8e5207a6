-- What the answers of a run mean.
use Rattle.std.specs.Prelude.{◌≡◌, ◌⊎◌, ℕ, ◌≤◌, ◌^◌, true, false, List, ◌∷◌, ◌++◌, length, slice_get, Option, Some}
use Rattle.std.specs.List.{list_any, All}
use Rattle.uc_lexer.specs.declared.place.Place.{Place}
use Rattle.uc_syntax.specs.declared.place.Identifier.{Identifier}
use Rattle.uc_syntax.specs.declared.declaration.Module.{Module}
use Rattle.uc_syntax.specs.declared.declaration.Procedure.{Procedure}
use Rattle.uc_syntax.specs.declared.declaration.Command.{Command}
use Rattle.uc_syntax.specs.declared.declaration.Command.TheVariants.{Run}
use Rattle.uc_syntax.specs.declared.declaration.WrittenRun.TheVariants.{Unroll, Induction, Verify}
use Rattle.uc_meaning.specs.declared.line.Line.{Line}
use Rattle.uc_meaning.specs.declared.line.Trace.{Trace}
use Rattle.uc_meaning.specs.Lookup.{System, main_module, procedure_of}
use Rattle.uc_meaning.specs.Runs.{IsCorrect}
use Rattle.uc_meaning.specs.Lines.{commands_of, is_check, all_lines, Refutes}
use Rattle.uc_laws.specs.Laws.{InstancesApart, HoldsAlways, HoldsUpTo, depth_of}
use Rattle.uc_report.specs.declared.report.Report.{Report}
use Rattle.uc_report.specs.Reports.{is_passed}
use Rattle.uc_report.specs.Verdicts.{is_out_of_budget}
use Rattle.uc_flat.specs.declared.flat.Flat.{Flat}
use Rattle.uc_flat_design.specs.Design.{IsFlatOf}
use Rattle.uc_judge.specs.Reports.{IsReport, line_bits}
use Rattle.uc_runnable.specs.Runnable.{IsRunnable}
use Rattle.uc_front.specs.declared.refusal.Refusal.{Refusal}
use Rattle.uc_front.specs.Denotes.{Denotes, IsTyped, IsAccepted}
use Rattle.uc_front.specs.Refused.{IsRefused}
use Rattle.uclid.specs.declared.answer.Session.{Session}
use Rattle.uclid.specs.declared.answer.Answer.TheVariants.{Refused, Reported}
use Rattle.uclid.specs.declared.top.Outcome.{Outcome}
use Rattle.uclid.specs.Answers.{is_form, line_budget}
use Rattle.uclid.specs.Runs.{TextsSeen, SinkSeen, EndsBy, EndsEarly, Ends}

-- what is held under the files' names denotes at most one design
abbrev pub OneDesign : Type 0
OneDesign = (held : List ℕ → Option (List ℕ)) (files : List (List ℕ)) (one other : System) → Denotes held files one → Denotes held files other → one ≡ other

-- what is held under the files' names is not both accepted and refused
abbrev pub NeverBoth : Type 0
NeverBoth = (held : List ℕ → Option (List ℕ)) (files : List (List ℕ)) (system : System) (refusal : Refusal) → IsAccepted held files system → IsRefused held files refusal → ⊥

-- what is held under the files' names is refused in one way: its refusal has one number and one place
abbrev pub OneRefusal : Type 0
OneRefusal = (held : List ℕ → Option (List ℕ)) (files : List (List ℕ)) (one other : Refusal) → IsRefused held files one → IsRefused held files other → one ≡ other

-- Where the texts tell their bytes, and those of the files are accepted as a design, a run on them ends by the report of just that design: its report is right, and the status and the text are those of this report. Or it ends early, by a fault, which was counted, or for want of memory.
abbrev pub AcceptedRuns : Type 0
AcceptedRuns =
    (files : List (List ℕ)) (texts : TextsSeen) (system : System) (sink : SinkSeen) (o : Outcome) →
    is_form files ≡ true → texts.tells ≡ true → IsAccepted texts.held files system → Ends texts files sink o →
    ((s : Session) × (s.design ≡ system) × IsReport system line_budget s.report × EndsBy texts files sink o (Reported s)) ⊎ EndsEarly texts sink o

-- Where they are refused, a run on them ends by just that refusal: status 3 and its line, without a session; or early.
abbrev pub RefusedRuns : Type 0
RefusedRuns =
    (files : List (List ℕ)) (texts : TextsSeen) (refusal : Refusal) (sink : SinkSeen) (o : Outcome) →
    is_form files ≡ true → texts.tells ≡ true → IsRefused texts.held files refusal → Ends texts files sink o →
    EndsBy texts files sink o (Refused refusal) ⊎ EndsEarly texts sink o

-- no module in use of a design that keeps the static rules declares two instances of one name
abbrev pub TypedApart : Type 0
TypedApart = (system : System) → IsTyped system → InstancesApart system

-- nor does one of a design that runs
abbrev pub RunningApart : Type 0
RunningApart = (system : System) → IsRunnable system → InstancesApart system

-- A line whose budget is at least 2 to its free bits is not undecided by its budget.
abbrev pub EnoughBudget : Type 0
EnoughBudget =
    (system : System) (code : Module) (f : Flat) (budget : ℕ) (report : Report) → IsFlatOf system code f → IsReport system budget report →
    All (λ l. 2 ^ line_bits f l.line.at ≤ budget → is_out_of_budget l.verdict ≡ false) report.lines

-- all lines of the command of a number passed
abbrev pub AllPassed : ℕ → Report → Type 0
AllPassed command report = All (λ l. l.command ≡ command → is_passed l.verdict ≡ true) report.lines

-- Where a later `check` follows an induction, and all of its lines passed: every invariant and hyperinvariant holds in all runs, and no run lists any site.
abbrev pub PassedInduction : Type 0
PassedInduction =
    (system : System) (budget : ℕ) (report : Report) (place : Place) (name : Option Identifier) (depth : Option ℕ) (before after : List Command) → InstancesApart system → 1 ≤ depth_of depth →
    commands_of system ≡ before ++ (Run place name (Induction depth) ∷ after) → list_any is_check after ≡ true →
    IsReport system budget report → AllPassed (length before) report → HoldsAlways system

-- The same of an unrolling, for the runs of at most so many steps.
abbrev pub PassedUnroll : Type 0
PassedUnroll =
    (system : System) (budget : ℕ) (report : Report) (place : Place) (name : Option Identifier) (depth : ℕ) (before after : List Command) → InstancesApart system →
    commands_of system ≡ before ++ (Run place name (Unroll depth) ∷ after) → list_any is_check after ≡ true →
    IsReport system budget report → AllPassed (length before) report → HoldsUpTo system depth

-- Where a later `check` follows the verification of a procedure, and all of its lines passed, the procedure is correct.
abbrev pub PassedVerify : Type 0
PassedVerify =
    (system : System) (budget : ℕ) (report : Report) (place : Place) (name : Option Identifier) (procedure : Identifier) (before after : List Command) (m : Module) (p : Procedure) →
    main_module system ≡ Some m → procedure_of m procedure.name ≡ Some p →
    commands_of system ≡ before ++ (Run place name (Verify procedure) ∷ after) → list_any is_check after ≡ true →
    IsReport system budget report → AllPassed (length before) report → IsCorrect system m p

-- every unrolling of a design that a later `check` follows is right: everything holds in the runs of at most so many steps
abbrev pub UnrollingsHold : System → Type 0
UnrollingsHold system =
    (place : Place) (name : Option Identifier) (depth : ℕ) (before after : List Command) →
    commands_of system ≡ before ++ (Run place name (Unroll depth) ∷ after) → list_any is_check after ≡ true → HoldsUpTo system depth

-- every induction of a design that a later `check` follows is right: everything holds in all runs, however long
abbrev pub InductionsHold : System → Type 0
InductionsHold system =
    (place : Place) (name : Option Identifier) (depth : Option ℕ) (before after : List Command) →
    commands_of system ≡ before ++ (Run place name (Induction depth) ∷ after) → list_any is_check after ≡ true → HoldsAlways system

-- Where a run on texts that tell their bytes ends with status 0, these are accepted as a design, and all its unrollings and inductions hold.
abbrev pub CleanRun : Type 0
CleanRun =
    (files : List (List ℕ)) (texts : TextsSeen) (sink : SinkSeen) (o : Outcome) → texts.tells ≡ true → Ends texts files sink o → o.status ≡ 0 →
    (system : System) × IsAccepted texts.held files system × UnrollingsHold system × InductionsHold system

-- Where such a run ends with status 1, the texts are accepted as a design, and a trace refutes one of its lines.
abbrev pub FailedRun : Type 0
FailedRun =
    (files : List (List ℕ)) (texts : TextsSeen) (sink : SinkSeen) (o : Outcome) → texts.tells ≡ true → Ends texts files sink o → o.status ≡ 1 →
    (system : System) × IsAccepted texts.held files system × ((n : ℕ) × (line : Line) × (trace : Trace) × (slice_get (all_lines system) n ≡ Some line) × Refutes system line trace)
