use Rattle.std.proofs.Common.{◌∙◌, List, ap, sym, subst, rules}
use Rattle.std.specs.Prelude.{Err}
use Rattle.uc_meaning.specs.declared.scope.Local.{Local}
use Rattle.uc_meaning.specs.Code.{requires_of}
use Rattle.uc_meaning.specs.OverflowsRuns.{all_met_in}
use Rattle.uc_operators.specs.Overflows.{first_wide, TellsWide}
use Rattle.uc_evaluator.proofs.Told.{told_first, told_second, told_as, none_both}
use Rattle.uc_runs.specs.declared.run.Ending.{Ending}
use Rattle.uc_runs.specs.declared.call.Entry.{Entry}
use Rattle.uc_runs.specs.Runs.{entry_of, with_locals}
use Rattle.uc_runs.proofs.call.entered.Goals as goal

pub returns-in_err-locals-clause-wide : goal.returns-in_err-locals-clause-wide
returns-in_err-locals-clause-wide c =
    let told = told_first (List Local) Entry (all_met_in c.args.layout.now c.args.run.scope c.args.arguments.now) (all_met_in c.args.layout.now (entry_of c.args.layout.now c.args.code.now c.args.procedure.now c.args.arguments.now c.args.run.scope) (requires_of c.args.procedure.now)) c.in_err-locals.field-0.0 c.in_err-locals.ensures.wide in
    search (rules, told)

pub returns-in_err-caller-clause-wide : goal.returns-in_err-caller-clause-wide
returns-in_err-caller-clause-wide c =
    let there = subst (TellsWide {A = Ending} _) c.in_err-caller.ensures c.begun-begun.ensures.wide in
    let here = told_as Ending Entry _ (all_met_in c.args.layout.now (entry_of c.args.layout.now c.args.code.now c.args.procedure.now c.args.arguments.now c.args.run.scope) (requires_of c.args.procedure.now)) _ (ap (λ s. all_met_in c.args.layout.now s (requires_of c.args.procedure.now)) (ap (λ r. r.scope) c.exchanged-inside.ensures.run ∙ ap (with_locals c.args.run.scope) c.in_ok-locals.ensures.value)) there in
    let told = told_second {A = Entry} (all_met_in c.args.layout.now c.args.run.scope c.args.arguments.now) (all_met_in c.args.layout.now (entry_of c.args.layout.now c.args.code.now c.args.procedure.now c.args.arguments.now c.args.run.scope) (requires_of c.args.procedure.now)) (Err _) c.in_ok-locals.ensures.wide here in
    search (rules, told)

pub returns-clause-wide : goal.returns-clause-wide
returns-clause-wide c =
    let there = subst (TellsWide {A = Ending} _) c.in_ok-caller.ensures.1 c.begun-begun.ensures.wide in
    none_both (all_met_in c.args.layout.now c.args.run.scope c.args.arguments.now) (all_met_in c.args.layout.now (entry_of c.args.layout.now c.args.code.now c.args.procedure.now c.args.arguments.now c.args.run.scope) (requires_of c.args.procedure.now)) c.in_ok-locals.ensures.wide (sym (ap first_wide (ap (λ s. all_met_in c.args.layout.now s (requires_of c.args.procedure.now)) (ap (λ r. r.scope) c.exchanged-inside.ensures.run ∙ ap (with_locals c.args.run.scope) c.in_ok-locals.ensures.value))) ∙ there)
