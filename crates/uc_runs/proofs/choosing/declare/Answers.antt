use Rattle.std.proofs.Common.{◌∙◌, ap, sym, subst, refl}
use Rattle.uc_meaning.specs.Types.{type_of_written}
use Rattle.uc_meaning.specs.Code.{Goes, push_local}
use Rattle.uc_runs.specs.Choices.{IsChosen}
use Rattle.uc_runs.specs.Runs.{running}
use Rattle.uc_runs.proofs.RunFormsChoices.{is_within, chooses, refuses}
use Rattle.uc_runs.proofs.choosing.declare.Goals as goal

pub after_choice-run-requires : goal.after_choice-run-requires
after_choice-run-requires c =
    let found = subst (IsChosen c.args.choices.now c.args.run.used (type_of_written c.args.layout.now c.args.code.now c.args.written.now)) c.in-Some.is c.in_ok-chosen.ensures in
    is_within _ c.args.choices.now c.args.run.used _ found.1

pub returns-in_ok-run-in-Some : goal.returns-in_ok-run-in-Some
returns-in_ok-run-in-Some c =
    let found = subst (IsChosen c.args.choices.now c.args.run.used (type_of_written c.args.layout.now c.args.code.now c.args.written.now)) c.in-Some.is c.in_ok-chosen.ensures in
    ap Goes (c.in_ok-run-in-Some.ensures c.args.choices.now)
    ∙ (λ i. Goes (push_local c.args.name (found.0 i) c.in-Some.chosen.value (running c.args.choices.now (c.after_choice-run.ensures i))))
    ∙ sym (chooses _ c.args.choices.now c.args.run.used (λ v here. Goes (push_local c.args.name (type_of_written c.args.layout.now c.args.code.now c.args.written.now) v here)) c.args.run c.in-Some.chosen.value refl found.1)

pub returns-in-None : goal.returns-in-None
returns-in-None c =
    refuses (type_of_written c.args.layout.now c.args.code.now c.args.written.now) c.args.choices.now c.args.run.used
    (λ v here. Goes (push_local c.args.name (type_of_written c.args.layout.now c.args.code.now c.args.written.now) v here)) c.args.run refl
    (subst (IsChosen c.args.choices.now c.args.run.used (type_of_written c.args.layout.now c.args.code.now c.args.written.now)) c.in-None.is c.in_ok-chosen.ensures)
