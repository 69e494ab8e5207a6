use Rattle.std.proofs.Common.{◌∙◌, ap, sym, refl}
use Rattle.uc_meaning.specs.Code.{Goes, in_scope, set_name, name_now}
use Rattle.uc_runs.specs.Runs.{running}
use Rattle.uc_runs.proofs.RunFormsChoices.{is_within, chooses, refuses}
use Rattle.uc_runs.proofs.choosing.havoc.Goals as goal

pub after_choice-run-requires : goal.after_choice-run-requires
after_choice-run-requires c = is_within _ c.args.choices.now c.args.run.used _ (sym c.in-Some.is ∙ c.in_ok-chosen.ensures)

pub returns-in-Some : goal.returns-in-Some
returns-in-Some c =
    ap Goes (c.given.ensures c.args.choices.now)
    ∙ ap (λ r. Goes (in_scope (running c.args.choices.now r) (set_name c.args.layout.now r.scope c.args.name c.in-Some.value))) c.after_choice-run.ensures
    ∙ sym (chooses _ c.args.choices.now c.args.run.used (λ v here. Goes (in_scope here (set_name c.args.layout.now here.scope c.args.name v))) c.args.run c.in-Some.value refl (sym c.in-Some.is ∙ c.in_ok-chosen.ensures))

pub returns-in-None : goal.returns-in-None
returns-in-None c =
    refuses (name_now c.args.layout.now c.args.run.scope c.args.name).type c.args.choices.now c.args.run.used (λ v here. Goes (in_scope here (set_name c.args.layout.now here.scope c.args.name v))) c.args.run refl
    (sym c.in-None.is ∙ c.in_ok-chosen.ensures)
