use Rattle.std.proofs.Common.{List, refl, ap, subst, ◌∙◌}
use Rattle.uc_meaning.specs.declared.scope.Site.{Site}
use Rattle.uc_meaning.specs.Code.{Ending, run}
use Rattle.uc_meaning.specs.Ends.{IsEnd}
use Rattle.uc_runs.proofs.entry.run_code.Goals as goal

pub returns-clause-value : goal.returns-clause-value
returns-clause-value c =
    let from : List Site → Ending = λ sites. run c.args.layout.now c.args.code.now (record { scope = c.args.scope; sites = sites; left = c.args.choices.now }) in
    subst (IsEnd c.args.choices.now c.code_end.result) (c.in_ok-end.ensures.value ∙ ap from c.new.ensures) (c.code_end.ensures c.args.choices.now refl)
