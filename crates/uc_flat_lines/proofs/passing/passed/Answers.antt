use Rattle.std.proofs.Common.{◌∙◌, ap, List, ◌++◌, ◌∷◌, []}
use Rattle.uc_flat_lines.specs.declared.line.FlatLine.{FlatLine}
use Rattle.uc_flat_lines.specs.declared.line.FlatVerdict.TheVariants.{Passed}
use Rattle.uc_flat_lines.proofs.Judged.{one_of, not_judged, passed_judged}
use Rattle.uc_flat_lines.proofs.passing.passed.Goals as goal

pub returns-then-formulas-k-ne1 : goal.returns-then-formulas-k-ne1
returns-then-formulas-k-ne1 c = λ start unrefuted budget at.
    not_judged c.args.f.now start budget at c.args.steps c.args.k _ _ (one_of c.args.f.now c.args.k c.index-formulas-k.result _ c.as_slice-formulas.ensures c.requires) c.if-formulas-k-ne1.true c.new.ensures

pub returns : goal.returns
returns c = λ start unrefuted budget at.
    passed_judged c.args.f.now start budget at c.args.steps c.args.k _ _ (one_of c.args.f.now c.args.k c.index-formulas-k.result _ c.as_slice-formulas.ensures c.requires) c.if-formulas-k-ne1.false unrefuted
    (c.in_ok-push.ensures.ok ∙ ap (λ (ls : List FlatLine). ls ++ record { steps = c.args.steps; formula = c.args.k; verdict = Passed } ∷ []) c.new-lines.ensures)
