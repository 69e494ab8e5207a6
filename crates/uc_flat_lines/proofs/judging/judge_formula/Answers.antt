use Rattle.std.proofs.Common.{◌∙◌, ap, List, ◌++◌, ◌∷◌, []}
use Rattle.uc_flat_lines.specs.declared.line.FlatLine.{FlatLine}
use Rattle.uc_flat_lines.proofs.Judged.{one_of, single_is, one_judged, not_judged}
use Rattle.uc_flat_lines.proofs.judging.judge_formula.Goals as goal

pub returns-then-formulas-k-ne1-clause-judged : goal.returns-then-formulas-k-ne1-clause-judged
returns-then-formulas-k-ne1-clause-judged g c =
    not_judged c.args.f.now c.args.run.now.start c.args.budget _ c.args.steps c.args.k _ _ (one_of c.args.f.now c.args.k c.index-formulas-k.result _ c.as_slice-formulas.ensures c.requires.there) c.if-formulas-k-ne1.true c.new.ensures

pub judge-verdict-requires-clause-single : goal.judge-verdict-requires-clause-single
judge-verdict-requires-clause-single g c = single_is c.args.f.now c.args.k _ (one_of c.args.f.now c.args.k c.index-formulas-k.result _ c.as_slice-formulas.ensures c.requires.there) c.if-formulas-k-ne1.false

pub returns-clause-judged : goal.returns-clause-judged
returns-clause-judged g c =
    one_judged c.args.f.now c.args.run.now.start c.args.budget _ _ c.args.steps c.args.k _ c.judge-verdict.result _ (one_of c.args.f.now c.args.k c.index-formulas-k.result _ c.as_slice-formulas.ensures c.requires.there) c.if-formulas-k-ne1.false
    c.judge-verdict.ensures.right c.judge-verdict.ensures.spent c.judge-verdict.ensures.few c.judge-verdict.ensures.within c.judge-verdict.ensures.honest
    (c.in_ok-push.ensures.ok ∙ ap (λ (ls : List FlatLine). ls ++ record { steps = c.args.steps; formula = c.args.k; verdict = c.judge-verdict.result } ∷ []) c.new-lines.ensures)
