use Rattle.uc_flat_code.proofs.Targets.{one_answer, several_answer}
use Rattle.uc_flat_code.proofs.assigning.assign.Goals as goal
use Rattle.uc_flat_code.proofs.assigning.assign.Goals.{else-targets-eq1-via-then-targets-eq1+else-sources-eq1, else-targets-eq1-via-else-targets-eq1}

pub returns-then-sources-eq1 : goal.returns-then-sources-eq1
returns-then-sources-eq1 c = one_answer c.args.targets.now c.args.sources.now c.index-targets-0.result c.index-sources-0.result c.args.names.now c.args.first c.assign_one.result c.if-targets-eq1.true c.if-sources-eq1.true c.index-targets-0.is c.index-sources-0.is c.assign_one.ensures

pub returns : goal.returns
returns c =
    several_answer c.args.targets.now c.args.sources.now c.args.names.now c.args.first c.assign_several.result
    (elim c.else-targets-eq1.branch [ else-targets-eq1-via-then-targets-eq1+else-sources-eq1 w ↦ (λ p q. w.if-sources-eq1.false q) | else-targets-eq1-via-else-targets-eq1 w ↦ (λ p q. w.if-targets-eq1.false p) ]) c.assign_several.ensures
