use Rattle.std.proofs.Common.{◌∙◌}
use Rattle.uc_report.specs.Described.{described}
use Rattle.uc_report.proofs.Lookups.{module_from_more, module_from_lost, module_from_end}
use Rattle.uc_report.proofs.design.DesignView.module_at.Goals as goal

pub returns-in_err-here-2 : goal.returns-in_err-here-2
returns-in_err-here-2 c =
    rw c.from_residual-in_err-here-2.ensures
    (module_from_lost (described c.args.self.now) c.loop-name.here.now c.args.path.now c.loop-name.name-index c.loop-name-test.true c.in_err-here-2.ensures
    ∙ c.loop-name.invariant)

pub loop-name-preserved : goal.loop-name-preserved
loop-name-preserved c =
    module_from_more (described c.args.self.now) c.loop-name.here.now c.in_ok-here-2.here.now c.args.path.now c.loop-name.name-index c.loop-name-test.true c.in_ok-here-2.ensures
    ∙ c.loop-name.invariant

pub returns : goal.returns
returns c =
    module_from_end (described c.args.self.now) c.loop-name.here.now c.args.path.now c.loop-name.name-index c.loop-name-test.false
    ∙ c.loop-name.invariant
