use Rattle.std.proofs.Common.{◌∙◌}
use Rattle.uc_lookup.specs.Parts.{system_in}
use Rattle.uc_lookup.proofs.Paths.{module_from_more, module_from_lost, module_from_end}
use Rattle.uc_lookup.proofs.system.SystemRef.module_at.Goals as goal

pub returns-in_err-here-2 : goal.returns-in_err-here-2
returns-in_err-here-2 c =
    rw c.from_residual-in_err-here-2.ensures
    (module_from_lost (system_in c.args.self.now) c.loop-name.here.now c.args.path.now c.loop-name.name-index c.loop-name-test.true c.in_err-here-2.ensures
    ∙ c.loop-name.invariant)

pub loop-name-preserved : goal.loop-name-preserved
loop-name-preserved c =
    module_from_more (system_in c.args.self.now) c.loop-name.here.now c.in_ok-here-2.here.now c.args.path.now c.loop-name.name-index c.loop-name-test.true c.in_ok-here-2.ensures
    ∙ c.loop-name.invariant

pub returns : goal.returns
returns c =
    module_from_end (system_in c.args.self.now) c.loop-name.here.now c.args.path.now c.loop-name.name-index c.loop-name-test.false
    ∙ c.loop-name.invariant
