use Rattle.std.proofs.Common.{[], ap, ◌∙◌}
use Rattle.uc_syntax.specs.WrittenTypes.{enums_of_module}
use Rattle.uc_syntax.proofs.Added.{added_end, added_more}
use Rattle.uc_type_names.specs.Lent.{meant}
use Rattle.uc_names.proofs.Forms.{meant_none}
use Rattle.uc_names.proofs.design.all_enums.Goals as goal

pub loop-module-init : goal.loop-module-init
loop-module-init c = record { is = ap meant c.new-enums.ensures ∙ meant_none }

pub loop-module-preserved : goal.loop-module-preserved
loop-module-preserved c =
    added_more enums_of_module c.args.modules.now [] _ _ c.loop-module.module-index c.module-item.result c.loop-module.invariant c.loop-module-test.true c.module-item.is c.in_ok-add_enums.ensures

pub returns : goal.returns
returns c = added_end enums_of_module c.args.modules.now [] _ c.loop-module.module-index c.loop-module.invariant c.loop-module-test.false
