use Rattle.std.proofs.Common.{ap}
use Rattle.std.specs.Option.{option_copied}
use Rattle.uc_step_cycles.proofs.Named.{procedures_begin, procedures_end, procedures_more}
use Rattle.uc_step_cycles.proofs.procedures.Procedures.of.Goals as goal

pub loop-declaration-init : goal.loop-declaration-init
loop-declaration-init c = procedures_begin c.args.declarations.now _ (λ f. ap option_copied (c.new-named.ensures f))

pub loop-declaration-preserved : goal.loop-declaration-preserved
loop-declaration-preserved c =
    procedures_more _ _ _ _ c.declaration-item.result _ c.loop-declaration.invariant c.loop-declaration-test.true c.declaration-item.is c.in_ok-enter.ensures

pub returns : goal.returns
returns c = procedures_end _ _ _ c.loop-declaration.invariant c.loop-declaration-test.false
