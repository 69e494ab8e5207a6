use Rattle.std.proofs.Common.{[], ◌∷◌, ◌∙◌}
use Rattle.uc_syntax.specs.declared.statement.Target.{Target}
use Rattle.uc_syntax.proofs.Added.{added_begin, added_end, added_more}
use Rattle.uc_step_cycles.proofs.Named.{singles, whole_is}
use Rattle.uc_step_cycles.proofs.names.names_of_targets.Goals as goal

pub loop-target-init : goal.loop-target-init
loop-target-init c = added_begin _ _ _

pub loop-target-preserved : goal.loop-target-preserved
loop-target-preserved c =
    added_more (λ (t : Target). t.name ∷ []) _ _ _ _ _ c.target-item.result c.loop-target.invariant c.loop-target-test.true c.target-item.is c.in_ok-push.ensures.ok

pub returns : goal.returns
returns c = whole_is _ _ _ c.new-names.ensures (added_end _ _ _ _ _ c.loop-target.invariant c.loop-target-test.false) ∙ singles (λ (t : Target). t.name) c.args.targets.now
