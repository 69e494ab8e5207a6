use Rattle.std.proofs.Common.{cond, ap, ◌∙◌}
use Rattle.uc_meaning.specs.Fragment.{is_control}
use Rattle.uc_runnable.proofs.Once.{counted_turn, counted_end}
use Rattle.uc_runnable.proofs.blocks.count_control.Goals as goal

pub loop-decl-preserved : goal.loop-decl-preserved
loop-decl-preserved c =
    counted_turn is_control c.args.decls.now c.loop-decl.decl-index c.decl-item.result c.loop-decl.count c.one_if-count.result c.loop-decl-test.true c.decl-item.is
    (c.one_if-count.ensures ∙ ap (λ b. cond b 1 0) c.is_control.ensures) c.loop-decl.invariant

pub returns : goal.returns
returns c = counted_end is_control c.args.decls.now c.loop-decl.decl-index c.loop-decl.count c.loop-decl-test.false c.loop-decl.invariant
