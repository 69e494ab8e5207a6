use Rattle.std.proofs.Common.{ap, ◌∙◌, ◌++◌}
use Rattle.uc_flat.proofs.Repeating.{repeated_none, repeated_more}
use Rattle.uc_flat.proofs.flat.repeat_types.Goals as goal

pub loop-turn-preserved : goal.loop-turn-preserved
loop-turn-preserved c = c.in_ok-append.ensures ∙ ap (λ ts. c.loop-turn.all ++ ts) c.in_ok-more.ensures ∙ ap (λ ts. ts ++ c.args.types.now) c.loop-turn.invariant ∙ repeated_more c.args.types.now c.loop-turn.turn

pub loop-turn-init : goal.loop-turn-init
loop-turn-init c = c.new-all.ensures ∙ repeated_none c.args.types.now
