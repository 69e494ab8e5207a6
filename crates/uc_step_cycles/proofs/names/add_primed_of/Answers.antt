use Rattle.std.proofs.Common.{ap, ◌∙◌, ◌++◌}
use Rattle.uc_syntax.proofs.Added.{added_begin, added_end, added_more}
use Rattle.uc_uses.specs.Meant.{mention_meant}
use Rattle.uc_step_cycles.specs.Acts.{primed_name}
use Rattle.uc_step_cycles.proofs.Named.{meant_names}
use Rattle.uc_step_cycles.proofs.names.add_primed_of.Goals as goal

pub loop-mentioned-init : goal.loop-mentioned-init
loop-mentioned-init c = added_begin _ _ _

pub loop-mentioned-preserved : goal.loop-mentioned-preserved
loop-mentioned-preserved c =
    added_more (λ m. primed_name (mention_meant m)) _ _ _ _ _ c.mentioned-item.result c.loop-mentioned.invariant c.loop-mentioned-test.true c.mentioned-item.is c.in_ok-add_one_primed.ensures

pub returns : goal.returns
returns c = added_end _ _ _ _ _ c.loop-mentioned.invariant c.loop-mentioned-test.false ∙ ap (λ ns. c.args.names.now ++ ns) (meant_names c.args.found.now)
