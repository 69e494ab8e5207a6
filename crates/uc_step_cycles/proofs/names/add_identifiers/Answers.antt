use Rattle.std.proofs.Common.{[], ◌∷◌, ◌++◌, ap, ◌∙◌}
use Rattle.uc_syntax.specs.declared.place.Identifier.{Identifier}
use Rattle.uc_syntax.proofs.Added.{added_begin, added_end}
use Rattle.uc_step_cycles.proofs.Named.{read_more, singles}
use Rattle.uc_step_cycles.proofs.names.add_identifiers.Goals as goal

pub loop-identifier-init : goal.loop-identifier-init
loop-identifier-init c = added_begin _ _ _

pub loop-identifier-preserved : goal.loop-identifier-preserved
loop-identifier-preserved c =
    read_more (λ (i : Identifier). i.name ∷ []) _ _ _ _ _ _ c.loop-identifier.invariant c.loop-identifier-test.true c.in_ok-push.ensures.ok

pub returns : goal.returns
returns c = added_end _ _ _ _ _ c.loop-identifier.invariant c.loop-identifier-test.false ∙ ap (λ ns. c.args.names.now ++ ns) (singles (λ (i : Identifier). i.name) c.args.identifiers.now)
