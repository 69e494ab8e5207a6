use Rattle.std.proofs.Common.{ap, ◌∙◌, ◌++◌}
use Rattle.uc_syntax.proofs.Added.{added_end}
use Rattle.uc_uses.specs.Resolving.{mention_names, mention_uses, names_among, uses_among}
use Rattle.uc_uses.proofs.Mentions.{meant_flat}
use Rattle.uc_uses.proofs.resolving.Found.add_mentions.Goals as goal

pub returns-clause-uses : goal.returns-clause-uses
unfolding uses_among
returns-clause-uses c =
    added_end _ _ _ _ _ c.loop-mentioned.invariant.uses c.loop-mentioned-test.false ∙ ap (λ ns. c.args.self.now.uses ++ ns) (meant_flat (mention_uses c.args.tree.now c.args.table.now c.args.node) c.args.mentions.now)

pub returns-clause-names : goal.returns-clause-names
unfolding names_among
returns-clause-names c =
    added_end _ _ _ _ _ c.loop-mentioned.invariant.names c.loop-mentioned-test.false ∙ ap (λ ns. c.args.self.now.names ++ ns) (meant_flat (mention_names c.args.tree.now c.args.table.now c.args.node) c.args.mentions.now)
