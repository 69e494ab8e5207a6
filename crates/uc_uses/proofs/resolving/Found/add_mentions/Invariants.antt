use Rattle.uc_syntax.proofs.Added.{AddedUpTo}
use Rattle.uc_uses.specs.Meant.{mention_meant}
use Rattle.uc_uses.specs.Resolving.{mention_names, mention_uses}
use Rattle.uc_uses.proofs.resolving.Found.add_mentions.Given as goal

abbrev pub invariant-loop-mentioned : goal.invariant-loop-mentioned
invariant-loop-mentioned l = record {
  uses : AddedUpTo (λ m. mention_uses l.tree l.table l.node (mention_meant m)) l.mentions l.fn.self.uses l.mentioned-index l.self.uses;
  names : AddedUpTo (λ m. mention_names l.tree l.table l.node (mention_meant m)) l.mentions l.fn.self.names l.mentioned-index l.self.names;
}
