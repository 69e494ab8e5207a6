use Rattle.std.proofs.Common.{[]}
use Rattle.uc_syntax.proofs.Added.{AddedUpTo}
use Rattle.uc_meaning.specs.Lookup.{init_in}
use Rattle.uc_flat_making.proofs.blocks.init_block.Given as goal

abbrev pub invariant-loop-decl : goal.invariant-loop-decl
invariant-loop-decl l = AddedUpTo init_in l.decls [] l.decl-index l.all
