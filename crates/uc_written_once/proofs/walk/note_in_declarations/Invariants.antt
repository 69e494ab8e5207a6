use Rattle.std.proofs.Common.{false}
use Rattle.uc_meaning.specs.Lookup.{next_in}
use Rattle.uc_written_once.specs.Effects.{modified_by, step_by}
use Rattle.uc_written_once.specs.Walks.{walk_block}
use Rattle.uc_written_once.proofs.WrittenOnceTurns.{EachFrom}
use Rattle.uc_written_once.proofs.walk.note_in_declarations.Given as goal

abbrev pub invariant-loop-declaration : goal.invariant-loop-declaration
invariant-loop-declaration l = EachFrom (λ d. walk_block (modified_by l.effects) (step_by l.effects) (next_in d)) l.declarations false l.fn.seen l.fn.first l.declaration-index l.seen l.first
