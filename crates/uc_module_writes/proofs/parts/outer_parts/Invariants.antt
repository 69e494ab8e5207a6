use Rattle.std.proofs.Common.{[]}
use Rattle.uc_syntax.proofs.Added.{AddedUpTo}
use Rattle.uc_meaning.specs.Cells.{as_list}
use Rattle.uc_module_writes.specs.Outer.{outer_part_by}
use Rattle.uc_module_writes.proofs.parts.outer_parts.Given as goal

abbrev pub invariant-loop-part : goal.invariant-loop-part
invariant-loop-part l = AddedUpTo (λ p. as_list (outer_part_by l.outer p)) l.parts [] l.part-index l.named
