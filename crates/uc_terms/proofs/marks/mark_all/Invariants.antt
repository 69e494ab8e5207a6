use Rattle.std.proofs.Common.{take}
use Rattle.uc_terms.specs.Marks.{MarksMore}
use Rattle.uc_terms.proofs.marks.mark_all.Given as goal

abbrev pub invariant-loop-part : goal.invariant-loop-part
invariant-loop-part l = MarksMore l.initial.marks.items l.marks.items (take l.part-index l.parts)
