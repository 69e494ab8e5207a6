use Rattle.std.proofs.Common.{take, map, ◌+◌, ◌*◌, List}
use Rattle.std.specs.Prelude.{All}
use Rattle.uc_values.specs.declared.ty.Ty.{Ty}
use Rattle.uc_flat.specs.Reading.{type_of}
use Rattle.uc_flat.specs.Fine.{ReadsTyped}
use Rattle.uc_symstep.specs.Cost.{cost, costs}
use Rattle.uc_symstep.specs.Growing.{AreTerms}
use Rattle.uc_symstep.specs.Known.{IsKnown}
use Rattle.uc_symstep.proofs.Formulas.{Meanings}
use Rattle.uc_symstep.proofs.formula.+sym_expression.Given as goal

abbrev pub decreases-sym_expression : goal.decreases-sym_expression
decreases-sym_expression l = 2 * cost l.e.now

abbrev pub decreases-sym_parts : goal.decreases-sym_parts
decreases-sym_parts l = 2 * costs l.parts.now + 1

abbrev pub invariant-sym_parts-loop-part : goal.invariant-sym_parts-loop-part
invariant-sym_parts-loop-part l = record {
  terms : AreTerms l.fn.terms l.terms l.made (map (type_of l.types) (take l.part-index l.parts)) (Meanings l.fn.terms l.types l.cells (take l.part-index l.parts));
  known : (supply : List Ty) → All (ReadsTyped supply) l.parts → All (IsKnown supply l.fn.terms) l.cells → All (IsKnown supply l.terms) l.made;
}
