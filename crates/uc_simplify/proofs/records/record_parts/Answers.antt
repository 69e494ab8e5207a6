use Rattle.uc_simplify_steps.proofs.Applied.{applied}
use Rattle.uc_ops.specs.declared.op.Op.TheVariants.{MkRec}
use Rattle.uc_terms.specs.Tables.{HasOp}
use Rattle.std.proofs.Common.{subst}
use Rattle.uc_simplify.proofs.records.record_parts.Goals as goal

pub returns-in-MkRec : goal.returns-in-MkRec
returns-in-MkRec c = record {
  ty = c.in-MkRec.field-0;
  applied = applied c.args.terms.now c.args.t (MkRec c.in-MkRec.field-0) c.parts.result.now c.op.ensures.well c.requires (subst (HasOp c.args.terms.now c.args.t) c.in-MkRec.is c.op.ensures.op) c.parts.ensures.parts;
}
