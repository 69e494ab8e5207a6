use Rattle.uc_report.proofs.Opaques.{opaque_end}
use Rattle.uc_report.proofs.trace_tables.add_opaque_types.Goals as goal

pub returns : goal.returns
returns c = opaque_end c.args.owner c.args.decls.now c.loop-decl.decl-index c.loop-decl.types.items c.args.types.now.items c.loop-decl-test.false c.loop-decl.invariant
