use Rattle.uc_flat_copies.specs.declared.trace.Start.TheVariants.{Initially}
use Rattle.uc_flat_lines.proofs.Together.{moments_unrefuted}
use Rattle.uc_flat_lines.proofs.moments.none_refuted_up_to.Goals as goal

pub has_no_model-requires-clause-there : goal.has_no_model-requires-clause-there
has_no_model-requires-clause-there c = c.in-Ok.ensures.truth.there

pub has_no_model-requires-clause-boolean : goal.has_no_model-requires-clause-boolean
has_no_model-requires-clause-boolean c = c.in-Ok.ensures.truth.typed

pub has_no_model-requires-clause-known : goal.has_no_model-requires-clause-known
has_no_model-requires-clause-known c = c.in-Ok.ensures.known c.requires.own

pub returns-in-Ok : goal.returns-in-Ok
returns-in-Ok c = λ is. moments_unrefuted c.args.f.now Initially c.args.depth _ c.in-Ok.any c.in-Ok.ensures.hit (c.has_no_model.ensures is)
