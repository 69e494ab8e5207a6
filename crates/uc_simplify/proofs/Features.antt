-- Subterms, and what they bring, where a table grows and where a term is made.
pub use Rattle.uc_simplify_steps.proofs.Features.{part_before, sub-below, sub-trans, parts-keep, sub-keeps, sub-grows, bears-keeps, bears-grows, brings-keeps, brings-grows, brings-below, brings-made, node_of_op, has-op, evenly_kept}
