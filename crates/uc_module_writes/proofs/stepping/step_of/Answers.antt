use Rattle.std.proofs.Common.{◌∙◌}
use Rattle.uc_module_writes.proofs.Outside.{step_made}
use Rattle.uc_module_writes.proofs.stepping.step_of.Goals as goal

pub returns : goal.returns
returns c =
    λ i named bound.
    let outer = c.in_ok-outer.ensures i bound in
    step_made c.args.names.now c.args.inner.now i c.in_ok-outer.outer _ _ _ _ _ _ outer c.new-step.ensures.parts c.new-step.ensures.kept c.new-step.ensures.pairs (c.as_slice.ensures ∙ c.in_ok-parts.ensures i outer named) c.parts.ensures c.pairs.ensures
    c.in_ok-add_parts.ensures.parts c.in_ok-add_parts.ensures.kept c.in_ok-add_parts.ensures.pairs c.in_ok-add_pairs.ensures.parts c.in_ok-add_pairs.ensures.kept c.in_ok-add_pairs.ensures.pairs
