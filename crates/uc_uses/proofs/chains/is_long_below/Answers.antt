use Rattle.std.proofs.Common.{[], ap, ◌∙◌}
use Rattle.std.specs.Prelude.{slice_index_or}
use Rattle.std.specs.List.{list_any}
use Rattle.uc_order_rules.specs.Uses.{has_way}
use Rattle.uc_uses.proofs.Judging.{long_is}
use Rattle.uc_uses.proofs.chains.is_long_below.Goals as goal

pub returns : goal.returns
returns c = λ s k knows at known.
    let r = c.in_ok-uses.ensures s k knows at in
    c.has_flag.ensures
    ∙ ap (list_any (λ b. b)) c.as_slice.ensures
    ∙ long_is s known k c.args.root.now at c.in_ok-uses.uses.tree c.in_ok-uses.uses.table r.tree r.table c.in_ok-flags.flags
    (λ n. c.in_ok-flags.ensures n ∙ ap (λ g. has_way 32 (λ j. slice_index_or g j []) n) (c.uses.ensures ∙ r.graph))
