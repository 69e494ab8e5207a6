use Rattle.std.proofs.Common.{[], ◌+◌, ◌++◌, ap, sym, ◌∙◌}
use Rattle.std.specs.Option.{option_copied}
use Rattle.uc_step_cycles.specs.Building.{names_edges, used_edges}
use Rattle.uc_step_cycles.proofs.Growing.{adds_first, adds_two_by, each_none, index_none, index_some}
use Rattle.uc_step_cycles.proofs.reads.add_use.Goals as goal

pub returns-in-None : goal.returns-in-None
returns-in-None c =
    adds_first (used_edges c.args.start c.in_ok-from.from c.args.used.now) _ _ _
    (λ i. used_edges c.args.start (sym c.in_ok-from.ensures i) c.args.used.now ++ (ap (names_edges c.args.names.now (c.args.start + c.args.number)) (index_none c.args.named.now c.args.number [] (sym c.at.ensures ∙ ap option_copied c.in-None.is)) ∙ each_none _ 0) i)
    c.in_ok-add_used.ensures

pub returns-in_ok-add_named-in-Some : goal.returns-in_ok-add_named-in-Some
returns-in_ok-add_named-in-Some c =
    adds_two_by _ _ _ _ _ _
    (λ i.
    used_edges c.args.start (sym c.in_ok-from.ensures i) c.args.used.now
    ++ names_edges c.args.names.now (sym c.in_ok-from.ensures i) ((index_some c.args.named.now c.args.number [] _ (sym c.at.ensures ∙ ap option_copied c.in-Some.is) ∙ sym c.as_slice.ensures) i))
    c.in_ok-add_used.ensures c.in_ok-add_named-in-Some.ensures
