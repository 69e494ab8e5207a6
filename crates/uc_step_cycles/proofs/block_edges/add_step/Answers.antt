use Rattle.std.proofs.Common.{[], ◌∷◌, ◌+◌, ap, sym, Some, ◌∙◌}
use Rattle.uc_step_cycles.specs.Building.{into}
use Rattle.uc_step_cycles.proofs.Growing.{adds_by, adds_none}
use Rattle.uc_step_cycles.proofs.block_edges.add_step.Goals as goal

pub returns-in-None : goal.returns-in-None
returns-in-None c = adds_by _ _ _ _ (ap (into c.args.bases.now (c.args.spot.base + c.args.around)) (sym c.instance.ensures ∙ c.in-None.is)) (adds_none _)

pub returns-in-Some-None : goal.returns-in-Some-None
returns-in-Some-None c =
    adds_by _ _ _ _ (ap (into c.args.bases.now (c.args.spot.base + c.args.around)) (sym c.instance.ensures ∙ c.in-Some-None.is ∙ ap Some c.in-Some-None.field-0-is)) (adds_none _)

pub returns-in_ok-add_edge-in-Some-Some : goal.returns-in_ok-add_edge-in-Some-Some
returns-in_ok-add_edge-in-Some-Some c =
    adds_by _ _ _ _
    (ap (into c.args.bases.now (c.args.spot.base + c.args.around)) (sym c.instance.ensures ∙ c.in-Some-Some.is ∙ ap Some c.in-Some-Some.field-0-is)
    ∙ (λ i. (sym c.base_at.ensures i, sym c.in_ok-to.ensures i) ∷ []))
    c.in_ok-add_edge-in-Some-Some.ensures
