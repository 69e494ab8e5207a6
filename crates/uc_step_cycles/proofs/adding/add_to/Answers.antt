use Rattle.std.proofs.Common.{ap}
use Rattle.uc_step_cycles.specs.Edges.{edges_to}
use Rattle.uc_step_cycles.proofs.Growing.{adds_by, adds_none}
use Rattle.uc_step_cycles.proofs.adding.add_to.Goals as goal

pub returns-in-None : goal.returns-in-None
returns-in-None c = adds_by _ _ _ _ (ap (edges_to c.args.to) c.in-None.is) (adds_none _)

pub returns-in_ok-add_edge-in-Some : goal.returns-in_ok-add_edge-in-Some
returns-in_ok-add_edge-in-Some c = adds_by _ _ _ _ (ap (edges_to c.args.to) c.in-Some.is) c.in_ok-add_edge-in-Some.ensures
