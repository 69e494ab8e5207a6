use Rattle.std.proofs.Common.{[], ◌∙◌}
use Rattle.uc_graph.proofs.Places.{index_past, index_found}
use Rattle.uc_graph.proofs.lists.Lists.list.Goals as goal

pub returns-in-None : goal.returns-in-None
returns-in-None c = index_past c.args.self.now c.args.place [] c.in-None.ensures

pub returns-in-Some : goal.returns-in-Some
returns-in-Some c = c.as_slice.ensures ∙ index_found c.args.self.now c.args.place _ [] c.in-Some.ensures
