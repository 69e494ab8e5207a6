use Rattle.std.proofs.Common.{◌≡◌, map, take}
use Rattle.uc_uses.specs.Resolving.{source_names, source_uses}
use Rattle.uc_uses.specs.Sources.{source_meant}
use Rattle.uc_uses.proofs.use_graph_graph.use_graph.Given as goal

abbrev pub invariant-loop-used : goal.invariant-loop-used
invariant-loop-used l = record {
  uses : l.uses ≡ map (λ e. source_uses l.tree l.table (source_meant e.source)) (take l.used-index l.table.uses);
  names : l.names ≡ map (λ e. source_names l.tree l.table (source_meant e.source)) (take l.used-index l.table.uses);
}
