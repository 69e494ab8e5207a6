use Rattle.std.proofs.Common.{◌≡◌, ap, length, arith}
use Rattle.uc_uses.specs.Resolving.{all_source_names, all_source_uses}
use Rattle.uc_uses.proofs.Rows.{map_all}
use Rattle.uc_uses.proofs.use_graph_graph.use_graph.Goals as goal

pub returns : goal.returns
unfolding all_source_names all_source_uses
returns c =
    let size : length c.uses-used-items.result.now ≡ length c.args.table.now.uses = ap length c.uses-used-items.ensures in
    record {
      uses = map_all _ _ c.loop-used.used-index _ (omega (arith, size, c.loop-used-test.false)) c.loop-used.invariant.uses;
      names = map_all _ _ c.loop-used.used-index _ (omega (arith, size, c.loop-used-test.false)) c.loop-used.invariant.names;
    }
