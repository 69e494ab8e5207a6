use Rattle.std.specs.List.{flat_map}
use Rattle.uc_meaning.specs.Lookup.{next_in}
use Rattle.uc_module_writes.specs.Found.{GoesOnWith}
use Rattle.uc_module_writes.proofs.Going.{block_found, held_on}
use Rattle.uc_module_writes.proofs.walk.written_pairs.Goals as goal

pub returns : goal.returns
returns c =
    block_found c.args.effects.now c.args.table.now (flat_map next_in c.args.declarations.now) _ _ c.new-all.ensures.parts c.new-all.ensures.kept c.new-all.ensures.pairs
    (held_on (GoesOnWith c.args.effects.now c.args.table.now (flat_map next_in c.args.declarations.now) c.new-all.result) _ _ _ _ c.in_ok-all.ensures c.find_in_declarations-found.ensures)
