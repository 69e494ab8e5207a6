use Rattle.uc_module_writes.proofs.Going.{identifiers_as}
use Rattle.uc_module_writes.proofs.leaves.write_clause.Goals as goal

pub returns : goal.returns
returns c = λ place. identifiers_as c.args.names.now c.args.all.now _ place _ _ c.modified_in.ensures.names (c.in_ok-write_names.ensures place)
