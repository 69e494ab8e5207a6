use Rattle.uc_module_writes.proofs.Going.{write_as}
use Rattle.uc_module_writes.proofs.leaves.write_target.Goals as goal

pub returns : goal.returns
returns c = λ place. write_as c.args.names.now c.args.all.now _ place _ _ c.in_ok-part.ensures (c.in_ok-write.ensures place)
