use Rattle.uc_module_writes.proofs.StepPartsBound.{all_stepped}
use Rattle.uc_module_writes.proofs.parts.stepped_parts.Goals as goal

pub returns : goal.returns
returns c = all_stepped c.args.outer.now c.args.instance c.args.parts.now _ _ _ _ c.in_ok-stepped.ensures c.has_inside-is_inside.ensures c.in_ok-own.ensures c.in_ok-append.ensures
