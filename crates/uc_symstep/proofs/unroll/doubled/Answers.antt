use Rattle.std.proofs.Common.{rules}
use Rattle.uc_symstep.proofs.Steps.{doubles}
use Rattle.uc_symstep.proofs.Known.{doubled_known}
use Rattle.uc_symstep.proofs.unroll.doubled.Goals as goal

pub returns-clause-ok : goal.returns-clause-ok
returns-clause-ok c = doubles _ _ c.args.types.now _ _ _ c.in_ok-copy.copy _ _ _ _ _ c.requires.cells c.requires.path c.requires.types c.in_ok-taken.ensures.ok (search rules) (search rules) c.new.ensures c.new-2.ensures

pub returns-clause-known : goal.returns-clause-known
returns-clause-known c = λ supply h. doubled_known supply _ _ _ _ c.in_ok-copy.copy _ _ c.in_ok-taken.ensures.grown (search rules) (search rules) h
