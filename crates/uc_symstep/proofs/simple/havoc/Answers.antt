use Rattle.std.proofs.Common.{rules}
use Rattle.uc_symstep.proofs.States.{havoc_follows, read_type}
use Rattle.uc_symstep.proofs.Known.{havoc_known}
use Rattle.uc_symstep.proofs.simple.havoc.Goals as goal

pub returns-clause-ok : goal.returns-clause-ok
returns-clause-ok c = havoc_follows _ _ _ _ _ _ _ _ _ _ _ c.requires.state (read_type c.args.types.now c.args.k _ c.requires.fine c.index-types-k.is).0 c.in_ok-t.ensures.ok c.set.ensures c.in_ok-choices.ensures (search rules)

pub returns-clause-known : goal.returns-clause-known
returns-clause-known c = λ supply reads h.
    havoc_known supply c.args.types.now _ _ c.args.s _ _ _ _ _ c.in_ok-t.ensures.grown (read_type c.args.types.now c.args.k _ c.requires.fine c.index-types-k.is).0 c.set.ensures (search rules) c.in_ok-t.ensures.known h
