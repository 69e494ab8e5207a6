use Rattle.uc_obligations.proofs.Supposing.{not_before}
use Rattle.uc_obligations.proofs.axioms.more_assumed.Goals as goal

pub returns-in-Initially-clause-ok : goal.returns-in-Initially-clause-ok
returns-in-Initially-clause-ok c = not_before c.args.f.now c.args.start _ c.args.assumed c.args.last.now c.in-Initially.is c.requires.assumed
