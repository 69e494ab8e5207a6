use Rattle.std.proofs.Common.{ap}
use Rattle.uc_symstep.proofs.Grown.{made_term}
use Rattle.uc_ops.specs.Meaning.{fitting}
use Rattle.std.specs.Prelude.{slice_get}
use Rattle.uc_symstep.proofs.Known.{symbol_known}
use Rattle.uc_symstep.proofs.simple.symbol.Goals as goal

pub returns-clause-ok : goal.returns-clause-ok
returns-clause-ok c = made_term _ _ _ _ _ _ _ c.in_ok-t.ensures.ok c.in_ok-t.ensures.value c.in_ok-ty.ensures (λ m. ap (λ ty. fitting ty (slice_get m.symbols c.args.number)) c.in_ok-ty.ensures)

pub returns-clause-known : goal.returns-clause-known
returns-clause-known c = λ supply h. symbol_known supply _ _ _ _ _ _ c.in_ok-ty.ensures h c.in_ok-t.ensures.ok
