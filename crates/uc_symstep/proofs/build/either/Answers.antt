use Rattle.uc_symstep.proofs.Grown.{made_term}
use Rattle.std.proofs.Common.{refl}
use Rattle.uc_symstep.proofs.Known.{made_known, known_three}
use Rattle.uc_symstep.proofs.build.either.Goals as goal

pub returns-clause-ok : goal.returns-clause-ok
returns-clause-ok c = made_term _ _ _ _ _ _ _ c.in_ok-t.ensures.ok c.in_ok-t.ensures.value c.requires.alike (λ m. refl)

pub returns-clause-known : goal.returns-clause-known
returns-clause-known c = λ supply h i j. made_known supply _ _ _ _ _ c.in_ok-t.ensures.ok (λ number ty e. cc) (known_three supply _ _ _ _ h i j)
