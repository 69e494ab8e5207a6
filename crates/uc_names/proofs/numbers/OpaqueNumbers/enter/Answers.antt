use Rattle.std.proofs.Common.{sym}
use Rattle.uc_names.specs.TypeHomesNumbers.{key_of, number_at}
use Rattle.uc_names.proofs.OpaquePlaces.{entered_known, entered_new}
use Rattle.uc_names.proofs.numbers.OpaqueNumbers.enter.Goals as goal

pub returns-in-Some : goal.returns-in-Some
returns-in-Some c = λ m x. entered_known (number_at c.args.self.now) c.args.owner c.args.name c.args.number _ (sym c.in-Some.ensures) m x

pub returns-in_ok-insert-in-None : goal.returns-in_ok-insert-in-None
returns-in_ok-insert-in-None c =
    λ m x. entered_new (number_at c.args.self.now) _ c.args.owner c.args.name c.args.number (λ n y. c.in_ok-insert-in-None.ensures.updates.0 (key_of n y)) (sym c.in-None.ensures) m x
