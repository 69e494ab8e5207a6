use Rattle.std.proofs.Common.{sym}
use Rattle.uc_names.specs.ModuleNamesNumbers.{key_of, number_at}
use Rattle.uc_names.proofs.PlaceNumbers.{entered_known, entered_new}
use Rattle.uc_names.proofs.enums.EnumNumbers.enter.Goals as goal

pub returns-in-Some : goal.returns-in-Some
returns-in-Some c = λ p. entered_known (number_at c.args.self.now) c.args.place c.args.number _ (sym c.in-Some.ensures) p

pub returns-in_ok-insert-in-None : goal.returns-in_ok-insert-in-None
returns-in_ok-insert-in-None c =
    λ p. entered_new (number_at c.args.self.now) _ c.args.place c.args.number (λ q. c.in_ok-insert-in-None.ensures.updates.0 (key_of q)) (sym c.in-None.ensures) p
