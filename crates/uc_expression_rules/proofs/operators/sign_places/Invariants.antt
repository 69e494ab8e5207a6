use Rattle.std.proofs.Common.{◌≡◌, take, map}
use Rattle.uc_expression_rules.proofs.operators.sign_places.Given as goal

abbrev pub invariant-loop-sign : goal.invariant-loop-sign
invariant-loop-sign l = l.places ≡ map (λ s. s.place) (take l.sign-index l.signs)
