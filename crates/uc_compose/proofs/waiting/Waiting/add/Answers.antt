use Rattle.std.proofs.Common.{◌∷◌, [], subst}
use Rattle.uc_compose.specs.Below.{Joins}
use Rattle.uc_compose.proofs.Listing.{joins_one}
use Rattle.uc_compose.proofs.waiting.Waiting.add.Goals as goal

pub returns : goal.returns
returns c = subst (λ old. Joins old (c.args.number ∷ []) c.insert.new.self.keys) c.self.view_is (joins_one c.self.inside.numbers.keys c.insert.new.self.keys c.args.number c.in_ok-insert.ensures.keys)
