use Rattle.std.proofs.Common.{◌≡◌, ℕ, ◌<◌, List, [], ◌∷◌, ◌++◌, subst, All}
use Rattle.std.specs.Prelude.{MatchOption}
use Rattle.uc_compose.proofs.Listing.{greatest_taken}
use Rattle.uc_compose.proofs.waiting.Waiting.take_greatest.Goals as goal

pub returns : goal.returns
returns c =
    let Takes : List ℕ → Type 0 = λ old. MatchOption c.pop_last.result (old ≡ []) (λ greatest. (old ≡ c.pop_last.new.self.keys ++ greatest ∷ []) × All (λ n. n < greatest) c.pop_last.new.self.keys) in
    subst Takes c.self.view_is (greatest_taken c.pop_last.result c.self.inside.numbers.keys c.pop_last.new.self.keys c.pop_last.ensures.variant c.pop_last.ensures.removal c.pop_last.ensures.all_below)
