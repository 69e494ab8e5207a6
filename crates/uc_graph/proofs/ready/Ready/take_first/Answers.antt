use Rattle.std.proofs.Common.{◌≡◌, ℕ, ◌<◌, true, List, [], ◌∷◌, subst}
use Rattle.std.specs.Prelude.{MatchOption}
use Rattle.uc_graph.specs.Order.{has}
use Rattle.uc_graph.proofs.Keys.{first_taken}
use Rattle.uc_graph.proofs.ready.Ready.take_first.Goals as goal

pub returns : goal.returns
returns c =
    let Takes : List ℕ → Type 0 = λ old. MatchOption c.pop_first.result (old ≡ []) (λ least. (old ≡ least ∷ c.pop_first.new.self.keys) × ((n : ℕ) → has c.pop_first.new.self.keys n ≡ true → least < n)) in
    subst Takes c.self.view_is (first_taken c.pop_first.result c.self.inside.numbers.keys c.pop_first.new.self.keys c.pop_first.ensures.variant c.pop_first.ensures.removal c.pop_first.ensures.all_above)
