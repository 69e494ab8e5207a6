use Rattle.std.proofs.Common.{◌≡◌, ℕ, List, subst}
use Rattle.std.specs.Prelude.{◌||◌, nat_eq}
use Rattle.uc_graph.specs.Order.{has}
use Rattle.uc_graph.proofs.Keys.{added}
use Rattle.uc_graph.proofs.ready.Ready.add.Goals as goal

pub returns : goal.returns
returns c =
    let Adds : List ℕ → Type 0 = λ old. (n : ℕ) → has c.insert.new.self.keys n ≡ (nat_eq n c.args.number || has old n) in
    subst Adds c.self.view_is (added c.self.inside.numbers.keys c.insert.new.self.keys c.args.number c.in_ok-insert.ensures.updates.0)
