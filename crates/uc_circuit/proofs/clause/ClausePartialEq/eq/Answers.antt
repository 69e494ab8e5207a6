use Rattle.std.proofs.Common.{◌≡◌, Bool, sym, subst}
use Rattle.std.specs.Bool.{Decides}
use Rattle.std.specs.Cmp.Lexicographic.{pointwise}
use Rattle.uc_circuit.specs.Literals.{same_literal}
use Rattle.uc_circuit.proofs.SameLiterals.{same_literals_decide}
use Rattle.uc_circuit.proofs.clause.ClausePartialEq.eq.Goals as goal

pub returns-clause-same : goal.returns-clause-same
returns-clause-same c =
    let is : c.eq.result ≡ pointwise same_literal c.args.self.now c.args.other.now = rw (← c.self.view_is, ← c.other.view_is) c.eq.ensures in
    subst (λ (b : Bool). Decides b (c.args.self.now ≡ c.args.other.now)) (sym is) (same_literals_decide c.args.self.now c.args.other.now)
