use Rattle.std.proofs.Common.{List, ℕ, map, subst}
use Rattle.uc_flat_expressions.specs.Answers.{IsAnswer}
use Rattle.uc_flat_code.specs.Code.{in_order}
use Rattle.uc_flat_order.specs.Uses.{code_at}
use Rattle.uc_flat_order.proofs.Along.{along_answer, none_answer}
use Rattle.uc_flat_order.proofs.code.code_in_turn.Goals as goal

pub returns-in_default : goal.returns-in_default
returns-in_default c = none_answer c.args.names.now c.args.writing c.args.code.now (rw c.in_default.is at c.in_ok-order.ensures)

pub returns : goal.returns
returns c =
    along_answer c.args.names.now c.args.writing c.args.code.now c.in-Some.order c.code_along.result (rw c.in-Some.is at c.in_ok-order.ensures)
    (subst (λ (ks : List ℕ). IsAnswer (in_order (map (code_at c.args.names.now c.args.writing c.args.code.now) ks)) c.code_along.result) c.as_slice.ensures c.code_along.ensures)
