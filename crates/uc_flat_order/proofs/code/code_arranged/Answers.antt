use Rattle.std.proofs.Common.{List, ℕ, map, subst}
use Rattle.uc_flat_expressions.specs.Answers.{IsAnswer}
use Rattle.uc_flat_code.specs.Code.{in_order}
use Rattle.uc_flat_order.specs.Uses.{code_at}
use Rattle.uc_flat_order.proofs.Along.{whole_answer, apart_answer}
use Rattle.uc_flat_order.proofs.code.code_arranged.Goals as goal

pub returns-in-None : goal.returns-in-None
returns-in-None c = apart_answer c.args.names.now c.args.writing c.args.code.now c.code_apart.result (rw c.in-None.is at c.in_ok-order.ensures) c.code_apart.ensures

pub returns-in-Some : goal.returns-in-Some
returns-in-Some c =
    whole_answer c.args.names.now c.args.writing c.args.code.now c.in-Some.order c.code_along.result (rw c.in-Some.is at c.in_ok-order.ensures)
    (subst (λ (ks : List ℕ). IsAnswer (in_order (map (code_at c.args.names.now c.args.writing c.args.code.now) ks)) c.code_along.result) c.as_slice.ensures c.code_along.ensures)
