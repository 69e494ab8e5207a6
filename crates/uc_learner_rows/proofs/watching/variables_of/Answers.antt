use Rattle.std.proofs.Common.{false, ◌≢◌, arith, rules, get_or}
use Rattle.std.proofs.lemmas.Grind.{common_steps}
use Rattle.uc_circuit.specs.declared.literal.Lit.{Lit}
use Rattle.uc_learner_rows.proofs.Listed.{variables_listed}
use Rattle.uc_learner_rows.proofs.watching.variables_of.Goals as goal

pub returns-in-len2 : goal.returns-in-len2
returns-in-len2 c =
    λ r k watched.
    let none : Lit = record { var = 0; neg = false } in
    let ne : get_or c.args.clause.now 0 none ≢ get_or c.args.clause.now 1 none = first_of (search rules, grind (arith, common_steps)) in
    variables_listed c.args.clause.now none r k _ c.in-len2.len_at_least c.in-len2.len_below c.if-one.true ne (omega arith) watched
