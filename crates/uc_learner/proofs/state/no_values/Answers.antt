use Rattle.std.proofs.Common.{arith, ap, ◌∙◌, ◌≡◌, ◌++◌, ◌∷◌, [], List, Option, None, Bool}
use Rattle.std.proofs.lemmas.List.{replicate-append-replicate}
use Rattle.uc_log.specs.Refutes.{unvalued}
use Rattle.uc_learner.proofs.state.no_values.Goals as goal

pub loop-number-init : goal.loop-number-init
loop-number-init c = record { values = c.in_ok-values.ensures.items }

pub loop-number-preserved : goal.loop-number-preserved
loop-number-preserved c = record {
  values =
      c.in_ok-push.ensures.items
      ∙ ap (λ (values : List (Option Bool)). values ++ None ∷ []) c.loop-number.invariant.values
      ∙ replicate-append-replicate c.loop-number._number 1 None;
}

pub returns : goal.returns
returns c =
    let all : c.loop-number._number ≡ c.args.count = omega (arith, c.loop-number-test.false, c.loop-number.auto._number-end) in
    c.loop-number.invariant.values ∙ ap unvalued all
