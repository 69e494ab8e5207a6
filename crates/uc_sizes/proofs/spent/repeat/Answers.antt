use Rattle.std.proofs.Common.{◌≡◌, ◌-◌, ◌*◌, ◌^◌, ◌∙◌}
use Rattle.std.specs.Prelude.{min}
use Rattle.uc_sizes.proofs.Spending.{spends_again}
use Rattle.uc_sizes.proofs.spent.repeat.Goals as goal

pub returns : goal.returns
returns c part is =
    let first : c.saturating_mul.result ≡ min (c.args.more * (c.args.spent.now.statements - c.args.before.statements)) (2 ^ 128 - 1) =
    c.saturating_mul.ensures ∙ (λ k. min (c.from-more.ensures k * (c.from-statements.ensures ∙ c.saturating_sub.ensures) k) (2 ^ 128 - 1)) in
    let second : c.saturating_mul-2.result ≡ min (c.args.more * (c.args.spent.now.nodes - c.args.before.nodes)) (2 ^ 128 - 1) =
    c.saturating_mul-2.ensures ∙ (λ k. min (c.from-more.ensures k * (c.from-nodes.ensures ∙ c.saturating_sub-2.ensures) k) (2 ^ 128 - 1)) in
    spends_again _ _ _ part _ _ _ _ is first second c.spend.ensures
