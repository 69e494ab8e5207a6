use Rattle.std.proofs.Common.{◌≡◌, ◌+◌, ◌-◌, ◌^◌, refl, rules}
use Rattle.std.specs.Prelude.{min}
use Rattle.uc_sizes.proofs.Spending.{spend_over, spend_over_nodes, spend_within}
use Rattle.uc_sizes.proofs.spent.Spent.spend.Goals as goal
use Rattle.uc_sizes.proofs.spent.Spent.spend.Goals.{then-statements-gt-MOST_STATEMENTS-via-then-statements-gt-MOST_STATEMENTS, then-statements-gt-MOST_STATEMENTS-via-else-statements-gt-MOST_STATEMENTS+then-nodes-gt-MOST_NODES}

pub returns-then-statements-gt-MOST_STATEMENTS : goal.returns-then-statements-gt-MOST_STATEMENTS
returns-then-statements-gt-MOST_STATEMENTS c =
    let first : c.saturating_add-statements.result ≡ min (c.args.self.now.statements + c.args.statements) (2 ^ 128 - 1) = search rules in
    let second : c.saturating_add-nodes.result ≡ min (c.args.self.now.nodes + c.args.nodes) (2 ^ 128 - 1) = search rules in
    elim c.then-statements-gt-MOST_STATEMENTS.branch [
      | then-statements-gt-MOST_STATEMENTS-via-then-statements-gt-MOST_STATEMENTS w ↦ spend_over _ _ _ _ _ _ _ _ first second w.if-statements-gt-MOST_STATEMENTS.true
      | then-statements-gt-MOST_STATEMENTS-via-else-statements-gt-MOST_STATEMENTS+then-nodes-gt-MOST_NODES w ↦ spend_over_nodes _ _ _ _ _ _ _ _ first second w.if-nodes-gt-MOST_NODES.true
    ]

pub returns : goal.returns
returns c =
    let first : c.saturating_add-statements.result ≡ min (c.args.self.now.statements + c.args.statements) (2 ^ 128 - 1) = search rules in
    let second : c.saturating_add-nodes.result ≡ min (c.args.self.now.nodes + c.args.nodes) (2 ^ 128 - 1) = search rules in
    spend_within _ _ _ _ _ _ _ _ first second c.if-statements-gt-MOST_STATEMENTS.false c.if-nodes-gt-MOST_NODES.false refl refl
