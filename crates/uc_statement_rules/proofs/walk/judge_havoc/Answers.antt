use Rattle.uc_rules.specs.Statements.{havoc_standing}
use Rattle.uc_statement_rules.proofs.Joined.{standing_noted}
use Rattle.uc_statement_rules.proofs.walk.judge_havoc.Goals as goal

pub returns : goal.returns
returns c =
    standing_noted c.args.identifier.place c.in_ok-outcome.outcome (havoc_standing c.args.scope.now c.args.identifier.place c.args.identifier.name c.args.is_primed) c.args.first.now c.settle.new.first
    (c.in_ok-outcome.ensures c.args.identifier.place) c.settle.ensures.faults
