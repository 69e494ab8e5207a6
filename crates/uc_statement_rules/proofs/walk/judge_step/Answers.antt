use Rattle.std.proofs.Common.{◌∙◌}
use Rattle.uc_lookup.specs.Parts.{instance_parts}
use Rattle.uc_rules.specs.Names.{instance_named}
use Rattle.uc_statement_rules.proofs.Joined.{some_mapped, step_of_parts}
use Rattle.uc_statement_rules.proofs.walk.judge_step.Goals as goal

pub returns : goal.returns
returns c =
    step_of_parts c.args.scope.now c.args.place c.args.instance c.args.first.now c.note_where.new.first c.note_where-2.new.first c.is_in_next.result c.is_some-is_there.result
    c.is_in_next.ensures c.note_where.ensures (c.is_some-is_there.ensures ∙ some_mapped instance_parts c.instance.result (instance_named c.args.scope.now.system c.args.scope.now.home c.args.instance.name) c.instance.ensures) c.note_where-2.ensures
