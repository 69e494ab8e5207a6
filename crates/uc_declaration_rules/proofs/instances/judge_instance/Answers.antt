use Rattle.uc_declaration_rules.proofs.instances.judge_instance.Goals as goal

pub judge_instance_in-requires : goal.judge_instance_in-requires
judge_instance_in-requires c = c.scope-scope.ensures

pub returns : goal.returns
returns c = c.judge_instance_in.ensures
