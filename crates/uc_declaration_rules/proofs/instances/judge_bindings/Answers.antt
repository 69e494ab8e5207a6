use Rattle.std.specs.Option.{option_map}
use Rattle.uc_names.specs.Senses.{module_in}
use Rattle.uc_statement_rules.proofs.Noted.{noted_begin, noted_end, noted_more}
use Rattle.uc_declaration_rules.specs.Judging.{judged_and_bound}
use Rattle.uc_declaration_rules.proofs.instances.judge_bindings.Goals as goal

pub loop-binding-init : goal.loop-binding-init
loop-binding-init c = noted_begin (judged_and_bound c.args.scope.now (option_map (module_in c.args.scope.now.system.modules) c.args.number)) c.args.bindings.now c.args.first.now

pub loop-binding-preserved : goal.loop-binding-preserved
loop-binding-preserved c =
    noted_more (judged_and_bound c.args.scope.now (option_map (module_in c.args.scope.now.system.modules) c.args.number)) c.args.bindings.now c.args.first.now c.loop-binding.binding-index c.loop-binding.first c.judge_binding.new.first c.binding-item.result c.binding-item.result
    c.loop-binding.invariant c.loop-binding-test.true c.binding-item.is c.in_ok-judge_binding.ensures

pub returns : goal.returns
returns c = noted_end (judged_and_bound c.args.scope.now (option_map (module_in c.args.scope.now.system.modules) c.args.number)) c.args.bindings.now c.args.first.now c.loop-binding.binding-index c.loop-binding.first c.loop-binding.invariant c.loop-binding-test.false
