use Rattle.std.specs.Option.{option_map}
use Rattle.uc_names.specs.Senses.{module_in}
use Rattle.uc_statement_rules.proofs.Noted.{NotedUpTo}
use Rattle.uc_declaration_rules.specs.Judging.{judged_and_bound}
use Rattle.uc_declaration_rules.proofs.instances.judge_bindings.Given as goal

abbrev pub invariant-loop-binding : goal.invariant-loop-binding
invariant-loop-binding l = NotedUpTo (judged_and_bound l.scope (option_map (module_in l.scope.system.modules) l.number)) l.bindings l.fn.first l.binding-index l.first
