use Rattle.std.proofs.Common.{ap}
use Rattle.std.specs.Option.{option_map}
use Rattle.uc_names.specs.Senses.{module_in}
use Rattle.uc_declaration_rules.proofs.Bound.{binding_alone, binding_of_parts}
use Rattle.uc_declaration_rules.proofs.Forms.{on_ok}
use Rattle.uc_declaration_rules.proofs.bindings.judge_binding.Goals as goal

pub returns-in-None : goal.returns-in-None
returns-in-None c =
    binding_alone c.args.scope.now (option_map (module_in c.args.scope.now.system.modules) c.args.number) c.args.binding.now c.args.first.now c.judge.new.first (ap (option_map (module_in c.args.scope.now.system.modules)) c.in-None.is) c.in_ok-ty.ensures.found

pub returns-in-Some : goal.returns-in-Some
returns-in-Some c =
    on_ok c.note_binding.result
    (binding_of_parts c.args.scope.now (option_map (module_in c.args.scope.now.system.modules) c.args.number) (module_in c.args.scope.now.system.modules c.in-Some.number) c.args.binding.now c.in_ok-ty.ty c.args.first.now c.judge.new.first c.note_binding.new.first
    (ap (option_map (module_in c.args.scope.now.system.modules)) c.in-Some.is) c.in_ok-ty.ensures) c.note_binding.ensures
