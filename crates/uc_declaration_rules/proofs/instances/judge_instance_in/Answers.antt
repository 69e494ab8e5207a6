use Rattle.std.proofs.Common.{ap, sym, ◌∙◌}
use Rattle.std.specs.Option.{option_map}
use Rattle.uc_meaning.specs.Lookup.{module_named}
use Rattle.uc_names.specs.Senses.{module_in}
use Rattle.uc_rules.specs.Expressions.{Context}
use Rattle.uc_rules.specs.Faults.{first_of}
use Rattle.uc_declaration_rules.specs.Judging.{missing_faults}
use Rattle.uc_declaration_rules.proofs.Bound.{instance_of_parts}
use Rattle.uc_declaration_rules.proofs.instances.judge_instance_in.Goals as goal

pub returns : goal.returns
returns c =
    instance_of_parts c.args.home.now.system c.args.home.now.home c.args.identifier c.args.module_name c.args.bindings.now c.args.scope.now (option_map (module_in c.args.scope.now.system.modules) c.module_named-number.result)
    c.args.first.now c.note_repeated_bindings.new.first c.judge_bindings.new.first c.note_missing.new.first
    c.requires (c.module_named-number.ensures ∙ ap (λ (q : Context). module_named q.system c.args.module_name.name) c.requires) c.in_ok-note_repeated_bindings.ensures c.in_ok-judge_bindings.ensures
    (c.in_ok-note_missing.ensures
    ∙ ap (λ (q : Context). first_of c.judge_bindings.new.first (missing_faults c.args.identifier c.args.module_name c.args.bindings.now (option_map (module_in q.system.modules) c.module_named-number.result))) (sym c.requires))
