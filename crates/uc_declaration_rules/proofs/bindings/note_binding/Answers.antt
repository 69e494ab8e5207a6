use Rattle.std.proofs.Common.{None, refl, ap, ◌∙◌}
use Rattle.uc_names.specs.Senses.{module_in}
use Rattle.uc_rules.specs.Faults.{first_of}
use Rattle.uc_rules.specs.Names.{value_named}
use Rattle.uc_declaration_rules.specs.Judging.{value_faults}
use Rattle.uc_declaration_rules.proofs.Bound.{unknown_bound}
use Rattle.uc_declaration_rules.proofs.Forms.{on_ok}
use Rattle.uc_declaration_rules.proofs.bindings.note_binding.Goals as goal

pub returns-in-None : goal.returns-in-None
returns-in-None c =
    let n = module_in c.args.scope.now.system.modules c.args.number in
    unknown_bound c.args.scope.now n c.args.binding.now c.args.ty (value_named c.args.scope.now.system n c.args.binding.now.identifier.name) None c.args.first.now c.note.new.first c.in-None.ensures c.note.ensures refl

pub returns-in-Some : goal.returns-in-Some
returns-in-Some c =
    on_ok c.note_value.result (λ noted. noted ∙ ap (λ o. first_of c.args.first.now (value_faults c.args.scope.now (module_in c.args.scope.now.system.modules c.args.number) c.args.binding.now c.args.ty o)) c.in-Some.ensures) c.note_value.ensures
