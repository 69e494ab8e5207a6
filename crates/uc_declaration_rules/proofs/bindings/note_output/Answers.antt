use Rattle.uc_declaration_rules.proofs.Bound.{output_alone, output_by_name}
use Rattle.uc_declaration_rules.proofs.bindings.note_output.Goals as goal

pub returns-in-None : goal.returns-in-None
returns-in-None c =
    output_alone c.args.scope.now c.args.binding.now c.args.ty c.args.bound.now c.name_of.result c.args.first.now c.note_typed.new.first (c.name_of.ensures c.args.scope.now) c.in-None.is c.note_typed.ensures

pub returns-in-Some : goal.returns-in-Some
returns-in-Some c =
    output_by_name c.args.scope.now c.args.binding.now c.args.ty c.args.bound.now c.name_of.result c.in-Some.name c.args.first.now c.note_output_named.new.first (c.name_of.ensures c.args.scope.now) c.in-Some.is c.note_output_named.ensures
