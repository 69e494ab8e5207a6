use Rattle.uc_rules.specs.Names.{value_named}
use Rattle.uc_declaration_rules.proofs.Bound.{none_valued, valued_is}
use Rattle.uc_declaration_rules.proofs.bindings.note_output_named.Goals as goal

pub returns-in-None : goal.returns-in-None
returns-in-None c =
    none_valued c.args.place c.args.ty c.args.bound.now (value_named c.args.scope.now.system c.args.scope.now.home c.args.name) c.args.first.now c.note_typed.new.first c.in-None.ensures c.note_typed.ensures

pub returns-in-Some : goal.returns-in-Some
returns-in-Some c =
    valued_is c.args.place c.args.ty c.args.bound.now _ (value_named c.args.scope.now.system c.args.scope.now.home c.args.name) c.is_written.result c.args.first.now c.note_output_valued.new.first c.in-Some.ensures c.is_written.ensures c.note_output_valued.ensures
