use Rattle.std.proofs.Common.{ap, sym}
use Rattle.std.specs.Option.{option_map}
use Rattle.uc_names.specs.Senses.{module_in}
use Rattle.uc_declaration_rules.proofs.Bound.{missing_of_parts, none_missing}
use Rattle.uc_declaration_rules.proofs.instances.note_missing.Goals as goal

pub returns-in-None : goal.returns-in-None
returns-in-None c =
    none_missing c.args.identifier c.args.module_name c.args.bindings.now (option_map (module_in c.args.home.now.system.modules) c.args.number) c.args.first.now c.note.new.first (ap (option_map (module_in c.args.home.now.system.modules)) c.in-None.is) c.note.ensures

pub returns-in_ok-known-in-Some : goal.returns-in_ok-known-in-Some
returns-in_ok-known-in-Some c =
    missing_of_parts c.args.identifier c.args.module_name c.args.bindings.now (module_in c.args.home.now.system.modules c.in-Some.number) (option_map (module_in c.args.home.now.system.modules) c.args.number) c.in_ok-known-in-Some.known c.declarations_of.result.now c.are_bound-is_bound.result
    c.args.first.now c.note_where.new.first
    (sym (ap (option_map (module_in c.args.home.now.system.modules)) c.in-Some.is)) c.in_ok-known-in-Some.ensures c.declarations_of.ensures c.are_bound-is_bound.ensures c.note_where.ensures
