use Rattle.std.proofs.Common.{ap, ◌∙◌, sym}
use Rattle.std.specs.Option.{option_map}
use Rattle.uc_meaning.specs.Lookup.{first_some}
use Rattle.uc_meaning.specs.Types.{type_in}
use Rattle.uc_lookup.proofs.Found.{first_found, first_more, first_end}
use Rattle.uc_type_reader.specs.Reading.{entry_meant}
use Rattle.uc_type_reader.proofs.homes.type_entry.Goals as goal

pub returns-in-Some : goal.returns-in-Some
returns-in-Some c =
    first_found (type_in c.args.name) c.args.decls.now c.loop-decl.decl-index c.decl-item.result c.decl-item.result (entry_meant c.in-Some.found) (first_some (type_in c.args.name) c.args.decls.now)
    c.loop-decl-test.true c.decl-item.is (sym c.type_in.ensures ∙ ap (option_map entry_meant) c.in-Some.is) c.loop-decl.invariant

pub loop-decl-preserved : goal.loop-decl-preserved
loop-decl-preserved c =
    first_more (type_in c.args.name) c.args.decls.now c.loop-decl.decl-index c.decl-item.result c.decl-item.result (first_some (type_in c.args.name) c.args.decls.now)
    c.loop-decl-test.true c.decl-item.is (sym c.type_in.ensures ∙ ap (option_map entry_meant) c.in_default.is) c.loop-decl.invariant

pub returns : goal.returns
returns c = first_end (type_in c.args.name) c.args.decls.now c.loop-decl.decl-index (first_some (type_in c.args.name) c.args.decls.now) c.loop-decl-test.false c.loop-decl.invariant
