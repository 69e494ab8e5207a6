use Rattle.std.proofs.Common.{ap, ◌∙◌, sym}
use Rattle.std.specs.Option.{option_copied}
use Rattle.uc_meaning.specs.Lookup.{first_some}
use Rattle.uc_lookup.specs.Parts.{system_in}
use Rattle.uc_lookup.proofs.Found.{first_found, first_more, first_end}
use Rattle.uc_type_reader.specs.Reading.{imported_home}
use Rattle.uc_type_reader.proofs.homes.first_import.Goals as goal

pub returns-in-Some : goal.returns-in-Some
returns-in-Some c =
    first_found (imported_home (system_in c.args.system.now) c.args.name) c.args.decls.now c.loop-decl.decl-index c.decl-item.result c.decl-item.result c.in-Some.found.now
    (first_some (imported_home (system_in c.args.system.now) c.args.name) c.args.decls.now)
    c.loop-decl-test.true c.decl-item.is (sym c.imported_home.ensures ∙ ap option_copied c.in-Some.is) c.loop-decl.invariant

pub loop-decl-preserved : goal.loop-decl-preserved
loop-decl-preserved c =
    first_more (imported_home (system_in c.args.system.now) c.args.name) c.args.decls.now c.loop-decl.decl-index c.decl-item.result c.decl-item.result
    (first_some (imported_home (system_in c.args.system.now) c.args.name) c.args.decls.now)
    c.loop-decl-test.true c.decl-item.is (sym c.imported_home.ensures ∙ ap option_copied c.in_default.is) c.loop-decl.invariant

pub returns : goal.returns
returns c =
    first_end (imported_home (system_in c.args.system.now) c.args.name) c.args.decls.now c.loop-decl.decl-index
    (first_some (imported_home (system_in c.args.system.now) c.args.name) c.args.decls.now) c.loop-decl-test.false c.loop-decl.invariant
