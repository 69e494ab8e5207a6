use Rattle.std.proofs.Common.{ap, ◌∙◌, sym}
use Rattle.std.specs.Option.{option_map}
use Rattle.uc_lookup.specs.Parts.{signature_parts}
use Rattle.uc_meaning.specs.Lookup.{first_some, function_in}
use Rattle.uc_lookup.proofs.Found.{first_found, first_more, first_end}
use Rattle.uc_lookup.proofs.declarations.function_of.Goals as goal

pub returns-in-Some : goal.returns-in-Some
returns-in-Some c =
    first_found (function_in c.args.name) c.args.decls.now c.loop-decl.decl-index c.decl-item.result c.decl-item.result (signature_parts c.in-Some.found) (first_some (function_in c.args.name) c.args.decls.now)
    c.loop-decl-test.true c.decl-item.is (sym c.function_in.ensures ∙ ap (option_map signature_parts) c.in-Some.is) c.loop-decl.invariant

pub loop-decl-preserved : goal.loop-decl-preserved
loop-decl-preserved c =
    first_more (function_in c.args.name) c.args.decls.now c.loop-decl.decl-index c.decl-item.result c.decl-item.result (first_some (function_in c.args.name) c.args.decls.now)
    c.loop-decl-test.true c.decl-item.is (sym c.function_in.ensures ∙ ap (option_map signature_parts) c.in_default.is) c.loop-decl.invariant

pub returns : goal.returns
returns c = first_end (function_in c.args.name) c.args.decls.now c.loop-decl.decl-index (first_some (function_in c.args.name) c.args.decls.now) c.loop-decl-test.false c.loop-decl.invariant
