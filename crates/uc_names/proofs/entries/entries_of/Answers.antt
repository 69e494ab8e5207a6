use Rattle.std.proofs.Common.{◌∙◌, ap}
use Rattle.uc_syntax.proofs.Added.{added_more}
use Rattle.uc_names.specs.Senses.{entries_meant, module_in}
use Rattle.uc_names.specs.Entries.{names_by}
use Rattle.uc_names.proofs.Forms.{declared_there, entries_none, names_end}
use Rattle.uc_names.proofs.entries.entries_of.Goals as goal

pub loop-declaration-init : goal.loop-declaration-init
loop-declaration-init c = record { is = ap (entries_meant c.args.design.now.modules) c.new-entries.ensures ∙ entries_none c.args.design.now.modules }

pub add_declaration-requires : goal.add_declaration-requires
add_declaration-requires c =
    declared_there c.declarations_of-declarations.result.now _ c.loop-declaration.declaration c.index-declarations-declaration.result c.index-declarations-declaration.result c.loop-declaration-test.true c.index-declarations-declaration.is c.declarations_of-declarations.ensures

pub loop-declaration-preserved : goal.loop-declaration-preserved
loop-declaration-preserved c =
    added_more (names_by c.args.design.now (module_in c.args.design.now.modules c.args.home)) c.declarations_of-declarations.result.now _ _ _ c.loop-declaration.declaration c.index-declarations-declaration.result
    c.loop-declaration.invariant c.loop-declaration-test.true c.index-declarations-declaration.is c.in_ok-add_declaration.ensures

pub returns : goal.returns
returns c =
    names_end c.args.design.now (module_in c.args.design.now.modules c.args.home) c.declarations_of-declarations.result.now _ c.loop-declaration.declaration
    c.declarations_of-declarations.ensures c.loop-declaration.invariant c.loop-declaration-test.false
