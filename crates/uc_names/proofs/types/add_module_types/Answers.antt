use Rattle.std.proofs.Common.{◌++◌, ◌∙◌, ap}
use Rattle.std.specs.List.{flat_map}
use Rattle.uc_syntax.proofs.Added.{added_end, added_more}
use Rattle.uc_rules.specs.Names.{type_brought}
use Rattle.uc_names.specs.Senses.{entries_meant, module_in}
use Rattle.uc_names.proofs.Forms.{declared_there}
use Rattle.uc_names.proofs.types.add_module_types.Goals as goal

pub loop-declaration-preserved : goal.loop-declaration-preserved
loop-declaration-preserved c =
    added_more (type_brought c.args.at (module_in c.args.design.now.modules c.args.home)) c.declarations_of-declarations.result.now _ _ _ c.loop-declaration.declaration c.index-declarations-declaration.result
    c.loop-declaration.invariant c.loop-declaration-test.true c.index-declarations-declaration.is
    (c.in_ok-add_type_at.ensures c.args.design.now.modules
    (declared_there c.declarations_of-declarations.result.now _ c.loop-declaration.declaration c.index-declarations-declaration.result c.index-declarations-declaration.result c.loop-declaration-test.true c.index-declarations-declaration.is c.declarations_of-declarations.ensures))

pub returns : goal.returns
returns c =
    added_end (type_brought c.args.at (module_in c.args.design.now.modules c.args.home)) c.declarations_of-declarations.result.now _ _ c.loop-declaration.declaration c.loop-declaration.invariant c.loop-declaration-test.false
    ∙ ap (λ ds. entries_meant c.args.design.now.modules c.args.entries.now ++ flat_map (type_brought c.args.at (module_in c.args.design.now.modules c.args.home)) ds) c.declarations_of-declarations.ensures
