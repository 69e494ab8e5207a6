use Rattle.uc_names.proofs.Forms.{declared_there}
use Rattle.uc_names.proofs.OwnDeclared.{types_begin, types_end, types_more}
use Rattle.uc_names.proofs.own.own_types.Goals as goal

pub loop-declaration-init : goal.loop-declaration-init
loop-declaration-init c = types_begin c.args.design.now.modules c.args.home c.new-table.result c.declarations_of-declarations.result.now c.new-table.ensures

pub loop-declaration-preserved : goal.loop-declaration-preserved
loop-declaration-preserved c =
    types_more c.args.design.now.modules c.args.home c.loop-declaration.table c.enter.new.table c.declarations_of-declarations.result.now c.loop-declaration.declaration c.index-declarations-declaration.result c.name_of_type-name.result c.loop-declaration.invariant
    c.declarations_of-declarations.ensures
    (declared_there c.declarations_of-declarations.result.now _ c.loop-declaration.declaration c.index-declarations-declaration.result c.index-declarations-declaration.result c.loop-declaration-test.true c.index-declarations-declaration.is c.declarations_of-declarations.ensures)
    c.loop-declaration-test.true c.index-declarations-declaration.is c.name_of_type-name.ensures c.in_ok-enter.ensures

pub returns : goal.returns
returns c = types_end c.args.design.now.modules c.args.home c.loop-declaration.table c.declarations_of-declarations.result.now c.loop-declaration.declaration c.loop-declaration.invariant c.declarations_of-declarations.ensures c.loop-declaration-test.false
