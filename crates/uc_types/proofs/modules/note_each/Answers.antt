use Rattle.uc_rules.specs.Declarations.{module_faults}
use Rattle.uc_statement_rules.proofs.Noted.{noted_begin, noted_end, noted_more}
use Rattle.uc_types.proofs.OneModule.{module_there}
use Rattle.uc_types.proofs.modules.note_each.Goals as goal

pub loop-number-init : goal.loop-number-init
loop-number-init c = noted_begin (module_faults c.args.types.now) c.args.modules.now c.args.first.now

pub note_module-requires-clause-there : goal.note_module-requires-clause-there
note_module-requires-clause-there c =
    module_there c.args.types.now.modules c.args.modules.now c.loop-number.number c.index-modules-number.result c.index-modules-number.result c.requires.modules c.loop-number-test.true c.index-modules-number.is

pub loop-number-preserved : goal.loop-number-preserved
loop-number-preserved c =
    noted_more (module_faults c.args.types.now) c.args.modules.now c.args.first.now c.loop-number.number c.loop-number.first c.note_module.new.first c.index-modules-number.result c.index-modules-number.result
    c.loop-number.invariant c.loop-number-test.true c.index-modules-number.is c.in_ok-note_module.ensures

pub returns : goal.returns
returns c = noted_end (module_faults c.args.types.now) c.args.modules.now c.args.first.now c.loop-number.number c.loop-number.first c.loop-number.invariant c.loop-number-test.false
