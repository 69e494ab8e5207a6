use Rattle.uc_rules.specs.Declarations.{declaration_faults}
use Rattle.uc_statement_rules.proofs.Noted.{noted_begin, noted_end, noted_more}
use Rattle.uc_types.proofs.modules.note_declarations.Goals as goal

pub loop-declaration-init : goal.loop-declaration-init
loop-declaration-init c = noted_begin (declaration_faults c.args.home.now.system c.args.home.now.home) c.args.declarations.now c.args.first.now

pub loop-declaration-preserved : goal.loop-declaration-preserved
loop-declaration-preserved c =
    noted_more (declaration_faults c.args.home.now.system c.args.home.now.home) c.args.declarations.now c.args.first.now c.loop-declaration.declaration-index c.loop-declaration.first c.judge_declaration.new.first c.declaration-item.result c.declaration-item.result
    c.loop-declaration.invariant c.loop-declaration-test.true c.declaration-item.is c.in_ok-judge_declaration.ensures

pub returns : goal.returns
returns c =
    noted_end (declaration_faults c.args.home.now.system c.args.home.now.home) c.args.declarations.now c.args.first.now c.loop-declaration.declaration-index c.loop-declaration.first c.loop-declaration.invariant c.loop-declaration-test.false
