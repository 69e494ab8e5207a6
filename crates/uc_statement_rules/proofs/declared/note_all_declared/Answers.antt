use Rattle.std.proofs.Common.{refl}
use Rattle.uc_statement_rules.proofs.Declaring.{declares_begin, declares_end, declares_more}
use Rattle.uc_statement_rules.proofs.declared.note_all_declared.Goals as goal

pub loop-identifier-init : goal.loop-identifier-init
loop-identifier-init c = declares_begin c.args.scope.now c.args.role c.args.identifiers.now c.args.ty.now c.args.first.now

pub loop-identifier-preserved : goal.loop-identifier-preserved
loop-identifier-preserved c =
    declares_more c.args.scope.now c.args.role c.args.identifiers.now c.args.ty.now c.args.first.now c.loop-identifier.identifier-index c.loop-identifier.scope c.note_declared.new.scope c.loop-identifier.first c.note_declared.new.first _ _
    c.loop-identifier.invariant c.loop-identifier-test.true refl c.in_ok-note_declared.ensures.faults c.in_ok-note_declared.ensures.scope

pub returns : goal.returns
returns c =
    declares_end c.args.scope.now c.args.role c.args.identifiers.now c.args.ty.now c.args.first.now c.loop-identifier.identifier-index c.loop-identifier.scope c.loop-identifier.first c.loop-identifier.invariant c.loop-identifier-test.false
