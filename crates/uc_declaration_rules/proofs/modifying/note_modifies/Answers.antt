use Rattle.std.proofs.Common.{refl}
use Rattle.uc_rules.specs.Declarations.{modifies_faults}
use Rattle.uc_statement_rules.proofs.Noted.{noted_begin, noted_end, noted_more}
use Rattle.uc_declaration_rules.proofs.modifying.note_modifies.Goals as goal

pub loop-identifier-init : goal.loop-identifier-init
loop-identifier-init c = noted_begin (modifies_faults c.args.scope.now.system c.args.scope.now.home) c.args.identifiers.now c.args.first.now

pub loop-identifier-preserved : goal.loop-identifier-preserved
loop-identifier-preserved c =
    noted_more (modifies_faults c.args.scope.now.system c.args.scope.now.home) c.args.identifiers.now c.args.first.now c.loop-identifier.identifier-index c.loop-identifier.first c.note_modified.new.first _ _
    c.loop-identifier.invariant c.loop-identifier-test.true refl c.note_modified.ensures

pub returns : goal.returns
returns c = noted_end (modifies_faults c.args.scope.now.system c.args.scope.now.home) c.args.identifiers.now c.args.first.now c.loop-identifier.identifier-index c.loop-identifier.first c.loop-identifier.invariant c.loop-identifier-test.false
