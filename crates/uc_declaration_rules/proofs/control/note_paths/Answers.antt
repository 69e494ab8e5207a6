use Rattle.std.proofs.Common.{ap, ◌∙◌}
use Rattle.uc_rules.specs.Declarations.{path_faults}
use Rattle.uc_rules.specs.Faults.{first_of}
use Rattle.uc_statement_rules.proofs.Noted.{noted_begin, noted_end, noted_more}
use Rattle.uc_declaration_rules.proofs.control.note_paths.Goals as goal

pub loop-path-init : goal.loop-path-init
loop-path-init c = noted_begin (path_faults c.args.scope.now.system c.args.scope.now.home) c.args.paths.now c.args.first.now

pub loop-path-preserved : goal.loop-path-preserved
loop-path-preserved c =
    noted_more (path_faults c.args.scope.now.system c.args.scope.now.home) c.args.paths.now c.args.first.now c.loop-path.path-index c.loop-path.first c.note_path.new.first c.path-item.result c.path-item.result
    c.loop-path.invariant c.loop-path-test.true c.path-item.is (c.note_path.ensures ∙ ap (λ p. first_of c.loop-path.first (path_faults c.args.scope.now.system c.args.scope.now.home p)) c.as_slice.ensures)

pub returns : goal.returns
returns c = noted_end (path_faults c.args.scope.now.system c.args.scope.now.home) c.args.paths.now c.args.first.now c.loop-path.path-index c.loop-path.first c.loop-path.invariant c.loop-path-test.false
