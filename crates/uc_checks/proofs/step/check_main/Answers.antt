use Rattle.std.proofs.Common.{ap, ◌∙◌, sym}
use Rattle.uc_meaning.specs.Lookup.{main_module}
use Rattle.uc_meaning.specs.Cells.{longest_chain}
use Rattle.uc_meaning.specs.Steps.{Kept}
use Rattle.uc_operators.specs.Overflows.{first_wide}
use Rattle.uc_readings.specs.Scopes.{scope_in}
use Rattle.uc_checks.specs.Watches.{watched}
use Rattle.uc_checks.specs.Levels.{check_at, check_met_at, first_seen}
use Rattle.uc_checks.proofs.Forms.{code_none, met_none}
use Rattle.uc_checks.proofs.Answers.{no_main}
use Rattle.uc_checks.proofs.step.check_main.Goals as goal

pub returns-in-None-clause-value : goal.returns-in-None-clause-value
returns-in-None-clause-value c =
    (λ i. Kept (watched (scope_in c.args.scope.now) c.args.choices.now (record { written = c.new.ensures i; violated = c.new-2.ensures i; used = 0 })))
    ∙ sym (code_none longest_chain c.args.layout.now (watched (scope_in c.args.scope.now) c.args.choices.now first_seen))
    ∙ ap (λ code. check_at longest_chain c.args.layout.now code (watched (scope_in c.args.scope.now) c.args.choices.now first_seen)) (no_main c.args.layout.now (c.in-None.ensures ∙ ap main_module c.system.ensures))

pub returns-in-None-clause-wide : goal.returns-in-None-clause-wide
returns-in-None-clause-wide c =
    ap (λ code. first_wide (check_met_at longest_chain c.args.layout.now code (watched (scope_in c.args.scope.now) c.args.choices.now first_seen))) (sym (no_main c.args.layout.now (c.in-None.ensures ∙ ap main_module c.system.ensures)))
    ∙ ap first_wide (met_none longest_chain c.args.layout.now (watched (scope_in c.args.scope.now) c.args.choices.now first_seen))
