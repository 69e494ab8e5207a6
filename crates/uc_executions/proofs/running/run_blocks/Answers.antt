use Rattle.std.proofs.Common.{ap, ◌∙◌, sym, subst, rules}
use Rattle.std.specs.Prelude.{Err}
use Rattle.uc_meaning.specs.Code.{run}
use Rattle.uc_meaning.specs.OverflowsRuns.{run_met}
use Rattle.uc_evaluator.proofs.Told.{told_as}
use Rattle.uc_operators.specs.Overflows.{first_wide, TellsWide}
use Rattle.uc_runs.specs.declared.run.Ending.{Ending}
use Rattle.uc_runs.specs.Runs.{running}
use Rattle.uc_runs.proofs.Loops.{runs_end, runs_more, runs_out, met_end, met_told, met_more, met_out}
use Rattle.uc_executions.proofs.Inits.{block_of, blocks_of, block_met, blocks_met, no_block, next_block, no_block_met, next_block_met}
use Rattle.uc_executions.proofs.running.run_blocks.Goals as goal

pub returns-in_err-end-clause-wide : goal.returns-in_err-end-clause-wide
returns-in_err-end-clause-wide c =
    let told = met_told (block_of c.args.layout.now) (blocks_of c.args.layout.now) (no_block c.args.layout.now) (next_block c.args.layout.now) (block_met c.args.layout.now) (blocks_met c.args.layout.now) (no_block_met c.args.layout.now) (next_block_met c.args.layout.now) c.args.choices.now c.as_slice-decl-items.result.now c.loop-decl.decl-index c.loop-decl.here c.decl-item.result c.decl-item.result c.loop-decl-test.true c.decl-item.is Ending Ending _ c.in_err-end.field-0.0 c.loop-decl.invariant.wide (told_as Ending Ending _ _ c.in_err-end.field-0.0 (ap (λ code. run_met c.args.layout.now code (running c.args.choices.now c.loop-decl.here)) c.init_block-block.ensures) c.in_err-end.ensures.wide) in
    let there = subst (λ ds. TellsWide {A = Ending} (first_wide (blocks_met c.args.layout.now ds (running c.args.choices.now c.args.run))) (Err c.in_err-end.field-0.0)) c.as_slice-decl-items.ensures told in
    search (rules, there)

pub loop-decl-preserved : goal.loop-decl-preserved
loop-decl-preserved c =
    record {
      value = runs_more (block_of c.args.layout.now) (blocks_of c.args.layout.now) (no_block c.args.layout.now) (next_block c.args.layout.now) c.args.choices.now c.as_slice-decl-items.result.now c.loop-decl.decl-index c.loop-decl.here c.decl-item.result c.decl-item.result c.loop-decl-test.true c.decl-item.is c.in_ok-end.end (c.in_ok-end.ensures.value ∙ ap (λ code. run c.args.layout.now code (running c.args.choices.now c.loop-decl.here)) c.init_block-block.ensures) c.in-Goes.next _ c.in-Goes.is c.loop-decl.invariant.value;
      wide = met_more (block_of c.args.layout.now) (blocks_of c.args.layout.now) (no_block c.args.layout.now) (next_block c.args.layout.now) (block_met c.args.layout.now) (blocks_met c.args.layout.now) (no_block_met c.args.layout.now) (next_block_met c.args.layout.now) c.args.choices.now c.as_slice-decl-items.result.now c.loop-decl.decl-index c.loop-decl.here c.decl-item.result c.decl-item.result c.loop-decl-test.true c.decl-item.is c.in_ok-end.end (c.in_ok-end.ensures.value ∙ ap (λ code. run c.args.layout.now code (running c.args.choices.now c.loop-decl.here)) c.init_block-block.ensures) (ap first_wide (sym (ap (λ code. run_met c.args.layout.now code (running c.args.choices.now c.loop-decl.here)) c.init_block-block.ensures)) ∙ c.in_ok-end.ensures.wide) c.in-Goes.next _ c.in-Goes.is c.loop-decl.invariant.wide;
    }

pub returns-in_default-clause-value : goal.returns-in_default-clause-value
returns-in_default-clause-value c =
    runs_out (block_of c.args.layout.now) (blocks_of c.args.layout.now) (no_block c.args.layout.now) (next_block c.args.layout.now) c.args.choices.now c.as_slice-decl-items.result.now c.loop-decl.decl-index c.loop-decl.here c.decl-item.result c.decl-item.result c.loop-decl-test.true c.decl-item.is c.in_ok-end.end (c.in_ok-end.ensures.value ∙ ap (λ code. run c.args.layout.now code (running c.args.choices.now c.loop-decl.here)) c.init_block-block.ensures) _ c.in_default.not-Goes c.loop-decl.invariant.value
    ∙ ap (λ ds. blocks_of c.args.layout.now ds (running c.args.choices.now c.args.run)) c.as_slice-decl-items.ensures

pub returns-in_default-clause-wide : goal.returns-in_default-clause-wide
returns-in_default-clause-wide c =
    ap (λ ds. first_wide (blocks_met c.args.layout.now ds (running c.args.choices.now c.args.run))) (sym c.as_slice-decl-items.ensures)
    ∙ met_out (block_of c.args.layout.now) (blocks_of c.args.layout.now) (no_block c.args.layout.now) (next_block c.args.layout.now) (block_met c.args.layout.now) (blocks_met c.args.layout.now) (no_block_met c.args.layout.now) (next_block_met c.args.layout.now) c.args.choices.now c.as_slice-decl-items.result.now c.loop-decl.decl-index c.loop-decl.here c.decl-item.result c.decl-item.result c.loop-decl-test.true c.decl-item.is c.in_ok-end.end (c.in_ok-end.ensures.value ∙ ap (λ code. run c.args.layout.now code (running c.args.choices.now c.loop-decl.here)) c.init_block-block.ensures) (ap first_wide (sym (ap (λ code. run_met c.args.layout.now code (running c.args.choices.now c.loop-decl.here)) c.init_block-block.ensures)) ∙ c.in_ok-end.ensures.wide) _ c.in_default.not-Goes c.loop-decl.invariant.wide

pub returns-clause-value : goal.returns-clause-value
returns-clause-value c =
    runs_end (block_of c.args.layout.now) (blocks_of c.args.layout.now) (no_block c.args.layout.now) (next_block c.args.layout.now) c.args.choices.now c.as_slice-decl-items.result.now c.loop-decl.decl-index c.loop-decl.here _ c.loop-decl-test.false c.loop-decl.invariant.value
    ∙ ap (λ ds. blocks_of c.args.layout.now ds (running c.args.choices.now c.args.run)) c.as_slice-decl-items.ensures

pub returns-clause-wide : goal.returns-clause-wide
returns-clause-wide c =
    ap (λ ds. first_wide (blocks_met c.args.layout.now ds (running c.args.choices.now c.args.run))) (sym c.as_slice-decl-items.ensures)
    ∙ met_end (block_of c.args.layout.now) (blocks_of c.args.layout.now) (no_block c.args.layout.now) (next_block c.args.layout.now) (block_met c.args.layout.now) (blocks_met c.args.layout.now) (no_block_met c.args.layout.now) (next_block_met c.args.layout.now) c.args.choices.now c.as_slice-decl-items.result.now c.loop-decl.decl-index c.loop-decl.here _ c.loop-decl-test.false c.loop-decl.invariant.wide
