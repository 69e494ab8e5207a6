use Rattle.std.proofs.Common.{◌-◌, map, ap, ◌∙◌, sym, rules}
use Rattle.uc_meaning.specs.Cells.{instances_below}
use Rattle.uc_meaning.specs.Code.{then_run}
use Rattle.uc_meaning.specs.OverflowsRuns.{met_after}
use Rattle.uc_operators.specs.Overflows.{first_wide}
use Rattle.uc_evaluator.proofs.Told.{told_first, told_second, told_as, told_all, gives_as}
use Rattle.uc_runs.specs.declared.run.Ending.{Ending}
use Rattle.uc_runs.specs.Runs.{running, ending_of}
use Rattle.uc_runs.proofs.Loops.{runs_end, runs_more, runs_out, met_end, met_told, met_more, met_out}
use Rattle.uc_layout.specs.Instances.{instance_meant}
use Rattle.uc_executions.specs.Starts.{inits, inits_met, own_init, own_init_met}
use Rattle.uc_executions.proofs.Inits.{init_one, init_all, init_one_met, init_all_met, no_init, next_init, no_init_met, next_init_met, some_init, some_init_met, stopped_init, stopped_init_met}
use Rattle.uc_executions.proofs.running.+init.Goals as goal

pub init_each-returns-in_err-end-clause-wide : goal.init_each-returns-in_err-end-clause-wide
init_each-returns-in_err-end-clause-wide t c =
    let told = met_told (init_one instance_meant c.args.below c.args.layout.now) (init_all instance_meant c.args.below c.args.layout.now) (no_init instance_meant c.args.below c.args.layout.now) (next_init instance_meant c.args.below c.args.layout.now) (init_one_met instance_meant c.args.below c.args.layout.now) (init_all_met instance_meant c.args.below c.args.layout.now) (no_init_met instance_meant c.args.below c.args.layout.now) (next_init_met instance_meant c.args.below c.args.layout.now) c.args.choices.now c.args.instances.now c.loop-instance.instance-index c.loop-instance.here c.instance-item.result c.instance-item.result c.loop-instance-test.true c.instance-item.is Ending Ending _ c.in_err-end.field-0.0 c.loop-instance.invariant.wide c.in_err-end.ensures.wide in
    search (rules, told)

pub init_each-loop-instance-preserved : goal.init_each-loop-instance-preserved
init_each-loop-instance-preserved t c =
    record {
      value = runs_more (init_one instance_meant c.args.below c.args.layout.now) (init_all instance_meant c.args.below c.args.layout.now) (no_init instance_meant c.args.below c.args.layout.now) (next_init instance_meant c.args.below c.args.layout.now) c.args.choices.now c.args.instances.now c.loop-instance.instance-index c.loop-instance.here c.instance-item.result c.instance-item.result c.loop-instance-test.true c.instance-item.is c.in_ok-end.end c.in_ok-end.ensures.value c.in-Goes.next _ c.in-Goes.is c.loop-instance.invariant.value;
      wide = met_more (init_one instance_meant c.args.below c.args.layout.now) (init_all instance_meant c.args.below c.args.layout.now) (no_init instance_meant c.args.below c.args.layout.now) (next_init instance_meant c.args.below c.args.layout.now) (init_one_met instance_meant c.args.below c.args.layout.now) (init_all_met instance_meant c.args.below c.args.layout.now) (no_init_met instance_meant c.args.below c.args.layout.now) (next_init_met instance_meant c.args.below c.args.layout.now) c.args.choices.now c.args.instances.now c.loop-instance.instance-index c.loop-instance.here c.instance-item.result c.instance-item.result c.loop-instance-test.true c.instance-item.is c.in_ok-end.end c.in_ok-end.ensures.value c.in_ok-end.ensures.wide c.in-Goes.next _ c.in-Goes.is c.loop-instance.invariant.wide;
    }

pub init_each-returns-in_default-clause-value : goal.init_each-returns-in_default-clause-value
init_each-returns-in_default-clause-value t c =
    runs_out (init_one instance_meant c.args.below c.args.layout.now) (init_all instance_meant c.args.below c.args.layout.now) (no_init instance_meant c.args.below c.args.layout.now) (next_init instance_meant c.args.below c.args.layout.now) c.args.choices.now c.args.instances.now c.loop-instance.instance-index c.loop-instance.here c.instance-item.result c.instance-item.result c.loop-instance-test.true c.instance-item.is c.in_ok-end.end c.in_ok-end.ensures.value _ c.in_default.not-Goes c.loop-instance.invariant.value

pub init_each-returns-in_default-clause-wide : goal.init_each-returns-in_default-clause-wide
init_each-returns-in_default-clause-wide t c =
    met_out (init_one instance_meant c.args.below c.args.layout.now) (init_all instance_meant c.args.below c.args.layout.now) (no_init instance_meant c.args.below c.args.layout.now) (next_init instance_meant c.args.below c.args.layout.now) (init_one_met instance_meant c.args.below c.args.layout.now) (init_all_met instance_meant c.args.below c.args.layout.now) (no_init_met instance_meant c.args.below c.args.layout.now) (next_init_met instance_meant c.args.below c.args.layout.now) c.args.choices.now c.args.instances.now c.loop-instance.instance-index c.loop-instance.here c.instance-item.result c.instance-item.result c.loop-instance-test.true c.instance-item.is c.in_ok-end.end c.in_ok-end.ensures.value c.in_ok-end.ensures.wide _ c.in_default.not-Goes c.loop-instance.invariant.wide

pub init_each-returns-clause-value : goal.init_each-returns-clause-value
init_each-returns-clause-value t c =
    runs_end (init_one instance_meant c.args.below c.args.layout.now) (init_all instance_meant c.args.below c.args.layout.now) (no_init instance_meant c.args.below c.args.layout.now) (next_init instance_meant c.args.below c.args.layout.now) c.args.choices.now c.args.instances.now c.loop-instance.instance-index c.loop-instance.here _ c.loop-instance-test.false c.loop-instance.invariant.value

pub init_each-returns-clause-wide : goal.init_each-returns-clause-wide
init_each-returns-clause-wide t c =
    met_end (init_one instance_meant c.args.below c.args.layout.now) (init_all instance_meant c.args.below c.args.layout.now) (no_init instance_meant c.args.below c.args.layout.now) (next_init instance_meant c.args.below c.args.layout.now) (init_one_met instance_meant c.args.below c.args.layout.now) (init_all_met instance_meant c.args.below c.args.layout.now) (no_init_met instance_meant c.args.below c.args.layout.now) (next_init_met instance_meant c.args.below c.args.layout.now) c.args.choices.now c.args.instances.now c.loop-instance.instance-index c.loop-instance.here _ c.loop-instance-test.false c.loop-instance.invariant.wide

pub init_from-returns-then-below-eq0-clause-value : goal.init_from-returns-then-below-eq0-clause-value
init_from-returns-then-below-eq0-clause-value t c = stopped_init c.args.below c.args.layout.now (instance_meant c.args.here.now) (running c.args.choices.now c.args.run) c.if-below-eq0.true

pub init_from-returns-then-below-eq0-clause-wide : goal.init_from-returns-then-below-eq0-clause-wide
init_from-returns-then-below-eq0-clause-wide t c = ap first_wide (stopped_init_met c.args.below c.args.layout.now (instance_meant c.args.here.now) (running c.args.choices.now c.args.run) c.if-below-eq0.true)

pub init_from-returns-in_err-end-clause-wide : goal.init_from-returns-in_err-end-clause-wide
init_from-returns-in_err-end-clause-wide t c =
    let here = told_as Ending Ending _ _ c.in_err-end.field-0.0 (ap (λ is. inits_met (c.args.below - 1) c.args.layout.now is (running c.args.choices.now c.args.run)) (ap (map instance_meant) c.as_slice.ensures ∙ c.in_ok-inside.ensures ∙ ap (λ s. instances_below s (instance_meant c.args.here.now)) c.system.ensures)) c.in_err-end.ensures.wide in
    let both = told_first Ending Ending (inits_met (c.args.below - 1) c.args.layout.now (instances_below c.args.layout.now (instance_meant c.args.here.now)) (running c.args.choices.now c.args.run)) (met_after (inits (c.args.below - 1) c.args.layout.now (instances_below c.args.layout.now (instance_meant c.args.here.now)) (running c.args.choices.now c.args.run)) (own_init_met c.args.layout.now (instance_meant c.args.here.now))) c.in_err-end.field-0.0 here in
    let told = told_as Ending Ending _ _ c.in_err-end.field-0.0 (some_init_met c.args.below c.args.layout.now (instance_meant c.args.here.now) (running c.args.choices.now c.args.run) c.if-below-eq0.false) both in
    search (rules, told)

pub init_from-returns-clause-value : goal.init_from-returns-clause-value
init_from-returns-clause-value t c =
    gives_as (ending_of c.args.choices.now) _ _ c.init_own.result
    (ap (λ e. then_run e (own_init c.args.layout.now (instance_meant c.args.here.now))) c.in_ok-end.ensures.value
    ∙ ap (λ is. then_run (inits (c.args.below - 1) c.args.layout.now is (running c.args.choices.now c.args.run)) (own_init c.args.layout.now (instance_meant c.args.here.now))) (ap (map instance_meant) c.as_slice.ensures ∙ c.in_ok-inside.ensures ∙ ap (λ s. instances_below s (instance_meant c.args.here.now)) c.system.ensures)
    ∙ some_init c.args.below c.args.layout.now (instance_meant c.args.here.now) (running c.args.choices.now c.args.run) c.if-below-eq0.false)
    c.init_own.ensures.value

pub init_from-returns-clause-wide : goal.init_from-returns-clause-wide
init_from-returns-clause-wide t c =
    told_all _ _ c.init_own.result (some_init_met c.args.below c.args.layout.now (instance_meant c.args.here.now) (running c.args.choices.now c.args.run) c.if-below-eq0.false)
    (told_second (inits_met (c.args.below - 1) c.args.layout.now (instances_below c.args.layout.now (instance_meant c.args.here.now)) (running c.args.choices.now c.args.run)) (met_after (inits (c.args.below - 1) c.args.layout.now (instances_below c.args.layout.now (instance_meant c.args.here.now)) (running c.args.choices.now c.args.run)) (own_init_met c.args.layout.now (instance_meant c.args.here.now))) c.init_own.result
    (ap first_wide (sym (ap (λ is. inits_met (c.args.below - 1) c.args.layout.now is (running c.args.choices.now c.args.run)) (ap (map instance_meant) c.as_slice.ensures ∙ c.in_ok-inside.ensures ∙ ap (λ s. instances_below s (instance_meant c.args.here.now)) c.system.ensures))) ∙ c.in_ok-end.ensures.wide)
    (told_all _ _ c.init_own.result
    (ap (λ e. met_after e (own_init_met c.args.layout.now (instance_meant c.args.here.now))) (c.in_ok-end.ensures.value ∙ ap (λ is. inits (c.args.below - 1) c.args.layout.now is (running c.args.choices.now c.args.run)) (ap (map instance_meant) c.as_slice.ensures ∙ c.in_ok-inside.ensures ∙ ap (λ s. instances_below s (instance_meant c.args.here.now)) c.system.ensures)))
    c.init_own.ensures.wide))
