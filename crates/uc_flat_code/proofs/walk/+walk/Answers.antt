use Rattle.std.proofs.Common.{rules, ◌≡◌, ◌∙◌, sym, subst, map, Some, Err}
use Rattle.std.specs.Option.{option_map, option_and_then}
use Rattle.std.proofs.lemmas.Result.{err_from_is_err_and}
use Rattle.uc_flat_expressions.specs.Expressions.{flat_of, all_of}
use Rattle.uc_flat_expressions.specs.Answers.{IsAnswer}
use Rattle.uc_flat_code.specs.Code.{havocked, havoc_of, each_arm}
use Rattle.uc_flat_code.specs.declared.made.MadeArms.{MadeArms}
use Rattle.uc_flat_code.specs.CellTypes.{cell_type_of}
use Rattle.uc_flat_code.specs.Init.{alone, plainly, assigned_by, making_of, in_order, in_block, arm_made, arms_made}
use Rattle.uc_flat_code.specs.FlatInitWalk.{IsWalked}
use Rattle.uc_flat_code.proofs.Orders.{number_is, walk_step, walk_err, walk_end, arms_step, arms_err, arms_end, arm_err, block_kept, block_made}
use Rattle.uc_flat_code.proofs.FlatInitForms.{local_err, havoc_answer, assign_answer, if_err, if_made, case_err, case_made}
use Rattle.uc_flat_code.proofs.walk.+walk.Goals as goal

pub walk-returns-in_err-held-2-clause-made : goal.walk-returns-in_err-held-2-clause-made
walk-returns-in_err-held-2-clause-made t c =
    let f = making_of (cell_type_of c.args.tables.now c.args.code.now) in
    let total = in_order (map f c.args.block.now) c.args.names.now c.args.first in
    let end = c.walk_statement-more.new.names in
    let next = number_is c.behind-next.result c.in_ok-held.next c.args.first c.len.result c.loop-statement.all.further c.in_ok-held.ensures.1 c.behind-next.ensures c.len.ensures in
    let p = err_from_is_err_and c.from_residual-in_err-held-2.result c.from_residual-in_err-held-2.ensures.1 in
    let own = walk_err f c.args.block.now c.loop-statement.statement-index c.args.first c.in_ok-held.next c.statement-item.result c.loop-statement.names end end c.loop-statement.all total c.walk_statement-more.result c.in_err-held-2.field-0.0 c.loop-statement-test.true c.statement-item.is
    c.loop-statement.invariant.made next c.walk_statement-more.ensures.made c.in_err-held-2.ensures in
    subst (IsWalked total end) (sym p.1) (subst (λ e. IsWalked total end (Err e)) (sym p.2) own)

pub walk-loop-statement-preserved : goal.walk-loop-statement-preserved
walk-loop-statement-preserved t c =
    let f = making_of (cell_type_of c.args.tables.now c.args.code.now) in
    let next = number_is c.behind-next.result c.in_ok-held.next c.args.first c.len.result c.loop-statement.all.further c.in_ok-held.ensures.1 c.behind-next.ensures c.len.ensures in
    record {
      made = walk_step f c.args.block.now c.loop-statement.statement-index c.args.first c.in_ok-held.next c.statement-item.result c.loop-statement.names c.walk_statement-more.new.names c.loop-statement.all c.in_ok-held-2.held c.in_ok-held-2.more c.in_ok-all.all _
          c.walk_statement-more.result c.loop-statement-test.true c.statement-item.is c.loop-statement.invariant.made next c.walk_statement-more.ensures.made c.in_ok-held-2.ensures.1 (c.in_ok-held-2.ensures.0 ∙ c.in_ok-held.ensures.0) c.in_ok-all.ensures;
      undone = search rules;
    }

pub walk-returns-clause-made : goal.walk-returns-clause-made
walk-returns-clause-made t c =
    walk_end (making_of (cell_type_of c.args.tables.now c.args.code.now)) c.args.block.now c.loop-statement.statement-index _ c.loop-statement.names c.loop-statement.all _ (search rules) c.loop-statement.invariant.made

pub walk_arm-returns-in_err-test-3-clause-made : goal.walk_arm-returns-in_err-test-3-clause-made
walk_arm-returns-in_err-test-3-clause-made t c =
    let f = making_of (cell_type_of c.args.tables.now c.args.code.now) in
    let total = arm_made c.args.names.now c.args.first (each_arm f c.args.arm.now) in
    let p = err_from_is_err_and c.from_residual-in_err-test-3.result c.from_residual-in_err-test-3.ensures.1 in
    let block = subst (λ b. IsWalked (in_block (map f b) c.args.names.now c.args.first) c.walk_block-body.new.names c.walk_block-body.result) c.as_slice-2.ensures c.walk_block-body.ensures.made in
    let own = arm_err f c.args.arm.now c.args.names.now c.walk_block-body.new.names c.args.first c.in_ok-test.test c.in_ok-test-2.test c.is_boolean.result c.walk_block-body.result c.in_err-test-3.field-0.0 (search rules) c.is_boolean.ensures (search rules) block c.in_err-test-3.ensures in
    subst (IsAnswer {A = MadeArms} total) (sym p.1) (subst (λ e. IsAnswer {A = MadeArms} total (Err e)) (sym p.2) own)

pub walk_arms-returns-in_err-held-2-clause-made : goal.walk_arms-returns-in_err-held-2-clause-made
walk_arms-returns-in_err-held-2-clause-made t c =
    let f = making_of (cell_type_of c.args.tables.now c.args.code.now) in
    let total = arms_made c.args.names.now c.args.first (map (each_arm f) c.args.arms.now) in
    let next = number_is c.behind-next.result c.in_ok-held.next c.args.first c.len.result c.loop-arm.all.further c.in_ok-held.ensures.1 c.behind-next.ensures c.len.ensures in
    let p = err_from_is_err_and c.from_residual-in_err-held-2.result c.from_residual-in_err-held-2.ensures.1 in
    let own = arms_err f c.args.arms.now c.loop-arm.arm-index c.args.first c.in_ok-held.next c.arm-item.result c.args.names.now c.loop-arm.names c.loop-arm.all total c.walk_arm-more.result c.in_err-held-2.field-0.0 c.loop-arm-test.true c.arm-item.is c.loop-arm.invariant.made next
    c.loop-arm.invariant.kept c.walk_arm-more.ensures.made c.in_err-held-2.ensures in
    subst (IsAnswer {A = MadeArms} total) (sym p.1) (subst (λ e. IsAnswer {A = MadeArms} total (Err e)) (sym p.2) own)

pub walk_arms-loop-arm-preserved : goal.walk_arms-loop-arm-preserved
walk_arms-loop-arm-preserved t c =
    let f = making_of (cell_type_of c.args.tables.now c.args.code.now) in
    let next = number_is c.behind-next.result c.in_ok-held.next c.args.first c.len.result c.loop-arm.all.further c.in_ok-held.ensures.1 c.behind-next.ensures c.len.ensures in
    record {
      made = arms_step f c.args.arms.now c.loop-arm.arm-index c.args.first c.in_ok-held.next c.arm-item.result c.args.names.now c.loop-arm.names c.loop-arm.all c.in_ok-held-2.held c.in_ok-held-2.more c.in_ok-all.all _
          c.walk_arm-more.result c.loop-arm-test.true c.arm-item.is c.loop-arm.invariant.made next c.loop-arm.invariant.kept c.walk_arm-more.ensures.made c.in_ok-held-2.ensures.1 (c.in_ok-held-2.ensures.0 ∙ c.in_ok-held.ensures.0) c.in_ok-all.ensures;
      kept = search rules;
    }

pub walk_arms-returns-clause-made : goal.walk_arms-returns-clause-made
walk_arms-returns-clause-made t c =
    arms_end (making_of (cell_type_of c.args.tables.now c.args.code.now)) c.args.arms.now c.loop-arm.arm-index _ c.args.names.now c.loop-arm.all _ (search rules) c.loop-arm.invariant.made

pub walk_block-returns-clause-made : goal.walk_block-returns-clause-made
walk_block-returns-clause-made t c =
    block_made _ c.args.names.now c.walk-made.new.names c.undo.new.names c.in_ok-shadowed.made c.walk-made.result c.new-shadowed.result c.walk-made.new.shadowed c.in_ok-shadowed.shadowed c.walk-made.ensures.made c.in_ok-shadowed.ensures.1 c.walk-made.ensures.undone c.new-shadowed.ensures
    c.in_ok-shadowed.ensures.0 c.undo.ensures

pub walk_block-returns-clause-kept : goal.walk_block-returns-clause-kept
walk_block-returns-clause-kept t c =
    block_kept c.args.names.now c.walk-made.new.names c.undo.new.names c.in_ok-shadowed.made c.walk-made.result c.new-shadowed.result c.walk-made.new.shadowed c.in_ok-shadowed.shadowed c.in_ok-shadowed.ensures.1 c.walk-made.ensures.undone c.new-shadowed.ensures
    c.in_ok-shadowed.ensures.0 c.undo.ensures

pub walk_statement-returns-in_err-ty-in-Local-clause-made : goal.walk_statement-returns-in_err-ty-in-Local-clause-made
walk_statement-returns-in_err-ty-in-Local-clause-made t c =
    let types = cell_type_of c.args.tables.now c.args.code.now in
    let total = making_of types c.args.statement.now c.args.names.now c.args.first in
    let p = err_from_is_err_and c.from_residual.result c.from_residual.ensures.1 in
    let own = local_err types c.args.statement.now _ c.in-Local.identifiers c.in-Local.ty c.args.names.now c.args.names.now c.args.first c.in_err-ty-in-Local.field-0.0 c.in-Local.is c.in_err-ty-in-Local.ensures in
    subst (IsWalked total c.args.names.now) (sym p.1) (subst (λ e. IsWalked total c.args.names.now (Err e)) (sym p.2) own)

pub walk_statement-returns-in-Havoc-clause-made : goal.walk_statement-returns-in-Havoc-clause-made
walk_statement-returns-in-Havoc-clause-made t c =
    havoc_answer (cell_type_of c.args.tables.now c.args.code.now) c.args.statement.now _ c.in-Havoc.name c.in-Havoc.primed c.args.names.now c.args.names.now c.args.first c.chosen_again.result c.in-Havoc.is
    (subst (λ ns. IsWalked (option_map (λ k. alone ns (havoc_of plainly k)) (havocked ns plainly c.in-Havoc.name.name c.in-Havoc.primed)) ns c.chosen_again.result) c.as_slice-in-Havoc.ensures c.chosen_again.ensures)

pub walk_statement-returns-in-Assign-clause-made : goal.walk_statement-returns-in-Assign-clause-made
walk_statement-returns-in-Assign-clause-made t c =
    let r = c.assign.result in
    assign_answer (cell_type_of c.args.tables.now c.args.code.now) c.args.statement.now _ c.in-Assign.targets c.in-Assign.sources c.args.names.now c.args.names.now c.args.first r c.in-Assign.is
    (subst (λ ns. IsWalked (option_and_then (λ xs. assigned_by c.in-Assign.targets xs ns c.args.first) (all_of (map (flat_of ns) c.in-Assign.sources))) ns r) c.as_slice-in-Assign.ensures
    (subst (λ es. IsWalked (option_and_then (λ xs. assigned_by c.in-Assign.targets xs c.as_slice-in-Assign.result.now c.args.first) (all_of (map (flat_of c.as_slice-in-Assign.result.now) es))) c.as_slice-in-Assign.result.now r) c.as_slice-in-Assign-2.ensures
    (subst (λ ts. IsWalked (option_and_then (λ xs. assigned_by ts xs c.as_slice-in-Assign.result.now c.args.first) (all_of (map (flat_of c.as_slice-in-Assign.result.now) c.as_slice-in-Assign-2.result.now))) c.as_slice-in-Assign.result.now r) c.as_slice-targets.ensures c.assign.ensures)))

pub walk_statement-returns-in_err-arms-in-If-clause-made : goal.walk_statement-returns-in_err-arms-in-If-clause-made
walk_statement-returns-in_err-arms-in-If-clause-made t c =
    let types = cell_type_of c.args.tables.now c.args.code.now in
    let err = c.in_err-arms-in-If.field-0.0 in
    let end = c.walk_arms.new.names in
    let total = making_of types c.args.statement.now c.args.names.now c.args.first in
    let p = err_from_is_err_and c.from_residual-in_err-arms-in-If.result c.from_residual-in_err-arms-in-If.ensures.1 in
    let arms = subst (λ xs. IsAnswer {A = MadeArms} (arms_made c.args.names.now c.args.first (map (each_arm (making_of types)) xs)) (Err err)) c.as_slice-in-If.ensures c.in_err-arms-in-If.ensures.made in
    let own = if_err types c.args.statement.now _ c.in-If.arms c.in-If.otherwise c.args.names.now end c.args.first err c.in-If.is arms in
    subst (IsWalked total end) (sym p.1) (subst (λ e. IsWalked total end (Err e)) (sym p.2) own)

pub walk_statement-returns-in_ok-arms-in-If-clause-made : goal.walk_statement-returns-in_ok-arms-in-If-clause-made
walk_statement-returns-in_ok-arms-in-If-clause-made t c =
    let types = cell_type_of c.args.tables.now c.args.code.now in
    let cs = c.in_ok-arms-in-If.arms in
    let arms = subst (λ xs. arms_made c.args.names.now c.args.first (map (each_arm (making_of types)) xs) ≡ Some cs) c.as_slice-in-If.ensures c.in_ok-arms-in-If.ensures.made in
    if_made types c.args.statement.now _ c.in-If.arms c.in-If.otherwise cs c.args.names.now c.walk_arms.new.names c.walk_behind.new.names c.args.first c.walk_behind.result c.in-If.is arms c.in_ok-arms-in-If.ensures.kept c.walk_behind.ensures.made

pub walk_statement-returns-in_err-arms-in-Case-clause-made : goal.walk_statement-returns-in_err-arms-in-Case-clause-made
walk_statement-returns-in_err-arms-in-Case-clause-made t c =
    let types = cell_type_of c.args.tables.now c.args.code.now in
    let err = c.in_err-arms-in-Case.field-0.0 in
    let end = c.walk_arms-in-Case.new.names in
    let total = making_of types c.args.statement.now c.args.names.now c.args.first in
    let p = err_from_is_err_and c.from_residual-in_err-arms-in-Case.result c.from_residual-in_err-arms-in-Case.ensures.1 in
    let arms = subst (λ xs. IsAnswer {A = MadeArms} (arms_made c.args.names.now c.args.first (map (each_arm (making_of types)) xs)) (Err err)) c.as_slice-in-Case.ensures c.in_err-arms-in-Case.ensures.made in
    let own = case_err types c.args.statement.now _ c.in-Case.arms c.in-Case.otherwise c.args.names.now end c.args.first err c.in-Case.is arms in
    subst (IsWalked total end) (sym p.1) (subst (λ e. IsWalked total end (Err e)) (sym p.2) own)

pub walk_statement-returns-in_ok-arms-in-Case-clause-made : goal.walk_statement-returns-in_ok-arms-in-Case-clause-made
walk_statement-returns-in_ok-arms-in-Case-clause-made t c =
    let types = cell_type_of c.args.tables.now c.args.code.now in
    let cs = c.in_ok-arms-in-Case.arms in
    let arms = subst (λ xs. arms_made c.args.names.now c.args.first (map (each_arm (making_of types)) xs) ≡ Some cs) c.as_slice-in-Case.ensures c.in_ok-arms-in-Case.ensures.made in
    case_made types c.args.statement.now _ c.in-Case.arms c.in-Case.otherwise cs c.args.names.now c.walk_arms-in-Case.new.names c.walk_behind-in-Case.new.names c.args.first c.walk_behind-in-Case.result c.in-Case.is arms c.in_ok-arms-in-Case.ensures.kept c.walk_behind-in-Case.ensures.made
