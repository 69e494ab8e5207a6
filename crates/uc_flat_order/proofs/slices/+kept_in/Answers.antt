use Rattle.uc_flat_order.proofs.Forms.{block_gives, assign_gives, if_gives, case_gives, havoc_gives, local_gives, skip_gives, assert_gives, assume_gives, for_gives, call_gives, next_gives}
use Rattle.uc_flat_order.proofs.slices.+kept_in.Goals as goal

pub kept-returns-in-Block : goal.kept-returns-in-Block
kept-returns-in-Block t c = block_gives c.args.wanted.now c.args.statement.now c.in-Block.field-0 c.in-Block.block c.as_slice.result.now c.kept_in.result c.in-Block.is c.as_slice.ensures c.kept_in.ensures

pub kept-returns-in_ok-own-in-If : goal.kept-returns-in_ok-own-in-If
kept-returns-in_ok-own-in-If t c =
    if_gives c.args.wanted.now c.args.statement.now c.in-If.place c.in-If.arms c.as_slice-in-If.result.now c.as_slice-in-If-2.result.now c.in-If.otherwise c.in_ok-last-in-If.last c.in_ok-bodies-in-If.bodies c.in_ok-own-in-If.own c.as_if.result c.in-If.is
    c.as_slice-in-If.ensures c.as_slice-in-If-2.ensures c.in_ok-last-in-If.ensures c.in_ok-bodies-in-If.ensures c.in_ok-own-in-If.ensures c.as_if.ensures

pub kept-returns-in_ok-own-in-Case : goal.kept-returns-in_ok-own-in-Case
kept-returns-in_ok-own-in-Case t c =
    case_gives c.args.wanted.now c.args.statement.now c.in-Case.place c.in-Case.arms c.as_slice-in-Case.result.now c.as_slice-in-Case-2.result.now c.in-Case.otherwise c.in_ok-last-in-Case.last c.in_ok-bodies-in-Case.bodies c.in_ok-own-in-Case.own c.as_case.result c.in-Case.is
    c.as_slice-in-Case.ensures c.as_slice-in-Case-2.ensures c.in_ok-last-in-Case.ensures c.in_ok-bodies-in-Case.ensures c.in_ok-own-in-Case.ensures c.as_case.ensures

pub kept-returns-in-Assign : goal.kept-returns-in-Assign
kept-returns-in-Assign t c =
    assign_gives c.args.wanted.now c.args.statement.now c.in-Assign.place c.in-Assign.targets c.as_slice-in-Assign.result.now c.in-Assign.sources c.as_slice-in-Assign-2.result.now c.assigned.result c.in-Assign.is
    c.as_slice-in-Assign.ensures c.as_slice-in-Assign-2.ensures c.assigned.ensures

pub kept-returns-in-Local : goal.kept-returns-in-Local
kept-returns-in-Local t c = local_gives c.args.wanted.now c.args.statement.now c.if_wanted-in-Local.result c.if_wanted-in-Local.ensures c.in-Local.field-0 c.in-Local.field-1 c.in-Local.field-2 c.in-Local.is

pub kept-returns-in-Skip : goal.kept-returns-in-Skip
kept-returns-in-Skip t c = skip_gives c.args.wanted.now c.args.statement.now c.if_wanted-in-Skip.result c.if_wanted-in-Skip.ensures c.in-Skip.field-0 c.in-Skip.is

pub kept-returns-in-Assert : goal.kept-returns-in-Assert
kept-returns-in-Assert t c = assert_gives c.args.wanted.now c.args.statement.now c.if_wanted-in-Assert.result c.if_wanted-in-Assert.ensures c.in-Assert.field-0 c.in-Assert.field-1 c.in-Assert.field-2 c.in-Assert.is

pub kept-returns-in-Assume : goal.kept-returns-in-Assume
kept-returns-in-Assume t c = assume_gives c.args.wanted.now c.args.statement.now c.if_wanted-in-Assume.result c.if_wanted-in-Assume.ensures c.in-Assume.field-0 c.in-Assume.field-1 c.in-Assume.is

pub kept-returns-in-Havoc : goal.kept-returns-in-Havoc
kept-returns-in-Havoc t c = havoc_gives c.args.wanted.now c.args.statement.now c.in-Havoc.field-0 c.in-Havoc.name c.in-Havoc.field-2 c.if_wanted.result c.in-Havoc.is c.if_wanted.ensures

pub kept-returns-in-For : goal.kept-returns-in-For
kept-returns-in-For t c = for_gives c.args.wanted.now c.args.statement.now c.if_wanted-in-For.result c.if_wanted-in-For.ensures c.in-For.field-0 c.in-For.field-1 c.in-For.field-2 c.in-For.field-3 c.in-For.field-4 c.in-For.field-5 c.in-For.is

pub kept-returns-in-Call : goal.kept-returns-in-Call
kept-returns-in-Call t c = call_gives c.args.wanted.now c.args.statement.now c.if_wanted-in-Call.result c.if_wanted-in-Call.ensures c.in-Call.field-0 c.in-Call.field-1 c.in-Call.field-2 c.in-Call.field-3 c.in-Call.is

pub kept-returns-in-Next : goal.kept-returns-in-Next
kept-returns-in-Next t c = next_gives c.args.wanted.now c.args.statement.now c.if_wanted-in-Next.result c.if_wanted-in-Next.ensures c.in-Next.field-0 c.in-Next.field-1 c.in-Next.is
