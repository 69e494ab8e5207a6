use Rattle.std.proofs.Common.{arith, sym, ap, subst}
use Rattle.uc_symstep.specs.Cost.{size, sizes}
use Rattle.uc_symstep.specs.Growing.{AreCells}
use Rattle.uc_symstep.proofs.Grown.{grows_on, cells_grow}
use Rattle.uc_symstep.proofs.States.{truth_grows}
use Rattle.uc_symstep.proofs.Branches.{second_state}
use Rattle.uc_symstep.proofs.Doing.{assign_fine, havoc_fine, assume_fine, assert_fine, if_fine, first_fine, second_fine, one_at, size_if, size_at, follows_none, follows_more, assign_goes, havoc_goes, assume_goes, assert_goes, if_goes}
use Rattle.uc_symstep.proofs.Known.{code_none, code_more, assign_read, assume_read, assert_read, assign_extends, havoc_extends, assume_extends, assert_extends, if_extends}
use Rattle.uc_symstep.proofs.code.+sym_code.Goals as goal

pub sym_code-loop-statement-init : goal.sym_code-loop-statement-init
sym_code-loop-statement-init t c = record {
  follows = follows_none _ _ c.args.code.now _ c.requires.state;
  known = code_none c.args.types.now c.args.code.now _ c.args.s;
}

pub sym_code-sym_statement-requires : goal.sym_code-sym_statement-requires
sym_code-sym_statement-requires t c =
    (omega (arith, c.decreases, size_at _ _ _ c.loop-statement-test.true c.statement-item.is), (c.loop-statement.invariant.follows.state, one_at _ _ _ _ c.loop-statement-test.true c.statement-item.is c.requires.fine))

pub sym_code-loop-statement-preserved : goal.sym_code-loop-statement-preserved
sym_code-loop-statement-preserved t c = record {
  follows = follows_more _ _ _ _ _ _ _ _ _ _ c.loop-statement.invariant.follows c.in_ok-state.ensures.ok c.loop-statement-test.true c.statement-item.is;
  known = code_more _ _ _ _ _ c.args.s c.loop-statement.state c.in_ok-state.state _ _ c.loop-statement.invariant.known c.in_ok-state.ensures.known c.loop-statement-test.true c.statement-item.is;
}

pub sym_statement-assign-requires-clause-typed : goal.sym_statement-assign-requires-clause-typed
sym_statement-assign-requires-clause-typed t c = (assign_fine _ _ _ _ c.in-Assign.is c.requires.fine).0

pub sym_statement-assign-requires-clause-fine : goal.sym_statement-assign-requires-clause-fine
sym_statement-assign-requires-clause-fine t c = (assign_fine _ _ _ _ c.in-Assign.is c.requires.fine).1

pub sym_statement-havoc-requires-clause-fine : goal.sym_statement-havoc-requires-clause-fine
sym_statement-havoc-requires-clause-fine t c = havoc_fine _ _ _ _ c.in-Havoc.is c.requires.fine

pub sym_statement-assume-requires-clause-fine : goal.sym_statement-assume-requires-clause-fine
sym_statement-assume-requires-clause-fine t c = assume_fine _ _ _ c.in-Assume.is c.requires.fine

pub sym_statement-assert_at-requires-clause-fine : goal.sym_statement-assert_at-requires-clause-fine
sym_statement-assert_at-requires-clause-fine t c = assert_fine _ _ _ _ c.in-Assert.is c.requires.fine

pub sym_statement-open_arms-requires-clause-fine : goal.sym_statement-open_arms-requires-clause-fine
sym_statement-open_arms-requires-clause-fine t c = if_fine _ _ _ _ _ c.in-If.is c.requires.fine

pub sym_statement-sym_code-requires : goal.sym_statement-sym_code-requires
sym_statement-sym_code-requires t c = (
  omega (arith, c.decreases, ap size c.in-If.is, size_if c.in-If.e c.in-If.xs c.in-If.ys, ap sizes c.as_slice.ensures),
  (c.in_ok-arms-in-If.ensures.ok.first, first_fine _ _ _ _ _ _ c.in-If.is c.as_slice.ensures c.requires.fine),
)

pub sym_statement-sym_code-requires-in-If : goal.sym_statement-sym_code-requires-in-If
sym_statement-sym_code-requires-in-If t c =
    let n = c.in_ok-arms-in-If.ensures.ok in (
      omega (arith, c.decreases, ap size c.in-If.is, size_if c.in-If.e c.in-If.xs c.in-If.ys, ap sizes c.as_slice-in-If.ensures),
      (second_state _ _ _ _ c.in_ok-arms-in-If.arms _ n.cells n.path n.other c.in_ok-first-in-If.ensures.ok, second_fine _ _ _ _ _ _ c.in-If.is c.as_slice-in-If.ensures c.requires.fine),
    )

pub sym_statement-join-requires-clause-condition : goal.sym_statement-join-requires-clause-condition
sym_statement-join-requires-clause-condition t c = truth_grows _ _ _ (grows_on _ _ _ c.in_ok-first-in-If.ensures.grown c.in_ok-second-in-If.ensures.grown) c.in_ok-arms-in-If.ensures.ok.condition

pub sym_statement-join-requires-clause-taken : goal.sym_statement-join-requires-clause-taken
sym_statement-join-requires-clause-taken t c = truth_grows _ _ _ (grows_on _ _ _ c.in_ok-first-in-If.ensures.grown c.in_ok-second-in-If.ensures.grown) c.in_ok-arms-in-If.ensures.ok.taken

pub sym_statement-join-requires-clause-path : goal.sym_statement-join-requires-clause-path
sym_statement-join-requires-clause-path t c = truth_grows _ _ _ c.in_ok-second-in-If.ensures.grown c.in_ok-first-in-If.ensures.ok.state.path

pub sym_statement-join-requires-clause-cells : goal.sym_statement-join-requires-clause-cells
sym_statement-join-requires-clause-cells t c = subst (AreCells _ _) (sym c.as_slice-in-If-2.ensures) (cells_grow _ _ _ _ c.in_ok-second-in-If.ensures.grown c.in_ok-first-in-If.ensures.ok.state.cells)

pub sym_statement-returns-in_ok-assigned-in-Assign-clause-ok : goal.sym_statement-returns-in_ok-assigned-in-Assign-clause-ok
sym_statement-returns-in_ok-assigned-in-Assign-clause-ok t c = assign_goes _ _ _ _ _ _ _ _ c.in-Assign.is c.in_ok-assigned-in-Assign.ensures.ok

pub sym_statement-returns-in_ok-havocked-in-Havoc-clause-ok : goal.sym_statement-returns-in_ok-havocked-in-Havoc-clause-ok
sym_statement-returns-in_ok-havocked-in-Havoc-clause-ok t c = havoc_goes _ _ _ _ _ _ _ _ c.in-Havoc.is c.in_ok-havocked-in-Havoc.ensures.ok

pub sym_statement-returns-in_ok-assumed-in-Assume-clause-ok : goal.sym_statement-returns-in_ok-assumed-in-Assume-clause-ok
sym_statement-returns-in_ok-assumed-in-Assume-clause-ok t c = assume_goes _ _ _ _ _ _ _ c.in-Assume.is c.in_ok-assumed-in-Assume.ensures.ok

pub sym_statement-returns-in_ok-asserted-in-Assert-clause-ok : goal.sym_statement-returns-in_ok-asserted-in-Assert-clause-ok
sym_statement-returns-in_ok-asserted-in-Assert-clause-ok t c = assert_goes _ _ _ _ _ _ _ _ c.in-Assert.is c.in_ok-asserted-in-Assert.ensures.ok

pub sym_statement-returns-in_ok-end-in-If-clause-ok : goal.sym_statement-returns-in_ok-end-in-If-clause-ok
sym_statement-returns-in_ok-end-in-If-clause-ok t c =
    if_goes _ _ _ _ _ _ _ _ _ _ _ _ _ _ c.in_ok-arms-in-If.arms _ _ _ c.in-If.is c.as_slice.ensures c.as_slice-in-If.ensures c.as_slice-in-If-2.ensures c.requires.state
    c.in_ok-arms-in-If.ensures.ok c.in_ok-first-in-If.ensures.ok c.in_ok-second-in-If.ensures.ok c.in_ok-end-in-If.ensures.ok

pub sym_statement-returns-in_ok-assigned-in-Assign-clause-known : goal.sym_statement-returns-in_ok-assigned-in-Assign-clause-known
sym_statement-returns-in_ok-assigned-in-Assign-clause-known t c = λ supply reads h.
    assign_extends supply c.args.types.now _ c.in_ok-assigned-in-Assign.assigned _ _ _ c.in-Assign.is (c.in_ok-assigned-in-Assign.ensures.known supply (assign_read supply _ _ _ c.in-Assign.is reads) h)

pub sym_statement-returns-in_ok-havocked-in-Havoc-clause-known : goal.sym_statement-returns-in_ok-havocked-in-Havoc-clause-known
sym_statement-returns-in_ok-havocked-in-Havoc-clause-known t c = λ supply reads h.
    havoc_extends supply c.args.types.now _ c.in_ok-havocked-in-Havoc.havocked _ _ _ c.in-Havoc.is (c.in_ok-havocked-in-Havoc.ensures.known supply tt h)

pub sym_statement-returns-in_ok-assumed-in-Assume-clause-known : goal.sym_statement-returns-in_ok-assumed-in-Assume-clause-known
sym_statement-returns-in_ok-assumed-in-Assume-clause-known t c = λ supply reads h.
    assume_extends supply c.args.types.now _ c.in_ok-assumed-in-Assume.assumed _ _ c.in-Assume.is (c.in_ok-assumed-in-Assume.ensures.known supply (assume_read supply _ _ c.in-Assume.is reads) h)

pub sym_statement-returns-in_ok-asserted-in-Assert-clause-known : goal.sym_statement-returns-in_ok-asserted-in-Assert-clause-known
sym_statement-returns-in_ok-asserted-in-Assert-clause-known t c = λ supply reads h.
    assert_extends supply c.args.types.now _ c.in_ok-asserted-in-Assert.asserted _ _ _ c.in-Assert.is (c.in_ok-asserted-in-Assert.ensures.known supply (assert_read supply _ _ _ c.in-Assert.is reads) h)

pub sym_statement-returns-in_ok-end-in-If-clause-known : goal.sym_statement-returns-in_ok-end-in-If-clause-known
sym_statement-returns-in_ok-end-in-If-clause-known t c =
    if_extends _ _ _ _ _ _ _ _ _ _ _ _ _ c.args.s c.in_ok-arms-in-If.arms c.in_ok-first-in-If.first c.in_ok-second-in-If.second c.in_ok-end-in-If.end c.in-If.is c.as_slice.ensures c.as_slice-in-If.ensures c.as_slice-in-If-2.ensures
    c.in_ok-first-in-If.ensures.grown c.in_ok-second-in-If.ensures.grown
    c.in_ok-arms-in-If.ensures.known c.in_ok-first-in-If.ensures.known c.in_ok-second-in-If.ensures.known c.in_ok-end-in-If.ensures.known

pub sym_statement-returns-in_err-first-in-If-clause-grown : goal.sym_statement-returns-in_err-first-in-If-clause-grown
sym_statement-returns-in_err-first-in-If-clause-grown t c = grows_on _ _ _ c.in_ok-arms-in-If.ensures.grown c.in_err-first-in-If.ensures.grown

pub sym_statement-returns-in_err-second-in-If-clause-grown : goal.sym_statement-returns-in_err-second-in-If-clause-grown
sym_statement-returns-in_err-second-in-If-clause-grown t c = grows_on _ _ _ c.in_ok-arms-in-If.ensures.grown (grows_on _ _ _ c.in_ok-first-in-If.ensures.grown c.in_err-second-in-If.ensures.grown)

pub sym_statement-returns-in_err-end-in-If-clause-grown : goal.sym_statement-returns-in_err-end-in-If-clause-grown
sym_statement-returns-in_err-end-in-If-clause-grown t c =
    grows_on _ _ _ c.in_ok-arms-in-If.ensures.grown (grows_on _ _ _ c.in_ok-first-in-If.ensures.grown (grows_on _ _ _ c.in_ok-second-in-If.ensures.grown c.in_err-end-in-If.ensures.grown))

pub sym_statement-returns-in_ok-end-in-If-clause-grown : goal.sym_statement-returns-in_ok-end-in-If-clause-grown
sym_statement-returns-in_ok-end-in-If-clause-grown t c =
    grows_on _ _ _ c.in_ok-arms-in-If.ensures.grown (grows_on _ _ _ c.in_ok-first-in-If.ensures.grown (grows_on _ _ _ c.in_ok-second-in-If.ensures.grown c.in_ok-end-in-If.ensures.grown))
