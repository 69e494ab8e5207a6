use Rattle.std.proofs.Common.{◌≤◌, sym, subst, ◌∙◌}
use Rattle.uc_declared_types.proofs.Turns.{ends_settled, ends_stuck}
use Rattle.uc_declared_types.proofs.passes.read_all.Goals as goal

pub returns-then-are_stuck : goal.returns-then-are_stuck
returns-then-are_stuck c =
    λ below covered. ends_stuck c.args.homes.now c.passes.aliases c.read_aliases.new.aliases c.passes.pending c.as_slice.result.now c.in_ok-rest.rest c.as_slice.ensures
    (c.in_ok-rest.ensures.below (c.passes.invariant.below below)) c.in_ok-rest.ensures.kept (c.passes.invariant.covered covered) c.in_ok-rest.ensures.settled c.in_ok-rest.ensures.stuck
    (sym c.if-are_stuck.true ∙ c.are_as_many-are_stuck.ensures)

pub returns : goal.returns
returns c = λ below covered. ends_settled c.args.homes.now c.passes.aliases c.passes.pending (c.passes.invariant.below below) (c.passes.invariant.covered covered) (subst (λ n. n ≤ 0) c.len.ensures c.passes-test.false)
