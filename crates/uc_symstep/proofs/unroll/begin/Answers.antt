use Rattle.std.proofs.Common.{rules, arith}
use Rattle.uc_symstep.proofs.Steps.{begun_none, begun_more, begun_end, valid_item}
use Rattle.uc_symstep.proofs.Known.{begun_known_none, begun_known_more, begun_known_end}
use Rattle.uc_symstep.proofs.unroll.begin.Goals as goal

pub loop-ty-init : goal.loop-ty-init
loop-ty-init c = record {
  state = begun_none _ _ c.args.types.now c.args.next _ _ _ c.in_ok-truth.ensures.ok c.new-cells.ensures c.new-choices.ensures;
  known = begun_known_none _ c.args.types.now c.args.next _ _ c.in_ok-truth.ensures.known c.new-cells.ensures;
}

pub symbol-requires : goal.symbol-requires
symbol-requires c = valid_item _ _ _ c.loop-ty-test.true c.ty-item.is c.requires.valid

pub loop-ty-preserved : goal.loop-ty-preserved
loop-ty-preserved c = record {
  state = begun_more _ _ _ _ _ _ _ _ _ _ _ _ _ _ _ c.loop-ty.invariant.state c.in_ok-term.ensures.ok c.loop-ty-test.true c.ty-item.is c.in_ok-push.ensures.ok c.in_ok-push-2.ensures.ok (search rules);
  known = begun_known_more _ _ _ _ _ _ _ _ _ _ _ _ c.loop-ty.invariant.known c.in_ok-term.ensures.grown c.in_ok-term.ensures.known c.loop-ty-test.true c.ty-item.is c.in_ok-push.ensures.ok (search rules);
}

pub returns-clause-ok : goal.returns-clause-ok
returns-clause-ok c = begun_end _ _ _ _ _ _ _ _ _ _ c.loop-ty.invariant.state (omega (arith, c.loop-ty-test.false, c.loop-ty.auto.ty-index-end)) c.new.ensures

pub returns-clause-known : goal.returns-clause-known
returns-clause-known c = λ supply l. begun_known_end _ _ _ _ _ _ _ supply c.loop-ty.invariant.known (omega (arith, c.loop-ty-test.false, c.loop-ty.auto.ty-index-end)) l
