use Rattle.uc_obligations.proofs.Unrollings.{state_ready, axioms_ready, assumed_ready}
use Rattle.uc_obligations.proofs.Goaled.{goal_there, goal_all, obligation_all}
use Rattle.uc_obligations.proofs.Knowing.{goal_known}
use Rattle.uc_obligations.proofs.goals.goal.Goals as goal

pub refuted_term-requires-clause-axioms : goal.refuted_term-requires-clause-axioms
refuted_term-requires-clause-axioms c = axioms_ready c.args.f.now _ c.args.steps _ c.requires.unrolled

pub refuted_term-requires-clause-assumed : goal.refuted_term-requires-clause-assumed
refuted_term-requires-clause-assumed c = assumed_ready c.args.f.now _ c.args.steps _ c.requires.unrolled

pub refuted_term-requires-clause-state : goal.refuted_term-requires-clause-state
refuted_term-requires-clause-state c = state_ready c.args.f.now _ c.args.steps _ _ _ c.requires.unrolled c.as_slice-states.ensures c.index-states-steps.is

pub returns-clause-truth : goal.returns-clause-truth
returns-clause-truth c = goal_there c.args.f.now c.args.k _ _ c.args.run.now c.index-states-steps.result _ c.requires.there c.in_ok-t.ensures.ok

pub returns-clause-goal : goal.returns-clause-goal
returns-clause-goal c = goal_all c.args.f.now c.args.k c.args.steps _ _ c.args.run.now _ c.index-states-steps.result _ c.requires.unrolled c.as_slice-states.ensures c.index-states-steps.is c.in_ok-t.ensures.ok

pub returns-clause-traces : goal.returns-clause-traces
returns-clause-traces c =
    obligation_all c.args.f.now c.args.run.now.start c.args.k c.args.steps _ _ c.requires.sound c.requires.there c.requires.single
    (goal_all c.args.f.now c.args.k c.args.steps _ _ c.args.run.now _ c.index-states-steps.result _ c.requires.unrolled c.as_slice-states.ensures c.index-states-steps.is c.in_ok-t.ensures.ok)

pub returns-clause-known : goal.returns-clause-known
returns-clause-known c = goal_known c.args.f.now _ _ c.args.steps c.args.run.now _ c.index-states-steps.result _ c.requires.unrolled c.as_slice-states.ensures c.index-states-steps.is c.in_ok-t.ensures.known
