use Rattle.std.proofs.Common.{sym, ◌∙◌, ◌≡◌, Bool}
use Rattle.uc_learner.proofs.Narrow.{none_from}
use Rattle.uc_learner.proofs.Visiting.{next_place, visiting_start, visiting_listed, visiting_at, visiting_next, visited_conflict, visited_all}
use Rattle.uc_learner.proofs.state.State.visit.Goals as goal

pub first-at-requires : goal.first-at-requires
first-at-requires c = next_place c.args.self.now c.args.literal c.requires.ready c.requires.next

pub loop-at-init : goal.loop-at-init
loop-at-init c = visiting_start c.args.self.now c.args.literal _ c.requires.ready c.requires.waiting c.requires.next c.first-at.ensures.first c.first-at.ensures.apart

pub after-at-requires : goal.after-at-requires
after-at-requires c = visiting_listed c.args.self.now c.loop-at.self c.args.literal c.loop-at.at c.in-Some.slot c.loop-at.invariant c.in-Some.is

pub mend-requires-clause-ready : goal.mend-requires-clause-ready
mend-requires-clause-ready c = c.loop-at.invariant.gone.onward.ready

pub mend-requires-clause-at_false : goal.mend-requires-clause-at_false
mend-requires-clause-at_false c = visiting_at c.args.self.now c.loop-at.self c.args.literal c.loop-at.at c.in-Some.slot c.requires.ready c.requires.next c.loop-at.invariant c.in-Some.is

pub returns-then-mend : goal.returns-then-mend
returns-then-mend c =
    visited_conflict c.args.self.now c.loop-at.self c.mend.new.self c.args.literal c.loop-at.at c.in-Some.slot c.mend.result c.loop-at.invariant c.mend.ensures c.if-mend.true

pub loop-at-preserved : goal.loop-at-preserved
loop-at-preserved c =
    (visiting_next c.args.self.now c.loop-at.self c.mend.new.self c.args.literal c.loop-at.at c.after-at.result c.in-Some.slot c.mend.result
    c.requires.ready c.requires.next c.loop-at.invariant c.in-Some.is c.after-at.ensures.apart c.after-at.ensures.after c.mend.ensures c.if-mend.false).visiting

pub loop-at-smaller : goal.loop-at-smaller
loop-at-smaller c =
    (visiting_next c.args.self.now c.loop-at.self c.mend.new.self c.args.literal c.loop-at.at c.after-at.result c.in-Some.slot c.mend.result
    c.requires.ready c.requires.next c.loop-at.invariant c.in-Some.is c.after-at.ensures.apart c.after-at.ensures.after c.mend.ensures c.if-mend.false).fewer

pub returns : goal.returns
returns c = visited_all c.args.self.now c.loop-at.self c.args.literal c.loop-at.at c.requires.next c.loop-at.invariant (none_from c.loop-at.at c.in_default.not-Some)
