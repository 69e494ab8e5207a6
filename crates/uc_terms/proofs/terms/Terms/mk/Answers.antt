use Rattle.std.proofs.Common.{arith}
use Rattle.uc_terms.proofs.Grown.{types-valid}
use Rattle.uc_terms.proofs.Values.{grown_keeps}
use Rattle.uc_terms.proofs.Sharing.{Shares, shared, makes-value}
use Rattle.uc_terms.proofs.terms.Terms.mk.Goals as goal

pub new_node-requires-clause-valid : goal.new_node-requires-clause-valid
new_node-requires-clause-valid c = rw c.as_slice.ensures.keys (types-valid c.self.inside.nodes.keys c.args.parts.now c.self.invariant.well (rw c.self.view_is c.requires.there))

inside : (c : goal.After-new) → Shares c.self.inside.nodes.keys c.insert_full.new.self.keys c.in_ok-place.place c.args.op c.args.parts.now
inside c =
    let stored = c.in_ok-place.ensures.stored in
    shared c.self.inside.nodes.keys c.insert_full.new.self.keys c.args.op c.args.parts.now c.in_ok-node.node c.in_ok-place.place stored.0
    (rw c.as_slice.ensures.keys at c.in_ok-node.ensures.node) c.self.invariant.well (rw c.self.view_is c.requires.there) (rw c.self.view_is c.requires.suits)
    c.in_ok-place.ensures.keys stored.1 stored.2

made : (c : goal.After-new) → Shares c.args.self.now c.insert_full.new.self.keys c.new.result c.args.op c.args.parts.now
made c = rw (← c.self.view_is, c.new.ensures) (inside c)

pub invariant_of-self-2 : goal.invariant_of-self-2
invariant_of-self-2 c =
    record { well = (inside c).well; small = omega (arith, (inside c).short, rw c.as_slice.ensures.keys at c.in_ok-node.ensures.room) }

pub returns-clause-ok : goal.returns-clause-ok
returns-clause-ok c = (made c).makes

pub returns-clause-len : goal.returns-clause-len
returns-clause-len c = (made c).adds

pub returns-clause-value : goal.returns-clause-value
returns-clause-value c = makes-value c.args.self.now c.insert_full.new.self.keys c.new.result c.args.op c.args.parts.now (made c).well (made c).makes c.requires.there

pub returns-clause-kept : goal.returns-clause-kept
returns-clause-kept c = let grown = (made c).makes.grown in grown_keeps c.args.self.now c.insert_full.new.self.keys grown.0 grown.1
