use Rattle.std.proofs.Common.{arith, refl, ap, ◌∙◌, ◌≡◌, ◌+◌, ◌*◌, ◌/◌, ◌<◌, length, None, Some}
use Rattle.std.proofs.lemmas.List.Elements.{All-contains}
use Rattle.uc_circuit.specs.declared.literal.Lit.{Lit}
use Rattle.uc_rings.specs.Lists.{Lists, place_of, with_front}
use Rattle.uc_rings.proofs.Linking.{fresh_grown, linked_narrow, linked_pair}
use Rattle.uc_rings.proofs.Adding.{watches_none, watches_two}
use Rattle.uc_rings.proofs.watches.Watches.add.Goals as goal

pub add_pair-requires-clause-fresh : goal.add_pair-requires-clause-fresh
add_pair-requires-clause-fresh c =
    let half : c.len-number.result / 2 ≡ length c.args.self.now.watched.items / 2 = omega (arith, c.len-number.ensures) in
    fresh_grown c.requires.linked.clauses c.requires.linked.variables c.args.self.now _ _ _ _ c.requires.linked.linked c.in_ok-grow.ensures.ok half

pub returns-in_ok-add_narrow-in-None-clause-linked : goal.returns-in_ok-add_narrow-in-None-clause-linked
returns-in_ok-add_narrow-in-None-clause-linked c = λ cs n linked.
    let number : c.len-number.result / 2 ≡ length cs = omega (arith, linked.slots, c.len-number.ensures) in
    linked_narrow cs n c.args.clause.now c.args.self.now c.add_narrow.new.self (c.len-number.result / 2) linked number c.in-None.ensures.two
    c.in_ok-add_narrow-in-None.ensures.watched c.in_ok-add_narrow-in-None.ensures.narrow (c.in_ok-add_narrow-in-None.ensures.rings ∙ c.in_ok-grow.ensures.ok) c.in_ok-add_narrow-in-None.ensures.literals

pub returns-in_ok-add_pair-in-Some-clause-linked : goal.returns-in_ok-add_pair-in-Some-clause-linked
returns-in_ok-add_pair-in-Some-clause-linked c = λ cs n linked.
    let number : c.len-number.result / 2 ≡ length cs = omega (arith, linked.slots, c.len-number.ensures) in
    linked_pair cs n c.args.clause.now c.in-Some.first c.in-Some.second c.args.self.now c.add_pair.new.self (c.len-number.result / 2) linked number c.in-Some.ensures.two
    (All-contains (λ (l : Lit). place_of l < c.args.self.now.literals) c.args.clause.now c.in-Some.first c.requires.within c.in-Some.ensures.two.0)
    (All-contains (λ (l : Lit). place_of l < c.args.self.now.literals) c.args.clause.now c.in-Some.second c.requires.within c.in-Some.ensures.two.1)
    c.in_ok-add_pair-in-Some.ensures.watched c.in_ok-add_pair-in-Some.ensures.narrow
    (c.in_ok-add_pair-in-Some.ensures.rings ∙ ap (λ (r : Lists). with_front (with_front r c.in-Some.first (2 * (c.len-number.result / 2))) c.in-Some.second (2 * (c.len-number.result / 2) + 1)) c.in_ok-grow.ensures.ok)
    c.in_ok-add_pair-in-Some.ensures.literals

pub returns-in_ok-add_narrow-in-None-clause-added : goal.returns-in_ok-add_narrow-in-None-clause-added
returns-in_ok-add_narrow-in-None-clause-added c = record {
  first = None;
  second = None;
  is = c.in_ok-add_narrow-in-None.ensures.watched;
  front = watches_none c.args.clause.now c.in-None.ensures.first;
}

pub returns-in_ok-add_pair-in-Some-clause-added : goal.returns-in_ok-add_pair-in-Some-clause-added
returns-in_ok-add_pair-in-Some-clause-added c = record {
  first = Some c.in-Some.first;
  second = Some c.in-Some.second;
  is = c.in_ok-add_pair-in-Some.ensures.watched;
  front = watches_two c.args.clause.now c.in-Some.first c.in-Some.second c.in-Some.ensures.first;
}
