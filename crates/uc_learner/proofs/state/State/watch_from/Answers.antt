use Rattle.std.proofs.Common.{arith, refl, ap, subst, sym, ◌≡◌, ◌<◌, length, get_or, take, []}
use Rattle.std.proofs.lemmas.Grind.{common_steps}
use Rattle.uc_circuit.specs.declared.literal.Lit.{Lit}
use Rattle.uc_rings.specs.Watched.{Linked}
use Rattle.uc_learner.specs.declared.state.State.{State}
use Rattle.uc_learner.proofs.Linked.{watched_more, watched_to_end, places_within}
use Rattle.uc_learner.proofs.Progress.{sound_same}
use Rattle.uc_learner.proofs.Walking.{clause_read}
use Rattle.uc_learner.proofs.state.State.watch_from.Goals as goal

pub grow-requires-clause-linked : goal.grow-requires-clause-linked
grow-requires-clause-linked c = record { clauses = take c.args.first c.args.self.now.clauses.items; variables = c.requires.watched.variables; linked = c.requires.watched.linked }

pub grow-requires-clause-more : goal.grow-requires-clause-more
grow-requires-clause-more c = grind (arith, common_steps, c.requires.watched.linked.literals, c.requires.watched.fewer)

pub loop-number-init : goal.loop-number-init
loop-number-init c = record {
  watched =
      subst (λ n. Linked (take c.args.first c.args.self.now.clauses.items) n c.grow.new.self) (grind (arith, common_steps))
      (c.in_ok-grow.ensures (take c.args.first c.args.self.now.clauses.items) c.requires.watched.variables c.requires.watched.linked);
  clauses = refl;
  inputs = refl;
  values = refl;
  trail = refl;
  head = refl;
  capacity = refl;
}

pub add-requires-clause-linked : goal.add-requires-clause-linked
add-requires-clause-linked c = record { clauses = take c.loop-number.number c.loop-number.self.clauses.items; variables = length c.loop-number.self.inputs.items; linked = c.loop-number.invariant.watched }

pub add-requires-clause-within : goal.add-requires-clause-within
add-requires-clause-within c =
    let s : State = c.loop-number.self in
    let inv = c.loop-number.invariant in
    let inside : c.loop-number.number < length s.clauses.items = grind (arith, common_steps, ap length c.loop-number.invariant.clauses) in
    places_within s.clauses.items (take c.loop-number.number s.clauses.items) (length s.inputs.items) s.watches c.loop-number.number c.as_slice.result.now
    (sound_same c.args.self.now s inv.inputs inv.clauses inv.values inv.trail c.requires.sound).within inside
    (clause_read s c.loop-number.number _ _ inside c.index.ensures c.as_slice.ensures) inv.watched

pub loop-number-preserved : goal.loop-number-preserved
loop-number-preserved c =
    let s : State = c.loop-number.self in
    let inv = c.loop-number.invariant in
    let inside : c.loop-number.number < length s.clauses.items = grind (arith, common_steps, ap length c.loop-number.invariant.clauses) in
    record {
      watched =
          watched_more s.clauses.items (length s.inputs.items) s.watches c.add.new.self c.loop-number.number c.as_slice.result.now inside
          (clause_read s c.loop-number.number _ _ inside c.index.ensures c.as_slice.ensures) c.in_ok-add.ensures.linked inv.watched;
      clauses = inv.clauses;
      inputs = inv.inputs;
      values = inv.values;
      trail = inv.trail;
      head = inv.head;
      capacity = inv.capacity;
    }

pub returns : goal.returns
returns c =
    let s : State = c.loop-number.self in
    let inv = c.loop-number.invariant in
    record {
      clauses = inv.clauses;
      inputs = inv.inputs;
      values = inv.values;
      trail = inv.trail;
      head = inv.head;
      capacity = inv.capacity;
      watched = watched_to_end s.clauses.items (length s.inputs.items) s.watches c.loop-number.number (grind (arith, common_steps, ap length c.loop-number.invariant.clauses)) inv.watched;
    }
