use Rattle.std.proofs.Common.{arith, refl, sym, ap, subst, ◌∙◌, ◌≡◌, ◌≢◌, ◌<◌, ◌/◌, length, get_or, Bool, List, Option, []}
use Rattle.std.specs.Prelude.{All, Contains}
use Rattle.uc_circuit.specs.declared.literal.Lit.{Lit}
use Rattle.uc_circuit.specs.Values.{Forces, IsFalse, IsFalsified}
use Rattle.uc_rings.specs.Pairs.{IsTrueIn}
use Rattle.uc_rings.proofs.WatchesSlots.{in_a_list}
use Rattle.uc_rings.proofs.Linking.{SlotOf}
use Rattle.uc_learner.specs.declared.state.State.{State}
use Rattle.uc_learner.proofs.Walking.{clause_read}
use Rattle.uc_learner.proofs.Learning.{length-values}
use Rattle.uc_learner.proofs.Progress.{implied_inside, forced_room}
use Rattle.uc_learner.proofs.Queue.{look_at, look_none, other_inside, mended_stays, mended_conflict, mended_pushed, mended_moved}
use Rattle.uc_learner.proofs.state.State.mend.Goals as goal

pub index-requires : goal.index-requires
index-requires c =
    let inside : c.partner.result < length c.args.self.now.watches.watched.items = other_inside c.args.self.now c.args.slot _ c.requires.ready c.requires.at_false c.partner.ensures in
    omega (arith, inside, c.args.self.now.watches.watched.ok.0)

pub returns-in_default : goal.returns-in_default
returns-in_default c = absurd (look_none c.args.self.now c.args.slot _ _ c.requires.ready c.requires.at_false c.partner.ensures c.index.ensures c.in_default.not-Some)

pub index-requires-2 : goal.index-requires-2
index-requires-2 c =
    let s : State = c.args.self.now in
    let slots : SlotOf s.clauses.items s.watches.watched.items c.args.slot c.requires.at_false.literal c.in-Some.other =
    look_at s c.args.slot _ _ c.in-Some.other c.requires.ready c.requires.at_false c.partner.ensures c.index.ensures c.in-Some.is in
    omega (arith, slots.inside, s.clauses.ok.0)

pub fate_of-requires-clause-within : goal.fate_of-requires-clause-within
fate_of-requires-clause-within c =
    let s : State = c.args.self.now in
    let slots : SlotOf s.clauses.items s.watches.watched.items c.args.slot c.requires.at_false.literal c.in-Some.other =
    look_at s c.args.slot _ _ c.in-Some.other c.requires.ready c.requires.at_false c.partner.ensures c.index.ensures c.in-Some.is in
    let same : c.as_slice.result.now ≡ get_or s.clauses.items (c.args.slot / 2) [] = clause_read s (c.args.slot / 2) _ _ slots.inside c.index-2.ensures c.as_slice.ensures in
    let all : All (λ (l : Lit). l.var < length s.inputs.items) c.as_slice.result.now =
    subst (λ (k : List Lit). All (λ (l : Lit). l.var < length s.inputs.items) k) (sym same) (c.requires.ready.sound.within (c.args.slot / 2) [] slots.inside) in
    let long : length c.as_slice-2.result.now ≡ length s.inputs.items = ap length c.as_slice-2.ensures.value ∙ length-values s c.requires.ready.sound in
    λ k d h. omega (arith, all k d h, long)

pub fate_of-requires-clause-other : goal.fate_of-requires-clause-other
fate_of-requires-clause-other c =
    let s : State = c.args.self.now in
    let slots : SlotOf s.clauses.items s.watches.watched.items c.args.slot c.requires.at_false.literal c.in-Some.other =
    look_at s c.args.slot _ _ c.in-Some.other c.requires.ready c.requires.at_false c.partner.ensures c.index.ensures c.in-Some.is in
    subst (λ (k : List Lit). Contains k c.in-Some.other) (sym (clause_read s (c.args.slot / 2) _ _ slots.inside c.index-2.ensures c.as_slice.ensures)) slots.other_there

pub move_slot-requires-clause-stands : goal.move_slot-requires-clause-stands
move_slot-requires-clause-stands c =
    in_a_list c.args.self.now.watches.rings c.requires.at_false.literal c.args.slot (c.requires.ready.watched.stands c.args.slot c.requires.at_false.literal c.requires.at_false.watched)

pub push-requires-clause-inside : goal.push-requires-clause-inside
push-requires-clause-inside c =
    let s : State = c.args.self.now in
    let slots : SlotOf s.clauses.items s.watches.watched.items c.args.slot c.requires.at_false.literal c.in-Some.other =
    look_at s c.args.slot _ _ c.in-Some.other c.requires.ready c.requires.at_false c.partner.ensures c.index.ensures c.in-Some.is in
    let same : c.as_slice.result.now ≡ get_or s.clauses.items (c.args.slot / 2) [] = clause_read s (c.args.slot / 2) _ _ slots.inside c.index-2.ensures c.as_slice.ensures in
    let forces : Forces s.values.items c.as_slice.result.now c.in-Implies.literal = subst (λ (v : List (Option Bool)). Forces v c.as_slice.result.now c.in-Implies.literal) c.as_slice-2.ensures.value c.in-Implies.ensures.0 in
    implied_inside s c.in-Implies.literal (c.args.slot / 2) c.requires.ready.sound slots.inside (subst (λ (k : List Lit). Forces s.values.items k c.in-Implies.literal) same forces)

pub push-requires-clause-room : goal.push-requires-clause-room
push-requires-clause-room c =
    let s : State = c.args.self.now in
    let slots : SlotOf s.clauses.items s.watches.watched.items c.args.slot c.requires.at_false.literal c.in-Some.other =
    look_at s c.args.slot _ _ c.in-Some.other c.requires.ready c.requires.at_false c.partner.ensures c.index.ensures c.in-Some.is in
    let same : c.as_slice.result.now ≡ get_or s.clauses.items (c.args.slot / 2) [] = clause_read s (c.args.slot / 2) _ _ slots.inside c.index-2.ensures c.as_slice.ensures in
    let forces : Forces s.values.items c.as_slice.result.now c.in-Implies.literal = subst (λ (v : List (Option Bool)). Forces v c.as_slice.result.now c.in-Implies.literal) c.as_slice-2.ensures.value c.in-Implies.ensures.0 in
    forced_room s c.in-Implies.literal (c.args.slot / 2) c.requires.ready slots.inside (subst (λ (k : List Lit). Forces s.values.items k c.in-Implies.literal) same forces)

pub returns-in-Stays : goal.returns-in-Stays
returns-in-Stays c =
    let s : State = c.args.self.now in
    let slots : SlotOf s.clauses.items s.watches.watched.items c.args.slot c.requires.at_false.literal c.in-Some.other =
    look_at s c.args.slot _ _ c.in-Some.other c.requires.ready c.requires.at_false c.partner.ensures c.index.ensures c.in-Some.is in
    mended_stays s c.args.slot c.in-Some.other c.requires.ready slots.partner
    (subst (λ (v : List (Option Bool)). IsTrueIn v c.in-Some.other) c.as_slice-2.ensures.value c.in-Stays.ensures)

pub returns-in-Moves : goal.returns-in-Moves
returns-in-Moves c =
    let s : State = c.args.self.now in
    let slots : SlotOf s.clauses.items s.watches.watched.items c.args.slot c.requires.at_false.literal c.in-Some.other =
    look_at s c.args.slot _ _ c.in-Some.other c.requires.ready c.requires.at_false c.partner.ensures c.index.ensures c.in-Some.is in
    let same : c.as_slice.result.now ≡ get_or s.clauses.items (c.args.slot / 2) [] = clause_read s (c.args.slot / 2) _ _ slots.inside c.index-2.ensures c.as_slice.ensures in
    mended_moved s _ c.args.slot c.requires.at_false.literal c.in-Some.other c.in-Moves.to c.requires.ready c.requires.at_false.watched c.requires.at_false.is_false slots
    (subst (λ (k : List Lit). Contains k c.in-Moves.to) same c.in-Moves.ensures.0) c.in-Moves.ensures.1
    (subst (λ (v : List (Option Bool)). IsFalse v c.in-Moves.to → ⊥) c.as_slice-2.ensures.value c.in-Moves.ensures.2)
    refl refl refl refl refl refl
    c.move_slot.ensures.watched c.move_slot.ensures.rings (ap (λ k. k.items) c.move_slot.ensures.narrow) c.move_slot.ensures.literals

pub returns-in-Implies : goal.returns-in-Implies
returns-in-Implies c =
    let s : State = c.args.self.now in
    let slots : SlotOf s.clauses.items s.watches.watched.items c.args.slot c.requires.at_false.literal c.in-Some.other =
    look_at s c.args.slot _ _ c.in-Some.other c.requires.ready c.requires.at_false c.partner.ensures c.index.ensures c.in-Some.is in
    let same : c.as_slice.result.now ≡ get_or s.clauses.items (c.args.slot / 2) [] = clause_read s (c.args.slot / 2) _ _ slots.inside c.index-2.ensures c.as_slice.ensures in
    let forces : Forces s.values.items c.as_slice.result.now c.in-Implies.literal = subst (λ (v : List (Option Bool)). Forces v c.as_slice.result.now c.in-Implies.literal) c.as_slice-2.ensures.value c.in-Implies.ensures.0 in
    mended_pushed s c.push.new.self c.args.slot c.in-Some.other _ c.requires.ready slots.partner c.push.ensures refl slots.inside
    (subst (λ (k : List Lit). Forces s.values.items k c.in-Implies.literal) same forces) c.in-Implies.ensures.1

pub returns-in-Conflict : goal.returns-in-Conflict
returns-in-Conflict c =
    let s : State = c.args.self.now in
    let slots : SlotOf s.clauses.items s.watches.watched.items c.args.slot c.requires.at_false.literal c.in-Some.other =
    look_at s c.args.slot _ _ c.in-Some.other c.requires.ready c.requires.at_false c.partner.ensures c.index.ensures c.in-Some.is in
    let same : c.as_slice.result.now ≡ get_or s.clauses.items (c.args.slot / 2) [] = clause_read s (c.args.slot / 2) _ _ slots.inside c.index-2.ensures c.as_slice.ensures in
    mended_conflict s c.args.slot c.requires.ready slots.inside
    (subst (IsFalsified s.values.items) same (subst (λ (v : List (Option Bool)). IsFalsified v c.as_slice.result.now) c.as_slice-2.ensures.value c.in-Conflict.ensures))
