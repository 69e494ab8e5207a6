use Rattle.std.proofs.Common.{arith, refl, sym, ap, subst, ◌∙◌, ◌≡◌, ◌<◌, length, get_or, Bool, List, Option, [], true, false}
use Rattle.std.specs.Prelude.{All, Contains}
use Rattle.std.proofs.lemmas.Grind.{common_steps}
use Rattle.uc_circuit.specs.declared.literal.Lit.{Lit}
use Rattle.uc_circuit.specs.Values.{Forces, IsFalsified, IsSettled}
use Rattle.uc_rings.specs.Pairs.{HasTwo, HasTrue}
use Rattle.uc_rings.proofs.Guarding.{narrow_one, narrow_true}
use Rattle.uc_learner.specs.declared.state.State.{State}
use Rattle.uc_learner.specs.Moves.{Ready}
use Rattle.uc_learner.proofs.Walking.{clause_read}
use Rattle.uc_learner.proofs.Learning.{length-values}
use Rattle.uc_learner.proofs.Progress.{implied_inside, forced_room}
use Rattle.uc_learner.proofs.Queue.{gone_refl, gone_pushed, forced_true}
use Rattle.uc_learner.proofs.state.State.force.Goals as goal

narrow_here : (s : State) (n : Rattle.std.proofs.Common.ℕ) → Ready s → Contains s.watches.narrow.items n → (n < length s.clauses.items) × (HasTwo (get_or s.clauses.items n []) → ⊥)
narrow_here s n ready there = narrow_one s.clauses.items (length s.inputs.items) s.watches n ready.watched there

pub index-requires : goal.index-requires
index-requires c = let h : c.args.number < length c.args.self.now.clauses.items = (narrow_here c.args.self.now c.args.number c.requires.ready c.requires.narrow).0 in grind (arith, common_steps)

pub state_of-requires : goal.state_of-requires
state_of-requires c =
    let s : State = c.args.self.now in
    let inside : c.args.number < length s.clauses.items = (narrow_here s c.args.number c.requires.ready c.requires.narrow).0 in
    let same : c.as_slice.result.now ≡ get_or s.clauses.items c.args.number [] = clause_read s c.args.number _ _ inside c.index.ensures c.as_slice.ensures in
    let all : All (λ (l : Lit). l.var < length s.inputs.items) c.as_slice.result.now =
    subst (λ (k : List Lit). All (λ (l : Lit). l.var < length s.inputs.items) k) (sym same) (c.requires.ready.sound.within c.args.number [] inside) in
    let long : length c.as_slice-2.result.now ≡ length s.inputs.items = ap length c.as_slice-2.ensures.value ∙ length-values s c.requires.ready.sound in
    λ k d h. omega (arith, all k d h, long)

pub push-requires-clause-inside : goal.push-requires-clause-inside
push-requires-clause-inside c =
    let s : State = c.args.self.now in
    let inside : c.args.number < length s.clauses.items = (narrow_here s c.args.number c.requires.ready c.requires.narrow).0 in
    let same : c.as_slice.result.now ≡ get_or s.clauses.items c.args.number [] = clause_read s c.args.number _ _ inside c.index.ensures c.as_slice.ensures in
    let forces : Forces s.values.items c.as_slice.result.now c.in-Unit.literal = subst (λ (v : List (Option Bool)). Forces v c.as_slice.result.now c.in-Unit.literal) c.as_slice-2.ensures.value c.in-Unit.ensures in
    implied_inside s c.in-Unit.literal c.args.number c.requires.ready.sound inside (subst (λ (k : List Lit). Forces s.values.items k c.in-Unit.literal) same forces)

pub push-requires-clause-room : goal.push-requires-clause-room
push-requires-clause-room c =
    let s : State = c.args.self.now in
    let inside : c.args.number < length s.clauses.items = (narrow_here s c.args.number c.requires.ready c.requires.narrow).0 in
    let same : c.as_slice.result.now ≡ get_or s.clauses.items c.args.number [] = clause_read s c.args.number _ _ inside c.index.ensures c.as_slice.ensures in
    let forces : Forces s.values.items c.as_slice.result.now c.in-Unit.literal = subst (λ (v : List (Option Bool)). Forces v c.as_slice.result.now c.in-Unit.literal) c.as_slice-2.ensures.value c.in-Unit.ensures in
    forced_room s c.in-Unit.literal c.args.number c.requires.ready inside (subst (λ (k : List Lit). Forces s.values.items k c.in-Unit.literal) same forces)

pub returns-in-Falsified-clause-gone : goal.returns-in-Falsified-clause-gone
returns-in-Falsified-clause-gone c = gone_refl c.args.self.now c.requires.ready

pub returns-in-Falsified-clause-conflict : goal.returns-in-Falsified-clause-conflict
returns-in-Falsified-clause-conflict c = λ _.
    let s : State = c.args.self.now in
    let inside : c.args.number < length s.clauses.items = (narrow_here s c.args.number c.requires.ready c.requires.narrow).0 in
    let same : c.as_slice.result.now ≡ get_or s.clauses.items c.args.number [] = clause_read s c.args.number _ _ inside c.index.ensures c.as_slice.ensures in
    (inside, subst (IsFalsified s.values.items) same (subst (λ (v : List (Option Bool)). IsFalsified v c.as_slice.result.now) c.as_slice-2.ensures.value c.in-Falsified.ensures))

pub returns-in-Unit-clause-gone : goal.returns-in-Unit-clause-gone
returns-in-Unit-clause-gone c =
    let s : State = c.args.self.now in
    let inside : c.args.number < length s.clauses.items = (narrow_here s c.args.number c.requires.ready c.requires.narrow).0 in
    let same : c.as_slice.result.now ≡ get_or s.clauses.items c.args.number [] = clause_read s c.args.number _ _ inside c.index.ensures c.as_slice.ensures in
    let forces : Forces s.values.items c.as_slice.result.now c.in-Unit.literal = subst (λ (v : List (Option Bool)). Forces v c.as_slice.result.now c.in-Unit.literal) c.as_slice-2.ensures.value c.in-Unit.ensures in
    gone_pushed s c.push.new.self _ c.args.number c.requires.ready c.push.ensures refl inside (subst (λ (k : List Lit). Forces s.values.items k c.in-Unit.literal) same forces)

pub returns-in-Unit-clause-forced : goal.returns-in-Unit-clause-forced
returns-in-Unit-clause-forced c = λ _.
    let s : State = c.args.self.now in
    let inside : c.args.number < length s.clauses.items = (narrow_here s c.args.number c.requires.ready c.requires.narrow).0 in
    let same : c.as_slice.result.now ≡ get_or s.clauses.items c.args.number [] = clause_read s c.args.number _ _ inside c.index.ensures c.as_slice.ensures in
    let forces : Forces s.values.items c.as_slice.result.now c.in-Unit.literal = subst (λ (v : List (Option Bool)). Forces v c.as_slice.result.now c.in-Unit.literal) c.as_slice-2.ensures.value c.in-Unit.ensures in
    forced_true s c.push.new.self _ c.args.number c.requires.ready c.push.ensures inside (subst (λ (k : List Lit). Forces s.values.items k c.in-Unit.literal) same forces)

pub returns-in-Settled-clause-gone : goal.returns-in-Settled-clause-gone
returns-in-Settled-clause-gone c = gone_refl c.args.self.now c.requires.ready

pub returns-in-Settled-clause-forced : goal.returns-in-Settled-clause-forced
returns-in-Settled-clause-forced c = λ _.
    let s : State = c.args.self.now in
    let here : (c.args.number < length s.clauses.items) × (HasTwo (get_or s.clauses.items c.args.number []) → ⊥) = narrow_here s c.args.number c.requires.ready c.requires.narrow in
    let same : c.as_slice.result.now ≡ get_or s.clauses.items c.args.number [] = clause_read s c.args.number _ _ here.0 c.index.ensures c.as_slice.ensures in
    narrow_true s.values.items (get_or s.clauses.items c.args.number []) here.1
    (subst (IsSettled s.values.items) same (subst (λ (v : List (Option Bool)). IsSettled v c.as_slice.result.now) c.as_slice-2.ensures.value c.in-Settled.ensures))
