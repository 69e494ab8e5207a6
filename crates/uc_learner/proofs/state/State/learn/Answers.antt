use Rattle.std.proofs.Common.{arith, refl, ap, ◌∙◌, ◌≡◌, ◌++◌, ◌∷◌, [], false, length, get_or, Some}
use Rattle.std.proofs.lemmas.Grind.{common_steps}
use Rattle.std.proofs.lemmas.List.{get_or_default}
use Rattle.uc_circuit.specs.declared.literal.Lit.{Lit}
use Rattle.uc_learner.proofs.Taught.{TakenOver, learned_by, asserted_inside, cut_linked, cut_places, cut_room}
use Rattle.uc_learner.proofs.state.State.learn.Goals as goal

pub add-requires-clause-linked : goal.add-requires-clause-linked
add-requires-clause-linked c = cut_linked c.args.self.now c.cut.new.self c.args.target c.requires.ready c.cut.ensures.cut

pub add-requires-clause-within : goal.add-requires-clause-within
add-requires-clause-within c = cut_places c.args.self.now c.cut.new.self c.args.clause.now c.args.target c.requires.ready c.requires.taught c.cut.ensures.cut

pub push-requires-2-clause-inside : goal.push-requires-2-clause-inside
push-requires-2-clause-inside c =
    let none : Lit = record { var = 0; neg = false } in
    asserted_inside c.args.self.now c.cut.new.self c.args.clause.now (get_or c.args.clause.now 0 none) c.args.target c.requires.some c.requires.taught c.cut.ensures.cut
    (get_or_default c.args.clause.now 0 none (get_or c.args.clause.now 0 none) c.requires.some)

pub push-requires-2-clause-room : goal.push-requires-2-clause-room
push-requires-2-clause-room c = cut_room c.args.self.now c.cut.new.self c.args.clause.now c.args.target c.requires.ready c.requires.some c.requires.taught c.cut.ensures.cut

pub returns-clause-learned : goal.returns-clause-learned
returns-clause-learned c =
    let none : Lit = record { var = 0; neg = false } in
    (learned_by c.args.self.now c.cut.new.self _ c.push-2.new.self c.args.clause.now _ c.args.target c.requires.ready c.requires.some c.requires.taught c.cut.ensures.cut c.cut.ensures.head
    (c.in_ok-push.ensures.items ∙ ap (λ k. c.cut.new.self.clauses.items ++ k ∷ []) c.in_ok-copy.ensures) refl refl refl refl refl c.in_ok-add.ensures.linked c.in_ok-add.ensures.added c.push-2.ensures
    (get_or_default c.args.clause.now 0 none (get_or c.args.clause.now 0 none) c.requires.some)
    (let e : c.len-number.result ≡ length c.args.self.now.clauses.items = grind (arith, common_steps) in ap (λ k. Some k) e)
    (grind (arith, common_steps))).held

pub returns-clause-waiting : goal.returns-clause-waiting
returns-clause-waiting c =
    let none : Lit = record { var = 0; neg = false } in
    (learned_by c.args.self.now c.cut.new.self _ c.push-2.new.self c.args.clause.now _ c.args.target c.requires.ready c.requires.some c.requires.taught c.cut.ensures.cut c.cut.ensures.head
    (c.in_ok-push.ensures.items ∙ ap (λ k. c.cut.new.self.clauses.items ++ k ∷ []) c.in_ok-copy.ensures) refl refl refl refl refl c.in_ok-add.ensures.linked c.in_ok-add.ensures.added c.push-2.ensures
    (get_or_default c.args.clause.now 0 none (get_or c.args.clause.now 0 none) c.requires.some)
    (let e : c.len-number.result ≡ length c.args.self.now.clauses.items = grind (arith, common_steps) in ap (λ k. Some k) e)
    (grind (arith, common_steps))).waiting
