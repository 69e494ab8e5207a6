use Rattle.std.proofs.Common.{sym, arith, length, List, get_or, subst, true, false, ◌≡◌, ◌<◌, []}
use Rattle.std.specs.Prelude.{All}
use Rattle.uc_circuit.specs.declared.literal.Lit.{Lit}
use Rattle.std.proofs.lemmas.Grind.{common_steps}
use Rattle.uc_learner.proofs.Walking.{walked_resolved_by, walked_unneeded, walked_first_by, walked_more_by, walked_retargeted, step_inside, reason_inside, clause_read}
use Rattle.uc_learner.proofs.state.State.walk.Goals as goal

pub returns-in_ok-push-in-Some : goal.returns-in_ok-push-in-Some
returns-in_ok-push-in-Some c =
    walked_resolved_by _ _ _ _ _ c.args.analysis.now.kept.items _ _ _ _ c.requires.sound c.requires.inside c.index-step.ensures c.in-Some.is c.mark.ensures.same_length c.mark.ensures.grows
    (subst (λ (k : List Lit). All (λ l. get_or c.mark.new.marked.items l.var false ≡ true) k)
    (clause_read c.args.self.now c.in-Some.number _ _ (reason_inside _ _ _ _ c.requires.sound c.requires.inside c.index-step.ensures c.in-Some.is) c.index.ensures c.as_slice.ensures)
    c.mark.ensures.all)
    c.in_ok-push-in-Some.ensures.items c.requires.before

pub returns-else-needed : goal.returns-else-needed
returns-else-needed c = walked_unneeded _ _ _ _ _ _ _ c.requires.sound c.requires.inside c.index-step.ensures (cc) (λ none _. absurd (cc (none, c.in-Some.is))) c.requires.before

pub returns-in_ok-push-in-Some-2 : goal.returns-in_ok-push-in-Some-2
returns-in_ok-push-in-Some-2 c =
    walked_more_by _ _ _ _ _ _ _ _ c.requires.sound c.requires.inside c.index-step.ensures (grind (arith, common_steps)) (grind (arith, common_steps)) c.requires.before

pub returns-else-needed-2 : goal.returns-else-needed-2
returns-else-needed-2 c = walked_unneeded _ _ _ _ _ _ _ c.requires.sound c.requires.inside c.index-step.ensures (cc) (λ none _. absurd (cc (none, c.in-Some-2.is))) c.requires.before

pub returns-in_ok-push-in-None : goal.returns-in_ok-push-in-None
returns-in_ok-push-in-None c =
    walked_first_by _ _ _ _ _ _ _ _ c.requires.sound c.requires.inside c.index-step.ensures c.in-None.is (grind (arith, common_steps)) (grind (arith, common_steps)) c.requires.before

pub returns-in_ok-push-in-None-2 : goal.returns-in_ok-push-in-None-2
returns-in_ok-push-in-None-2 c =
    walked_more_by _ _ _ _ _ _ _ _ c.requires.sound c.requires.inside c.index-step.ensures (grind (arith, common_steps)) (grind (arith, common_steps)) c.requires.before

pub returns-then-len-eq1 : goal.returns-then-len-eq1
returns-then-len-eq1 c = walked_retargeted _ _ _ _ _ _ _ c.requires.sound c.requires.inside c.index-step.ensures c.in-None.is (cc) (grind (arith, common_steps)) c.requires.before

pub returns-else-len-eq1 : goal.returns-else-len-eq1
returns-else-len-eq1 c =
    walked_unneeded _ _ _ _ _ _ _ c.requires.sound c.requires.inside c.index-step.ensures (cc) (λ _ one. absurd (grind (arith, common_steps, one))) c.requires.before

pub index-needed-requires : goal.index-needed-requires
index-needed-requires c = let h : c.index-step.result.now.literal.var < length c.args.self.now.inputs.items = step_inside _ _ _ c.requires.sound c.requires.inside c.index-step.ensures in let e : length c.args.analysis.now.marked.items ≡ length c.args.self.now.inputs.items = c.requires.before.marks_cover in grind (arith, common_steps)

pub index-requires : goal.index-requires
index-requires c = let h : c.in-Some.number < length c.args.self.now.clauses.items = reason_inside _ _ _ _ c.requires.sound c.requires.inside c.index-step.ensures c.in-Some.is in grind (arith, common_steps)

pub mark-requires : goal.mark-requires
mark-requires c =
    let inside : c.in-Some.number < length c.args.self.now.clauses.items = reason_inside _ _ _ _ c.requires.sound c.requires.inside c.index-step.ensures c.in-Some.is in
    let same : c.as_slice.result.now ≡ get_or c.args.self.now.clauses.items c.in-Some.number [] = clause_read c.args.self.now c.in-Some.number _ _ inside c.index.ensures c.as_slice.ensures in
    let all : All (λ (l : Lit). l.var < length c.args.self.now.inputs.items) c.as_slice.result.now =
    subst (λ (k : List Lit). All (λ (l : Lit). l.var < length c.args.self.now.inputs.items) k) (sym same) (c.requires.sound.within c.in-Some.number [] inside) in
    λ k d h. omega (arith, all k d h, c.requires.before.marks_cover)
