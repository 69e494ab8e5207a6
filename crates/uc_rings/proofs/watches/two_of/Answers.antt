use Rattle.std.proofs.Common.{rules, arith, false, ◌≡◌, ◌≢◌, ℕ, ◌+◌, ◌<◌, ◌≤◌, List, [], ◌∷◌, Some, length, get_or, take, sym, ◌∙◌, subst}
use Rattle.std.specs.Prelude.{All}
use Rattle.std.proofs.lemmas.Grind.{common_steps}
use Rattle.std.proofs.lemmas.List.{get_or_default, take_all}
use Rattle.std.proofs.lemmas.List.Elements.{All-more}
use Rattle.uc_circuit.specs.declared.literal.Lit.{Lit}
use Rattle.uc_rings.proofs.Linking.{no_two}
use Rattle.uc_rings.proofs.Adding.{first_two_none, first_two_some}
use Rattle.uc_rings.proofs.watches.two_of.Goals as goal

pub returns-then-ne-clause-first : goal.returns-then-ne-clause-first
returns-then-ne-clause-first c =
    let none : Lit = record { var = 0; neg = false } in
    let h : c.loop-literal.literal-index < length c.args.clause.now = omega arith in
    let front : get_or c.args.clause.now 0 c.in_ok-first.field-0.now ≡ c.in_ok-first.field-0.now = grind (arith, common_steps) in
    let ne : get_or c.args.clause.now c.loop-literal.literal-index none ≢ c.in_ok-first.field-0.now = first_of (search rules, grind (arith, common_steps)) in
    first_two_some c.args.clause.now c.in_ok-first.field-0.now (get_or c.args.clause.now c.loop-literal.literal-index none) c.loop-literal.literal-index front c.loop-literal.invariant h
    (get_or_default c.args.clause.now c.loop-literal.literal-index none (get_or c.args.clause.now c.loop-literal.literal-index none) h) ne

pub loop-literal-preserved : goal.loop-literal-preserved
loop-literal-preserved c =
    let h : c.loop-literal.literal-index < length c.args.clause.now = omega arith in
    let same : get_or c.args.clause.now c.loop-literal.literal-index (record { var = 0; neg = false }) ≡ c.in_ok-first.field-0.now = first_of (search rules, grind (arith, common_steps), search (rules, common_steps)) in
    All-more (λ (m : Lit). m ≡ c.in_ok-first.field-0.now) c.args.clause.now c.loop-literal.literal-index (record { var = 0; neg = false }) h c.loop-literal.invariant same

pub returns-clause-two : goal.returns-clause-two
returns-clause-two c =
    no_two c.args.clause.now c.in_ok-first.field-0.now
    (subst (All (λ (m : Lit). m ≡ c.in_ok-first.field-0.now)) (take_all c.loop-literal.literal-index c.args.clause.now (omega arith)) c.loop-literal.invariant)

pub returns-clause-first : goal.returns-clause-first
returns-clause-first c =
    first_two_none c.args.clause.now c.in_ok-first.field-0.now
    (subst (All (λ (m : Lit). m ≡ c.in_ok-first.field-0.now)) (take_all c.loop-literal.literal-index c.args.clause.now (omega arith)) c.loop-literal.invariant)
