use Rattle.std.proofs.Common.{arith, refl, ap, subst, ◌∙◌, ◌≡◌, ◌<◌, ◌≤◌, length, get_or, List, Bool, true, false}
use Rattle.std.specs.Prelude.{All}
use Rattle.std.proofs.Math.ListN.{set}
use Rattle.std.proofs.lemmas.List.{length-set, take_all}
use Rattle.std.proofs.lemmas.List.Elements.{All-more}
use Rattle.uc_circuit.specs.declared.literal.Lit.{Lit}
use Rattle.uc_learner.proofs.Marks.{marked_here, marked_stays}
use Rattle.uc_learner.proofs.analysis.mark.Goals as goal

pub index_mut-requires : goal.index_mut-requires
index_mut-requires c =
    let first : Lit = record { var = 0; neg = false } in
    omega (arith, c.requires c.loop-literal.literal-index first c.loop-literal-test.true, c.loop-literal.invariant.same_length, c.loop-literal.marked.ok.0)

pub loop-literal-init : goal.loop-literal-init
loop-literal-init c = record { same_length = refl; grows = λ x is. is; all = λ k d h. absurd (omega (arith, h)) }

pub loop-literal-preserved : goal.loop-literal-preserved
loop-literal-preserved c =
    let first : Lit = record { var = 0; neg = false } in
    let marks : List Bool = c.loop-literal.marked.items in
    let literal : Lit = get_or c.args.clause.now c.loop-literal.literal-index first in
    let inside : literal.var < length marks = omega (arith, c.requires c.loop-literal.literal-index first c.loop-literal-test.true, c.loop-literal.invariant.same_length) in
    record {
      same_length = length-set marks literal.var true ∙ c.loop-literal.invariant.same_length;
      grows = λ x is. marked_stays marks literal.var x inside (c.loop-literal.invariant.grows x is);
      all =
          All-more (λ (l : Lit). get_or (set marks literal.var true) l.var false ≡ true) c.args.clause.now c.loop-literal.literal-index first c.loop-literal-test.true
          (λ k d h. marked_stays marks literal.var _ inside (c.loop-literal.invariant.all k d h))
          (marked_here marks literal.var inside);
    }

pub returns-clause-all : goal.returns-clause-all
returns-clause-all c =
    let le : length c.args.clause.now ≤ c.loop-literal.literal-index = omega (arith, c.loop-literal-test.false) in
    subst (λ (xs : List Lit). All (λ (l : Lit). get_or c.loop-literal.marked.items l.var false ≡ true) xs)
    (take_all c.loop-literal.literal-index c.args.clause.now le) c.loop-literal.invariant.all
