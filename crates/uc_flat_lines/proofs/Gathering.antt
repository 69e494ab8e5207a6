-- Goals gathered into one term.
use Rattle.std.specs.Prelude.{◌≡◌, ℕ, ◌+◌, ◌<◌, ◌≤◌, Bool, true, false, not, ◌&&◌, List, length, slice_get, Option, Some, None, Result, Ok, IfOk}
use Rattle.std.proofs.Common.{refl, ap, ◌∙◌, subst, arith, inl, inr}
use Rattle.std.proofs.lemmas.Bool.Decides.{leb_tells}
use Rattle.uc_values.specs.declared.ty.Ty.TheVariants.{Bool as Truths}
use Rattle.uc_values.specs.declared.value.Value.TheVariants.{Bool as Truth}
use Rattle.uc_values.specs.Values.{truth_of}
use Rattle.uc_ops.specs.declared.model.Model.{Model}
use Rattle.uc_ops.specs.declared.node.Node.{Node}
use Rattle.uc_terms.specs.Values.{value}
use Rattle.uc_flat.specs.declared.flat.Flat.{Flat}
use Rattle.uc_flat.specs.declared.flat.Formula.{Formula}
use Rattle.uc_symstep.specs.Growing.{Grows, IsTerm}
use Rattle.uc_symstep.specs.Stands.{holds, IsTruth}
use Rattle.uc_symstep.proofs.Grown.{grows_not, grows_on, grows_value}
use Rattle.uc_flat_copies.specs.declared.trace.Start.{Start}
use Rattle.uc_obligations.specs.Goals.{IsObligation}
use Rattle.uc_flat_lines.specs.declared.line.FlatWhy.{FlatWhy}
use Rattle.uc_flat_lines.specs.Deciding.{IsSolution}
use Rattle.uc_flat_lines.specs.Joint.{IsMissed, AreUnrefuted, AreHit, AreMissed, FalseToo}
use Rattle.uc_flat_lines.proofs.Judged.{single_is}

none_and : (b : Bool) → (b && false) ≡ false
none_and true = refl
none_and false = refl

-- the conjunction is false where the given term is
pub given_false : (a b new : List Node) (given own all : ℕ) → IsTruth a given → Grows a b → IsTerm b new all Truths (λ m. Truth (truth_of (value m b given) && truth_of (value m b own))) → FalseToo a given new all
given_false a b new given own all t g made m h =
    ap truth_of (made.means m) ∙ ap (λ c. c && truth_of (value m b own)) (ap truth_of (grows_value a b g m given t.there) ∙ h)

-- and where the goal is true
goal_false : (a b new : List Node) (given goal own all : ℕ) (m : Model) → IsTerm a b own Truths (λ n. Truth (not (truth_of (value n a goal)))) → IsTerm b new all Truths (λ n. Truth (truth_of (value n b given) && truth_of (value n b own)))
    → holds m a goal ≡ true → holds m new all ≡ false
goal_false a b new given goal own all m negated made h =
    ap truth_of (made.means m)
    ∙ ap (λ c. truth_of (value m b given) && c) (ap truth_of (negated.means m) ∙ ap not h)
    ∙ none_and (truth_of (value m b given))

-- so it is false under a model of each trace that refutes the formula
pub goal_missed : (f : Flat) (start : Start) (n k : ℕ) (a b new : List Node) (given goal own all : ℕ) → ((x : Formula) → slice_get f.formulas k ≡ Some x → IsObligation f start x n a goal)
    → IsTerm a b own Truths (λ m. Truth (not (truth_of (value m a goal)))) → IsTerm b new all Truths (λ m. Truth (truth_of (value m b given) && truth_of (value m b own))) → IsMissed f start n new all k
goal_missed f start n k a b new given goal own all traces negated made x at single t r =
    let found = (traces x at).found t r in
    (found.0, goal_false a b new given goal own all found.0 negated made found.1)

-- a formula that does not speak of one copy is not asked
pub not_asked : (f : Flat) (start : Start) (n k : ℕ) (nodes : List Node) (term : ℕ) (x : Formula) → slice_get f.formulas k ≡ Some x → (x.copies ≡ 1 → ⊥) → IsMissed f start n nodes term k
not_asked f start n k nodes term x at other y there single t r = absurd (other (single_is f k y there single x at))

-- the goals of the first formulas
pub record Gathered (f : Flat) (start : Start) (n count : ℕ) (old now : List Node) (given none : ℕ) : Type 0 where
  pub grown : Grows old now
  pub truth : IsTruth now none
  pub kept : FalseToo old given now none
  pub missed : (k : ℕ) → k < count → IsMissed f start n now none k

pub gathered_begin : (f : Flat) (start : Start) (n : ℕ) (nodes : List Node) (given : ℕ) → IsTruth nodes given → Gathered f start n 0 nodes nodes given given
gathered_begin f start n nodes given t = record { grown = grows_not nodes nodes refl; truth = t; kept = λ m h. h; missed = λ k l. absurd (omega (arith, l)) }

pub gathered_turn : (f : Flat) (start : Start) (n count : ℕ) (old now new : List Node) (given none after : ℕ) → Grows now new → IsTruth new after → FalseToo now none new after → IsMissed f start n new after count
    → Gathered f start n count old now given none → Gathered f start n (count + 1) old new given after
gathered_turn f start n count old now new given none after g t kept own b = record {
  grown = grows_on old now new b.grown g;
  truth = t;
  kept = λ m h. kept m (b.kept m h);
  missed = λ k l. elim (leb_tells (k + 1) count) [
    | inl x ↦ earlier k (b.missed k (omega (arith, x.1)))
    | inr x ↦ let here : count ≡ k = omega (arith, x.1, l) in subst (IsMissed f start n new after) here own
  ];
}
  where
    earlier : (k : ℕ) → IsMissed f start n now none k → IsMissed f start n new after k
    earlier k h x at single trace r = let w = h x at single trace r in (w.0, kept w.0 w.1)

pub gathered_end : (f : Flat) (start : Start) (n count : ℕ) (old now : List Node) (given none : ℕ) → length f.formulas ≤ count → Gathered f start n count old now given none → AreMissed f start n now none
gathered_end f start n count old now given none l b k h = b.missed k (omega (arith, h, l))

-- its negation is true where it is false
pub all_hit : (f : Flat) (start : Start) (n : ℕ) (nodes new : List Node) (none any : ℕ) → AreMissed f start n nodes none → IsTerm nodes new any Truths (λ m. Truth (not (truth_of (value m nodes none)))) → AreHit f start n new any
all_hit f start n nodes new none any missed made k l x at single t r =
    let w = missed k l x at single t r in
    (w.0, ap truth_of (made.means w.0) ∙ ap not w.1)

-- where no model makes that true, no trace refutes a formula
pub all_unrefuted : (f : Flat) (start : Start) (n : ℕ) (nodes : List Node) (any : ℕ) → AreHit f start n nodes any → IsSolution nodes any None → AreUnrefuted f start n
all_unrefuted f start n nodes any hit never k l x at single t r = let w = hit k l x at single t r in never w.0 w.1

pub no_model_found : (nodes : List Node) (goal : ℕ) (r : Result (Option Model) FlatWhy) → IfOk r (IsSolution nodes goal) → r ≡ Ok None → IsSolution nodes goal None
no_model_found nodes goal r h e = subst (λ (o : Result (Option Model) FlatWhy). IfOk o (IsSolution nodes goal)) e h
