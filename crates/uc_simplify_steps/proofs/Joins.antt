-- Conjunctions and disjunctions.
use Rattle.std.specs.Prelude.{◌≡◌, ℕ, ◌<◌, Bool, true, false, ◌&&◌, ◌||◌, List, [], ◌∷◌, length, All}
use Rattle.std.proofs.Common.{refl, sym, ap, ◌∙◌, arith, subst, get_or}
use Rattle.std.proofs.lemmas.List.{get_or-map, length-map}
use Rattle.uc_values.specs.Values.{truth_of, nothing}
use Rattle.uc_values.specs.declared.ty.Ty.{Ty}
use Rattle.uc_values.specs.declared.ty.Ty.TheVariants.{Bool as Boolean}
use Rattle.uc_values.specs.declared.value.Value.TheVariants.{Bool as Holds}
use Rattle.uc_ops.specs.declared.model.Model.{Model}
use Rattle.uc_ops.specs.declared.op.Op.TheVariants.{Const, And, Or}
use Rattle.uc_ops.specs.declared.node.Node.{Node}
use Rattle.uc_ops.specs.Typing.{Suits, type_at, types_at}
use Rattle.uc_ops.specs.Meaning.{part}
use Rattle.uc_ops.proofs.Parts.{list_all-false, list_any-true}
use Rattle.uc_terms.specs.Tables.{WellTyped}
use Rattle.uc_terms.specs.Values.{value, values_at}
use Rattle.uc_terms.specs.Subterms.{itself}
use Rattle.uc_simplify_steps.specs.declared.step.Step.{Step}
use Rattle.uc_simplify_steps.specs.declared.step.Step.TheVariants.{Other}
use Rattle.uc_simplify_steps.specs.Steps.{IsKnown, IsRight, IsTruth}
use Rattle.uc_simplify_steps.proofs.Booleans.{boolean_value}
use Rattle.uc_simplify_steps.proofs.Twos.{truth_replaces}

-- the value of a part with a known truth
at_part : (nodes : List Node) (m : Model) (parts : List ℕ) (k p : ℕ) (b : Bool) → k < length parts → p ≡ get_or parts k p → IsTruth nodes p b → truth_of (part (values_at m nodes parts) k) ≡ b
at_part nodes m parts k p b h e t = ap truth_of (get_or-map (value m nodes) parts k p nothing h ∙ ap (value m nodes) (sym e) ∙ t m)

pub refuted_right : (nodes : List Node) (parts : List ℕ) (k p : ℕ) (step : Step) → k < length parts → p ≡ get_or parts k p → IsTruth nodes p false → step ≡ Other (Const Boolean (Holds false)) [] → IsRight nodes And parts step
refuted_right nodes parts k p step h e t s =
    truth_replaces nodes And parts false step refl
    (λ m. ap Holds (list_all-false truth_of (values_at m nodes parts) k (subst (λ n. k < n) (sym (length-map parts (value m nodes))) h) (at_part nodes m parts k p false h e t))) s

pub granted_right : (nodes : List Node) (parts : List ℕ) (k p : ℕ) (step : Step) → k < length parts → p ≡ get_or parts k p → IsTruth nodes p true → step ≡ Other (Const Boolean (Holds true)) [] → IsRight nodes Or parts step
granted_right nodes parts k p step h e t s =
    truth_replaces nodes Or parts true step refl
    (λ m. ap Holds (list_any-true truth_of (values_at m nodes parts) k (subst (λ n. k < n) (sym (length-map parts (value m nodes))) h) (at_part nodes m parts k p true h e t))) s

all_alone : (b : Bool) → Holds b ≡ Holds (b && true)
all_alone true = refl
all_alone false = refl

any_alone : (b : Bool) → Holds b ≡ Holds (b || false)
any_alone true = refl
any_alone false = refl

first_boolean : (s : Ty) → All (λ t. t ≡ Boolean) (s ∷ []) → s ≡ Boolean
first_boolean s h = h 0 Boolean (omega arith)

pub alone_all : (nodes : List Node) (a : ℕ) → WellTyped nodes → a < length nodes → Suits And (types_at nodes (a ∷ [])) → IsKnown nodes a And (a ∷ [])
alone_all nodes a w h s =
    let ty = first_boolean (type_at nodes a) s.1 in
    record {
      there = h;
      same = λ m. let r = boolean_value m nodes a w h ty in r.1 ∙ all_alone r.0 ∙ ap (λ v. Holds (truth_of v && true)) (sym r.1);
      ty = ty;
      below = record { root = a; listed = (0, omega arith, refl); below = itself };
    }

pub alone_any : (nodes : List Node) (a : ℕ) → WellTyped nodes → a < length nodes → Suits Or (types_at nodes (a ∷ [])) → IsKnown nodes a Or (a ∷ [])
alone_any nodes a w h s =
    let ty = first_boolean (type_at nodes a) s.1 in
    record {
      there = h;
      same = λ m. let r = boolean_value m nodes a w h ty in r.1 ∙ any_alone r.0 ∙ ap (λ v. Holds (truth_of v || false)) (sym r.1);
      ty = ty;
      below = record { root = a; listed = (0, omega arith, refl); below = itself };
    }
