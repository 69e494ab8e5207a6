-- Negations and conditionals.
use Rattle.std.specs.Prelude.{◌≡◌, ℕ, ◌<◌, Bool, true, false, not, cond, IsTrue, List, [], ◌∷◌, length, All, Contains}
use Rattle.std.proofs.Common.{refl, sym, ap, ◌∙◌, arith, subst, get_or}
use Rattle.std.proofs.lemmas.List.Elements.{All-nil, All-cons, All-head}
use Rattle.uc_values.specs.Values.{fits, truth_of}
use Rattle.uc_values.specs.declared.ty.Ty.{Ty}
use Rattle.uc_values.specs.declared.ty.Ty.TheVariants.{Bool as Boolean}
use Rattle.uc_values.specs.declared.value.Value.{Value}
use Rattle.uc_values.specs.declared.value.Value.TheVariants.{Bool as Holds}
use Rattle.uc_values.proofs.Fitting.{IsBoolean-fits}
use Rattle.uc_ops.specs.declared.model.Model.{Model}
use Rattle.uc_ops.specs.declared.op.Op.TheVariants.{Not, Ite}
use Rattle.uc_ops.specs.declared.node.Node.{Node}
use Rattle.uc_ops.specs.Typing.{Suits, type_of, type_at, types_at}
use Rattle.uc_ops.specs.Meaning.{apply}
use Rattle.uc_terms.specs.Tables.{WellTyped, HasOp, parts_at}
use Rattle.uc_terms.specs.Values.{value, values_at}
use Rattle.uc_terms.specs.Subterms.{itself, deeper, IsBelow}
use Rattle.uc_terms.proofs.Grown.{type-node, parts-node}
use Rattle.uc_terms.proofs.Values.{value-node}
use Rattle.uc_terms.proofs.Fitting.{value-fits}
use Rattle.uc_simplify_steps.specs.Steps.{IsKnown, Replaces, IsConstant, IsTruth, IsNegation}
use Rattle.uc_simplify_steps.proofs.Features.{node_of_op}
use Rattle.uc_simplify_steps.proofs.Steps.{plain_replaces}

pub truth_found : (nodes : List Node) (t : ℕ) (v : Value) (b : Bool) → IsConstant nodes t v → v ≡ Holds b → IsTruth nodes t b
truth_found nodes t v b c e m = c.same m ∙ e

-- the value of a boolean term is a truth
pub boolean_value : (m : Model) (nodes : List Node) (t : ℕ) → WellTyped nodes → t < length nodes → type_at nodes t ≡ Boolean → (b : Bool) × (value m nodes t ≡ Holds b)
boolean_value m nodes t w h e =
    let r = IsBoolean-fits (value m nodes t) (subst (λ ty. IsTrue (fits ty (value m nodes t))) e (value-fits m nodes t w h)) in
    (r.truth, r.is)

pub truth_again : (b : Bool) → Holds b ≡ Holds (not (not b))
truth_again true = refl
truth_again false = refl

one_type : (nodes : List Node) (ps : List ℕ) (p : ℕ) → ps ≡ p ∷ [] → types_at nodes ps ≡ Boolean ∷ [] → type_at nodes p ≡ Boolean
one_type nodes ps p e h = let g : type_at nodes p ∷ [] ≡ Boolean ∷ [] = ap (types_at nodes) (sym e) ∙ h in cc

pub negation_found : (nodes : List Node) (t part : ℕ) (parts : List ℕ) → WellTyped nodes → t < length nodes → HasOp nodes t Not → parts ≡ parts_at nodes t → parts ≡ part ∷ [] → IsNegation nodes t part
negation_found nodes t part parts w h o e f =
    let r = node_of_op nodes t Not o in
    let fine = w t r.0 r.1 in
    let own : r.0.parts ≡ part ∷ [] = sym (parts-node nodes t r.0 r.1) ∙ sym e ∙ f in
    let before : part < t = All-head (λ p. p < t) part [] (subst (All (λ p. p < t)) own fine.before) in
    record {
      there = omega (arith, before);
      ty = one_type nodes r.0.parts part own (subst (λ op. Suits op (types_at nodes r.0.parts)) r.2 fine.suits);
      own = type-node nodes t r.0 r.1 ∙ fine.typed ∙ ap (λ op. type_of op (types_at nodes r.0.parts)) r.2;
      below = deeper t part itself (subst (λ ps. Contains ps part) (sym f ∙ e) (0, omega arith, refl));
      same = λ m. value-node m nodes t r.0 w r.1 ∙ ap (λ op. apply m op (types_at nodes r.0.parts) (values_at m nodes r.0.parts)) r.2 ∙ ap (λ ps. apply m Not (types_at nodes ps) (values_at m nodes ps)) own;
    }

pub twice_known : (nodes : List Node) (a part : ℕ) → WellTyped nodes → IsNegation nodes a part → IsKnown nodes part Not (a ∷ [])
twice_known nodes a part w n = record {
  there = n.there;
  same = λ m.
      let r = boolean_value m nodes part w n.there n.ty in
      r.1 ∙ truth_again r.0 ∙ sym (ap (λ v. Holds (not (truth_of v))) (n.same m ∙ ap (λ v. Holds (not (truth_of v))) r.1));
  ty = n.ty;
  below = record { root = a; listed = (0, omega arith, refl); below = n.below };
}

pub then_known : (nodes : List Node) (c t e : ℕ) → t < length nodes → IsTruth nodes c true → IsKnown nodes t Ite (c ∷ t ∷ e ∷ [])
then_known nodes c t e h is = record {
  there = h;
  same = λ m. sym (ap (λ v. cond (truth_of v) (value m nodes t) (value m nodes e)) (is m));
  ty = refl;
  below = record { root = t; listed = (1, omega arith, refl); below = itself };
}

ite_same : (s t u : Ty) → Suits Ite (s ∷ t ∷ u ∷ []) → (s ≡ Boolean) × (u ≡ t)
ite_same s t u h = let e = h.1 in let p : s ≡ Boolean = cc in let q : u ≡ t = cc in (p, q)

pub other_known : (nodes : List Node) (c t e : ℕ) → e < length nodes → Suits Ite (types_at nodes (c ∷ t ∷ e ∷ [])) → IsTruth nodes c false → IsKnown nodes e Ite (c ∷ t ∷ e ∷ [])
other_known nodes c t e h s is = record {
  there = h;
  same = λ m. sym (ap (λ v. cond (truth_of v) (value m nodes t) (value m nodes e)) (is m));
  ty = (ite_same (type_at nodes c) (type_at nodes t) (type_at nodes e) s).1;
  below = record { root = e; listed = (2, omega arith, refl); below = itself };
}

cond_one : {A : Type 0} (b : Bool) (x : A) → x ≡ cond b x x
cond_one true x = refl
cond_one false x = refl

pub same_known : (nodes : List Node) (c t e : ℕ) → t < length nodes → t ≡ e → IsKnown nodes t Ite (c ∷ t ∷ e ∷ [])
same_known nodes c t e h s = subst (λ x. IsKnown nodes t Ite (c ∷ t ∷ x ∷ [])) s (record {
  there = h;
  same = λ m. cond_one (truth_of (value m nodes c)) (value m nodes t);
  ty = refl;
  below = record { root = t; listed = (1, omega arith, refl); below = itself };
})

cond_turned : {A : Type 0} (b : Bool) (x y : A) → cond b x y ≡ cond (not b) y x
cond_turned true x y = refl
cond_turned false x y = refl

three : (P : ℕ → Type 0) (a b c : ℕ) → P a → P b → P c → All P (a ∷ b ∷ c ∷ [])
three P a b c x y z = All-cons P a (b ∷ c ∷ []) x (All-cons P b (c ∷ []) y (All-cons P c [] z (All-nil P)))

pub turned_replaces : (nodes : List Node) (c d t e : ℕ) (own : List ℕ) → t < length nodes → e < length nodes → Suits Ite (types_at nodes (c ∷ t ∷ e ∷ [])) → IsNegation nodes c d → own ≡ d ∷ e ∷ t ∷ []
    → Replaces nodes Ite own Ite (c ∷ t ∷ e ∷ [])
turned_replaces nodes c d t e own h g s n q =
    let ts = ite_same (type_at nodes c) (type_at nodes t) (type_at nodes e) s in
    subst (λ ps. Replaces nodes Ite ps Ite (c ∷ t ∷ e ∷ [])) (sym q)
    (plain_replaces nodes Ite Ite (d ∷ e ∷ t ∷ []) (c ∷ t ∷ e ∷ []) tt (three (λ p. p < length nodes) d e t n.there g h)
    (type_at nodes t, λ i. n.ty i ∷ ts.1 i ∷ type_at nodes t ∷ [])
    (λ m. cond_turned (truth_of (value m nodes d)) (value m nodes e) (value m nodes t) ∙ sym (ap (λ v. cond (truth_of v) (value m nodes t) (value m nodes e)) (n.same m)))
    ts.1
    (three (IsBelow nodes (c ∷ t ∷ e ∷ [])) d e t
    (record { root = c; listed = (0, omega arith, refl); below = n.below })
    (record { root = e; listed = (2, omega arith, refl); below = itself })
    (record { root = t; listed = (1, omega arith, refl); below = itself })))

cond_itself : (b : Bool) → Holds b ≡ cond b (Holds true) (Holds false)
cond_itself true = refl
cond_itself false = refl

cond_not : (b : Bool) → Holds (not b) ≡ cond b (Holds false) (Holds true)
cond_not true = refl
cond_not false = refl

pub condition_known : (nodes : List Node) (c t e : ℕ) → WellTyped nodes → c < length nodes → Suits Ite (types_at nodes (c ∷ t ∷ e ∷ [])) → type_at nodes t ≡ Boolean → IsTruth nodes t true → IsTruth nodes e false → IsKnown nodes c Ite (c ∷ t ∷ e ∷ [])
condition_known nodes c t e w h s ty x y =
    let ts = ite_same (type_at nodes c) (type_at nodes t) (type_at nodes e) s in
    record {
      there = h;
      same = λ m.
          let r = boolean_value m nodes c w h ts.0 in
          r.1 ∙ cond_itself r.0 ∙ sym ((λ i. cond (truth_of (r.1 i)) (x m i) (y m i)));
      ty = ts.0 ∙ sym ty;
      below = record { root = c; listed = (0, omega arith, refl); below = itself };
    }

pub negation_replaces : (nodes : List Node) (c t e : ℕ) (own : List ℕ) → WellTyped nodes → c < length nodes → Suits Ite (types_at nodes (c ∷ t ∷ e ∷ [])) → type_at nodes t ≡ Boolean → IsTruth nodes t false → IsTruth nodes e true → own ≡ c ∷ []
    → Replaces nodes Not own Ite (c ∷ t ∷ e ∷ [])
negation_replaces nodes c t e own w h s ty x y q =
    let ts = ite_same (type_at nodes c) (type_at nodes t) (type_at nodes e) s in
    subst (λ ps. Replaces nodes Not ps Ite (c ∷ t ∷ e ∷ [])) (sym q)
    (plain_replaces nodes Not Ite (c ∷ []) (c ∷ t ∷ e ∷ []) tt (All-cons (λ p. p < length nodes) c [] h (All-nil (λ p. p < length nodes)))
    (λ i. ts.0 i ∷ [])
    (λ m. cond_not (truth_of (value m nodes c)) ∙ sym ((λ i. cond (truth_of (value m nodes c)) (x m i) (y m i))))
    (sym ty)
    (All-cons (IsBelow nodes (c ∷ t ∷ e ∷ [])) c [] (record { root = c; listed = (0, omega arith, refl); below = itself }) (All-nil (IsBelow nodes (c ∷ t ∷ e ∷ [])))))

pub single : (xs : List ℕ) (x : ℕ) → length xs ≡ 1 → x ≡ get_or xs 0 x → xs ≡ x ∷ []
single [] x h e = absurd (omega (arith, h))
single (y ∷ []) x h e = λ i. sym e i ∷ []
single (y ∷ z ∷ xs) x h e = absurd (omega (arith, h))
