-- Terms of finitely many values, node by node.
use Rattle.std.specs.Prelude.{◌≡◌, ℕ, ◌+◌, ◌<◌, ◌≤◌, Bool as Truth, true, false, List, [], ◌∷◌, length, slice_index_or, slice_get, Option, Some, None, is_some}
use Rattle.std.specs.Bool.{Decides}
use Rattle.std.specs.Option.{option_map}
use Rattle.std.proofs.Common.{refl, sym, ap, ◌∙◌, subst, arith, inl, inr, suc}
use Rattle.std.proofs.lemmas.Bool.{false≢true}
use Rattle.std.proofs.lemmas.Bool.Decides.{leb_tells}
use Rattle.uc_values.specs.Sizes.{bit_count, capped}
use Rattle.uc_values.specs.declared.ty.Ty.{Ty}
use Rattle.uc_ops.specs.declared.op.Op.{Op}
use Rattle.uc_ops.specs.declared.op.Op.TheVariants.{App}
use Rattle.uc_ops.specs.declared.node.Node.{Node}
use Rattle.uc_ops.specs.Typing.{type_at}
use Rattle.uc_terms.specs.Tables.{HasOp}
use Rattle.uc_terms.specs.Subterms.{IsSubterm, Marked, AreSubterms}
use Rattle.uc_terms.proofs.Walk.{marked_within}
use Rattle.uc_terms.proofs.Grown.{type-node}
use Rattle.uc_lower.specs.Made.{HasBits}
use Rattle.uc_lower.specs.Lowering.{IsFiniteTerm}
use Rattle.uc_lower.proofs.Marking.{below_of, marked_of}
use Rattle.uc_solver.specs.Nodes.{IsFiniteNode, AreFinite, is_application}
use Rattle.uc_solver.proofs.Operations.{node_of_op}

pub decides_too : {P Q : Type 0} (b : Truth) → Decides b P → (P → Q) → (Q → P) → Decides b Q
decides_too b d f g = (λ e. f (d.0 e), λ q. d.1 (g q))

pub decides_no : {P : Type 0} → (P → ⊥) → Decides false P
decides_no never = (λ e. absurd (false≢true e), λ p. absurd (never p))

pub decides_yes : {P : Type 0} → P → Decides true P
decides_yes p = (λ e. p, λ q. refl)

-- a number of bits is there exactly where its cap is
pub counted : (o : Option ℕ) (b : Truth) → b ≡ is_some (option_map capped o) → Decides b ((n : ℕ) × (o ≡ Some n))
counted None b e = (λ h. absurd (false≢true (sym e ∙ h)), λ x. cc)
counted (Some n) b e = (λ h. (n, refl), λ x. e)

applied : (op : Op) (number : ℕ) (ty : Ty) → is_application op ≡ false → op ≡ App number ty → ⊥
applied op number ty h e = false≢true (sym h ∙ ap is_application e)

pub application_of : (op : Op) → is_application op ≡ true → (number : ℕ) × (ty : Ty) × (op ≡ App number ty)
application_of (App number ty) h = (number, ty, refl)
application_of other h = absurd (false≢true h)

pub not_finite : (nodes : List Node) (place : ℕ) (node : Node) → slice_get nodes place ≡ Some node → is_application node.op ≡ true → IsFiniteNode nodes place → ⊥
not_finite nodes place node h a f =
    let x = application_of node.op a in
    f.no_function x.0 x.1 (ap (option_map (λ (n : Node). n.op)) h ∙ ap Some x.2)

pub finite_node : (nodes : List Node) (place : ℕ) (node : Node) (b : Truth) → slice_get nodes place ≡ Some node → is_application node.op ≡ false → Decides b (HasBits node.ty) → Decides b (IsFiniteNode nodes place)
finite_node nodes place node b h a d =
    let e : type_at nodes place ≡ node.ty = type-node nodes place node h in
    decides_too b d
    (λ x. record {
      bits = subst HasBits (sym e) x;
      no_function = λ number ty has. let n = node_of_op (slice_get nodes place) (App number ty) has in applied node.op number ty a (cc);
    })
    (λ f. subst HasBits e f.bits)

pub finite_start : (nodes : List Node) (marks : List Truth) → AreFinite nodes marks 0
finite_start nodes marks k l m = absurd (omega (arith, l))

pub finite_step : (nodes : List Node) (marks : List Truth) (place : ℕ) (marked b : Truth) → marked ≡ slice_index_or marks place false → b ≡ true → Decides b (marked ≡ true → IsFiniteNode nodes place)
    → AreFinite nodes marks place → AreFinite nodes marks (place + 1)
finite_step nodes marks place marked b e t d h k l m =
    elim (leb_tells (suc k) place) [
      | inl x ↦ h k x.1 m
      | inr x ↦ let here : k ≡ place = omega (arith, l, x.1) in subst (IsFiniteNode nodes) (sym here) (d.0 t (e ∙ subst (Marked marks) here m))
    ]

pub finite_fails : (nodes : List Node) (marks : List Truth) (place : ℕ) (marked b : Truth) → place < length marks → marked ≡ slice_index_or marks place false → b ≡ false
    → Decides b (marked ≡ true → IsFiniteNode nodes place) → AreFinite nodes marks (length marks) → ⊥
finite_fails nodes marks place marked b l e f d h = false≢true (sym f ∙ d.1 (λ m. h place l (sym e ∙ m)))

pub finite_term : (nodes : List Node) (t : ℕ) (marks : List Truth) (b : Truth) → AreSubterms nodes (t ∷ []) marks → Decides b (AreFinite nodes marks (length marks)) → Decides b (IsFiniteTerm nodes t)
finite_term nodes t marks b a d =
    decides_too b d
    (λ h. record {
      bits = λ k s. let m = marked_of nodes t marks a k s in (h k (marked_within marks k m) m).bits;
      no_function = λ k number ty s. let m = marked_of nodes t marks a k s in (h k (marked_within marks k m) m).no_function number ty;
    })
    (λ f k l m. let s = below_of nodes t marks a k m in record { bits = f.bits k s; no_function = λ number ty. f.no_function k number ty s })
