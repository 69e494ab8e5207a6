-- What terms keep when a table grows.
use Rattle.std.specs.Prelude.{◌≡◌, ℕ, ◌<◌, ◌≤◌, List, [], ◌++◌, length, slice_get, Some, All, Contains}
use Rattle.std.specs.Option.{option_map}
use Rattle.std.proofs.Common.{refl, sym, ap, ◌∙◌, subst, arith, length-append, append-nil, append_assoc, ◌⊎◌, inl, inr}
use Rattle.std.proofs.lemmas.List.Elements.{All-weaker, All-contains}
use Rattle.uc_values.specs.declared.ty.Ty.{Ty}
use Rattle.uc_values.specs.declared.ty.Ty.TheVariants.{Bool}
use Rattle.uc_values.specs.Values.{truth_of}
use Rattle.uc_values.specs.declared.value.Value.TheVariants.{Bool as Truth}
use Rattle.uc_values.proofs.Fitting.{IsBoolean-fits}
use Rattle.uc_ops.specs.declared.model.Model.{Model}
use Rattle.uc_ops.specs.declared.op.Op.{Op}
use Rattle.uc_ops.specs.declared.op.Op.TheVariants.{Symbol, App}
use Rattle.uc_ops.specs.declared.node.Node.{Node}
use Rattle.uc_ops.specs.Typing.{type_at, types_at}
use Rattle.uc_ops.proofs.Lists.{same_map, at_place}
use Rattle.uc_ops.proofs.Fitting.{Fits}
use Rattle.uc_terms.specs.Tables.{HasOp, WellTyped, parts_at, parts_in}
use Rattle.uc_terms.specs.Values.{value, values_at}
use Rattle.uc_terms.specs.Laws.{KeepsValues}
use Rattle.uc_terms.specs.Subterms.{IsSubterm, itself, deeper}
use Rattle.uc_terms.proofs.Grown.{slice_get-front, type-keeps, parts-node}
use Rattle.uc_terms.proofs.Values.{grown_keeps}
use Rattle.uc_terms.proofs.Fitting.{value-fits}
use Rattle.uc_lower.specs.Made.{Grows, Within, IsMade, IsLowType, IsLowNode, IsLowered, IsComposed}

pub grows_not : (old : List Node) → WellTyped old → Grows old old
grows_not old w = record { more = []; is = sym (append-nil old); well = w }

pub grows_same : (old new : List Node) → WellTyped old → new ≡ old → Grows old new
grows_same old new w e = subst (Grows old) (sym e) (grows_not old w)

pub grows_on : (a b c : List Node) → Grows a b → Grows b c → Grows a c
grows_on a b c g h = record { more = g.more ++ h.more; is = h.is ∙ ap (λ xs. xs ++ h.more) g.is ∙ append_assoc a g.more h.more; well = h.well }

pub longer : (old new : List Node) → Grows old new → length old ≤ length new
longer old new g = omega (arith, ap length g.is, length-append old g.more)

pub kept_within : (old new : List Node) (ts : List ℕ) → Grows old new → Within old ts → Within new ts
kept_within old new ts g h = All-weaker (λ t. t < length old) (λ t. t < length new) (λ t l. omega (arith, l, longer old new g)) ts h

pub kept_node : (old new : List Node) (t : ℕ) → Grows old new → t < length old → slice_get new t ≡ slice_get old t
kept_node old new t g l = ap (λ ns. slice_get ns t) g.is ∙ slice_get-front old g.more t l

pub kept_type : (old new : List Node) (t : ℕ) → Grows old new → t < length old → type_at new t ≡ type_at old t
kept_type old new t g l = ap (λ ns. type_at ns t) g.is ∙ type-keeps old g.more t l

pub kept_types : (old new : List Node) (ts : List ℕ) → Grows old new → Within old ts → types_at new ts ≡ types_at old ts
kept_types old new ts g h = same_map (type_at new) (type_at old) (λ t. t < length old) ts (λ t l. kept_type old new t g l) h

pub kept_value : (m : Model) (old new : List Node) (t : ℕ) → Grows old new → t < length old → value m new t ≡ value m old t
kept_value m old new t g l = grown_keeps old new g.more g.is m t l

pub kept_values : (m : Model) (old new : List Node) (ts : List ℕ) → Grows old new → Within old ts → values_at m new ts ≡ values_at m old ts
kept_values m old new ts g h = same_map (value m new) (value m old) (λ t. t < length old) ts (λ t l. kept_value m old new t g l) h

pub grows_keeps : (old new : List Node) → Grows old new → KeepsValues old new
grows_keeps old new g = grown_keeps old new g.more g.is

pub kept_op : (old new : List Node) (t : ℕ) (op : Op) → Grows old new → t < length old → HasOp old t op → HasOp new t op
kept_op old new t op g l h = ap (option_map (λ n. n.op)) (kept_node old new t g l) ∙ h

pub had_op : (old new : List Node) (t : ℕ) (op : Op) → Grows old new → t < length old → HasOp new t op → HasOp old t op
had_op old new t op g l h = ap (option_map (λ n. n.op)) (sym (kept_node old new t g l)) ∙ h

pub one_op : (nodes : List Node) (t : ℕ) (a b : Op) → HasOp nodes t a → HasOp nodes t b → a ≡ b
one_op nodes t a b h g = let e : Some a ≡ Some b = sym h ∙ g in cc

pub kept_parts : (old new : List Node) (t : ℕ) → Grows old new → t < length old → parts_at new t ≡ parts_at old t
unfolding parts_at
kept_parts old new t g l = ap parts_in (kept_node old new t g l)

-- the parts of a term have smaller numbers
pub parts_before : (nodes : List Node) (t : ℕ) → WellTyped nodes → t < length nodes → All (λ p. p < t) (parts_at nodes t)
parts_before nodes t w l =
    let r = at_place nodes t l in
    subst (All (λ p. p < t)) (sym (parts-node nodes t r.0 r.1)) (w t r.0 r.1).before

-- a subterm in the larger table was one
pub record WasSubterm (old : List Node) (t k : ℕ) : Type 0 where
  pub below : IsSubterm old t k
  pub there : k < length old

pub was_subterm : (old new : List Node) (t : ℕ) → WellTyped old → Grows old new → t < length old → (k : ℕ) → IsSubterm new t k → WasSubterm old t k
was_subterm old new t w g l k itself = record { below = itself; there = l }
was_subterm old new t w g l k (deeper j p s c) =
    let r = was_subterm old new t w g l j s in
    let d : Contains (parts_at old j) p = subst (λ ps. Contains ps p) (kept_parts old new j g r.there) c in
    let small : p < j = All-contains (λ q. q < j) (parts_at old j) p (parts_before old j w r.there) d in
    record { below = deeper j p r.below d; there = omega (arith, small, r.there) }

-- a subterm is the term or a subterm of a part
pub record IsBelowPart (nodes : List Node) (t k : ℕ) : Type 0 where
  pub part : ℕ
  pub listed : Contains (parts_at nodes t) part
  pub below : IsSubterm nodes part k

pub split_subterm : (nodes : List Node) (t k : ℕ) → IsSubterm nodes t k → (k ≡ t) ⊎ IsBelowPart nodes t k
split_subterm nodes t k itself = inl refl
split_subterm nodes t k (deeper j p s c) =
    elim (split_subterm nodes t j s) [
      | inl x ↦ inr (record { part = p; listed = subst (λ i. Contains (parts_at nodes i) p) x c; below = itself })
      | inr x ↦ inr (record { part = x.part; listed = x.listed; below = deeper j p x.below c })
    ]

kept_low_node : (symbols : List ℕ) (old new : List Node) (k : ℕ) → Grows old new → k < length old → IsLowNode symbols old k → IsLowNode symbols new k
kept_low_node symbols old new k g l h = record {
  typed = subst IsLowType (sym (kept_type old new k g l)) h.typed;
  no_function = λ number ty has. h.no_function number ty (had_op old new k (App number ty) g l has);
  listed = λ number ty has. h.listed number ty (had_op old new k (Symbol number ty) g l has);
}

pub kept_lowered : (symbols : List ℕ) (old new : List Node) (t : ℕ) → WellTyped old → Grows old new → t < length old → IsLowered symbols old t → IsLowered symbols new t
kept_lowered symbols old new t w g l h k s =
    let r = was_subterm old new t w g l k s in
    kept_low_node symbols old new k g r.there (h k r.below)

pub all_kept_lowered : (symbols : List ℕ) (old new : List Node) (ts : List ℕ) → WellTyped old → Grows old new → Within old ts → All (IsLowered symbols old) ts → All (IsLowered symbols new) ts
all_kept_lowered symbols old new ts w g h f k d l = kept_lowered symbols old new _ w g (h k d l) (f k d l)

no_function_op : (op : Op) (number : ℕ) (ty : Ty) → IsComposed op → op ≡ App number ty → ⊥
no_function_op op number ty h e = subst IsComposed e h

no_symbol_op : (op : Op) (number : ℕ) (ty : Ty) → IsComposed op → op ≡ Symbol number ty → ⊥
no_symbol_op op number ty h e = subst IsComposed e h

-- an operation on lowered terms is lowered
pub made_lowered : (symbols : List ℕ) (old new : List Node) (t : ℕ) (op : Op) (parts : List ℕ) → WellTyped old → IsMade old new t op parts → IsComposed op → IsLowType (type_at new t) → Within old parts
    → All (IsLowered symbols old) parts → IsLowered symbols new t
made_lowered symbols old new t op parts w m i y b h k s =
    elim (split_subterm new t k s) [
      | inl x ↦ subst (IsLowNode symbols new) (sym x) (record {
        typed = y;
        no_function = λ number ty has. no_function_op op number ty i (one_op new t op (App number ty) m.has has);
        listed = λ number ty has. absurd (no_symbol_op op number ty i (one_op new t op (Symbol number ty) m.has has));
      })
      | inr x ↦
          let c : Contains parts x.part = subst (λ ps. Contains ps x.part) m.on x.listed in
          let inside : x.part < length old = All-contains (λ p. p < length old) parts x.part b c in
          kept_lowered symbols old new x.part w m.grown inside (All-contains (IsLowered symbols old) parts x.part h c) k x.below
    ]

-- a boolean term has a truth
pub boolean_value : (m : Model) (nodes : List Node) (t : ℕ) → WellTyped nodes → t < length nodes → type_at nodes t ≡ Bool → value m nodes t ≡ Truth (truth_of (value m nodes t))
boolean_value m nodes t w l e =
    let f : Fits Bool (value m nodes t) = subst (λ ty. Fits ty (value m nodes t)) e (value-fits m nodes t w l) in
    let r = IsBoolean-fits (value m nodes t) f in
    r.is ∙ ap (λ v. Truth (truth_of v)) (sym r.is)
