-- A model whose constants fit their types gives each known term the value that it had.
use Rattle.std.proofs.Common.{◌≡◌, ℕ, ◌<◌, ◌≤◌, List, [], ◌∷◌, ◌++◌, length, drop, Option, Some, None, refl, sym, ap, ◌∙◌, subst, arith, slice_get, zero, suc, inl, inr}
use Rattle.std.specs.Prelude.{Bool as Truth, true, false, cond}
use Rattle.std.specs.Option.{option_map}
use Rattle.std.proofs.Math.ListN.{drop_of_length-le}
use Rattle.std.proofs.lemmas.Option.{slice_get-map, slice_get_within, same_Some}
use Rattle.std.proofs.lemmas.Bool.Decides.{leb_tells}
use Rattle.uc_values.specs.declared.ty.Ty.{Ty}
use Rattle.uc_values.specs.declared.value.Value.{Value}
use Rattle.uc_values.specs.Values.{fits, zero_of, truth_of}
use Rattle.uc_ops.specs.declared.model.Model.{Model}
use Rattle.uc_ops.specs.declared.node.Node.{Node}
use Rattle.uc_ops.specs.Meaning.{part, fitting}
use Rattle.uc_ops.proofs.Lists.{at_place}
use Rattle.uc_terms.specs.Tables.{WellTyped}
use Rattle.uc_terms.specs.Values.{value, values_at}
use Rattle.uc_flat.specs.declared.flat.Flat.{Flat}
use Rattle.uc_flat.specs.declared.flat.Constant.{Constant}
use Rattle.uc_flat.specs.Flats.{IsSound}
use Rattle.uc_symstep.specs.declared.state.SymState.{SymState}
use Rattle.uc_symstep.specs.Known.{IsKnown}
use Rattle.uc_symstep.proofs.Models.{Agree, same_value}
use Rattle.uc_flat_copies.specs.declared.trace.FlatCopies.{FlatCopies}
use Rattle.uc_flat.specs.Traces.{constant_types}
use Rattle.uc_obligations.specs.declared.unrolling.Unrolling.{Unrolling}
use Rattle.uc_obligations.specs.Unrolling.{IsUnrolled}
use Rattle.uc_obligations.specs.Reading.{AreRead, beginning_with, AreNumbers, AreValues, IsToldBy}
use Rattle.uc_obligations.specs.Goals.{IsTold}
use Rattle.uc_obligations.proofs.Knowing.{supply_begins}
use Rattle.uc_obligations.proofs.Goaled.{trace_refutes}
use Rattle.uc_obligations.proofs.Read.{get_front, values_are}

-- ---- a model with fitting constants

either_same : (b : Truth) (v : Value) → cond b v v ≡ v
either_same true v = refl
either_same false v = refl

fitting_again : (ty : Ty) (o : Option Value) → fitting ty (Some (fitting ty o)) ≡ fitting ty o
fitting_again ty None = either_same (fits ty (zero_of ty)) (zero_of ty)
fitting_again ty (Some v) = by_test (fits ty v) refl
  where
    by_test : (b : Truth) → fits ty v ≡ b → fitting ty (Some (cond b v (zero_of ty))) ≡ cond b v (zero_of ty)
    by_test true e = ap (λ c. cond c v (zero_of ty)) e
    by_test false e = either_same (fits ty (zero_of ty)) (zero_of ty)

get_behind : {A : Type 0} (xs ys : List A) (k : ℕ) → length xs ≤ k → slice_get (xs ++ drop (length xs) ys) k ≡ slice_get ys k
get_behind [] ys k h = refl
get_behind (x ∷ xs) ys zero h = absurd (omega (arith, h))
get_behind (x ∷ xs) [] (suc k) h = ap (λ zs. slice_get (xs ++ zs) k) (sym (drop_of_length-le [] {i = length xs} (omega arith))) ∙ get_behind xs [] k (omega (arith, h))
get_behind (x ∷ xs) (y ∷ ys) (suc k) h = get_behind xs ys k (omega (arith, h))

begun_agrees : (f : Flat) (m : Model) (values : List Value) (more : List Ty) → AreRead f m values → Agree (constant_types f ++ more) m (beginning_with values m)
begun_agrees f m values more r number ty at = elim (leb_tells (length values) number) [
  | inl x ↦ ap (fitting ty) (get_behind values m.symbols number x.1)
  | inr x ↦
      let c = at_place f.constants number (omega (arith, x.1, r.count)) in
      let listed : slice_get (constant_types f) number ≡ Some c.0.ty = slice_get-map (λ (y : Constant). y.ty) f.constants number ∙ ap (option_map (λ (y : Constant). y.ty)) c.1 in
      let inside : number < length (constant_types f) = slice_get_within (constant_types f) number c.0.ty listed in
      let own : c.0.ty ≡ ty = same_Some c.0.ty ty (sym listed ∙ sym (get_front (constant_types f) more number inside) ∙ at) in
      ap (fitting ty) (get_front values (drop (length values) m.symbols) number x.1 ∙ r.each number c.0 c.1 ∙ ap (λ s. Some (fitting s (slice_get m.symbols number))) own)
      ∙ fitting_again ty (slice_get m.symbols number)
]

-- the goal is false with the constants only where it is under the model
pub untold : (f : Flat) (nodes : List Node) (goal n : ℕ) (states : List SymState) (constants own vs all : List Value) (ts others : List ℕ) (m b : Model)
    → WellTyped nodes → AreRead f m constants → own ≡ constants → b ≡ beginning_with own m → n ≡ length nodes → AreNumbers n ts → others ≡ ts → vs ≡ values_at b nodes others → all ≡ vs
    → goal < length nodes → truth_of (part all goal) ≡ false → IsToldBy f nodes goal states m None
untold f nodes goal n states constants own vs all ts others m b w r i is j a e v g l t = λ valid more k h.
    let are : AreValues b nodes all = subst (AreValues b nodes) (sym g) (values_are b nodes n ts others vs j a e v) in
    let same : value b nodes goal ≡ value m nodes goal =
    ap (λ (x : Model). value x nodes goal) (is ∙ ap (λ ws. beginning_with ws m) i) ∙ same_value (constant_types f ++ more) nodes m (beginning_with constants m) w refl (begun_agrees f m constants more r) goal k in
    let no : false ≡ true = sym t ∙ ap truth_of (are goal l ∙ same) ∙ h in
    cc

pub told_as : (f : Flat) (n : ℕ) (now : List Node) (u : Unrolling) (run : List SymState) (goal : ℕ) (m : Model) (o : Option FlatCopies) → IsSound f → IsUnrolled f now n u → run ≡ u.states → IsToldBy f now goal run m o → IsTold f u.start n now goal m o
told_as f n now u run goal m None s h i r = λ valid k t. let b = supply_begins f u.start n in r valid b.0 (subst (λ ts. IsKnown ts now goal) b.1 k) t
told_as f n now u run goal m (Some t) s h i r = λ x single g. trace_refutes f x n now u run goal t s h i r single g
