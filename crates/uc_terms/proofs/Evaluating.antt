-- The evaluation of terms, node by node.
use Rattle.std.proofs.Common.{◌≡◌, ℕ, ◌+◌, ◌<◌, ◌≤◌, List, [], ◌∷◌, ◌++◌, Bool, length, All, Contains, refl, sym, ap, ◌∙◌, subst, arith, suc, inl, inr, get_or, length-append}
use Rattle.std.proofs.lemmas.Bool.Decides.{leb_tells}
use Rattle.std.proofs.lemmas.List.{get_or_default}
use Rattle.std.proofs.lemmas.List.Elements.{All-contains}
use Rattle.std.proofs.Math.ListN.{get_or-append}
use Rattle.std.proofs.Math.Seq.{get_or-append_seam}
use Rattle.uc_values.specs.Values.{nothing}
use Rattle.uc_values.specs.declared.value.Value.{Value}
use Rattle.uc_linear.specs.declared.exact.Wide.{Wide}
use Rattle.uc_ops.specs.declared.model.Model.{Model}
use Rattle.uc_ops.specs.declared.node.Node.{Node}
use Rattle.uc_ops.specs.Meaning.{part}
use Rattle.uc_ops.specs.Met.{IsNarrowResult}
use Rattle.uc_terms.specs.Tables.{parts_at}
use Rattle.uc_terms.specs.Values.{value}
use Rattle.uc_terms.specs.Subterms.{IsSubterm, itself, deeper, Marked, AreSubterms}
use Rattle.uc_terms.specs.Met.{met_at, MeetsInOne}
use Rattle.uc_terms.specs.Evaluated.{AreEvaluated}
use Rattle.uc_terms.proofs.Walk.{marked_within}

-- the marked terms before place have their values, and met only narrow numbers
pub record Evaluating (m : Model) (nodes : List Node) (marks : List Bool) (values : List Value) (place : ℕ) : Type 0 where
  pub length : length values ≡ place
  pub same : (k : ℕ) → k < place → Marked marks k → part values k ≡ value m nodes k
  pub narrow : (k : ℕ) → k < place → Marked marks k → All IsNarrowResult (met_at m nodes k)

pub Evaluating-start : (m : Model) (nodes : List Node) (marks : List Bool) → Evaluating m nodes marks [] 0
Evaluating-start m nodes marks = record { length = refl; same = λ k l. absurd (omega (arith, l)); narrow = λ k l. absurd (omega (arith, l)) }

-- one value more, which counts where the term is marked
pub Evaluating-push : (m : Model) (nodes : List Node) (marks : List Bool) (values : List Value) (place : ℕ) (v : Value)
    → (Marked marks place → v ≡ value m nodes place) → (Marked marks place → All IsNarrowResult (met_at m nodes place))
    → Evaluating m nodes marks values place → Evaluating m nodes marks (values ++ v ∷ []) (place + 1)
Evaluating-push m nodes marks values place v same narrow e = record {
  length = omega (arith, length-append values (v ∷ []), e.length);
  same = λ k l h. elim (leb_tells (suc k) place) [
    | inl x ↦ get_or-append values (v ∷ []) nothing k (omega (arith, x.1, e.length)) ∙ e.same k x.1 h
    | inr x ↦
        let here : k ≡ place = omega (arith, l, x.1) in
        ap (part (values ++ v ∷ [])) (here ∙ sym e.length) ∙ get_or-append_seam values v [] nothing ∙ same (subst (Marked marks) here h) ∙ ap (value m nodes) (sym here)
  ];
  narrow = λ k l h. elim (leb_tells (suc k) place) [
    | inl x ↦ e.narrow k x.1 h
    | inr x ↦
        let here : k ≡ place = omega (arith, l, x.1) in
        subst (λ i. All IsNarrowResult (met_at m nodes i)) (sym here) (narrow (subst (Marked marks) here h))
  ];
}

-- a marked term is a subterm, so its parts are marked, and have their values
pub parts_known : (m : Model) (nodes : List Node) (roots : List ℕ) (marks : List Bool) (values : List Value) (place : ℕ) → AreSubterms nodes roots marks → Marked marks place → Evaluating m nodes marks values place
    → All (λ p. p < place → part values p ≡ value m nodes p) (parts_at nodes place)
parts_known m nodes roots marks values place a h e k d l b =
    let p = get_or (parts_at nodes place) k d in
    let r = a.sound place h in
    e.same p b (a.complete p (record { root = r.root; listed = r.listed; below = deeper place p r.below (k, l, get_or_default (parts_at nodes place) k p d l) }))

-- what is met at a marked term is met by one of the terms
pub met_in_one : (m : Model) (nodes : List Node) (roots : List ℕ) (marks : List Bool) (place : ℕ) (w : Wide) → AreSubterms nodes roots marks → Marked marks place → Contains (met_at m nodes place) w → MeetsInOne m nodes roots w
met_in_one m nodes roots marks place w a h c =
    let r = a.sound place h in
    record { root = r.root; listed = r.listed; met = record { place = place; below = r.below; met = c } }

root_marked : (nodes : List Node) (roots : List ℕ) (marks : List Bool) (k d : ℕ) → AreSubterms nodes roots marks → k < length roots → (j : ℕ) → IsSubterm nodes (get_or roots k d) j → Marked marks j
root_marked nodes roots marks k d a l j s = a.complete j (record { root = get_or roots k d; listed = (k, l, get_or_default roots k (get_or roots k d) d l); below = s })

-- all terms were evaluated
pub Evaluating-end : (m : Model) (nodes : List Node) (roots : List ℕ) (marks : List Bool) (values : List Value) (place : ℕ) → AreSubterms nodes roots marks → length marks ≤ place → Evaluating m nodes marks values place
    → AreEvaluated m nodes roots values
Evaluating-end m nodes roots marks values place a l e = record {
  there = λ k d h. omega (arith, e.length, l, marked_within marks (get_or roots k d) (root_marked nodes roots marks k d a h (get_or roots k d) itself));
  same = λ k d h.
      let t = get_or roots k d in
      let marked = root_marked nodes roots marks k d a h t itself in
      e.same t (omega (arith, l, marked_within marks t marked)) marked;
  narrow = λ k d h w met.
      let marked = root_marked nodes roots marks k d a h met.place met.below in
      All-contains IsNarrowResult (met_at m nodes met.place) w (e.narrow met.place (omega (arith, l, marked_within marks met.place marked)) marked) met.met;
}
