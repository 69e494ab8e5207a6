-- The value of a term fits its type.
use Rattle.std.specs.Prelude.{ℕ, ◌+◌, ◌<◌, List, [], ◌∷◌, length, All, zero, suc}
use Rattle.std.proofs.Common.{sym, ◌∙◌, arith, subst}
use Rattle.std.proofs.lemmas.List.Elements.{All-head, All-tail}
use Rattle.uc_values.proofs.Fitting.{Fit}
use Rattle.uc_ops.specs.declared.model.Model.{Model}
use Rattle.uc_ops.specs.declared.node.Node.{Node}
use Rattle.uc_ops.specs.Typing.{type_of, type_at, types_at}
use Rattle.uc_ops.proofs.Lists.{at_place}
use Rattle.uc_ops.proofs.Fitting.{Fits, apply-fits}
use Rattle.uc_terms.specs.Tables.{WellTyped}
use Rattle.uc_terms.specs.Values.{value, values_at}
use Rattle.uc_terms.proofs.Values.{value-node, within_all}
use Rattle.uc_terms.proofs.Grown.{types-valid, type-node}

pub all_fit : (m : Model) (nodes : List Node) (high : ℕ) (ts : List ℕ) → ((t : ℕ) → t < high → Fits (type_at nodes t) (value m nodes t)) → All (λ t. t < high) ts → Fit (types_at nodes ts) (values_at m nodes ts)
all_fit m nodes high [] e h = tt
all_fit m nodes high (t ∷ ts) e h = (e t (All-head (λ t. t < high) t ts h), all_fit m nodes high ts e (All-tail (λ t. t < high) t ts h))

values_below_fit : (m : Model) (nodes : List Node) → WellTyped nodes → (high t : ℕ) → t < high → t < length nodes → Fits (type_at nodes t) (value m nodes t)
values_below_fit m nodes w zero t l h = absurd (omega arith)
values_below_fit m nodes w (suc high) t l h =
    let r = at_place nodes t h in
    let fine = w t r.0 r.1 in
    let parts = all_fit m nodes t r.0.parts (λ p b. values_below_fit m nodes w high p (omega (arith, b)) (omega (arith, b))) fine.before in
    let valid = types-valid nodes r.0.parts w (within_all nodes t r.0.parts h fine.before) in
    let whole = apply-fits m r.0.op (types_at nodes r.0.parts) (values_at m nodes r.0.parts) fine.suits valid parts in
    subst (λ ty. Fits ty (value m nodes t)) (sym (type-node nodes t r.0 r.1 ∙ fine.typed)) (subst (Fits (type_of r.0.op (types_at nodes r.0.parts))) (sym (value-node m nodes t r.0 w r.1)) whole)

-- the value of a term fits its type
pub value-fits : (m : Model) (nodes : List Node) (t : ℕ) → WellTyped nodes → t < length nodes → Fits (type_at nodes t) (value m nodes t)
value-fits m nodes t w h = values_below_fit m nodes w (t + 1) t (omega arith) h
