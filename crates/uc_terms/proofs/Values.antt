-- The value of a term under a model.
use Rattle.std.proofs.Common.{ℕ, ◌≡◌, ◌<◌, List, [], ◌∷◌, ◌++◌, length, map, All, Some, slice_get, refl, sym, ap, ◌∙◌, arith}
use Rattle.uc_ops.specs.declared.model.Model.{Model}
use Rattle.uc_ops.specs.declared.node.Node.{Node}
use Rattle.uc_ops.specs.Typing.{type_at, type_in, types_at}
use Rattle.uc_ops.specs.Meaning.{apply}
use Rattle.uc_ops.proofs.Lists.{same_map, at_place, slice_get-within}
use Rattle.uc_terms.specs.Tables.{WellTyped}
use Rattle.uc_terms.specs.Values.{Meant, meant, meant_types, meant_values, node_meant, nothing_meant, value, values_at}
use Rattle.uc_terms.specs.Laws.{KeepsValues}
use Rattle.uc_terms.proofs.Told.{told-keeps, told-node}

-- a term keeps its value when the table grows
pub value-keeps : (m : Model) (nodes more : List Node) (t : ℕ) → t < length nodes → value m (nodes ++ more) t ≡ value m nodes t
unfolding value meant
value-keeps m nodes more t h = ap (λ (x : Meant). x.value) (told-keeps nothing_meant (node_meant m) nodes more t h)

pub grown_keeps : (old new more : List Node) → new ≡ old ++ more → KeepsValues old new
grown_keeps old new more e m t h = ap (λ ns. value m ns t) e ∙ value-keeps m old more t h

meant-node : (m : Model) (nodes : List Node) (t : ℕ) (node : Node) → slice_get nodes t ≡ Some node → All (λ p. p < t) node.parts
    → meant m nodes t ≡ node_meant m node (map (meant m nodes) node.parts)
unfolding meant
meant-node m nodes t node h b = told-node nothing_meant (node_meant m) nodes t node h b

-- the type of a node in a well-typed table, from its meaning
meant-type : (m : Model) (nodes : List Node) (t : ℕ) → WellTyped nodes → t < length nodes → (meant m nodes t).ty ≡ type_at nodes t
unfolding type_at
meant-type m nodes t w h =
    let r = at_place nodes t h in
    ap (λ (x : Meant). x.ty) (meant-node m nodes t r.0 r.1 (w t r.0 r.1).before) ∙ sym (ap type_in r.1)

types-meant : (m : Model) (nodes : List Node) (parts : List ℕ) → WellTyped nodes → All (λ p. p < length nodes) parts → meant_types (map (meant m nodes) parts) ≡ types_at nodes parts
types-meant m nodes parts w b = map-map parts ∙ same_map (λ p. (meant m nodes p).ty) (type_at nodes) (λ p. p < length nodes) parts (λ p l. meant-type m nodes p w l) b
  where
    map-map : (ps : List ℕ) → meant_types (map (meant m nodes) ps) ≡ map (λ p. (meant m nodes p).ty) ps
    map-map [] = refl
    map-map (p ∷ ps) = ap (λ ts. (meant m nodes p).ty ∷ ts) (map-map ps)

values-meant : (m : Model) (nodes : List Node) (parts : List ℕ) → meant_values (map (meant m nodes) parts) ≡ values_at m nodes parts
unfolding value
values-meant m nodes [] = refl
values-meant m nodes (p ∷ ps) = ap (λ vs. value m nodes p ∷ vs) (values-meant m nodes ps)

pub within_all : (nodes : List Node) (t : ℕ) (parts : List ℕ) → t < length nodes → All (λ p. p < t) parts → All (λ p. p < length nodes) parts
within_all nodes t parts h b k d l = omega (arith, h, b k d l)

-- the value of a term is that of its operation on the values of its parts
pub value-node : (m : Model) (nodes : List Node) (t : ℕ) (node : Node) → WellTyped nodes → slice_get nodes t ≡ Some node → value m nodes t ≡ apply m node.op (types_at nodes node.parts) (values_at m nodes node.parts)
unfolding value
value-node m nodes t node w h =
    let before = (w t node h).before in
    let inside = within_all nodes t node.parts (slice_get-within nodes t node h) before in
    ap (λ (x : Meant). x.value) (meant-node m nodes t node h before)
    ∙ ap (λ ts. apply m node.op ts (meant_values (map (meant m nodes) node.parts))) (types-meant m nodes node.parts w inside)
    ∙ ap (apply m node.op (types_at nodes node.parts)) (values-meant m nodes node.parts)
