-- What is known where the parts of a term have their values.
use Rattle.std.proofs.Common.{◌≡◌, ℕ, ◌<◌, List, map, slice_get, Some, All, sym, ap, ◌∙◌, subst, arith}
use Rattle.uc_values.specs.declared.value.Value.{Value}
use Rattle.uc_ops.specs.declared.model.Model.{Model}
use Rattle.uc_ops.specs.declared.node.Node.{Node}
use Rattle.uc_ops.specs.Typing.{types_at}
use Rattle.uc_ops.specs.Meaning.{part, apply}
use Rattle.uc_ops.specs.Met.{Sound, met_in}
use Rattle.uc_ops.proofs.Lists.{same_map, slice_get-within}
use Rattle.uc_ops.proofs.Soundness.{op-sound}
use Rattle.uc_terms.specs.Tables.{WellTyped, parts_at}
use Rattle.uc_terms.specs.Values.{value, values_at}
use Rattle.uc_terms.specs.Met.{met_by, met_at}
use Rattle.uc_terms.proofs.Values.{value-node, within_all}
use Rattle.uc_terms.proofs.Grown.{types-valid, parts-node}
use Rattle.uc_terms.proofs.Fitting.{all_fit, value-fits}

-- the operation can be applied to the given values, and gives the value of the term
pub record IsReady (m : Model) (nodes : List Node) (place : ℕ) (node : Node) (given : List Value) : Type 0 where
  pub sound : Sound node.op (map (part given) node.parts)
  pub value : apply m node.op (types_at nodes node.parts) (map (part given) node.parts) ≡ value m nodes place
  pub met : met_in node.op (map (part given) node.parts) ≡ met_at m nodes place

met-node : (m : Model) (nodes : List Node) (place : ℕ) (node : Node) → slice_get nodes place ≡ Some node → met_at m nodes place ≡ met_in node.op (values_at m nodes node.parts)
unfolding met_at
met-node m nodes place node h = ap (met_by m nodes) h

pub ready : (m : Model) (nodes : List Node) (place : ℕ) (node : Node) (given : List Value) → WellTyped nodes → slice_get nodes place ≡ Some node → All (λ p. p < place → part given p ≡ value m nodes p) (parts_at nodes place)
    → IsReady m nodes place node given
ready m nodes place node given w h g =
    let fine = w place node h in
    let within = slice_get-within nodes place node h in
    let same : map (part given) node.parts ≡ values_at m nodes node.parts =
    same_map (part given) (value m nodes) (λ p. part given p ≡ value m nodes p) node.parts (λ p e. e) (λ k d l. subst (All (λ p. p < place → part given p ≡ value m nodes p)) (parts-node nodes place node h) g k d l (fine.before k d l)) in
    let fit = all_fit m nodes place node.parts (λ p l. value-fits m nodes p w (omega (arith, l, within))) fine.before in
    let valid = types-valid nodes node.parts w (within_all nodes place node.parts within fine.before) in
    record {
      sound = subst (Sound node.op) (sym same) (op-sound node.op (types_at nodes node.parts) (values_at m nodes node.parts) fine.suits valid fit);
      value = ap (apply m node.op (types_at nodes node.parts)) same ∙ sym (value-node m nodes place node w h);
      met = ap (met_in node.op) same ∙ sym (met-node m nodes place node h);
    }
