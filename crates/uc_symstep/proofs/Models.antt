-- Models that agree on the symbols of a supply give each known term the same value.
use Rattle.std.proofs.Common.{◌≡◌, ℕ, List, length, map, Some, refl, sym, ap, ◌∙◌, slice_get}
use Rattle.std.specs.Prelude.{All, Contains}
use Rattle.std.specs.Option.{option_map}
use Rattle.std.proofs.lemmas.Option.{slice_get_within}
use Rattle.std.proofs.lemmas.List.Elements.{All-contains_itself}
use Rattle.uc_values.specs.declared.ty.Ty.{Ty}
use Rattle.uc_values.specs.declared.value.Value.{Value}
use Rattle.uc_values.specs.Tables.{result_of}
use Rattle.uc_ops.specs.declared.model.Model.{Model}
use Rattle.uc_ops.specs.declared.op.Op.{Op}
use Rattle.uc_ops.specs.declared.op.Op.TheVariants.{Symbol, App}
use Rattle.uc_ops.specs.declared.node.Node.{Node}
use Rattle.uc_ops.specs.Typing.{types_at}
use Rattle.uc_ops.specs.Meaning.{fitting, apply}
use Rattle.uc_ops.proofs.Lists.{same_map}
use Rattle.uc_terms.specs.Tables.{WellTyped}
use Rattle.uc_terms.specs.Values.{value, values_at}
use Rattle.uc_terms.proofs.Values.{value-node}
use Rattle.uc_flat.specs.Laws.{AgreeBelow}
use Rattle.uc_symstep.specs.Known.{IsKnown, known}

-- the symbols of the supply have the same values, as they are read at its types
abbrev pub Agree : List Ty → Model → Model → Type 0
Agree supply m n = (number : ℕ) (ty : Ty) → slice_get supply number ≡ Some ty → fitting ty (slice_get n.symbols number) ≡ fitting ty (slice_get m.symbols number)

pub agree_below : (supply : List Ty) (m n : Model) → AgreeBelow (length supply) m n → Agree supply m n
agree_below supply m n a number ty s = ap (fitting ty) (sym (a.symbols number (slice_get_within supply number ty s)))

same_apply : (m n : Model) (op : Op) (types : List Ty) (values : List Value) → n.tables ≡ m.tables
    → ((number : ℕ) (ty : Ty) → op ≡ Symbol number ty → fitting ty (slice_get n.symbols number) ≡ fitting ty (slice_get m.symbols number)) → apply n op types values ≡ apply m op types values
same_apply m n (Symbol k ty) types values e h = h k ty refl
same_apply m n (App k ty) types values e h = ap (λ ts. fitting ty (option_map (λ table. result_of table values) (slice_get ts k))) e
same_apply m n other types values e h = refl

pub same_value : (supply : List Ty) (nodes : List Node) (m n : Model) → WellTyped nodes → n.tables ≡ m.tables → Agree supply m n → (t : ℕ) → IsKnown supply nodes t → value n nodes t ≡ value m nodes t
same_value supply nodes m n w e h t (known u node there symbol parts) =
    value-node n nodes t node w there
    ∙ same_apply m n node.op (types_at nodes node.parts) (values_at n nodes node.parts) e (λ number ty is. h number ty (symbol number ty is))
    ∙ ap (apply m node.op (types_at nodes node.parts))
    (same_map (value n nodes) (value m nodes) (Contains node.parts) node.parts (λ p c. same_value supply nodes m n w e h p (parts p c)) (All-contains_itself node.parts))
    ∙ sym (value-node m nodes t node w there)

pub same_values : (supply : List Ty) (nodes : List Node) (m n : Model) → WellTyped nodes → n.tables ≡ m.tables → Agree supply m n → (ts : List ℕ) → All (IsKnown supply nodes) ts
    → map (value n nodes) ts ≡ map (value m nodes) ts
same_values supply nodes m n w e h ts k = same_map (value n nodes) (value m nodes) (IsKnown supply nodes) ts (same_value supply nodes m n w e h) k
