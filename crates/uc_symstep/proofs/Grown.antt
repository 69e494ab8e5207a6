-- What a table of terms keeps when it grows.
use Rattle.std.proofs.Common.{◌≡◌, ℕ, ◌<◌, ◌≤◌, List, [], ◌++◌, length, map, refl, sym, ap, ◌∙◌, arith, length-append, append_assoc, append-nil}
use Rattle.std.specs.Prelude.{All, Bool as Truth, true, false, ◌&&◌}
use Rattle.uc_values.specs.declared.value.Value.TheVariants.{Bool as Boolean}
use Rattle.uc_values.specs.declared.ty.Ty.{Ty}
use Rattle.uc_values.specs.declared.value.Value.{Value}
use Rattle.uc_ops.specs.declared.model.Model.{Model}
use Rattle.uc_ops.specs.declared.op.Op.{Op}
use Rattle.uc_ops.specs.declared.node.Node.{Node}
use Rattle.uc_ops.specs.Typing.{type_at, type_of, type_in, types_at}
use Rattle.uc_ops.specs.Meaning.{apply}
use Rattle.uc_ops.proofs.Lists.{slice_get-within, same_map}
use Rattle.uc_terms.specs.Tables.{Makes, node_of}
use Rattle.uc_terms.specs.Values.{value, values_at}
use Rattle.uc_terms.proofs.Values.{value-keeps}
use Rattle.uc_terms.proofs.Grown.{type-keeps}
use Rattle.uc_symstep.specs.Growing.{Grows, IsTerm, AreCells}

pub grows_not : (old new : List Node) → new ≡ old → Grows old new
grows_not old new e = record { more = []; is = e ∙ sym (append-nil old) }

pub grows_on : (old mid new : List Node) → Grows old mid → Grows mid new → Grows old new
grows_on old mid new a b = record { more = a.more ++ b.more; is = b.is ∙ ap (λ ns. ns ++ b.more) a.is ∙ append_assoc old a.more b.more }

pub grows_length : (old new : List Node) → Grows old new → length old ≤ length new
grows_length old new g = omega (arith, ap (λ ns. length ns) g.is, length-append old g.more)

pub grows_value : (old new : List Node) → Grows old new → (m : Model) (t : ℕ) → t < length old → value m new t ≡ value m old t
grows_value old new g m t h = ap (λ ns. value m ns t) g.is ∙ value-keeps m old g.more t h

pub grows_type : (old new : List Node) → Grows old new → (t : ℕ) → t < length old → type_at new t ≡ type_at old t
grows_type old new g t h = ap (λ ns. type_at ns t) g.is ∙ type-keeps old g.more t h

pub grows_values : (old new : List Node) → Grows old new → (m : Model) (ts : List ℕ) → All (λ t. t < length old) ts → map (value m new) ts ≡ map (value m old) ts
grows_values old new g m ts h = same_map (value m new) (value m old) (λ t. t < length old) ts (λ t l. grows_value old new g m t l) h

pub grows_types : (old new : List Node) → Grows old new → (ts : List ℕ) → All (λ t. t < length old) ts → map (type_at new) ts ≡ map (type_at old) ts
grows_types old new g ts h = same_map (type_at new) (type_at old) (λ t. t < length old) ts (λ t l. grows_type old new g t l) h

pub all_grow : (old new : List Node) → Grows old new → (ts : List ℕ) → All (λ t. t < length old) ts → All (λ t. t < length new) ts
all_grow old new g ts h k d l = omega (arith, h k d l, grows_length old new g)

pub cells_grow : (old new : List Node) (types : List Ty) (cells : List ℕ) → Grows old new → AreCells old types cells → AreCells new types cells
cells_grow old new types cells g a = record {
  there = all_grow old new g cells a.there;
  typed = grows_types old new g cells a.there ∙ a.typed;
}

pub made_type : (old new : List Node) (t : ℕ) (op : Op) (parts : List ℕ) → Makes old new t op parts → type_at new t ≡ type_of op (types_at old parts)
unfolding type_at
made_type old new t op parts m = ap type_in m.node

-- what `mk` makes is a term
pub made_term : (old new : List Node) (t : ℕ) (op : Op) (parts : List ℕ) (type : Ty) (meaning : Model → Value)
    → Makes old new t op parts → ((m : Model) → value m new t ≡ apply m op (types_at old parts) (values_at m old parts))
    → type_of op (types_at old parts) ≡ type → ((m : Model) → apply m op (types_at old parts) (values_at m old parts) ≡ meaning m)
    → IsTerm old new t type meaning
made_term old new t op parts type meaning m v e f = record {
  grown = record { more = m.grown.0; is = m.grown.1 };
  there = slice_get-within new t (node_of old op parts) m.node;
  typed = made_type old new t op parts m ∙ e;
  means = λ n. v n ∙ f n;
}

pub made_grows : (old new : List Node) (t : ℕ) (op : Op) (parts : List ℕ) → Makes old new t op parts → Grows old new
made_grows old new t op parts m = record { more = m.grown.0; is = m.grown.1 }

pub and_true_is : (b : Truth) → (b && true) ≡ b
and_true_is true = refl
and_true_is false = refl

pub both_hold : (a b : Truth) → Boolean (a && (b && true)) ≡ Boolean (a && b)
both_hold a b = ap (λ x. Boolean (a && x)) (and_true_is b)
