-- The words of terms: the signals that stand for a boolean or for the bits of a bit-vector, from the lowest.
use Rattle.std.specs.Prelude.{◌≡◌, ℕ, Bool as Truth, true, false, List, [], ◌∷◌, length, map, slice_index_or}
use Rattle.std.specs.List.{AllZip}
use Rattle.uc_values.specs.Values.{nothing}
use Rattle.uc_values.specs.declared.ty.Ty.{Ty}
use Rattle.uc_values.specs.declared.ty.Ty.TheVariants.{Bool, Bv}
use Rattle.uc_values.specs.declared.value.Value.{Value}
use Rattle.uc_values.specs.declared.value.Value.TheVariants.{Bool as truth, Bv as bits}
use Rattle.uc_ops.specs.declared.model.Model.{Model}
use Rattle.uc_ops.specs.declared.op.Op.{Op}
use Rattle.uc_ops.specs.Typing.{type_of}
use Rattle.uc_ops.specs.Meaning.{apply}
use Rattle.uc_circuit.specs.declared.signal.Signal.{Signal}
use Rattle.uc_circuit.specs.declared.signal.Signal.TheVariants.{Constant}
use Rattle.uc_circuit.specs.Signals.{signal_value, number, AllBelow}
use Rattle.uc_circuit.specs.Building.{Building, size, Obeys}

-- booleans and bit-vectors
abbrev pub is_bits : Ty → Truth
is_bits Bool = true
is_bits (Bv width) = true
is_bits other = false

-- how many bits the values of the type have
abbrev pub bit_width : Ty → ℕ
bit_width Bool = 1
bit_width (Bv width) = width
bit_width other = 0

abbrev pub first : (ℕ → Truth) → List Signal → Truth
first v word = signal_value v (slice_index_or word 0 (Constant false))

-- the value that the signals stand for, where v gives each variable its value
abbrev pub worth : (ℕ → Truth) → Ty → List Signal → Value
worth v Bool word = truth (first v word)
worth v (Bv width) word = bits width (number v word)
worth v other word = nothing

abbrev pub worths : (ℕ → Truth) → List Ty → List (List Signal) → List Value
worths v [] words = []
worths v (ty ∷ types) [] = []
worths v (ty ∷ types) (word ∷ words) = worth v ty word ∷ worths v types words

-- the words of parts
abbrev pub words_at : List (List Signal) → List ℕ → List (List Signal)
words_at words parts = map (λ p. slice_index_or words p []) parts

-- the signals are of the circuit, as many as the values of the type have bits
pub record IsWord (n : ℕ) (ty : Ty) (word : List Signal) : Type 0 where
  pub below : AllBelow n word
  pub long : length word ≡ bit_width ty

-- a word for each type
abbrev pub AreWords : ℕ → List Ty → List (List Signal) → Type 0
AreWords n types words = AllZip (IsWord n) types words

-- the word stands for the operation on what the words of the parts stand for
pub record Gives (b : Building) (op : Op) (types : List Ty) (words : List (List Signal)) (word : List Signal) : Type 0 where
  pub is_word : IsWord (size b) (type_of op types) word
  pub value : (v : ℕ → Truth) → Obeys v b → (m : Model) → apply m op types (worths v types words) ≡ worth v (type_of op types) word
