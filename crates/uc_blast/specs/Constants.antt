-- Constants of booleans and bit-vectors.
use Rattle.std.specs.Prelude.{◌≡◌, ℕ, ◌<◌, ◌≤◌, ◌^◌, Bool as Truth, List}
use Rattle.uc_values.specs.declared.ty.Ty.{Ty}
use Rattle.uc_values.specs.declared.ty.Ty.TheVariants.{Bool, Bv}
use Rattle.uc_values.specs.declared.value.Value.{Value}
use Rattle.uc_values.specs.declared.value.Value.TheVariants.{Bool as truth, Bv as bits}
use Rattle.uc_circuit.specs.declared.signal.Signal.{Signal}
use Rattle.uc_blast.specs.Words.{worth, IsWord}

-- a boolean, or a bit-vector of at most 64 bits
abbrev pub IsPlain : Value → Type 0
IsPlain (truth b) = Unit {0}
IsPlain (bits width n) = (width ≤ 64) × (n < 2 ^ width)
IsPlain other = ⊥

-- the type of such a value
abbrev pub plain_type : Value → Ty
plain_type (truth b) = Bool
plain_type (bits width n) = Bv width
plain_type other = Bool

-- constant signals stand for the value
pub record StandsForValue (value : Value) (word : List Signal) : Type 0 where
  pub is_word : IsWord 0 (plain_type value) word
  pub stands : (v : ℕ → Truth) → value ≡ worth v (plain_type value) word
