-- Lists of two values.
use Rattle.std.proofs.Common.{◌≡◌, ℕ, zero, suc, ◌+◌, List, [], ◌∷◌, All, arith}
use Rattle.uc_values.specs.Values.{width_in}
use Rattle.uc_values.specs.declared.value.Value.{Value}
use Rattle.uc_operators.specs.Words.{IsWord, total_width}

pub both_words : (v w : Value) → IsWord v → IsWord w → All IsWord (v ∷ (w ∷ []))
both_words v w first second zero d within = first
both_words v w first second (suc zero) d within = second
both_words v w first second (suc (suc k)) d within = absurd (omega (arith, within))

pub both_widths : (v w : Value) → total_width (v ∷ (w ∷ [])) ≡ width_in v + width_in w
unfolding total_width
both_widths v w = omega arith
