-- One operation in place of two, each on one bit-vector.
use Rattle.std.specs.Prelude.{◌≡◌, ℕ, ◌+◌, ◌<◌, ◌&&◌, nat_eq, Bool as Truth, false}
use Rattle.uc_ops.specs.declared.op.Op.{Op}
use Rattle.uc_ops.specs.declared.op.Op.TheVariants.{BvNeg, BvNot, Extract, ZeroExt, SignExt}

-- the operation undoes the other
pub data Undoes : Op → Op → Type 0 where
  complements : Undoes BvNot BvNot
  negations : Undoes BvNeg BvNeg

-- the operation on the other, on bits of the width, is the third
pub data Combines (width : ℕ) : Op → Op → Op → Type 0 where
  cut_twice : (high low top bottom : ℕ) → Combines width (Extract high low) (Extract top bottom) (Extract (high + bottom) (low + bottom))
  cut_of_zeros : (high low more : ℕ) → high < width → Combines width (Extract high low) (ZeroExt more) (Extract high low)
  cut_of_signs : (high low more : ℕ) → high < width → Combines width (Extract high low) (SignExt more) (Extract high low)
  zeros_twice : (more own : ℕ) → Combines width (ZeroExt more) (ZeroExt own) (ZeroExt (own + more))
  signs_twice : (more own : ℕ) → Combines width (SignExt more) (SignExt own) (SignExt (own + more))

-- the operation leaves bits of the width as they are
abbrev pub keeps_all : Op → ℕ → Truth
keeps_all (Extract high low) width = nat_eq low 0 && nat_eq (high + 1) width
keeps_all (ZeroExt more) width = nat_eq more 0
keeps_all (SignExt more) width = nat_eq more 0
keeps_all other width = false
