-- One operation in place of two, as it is found.
use Rattle.std.specs.Prelude.{◌≡◌, ℕ, ◌+◌, ◌<◌, Option, Some, None, IfSome}
use Rattle.std.proofs.Common.{sym, subst}
use Rattle.uc_ops.specs.declared.op.Op.{Op}
use Rattle.uc_ops.specs.declared.op.Op.TheVariants.{Extract, ZeroExt, SignExt}
use Rattle.uc_simplify_steps.specs.Combining.{Combines, cut_twice, cut_of_zeros, cut_of_signs, zeros_twice, signs_twice}

found : (width : ℕ) (op inner other next own : Op) → inner ≡ other → next ≡ own → Combines width op other own → Combines width op inner next
found width op inner other next own e f c = subst (λ i. Combines width op i next) (sym e) (subst (Combines width op other) (sym f) c)

pub cut_found : (width high low top bottom upper lower : ℕ) (inner : Op) → inner ≡ Extract top bottom → upper ≡ high + bottom → lower ≡ low + bottom → Combines width (Extract high low) inner (Extract upper lower)
cut_found width high low top bottom upper lower inner e f g =
    found width (Extract high low) inner (Extract top bottom) (Extract upper lower) (Extract (high + bottom) (low + bottom)) e (λ i. Extract (f i) (g i)) (cut_twice high low top bottom)

pub zeros_found : (width high low more : ℕ) (inner : Op) (o : Option Op) → inner ≡ ZeroExt more → IfSome o (λ next. (next ≡ Extract high low) × (high < width)) → IfSome o (Combines width (Extract high low) inner)
zeros_found width high low more inner None e h = tt
zeros_found width high low more inner (Some next) e h = found width (Extract high low) inner (ZeroExt more) next (Extract high low) e h.0 (cut_of_zeros high low more h.1)

pub signs_found : (width high low more : ℕ) (inner : Op) (o : Option Op) → inner ≡ SignExt more → IfSome o (λ next. (next ≡ Extract high low) × (high < width)) → IfSome o (Combines width (Extract high low) inner)
signs_found width high low more inner None e h = tt
signs_found width high low more inner (Some next) e h = found width (Extract high low) inner (SignExt more) next (Extract high low) e h.0 (cut_of_signs high low more h.1)

pub zeros_twice_found : (width more own all : ℕ) (inner : Op) → inner ≡ ZeroExt own → all ≡ own + more → Combines width (ZeroExt more) inner (ZeroExt all)
zeros_twice_found width more own all inner e f = found width (ZeroExt more) inner (ZeroExt own) (ZeroExt all) (ZeroExt (own + more)) e (λ i. ZeroExt (f i)) (zeros_twice more own)

pub signs_twice_found : (width more own all : ℕ) (inner : Op) → inner ≡ SignExt own → all ≡ own + more → Combines width (SignExt more) inner (SignExt all)
signs_twice_found width more own all inner e f = found width (SignExt more) inner (SignExt own) (SignExt all) (SignExt (own + more)) e (λ i. SignExt (f i)) (signs_twice more own)
