-- An operation can be evaluated on values that fit the types of its parts.
use Rattle.std.specs.Prelude.{ℕ, ◌+◌, ◌<◌, ◌≤◌, ◌^◌, List, [], ◌∷◌}
use Rattle.std.proofs.Common.{sym, ap, ◌∙◌, subst, arith}
use Rattle.uc_values.specs.Values.{width_in, bits_of}
use Rattle.uc_values.proofs.Fitting.{Fit, IsBits, IsBits-fits}
use Rattle.uc_values.specs.declared.ty.Ty.{Ty}
use Rattle.uc_values.specs.declared.ty.Ty.TheVariants.{Bv}
use Rattle.uc_values.specs.declared.value.Value.{Value}
use Rattle.uc_ops.specs.declared.op.Op.{Op}
use Rattle.uc_ops.specs.declared.op.Op.TheVariants.{BvAdd, BvSub, BvMul, BvNeg, BvAnd, BvOr, BvXor, BvNot, Concat, Extract, ZeroExt, SignExt, Shl, Lshr, Ashr, Slt, Sle}
use Rattle.uc_ops.specs.Typing.{Suits, AllValid, Bits, Pair_of_bits, Extends}
use Rattle.uc_ops.specs.Meaning.{part}
use Rattle.uc_ops.specs.Met.{Sound, IsWord, AreWords}
use Rattle.uc_ops.proofs.Typed.{Bv-small, first_valid}
use Rattle.uc_ops.proofs.Fitting.{fit_one, fit_two}

word : (width : ℕ) (v : Value) → width ≤ 64 → IsBits width v → IsWord v
word width v h b = record {
  width = subst (λ w. w ≤ 64) (sym (ap width_in b.is)) h;
  small = subst (λ x. bits_of x < 2 ^ width_in x) (sym b.is) b.small;
}

words : (width : ℕ) (v w : Value) → width ≤ 64 → IsBits width v → IsBits width w → AreWords v w
words width v w h b c = record { first = word width v h b; second = word width w h c; same = ap width_in c.is ∙ sym (ap width_in b.is) }

one_word : (types : List Ty) (values : List Value) → Bits types → AllValid types → Fit types values → IsWord (part values 0)
one_word types values s v f =
    let r = fit_one (Bv s.0) types values s.1 f in
    let small = Bv-small s.0 (first_valid (Bv s.0) [] types s.1 v) in
    subst (λ vs. IsWord (part vs 0)) (sym r.is) (word s.0 r.a small (IsBits-fits s.0 r.a r.fit))

two_words : (types : List Ty) (values : List Value) → Pair_of_bits types → AllValid types → Fit types values → AreWords (part values 0) (part values 1)
two_words types values s v f =
    let r = fit_two (Bv s.0) (Bv s.0) types values s.1 f in
    let small = Bv-small s.0 (first_valid (Bv s.0) (Bv s.0 ∷ []) types s.1 v) in
    subst (λ vs. AreWords (part vs 0) (part vs 1)) (sym r.is) (words s.0 r.a r.b small (IsBits-fits s.0 r.a r.fit_a) (IsBits-fits s.0 r.b r.fit_b))

wider_word : (more : ℕ) (types : List Ty) (values : List Value) → Extends more types → Fit types values → IsWord (part values 0) × (width_in (part values 0) + more ≤ 64)
wider_word more types values s f =
    let r = fit_one (Bv s.0) types values s.1 f in
    let b = IsBits-fits s.0 r.a r.fit in
    subst (λ vs. IsWord (part vs 0) × (width_in (part vs 0) + more ≤ 64)) (sym r.is)
    (word s.0 r.a (omega (arith, s.2)) b, omega (arith, s.2, ap width_in b.is))

pub op-sound : (op : Op) (types : List Ty) (values : List Value) → Suits op types → AllValid types → Fit types values → Sound op values
op-sound BvAdd types values s v f = two_words types values s v f
op-sound BvSub types values s v f = two_words types values s v f
op-sound BvMul types values s v f = two_words types values s v f
op-sound BvAnd types values s v f = two_words types values s v f
op-sound BvOr types values s v f = two_words types values s v f
op-sound BvXor types values s v f = two_words types values s v f
op-sound Shl types values s v f = two_words types values s v f
op-sound Lshr types values s v f = two_words types values s v f
op-sound Ashr types values s v f = two_words types values s v f
op-sound Slt types values s v f = two_words types values s v f
op-sound Sle types values s v f = two_words types values s v f
op-sound BvNeg types values s v f = one_word types values s v f
op-sound BvNot types values s v f = one_word types values s v f
op-sound (ZeroExt more) types values s v f = wider_word more types values s f
op-sound (SignExt more) types values s v f = wider_word more types values s f
op-sound (Extract high low) types values s v f =
    let small = Bv-small s.0 (first_valid (Bv s.0) [] types s.1 v) in (s.2, omega (arith, s.3, small))
op-sound Concat types values s v f =
    let r = fit_two (Bv s.0) (Bv s.1) types values s.2 f in
    let a = IsBits-fits s.0 r.a r.fit_a in
    let b = IsBits-fits s.1 r.b r.fit_b in
    subst (λ vs. IsWord (part vs 0) × IsWord (part vs 1) × (width_in (part vs 0) + width_in (part vs 1) ≤ 64)) (sym r.is)
    (word s.0 r.a (omega (arith, s.3)) a, word s.1 r.b (omega (arith, s.3)) b, omega (arith, ap width_in a.is, ap width_in b.is, s.3))
op-sound op types values s v f = tt
