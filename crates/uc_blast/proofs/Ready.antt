-- The words of parts that suit an operation.
use Rattle.std.specs.Prelude.{◌≡◌, ℕ, ◌<◌, ◌≤◌, List, [], ◌∷◌, length}
use Rattle.std.proofs.Common.{sym, ap, ◌∙◌, arith, subst, get_or}
use Rattle.uc_values.specs.declared.ty.Ty.{Ty}
use Rattle.uc_values.specs.declared.ty.Ty.TheVariants.{Bv}
use Rattle.uc_ops.specs.declared.op.Op.{Op}
use Rattle.uc_ops.specs.declared.op.Op.TheVariants.{BvAdd, BvSub, BvMul, BvNeg, BvAnd, BvOr, BvXor, BvNot, Extract, ZeroExt, SignExt, Shl, Lshr, Ashr, Slt, Sle, Ult, Ule}
use Rattle.uc_ops.specs.Typing.{Suits, AllValid, Pair_of_bits}
use Rattle.uc_ops.proofs.Typed.{Bv-positive, Bv-small, first_valid}
use Rattle.uc_circuit.specs.declared.signal.Signal.{Signal}
use Rattle.uc_circuit.specs.Signals.{AllBelow}
use Rattle.uc_blast.specs.Words.{AreWords}
use Rattle.uc_blast.specs.Operations.{IsPair, IsOrder, IsSingle, SuitsWidth}

-- two words of bit-vectors of one width
pub record TwoWords (n : ℕ) (types : List Ty) (words : List (List Signal)) (x y : List Signal) : Type 0 where
  pub types_are : types ≡ Bv (length x) ∷ Bv (length x) ∷ []
  pub words_are : words ≡ x ∷ y ∷ []
  pub x_below : AllBelow n x
  pub y_below : AllBelow n y
  pub long : length y ≡ length x
  pub some : 0 < length x
  pub narrow : length x ≤ 64

two-by : (n w : ℕ) (words : List (List Signal)) (x y : List Signal) → 1 ≤ w → w ≤ 64 → x ≡ get_or words 0 [] → y ≡ get_or words 1 [] → AreWords n (Bv w ∷ Bv w ∷ []) words → TwoWords n (Bv w ∷ Bv w ∷ []) words x y
two-by n w [] x y l h ex ey a = absurd a
two-by n w (p ∷ []) x y l h ex ey a = absurd a.1
two-by n w (p ∷ q ∷ r ∷ rest) x y l h ex ey a = absurd a.1.1
two-by n w (p ∷ q ∷ []) x y l h ex ey a =
    let lx : length x ≡ w = ap (length {A = Signal}) ex ∙ a.0.long in
    let ly : length y ≡ w = ap (length {A = Signal}) ey ∙ a.1.0.long in record {
      types_are = ap (λ k. Bv k ∷ Bv k ∷ []) (sym lx);
      words_are = (λ i. sym ex i ∷ sym ey i ∷ []);
      x_below = subst (AllBelow n) (sym ex) a.0.below;
      y_below = subst (AllBelow n) (sym ey) a.1.0.below;
      long = ly ∙ sym lx;
      some = omega arith;
      narrow = omega arith;
    }

pub two-words : (n : ℕ) (types : List Ty) (words : List (List Signal)) (x y : List Signal) → Pair_of_bits types → AllValid types
    → x ≡ get_or words 0 [] → y ≡ get_or words 1 [] → AreWords n types words → TwoWords n types words x y
two-words n types words x y p valid ex ey a =
    let v = first_valid (Bv p.0) (Bv p.0 ∷ []) types p.1 valid in
    subst (λ ts. TwoWords n ts words x y) (sym p.1)
    (two-by n p.0 words x y (Bv-positive p.0 v) (Bv-small p.0 v) ex ey (subst (λ ts. AreWords n ts words) p.1 a))

pub pair-suits : (op : Op) → IsPair op → (types : List Ty) → Suits op types → Pair_of_bits types
pair-suits BvAdd is types s = s
pair-suits BvSub is types s = s
pair-suits BvMul is types s = s
pair-suits BvAnd is types s = s
pair-suits BvOr is types s = s
pair-suits BvXor is types s = s
pair-suits Shl is types s = s
pair-suits Lshr is types s = s
pair-suits Ashr is types s = s
pair-suits _ is types s = absurd is

pub order-suits : (op : Op) → IsOrder op → (types : List Ty) → Suits op types → Pair_of_bits types
order-suits Slt is types s = s
order-suits Sle is types s = s
order-suits Ult is types s = s
order-suits Ule is types s = s
order-suits _ is types s = absurd is

-- a word of a bit-vector
pub record OneWord (n : ℕ) (op : Op) (types : List Ty) (words : List (List Signal)) (x : List Signal) : Type 0 where
  pub types_are : types ≡ Bv (length x) ∷ []
  pub words_are : words ≡ x ∷ []
  pub below : AllBelow n x
  pub some : 0 < length x
  pub suits : SuitsWidth op (length x)

one-by : (n w : ℕ) (op : Op) (words : List (List Signal)) (x : List Signal) → 1 ≤ w → SuitsWidth op w → x ≡ get_or words 0 [] → AreWords n (Bv w ∷ []) words → OneWord n op (Bv w ∷ []) words x
one-by n w op [] x l s ex a = absurd a
one-by n w op (p ∷ q ∷ rest) x l s ex a = absurd a.1
one-by n w op (p ∷ []) x l s ex a =
    let lx : length x ≡ w = ap (length {A = Signal}) ex ∙ a.0.long in record {
      types_are = ap (λ k. Bv k ∷ []) (sym lx);
      words_are = (λ i. sym ex i ∷ []);
      below = subst (AllBelow n) (sym ex) a.0.below;
      some = omega arith;
      suits = subst (SuitsWidth op) (sym lx) s;
    }

single-suits : (op : Op) → IsSingle op → (types : List Ty) → Suits op types → (width : ℕ) × (types ≡ Bv width ∷ []) × SuitsWidth op width
single-suits BvNeg is types s = (s.0, s.1, tt)
single-suits BvNot is types s = (s.0, s.1, tt)
single-suits (Extract high low) is types s = (s.0, s.1, (s.2, s.3))
single-suits (ZeroExt more) is types s = (s.0, s.1, tt)
single-suits (SignExt more) is types s = (s.0, s.1, tt)
single-suits _ is types s = absurd is

pub one-word : (n : ℕ) (op : Op) (types : List Ty) (words : List (List Signal)) (x : List Signal) → IsSingle op → Suits op types → AllValid types
    → x ≡ get_or words 0 [] → AreWords n types words → OneWord n op types words x
one-word n op types words x is s valid ex a =
    let p = single-suits op is types s in
    let v = first_valid (Bv p.0) [] types p.1 valid in
    subst (λ ts. OneWord n op ts words x) (sym p.1)
    (one-by n p.0 op words x (Bv-positive p.0 v) p.2 ex (subst (λ ts. AreWords n ts words) p.1 a))
