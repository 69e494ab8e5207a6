-- Which operations are computed.
use Rattle.std.specs.Prelude.{◌≡◌, true, false, List, [], ◌∷◌, All}
use Rattle.std.proofs.Common.{sym, subst}
use Rattle.std.proofs.lemmas.Bool.{false≢true}
use Rattle.std.proofs.lemmas.List.Elements.{All-head}
use Rattle.uc_values.specs.declared.ty.Ty.{Ty}
use Rattle.uc_values.specs.declared.ty.Ty.TheVariants.{Int, Arr, Rec}
use Rattle.uc_ops.specs.declared.op.Op.{Op}
use Rattle.uc_ops.specs.declared.op.Op.TheVariants.{Symbol, Const, Not, And, Or, Eq, Ite, Add, Scale, Le, BvAdd, BvSub, BvMul, BvNeg, BvAnd, BvOr, BvXor, BvNot, Concat, Extract, ZeroExt, SignExt, Shl, Lshr, Ashr, Slt, Sle, Ult, Ule, App, Select, Store, Diff, MkRec, GetField}
use Rattle.uc_ops.specs.Typing.{Suits, type_of, part_type}
use Rattle.uc_blast.specs.Words.{is_bits}
use Rattle.uc_blast.specs.Operations.{IsComputed}
use Rattle.uc_blast.specs.Blasting.{is_atomic}

abbrev AllBits : List Ty → Type 0
AllBits types = All (λ ty. is_bits ty ≡ true) types

first-bits : (ty : Ty) (rest types : List Ty) → types ≡ ty ∷ rest → AllBits types → is_bits ty ≡ true
first-bits ty rest types e h = All-head (λ ty. is_bits ty ≡ true) ty rest (subst AllBits e h)

-- an operation that is not opaque, from booleans and bit-vectors to one of them
pub computed-by : (op : Op) (types : List Ty) → Suits op types → is_atomic op ≡ false → is_bits (type_of op types) ≡ true → AllBits types → IsComputed op types
computed-by (Symbol number ty) types s a t h = absurd (false≢true (sym a))
computed-by (App number ty) types s a t h = absurd (false≢true (sym a))
computed-by (Const ty value) types s a t h = t
computed-by Not types s a t h = tt
computed-by And types s a t h = tt
computed-by Or types s a t h = tt
computed-by Eq types s a t h = subst (λ ts. is_bits (part_type ts 0) ≡ true) (sym s.1) (first-bits s.0 (s.0 ∷ []) types s.1 h)
computed-by Ite types s a t h = t
computed-by Add types s a t h = absurd (false≢true t)
computed-by (Scale factor) types s a t h = absurd (false≢true t)
computed-by Le types s a t h = absurd (false≢true (first-bits Int (Int ∷ []) types s h))
computed-by BvAdd types s a t h = tt
computed-by BvSub types s a t h = tt
computed-by BvMul types s a t h = tt
computed-by BvNeg types s a t h = tt
computed-by BvAnd types s a t h = tt
computed-by BvOr types s a t h = tt
computed-by BvXor types s a t h = tt
computed-by BvNot types s a t h = tt
computed-by Concat types s a t h = tt
computed-by (Extract high low) types s a t h = tt
computed-by (ZeroExt more) types s a t h = tt
computed-by (SignExt more) types s a t h = tt
computed-by Shl types s a t h = tt
computed-by Lshr types s a t h = tt
computed-by Ashr types s a t h = tt
computed-by Slt types s a t h = tt
computed-by Sle types s a t h = tt
computed-by Ult types s a t h = tt
computed-by Ule types s a t h = tt
computed-by Select types s a t h = absurd (false≢true (first-bits (Arr s.0 s.1) (s.0 ∷ []) types s.2 h))
computed-by Store types s a t h = absurd (false≢true (first-bits (Arr s.0 s.1) (s.0 ∷ s.1 ∷ []) types s.2 h))
computed-by Diff types s a t h = absurd (false≢true (first-bits (Arr s.0 s.1) (Arr s.0 s.1 ∷ []) types s.2 h))
computed-by (MkRec ty) types s a t h = absurd (false≢true (subst (λ x. is_bits x ≡ true) s.1 t))
computed-by (GetField place) types s a t h = absurd (false≢true (first-bits (Rec s.0) [] types s.1 h))
