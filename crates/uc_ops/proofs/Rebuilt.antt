-- An operation that suits its parts is told by its code and the type that it holds.
use Rattle.std.specs.Prelude.{◌≡◌, ℕ, ℤ, pos, negsuc, Bool, true, false, nat_eq, IsTrue, if◌then◌else◌, List}
use Rattle.std.proofs.Common.{refl, sym, ap, ◌∙◌, subst}
use Rattle.std.proofs.lemmas.Bool.{false≢true}
use Rattle.uc_values.specs.Values.{fits}
use Rattle.uc_values.proofs.Fitting.{IsBoolean-fits, IsInteger-fits, IsBits-fits, IsLabel-fits}
use Rattle.uc_values.specs.declared.ty.Ty.{Ty}
use Rattle.uc_values.specs.declared.ty.Ty.TheVariants.{Bool as Boolean, Int as Integer, Bv as Bits, Enum as Label}
use Rattle.uc_values.specs.declared.value.Value.{Value}
use Rattle.uc_values.specs.declared.value.Value.TheVariants.{Bool as Truth, Int, Bv, Enum}
use Rattle.uc_ops.specs.declared.equality.Code.{Code}
use Rattle.uc_ops.specs.declared.op.Op.{Op}
use Rattle.uc_ops.specs.declared.op.Op.TheVariants.{Symbol, Const, Not, And, Or, Eq, Ite, Add, Scale, Le, BvAdd, BvSub, BvMul, BvNeg, BvAnd, BvOr, BvXor, BvNot, Concat, Extract, ZeroExt, SignExt, Shl, Lshr, Ashr, Slt, Sle, Ult, Ule, App, Select, Store, Diff, MkRec, GetField}
use Rattle.uc_ops.specs.declared.node.Node.{Node}
use Rattle.uc_ops.specs.Equality.{op_code, held_type, equal_nodes}
use Rattle.uc_ops.specs.Decisions.{nodes-decided, Key}
use Rattle.uc_ops.specs.Typing.{Suits, type_or, is_constant}

magnitude : ℤ → ℕ
magnitude (pos n) = n
magnitude (negsuc n) = n

-- the constant of a code
constant_of : Code → Value
constant_of c =
    if nat_eq c.kind 1 then Truth (nat_eq c.first 1)
    else if nat_eq c.kind 2 then Int c.number
    else if nat_eq c.kind 3 then Bv c.first (magnitude c.number)
    else Enum c.first c.second

-- the operation of a code from 14 on
late_op : Code → Ty → Op
late_op c ty =
    if nat_eq c.kind 14 then Le else if nat_eq c.kind 15 then BvAdd else if nat_eq c.kind 16 then BvSub else if nat_eq c.kind 17 then BvMul
    else if nat_eq c.kind 18 then BvNeg else if nat_eq c.kind 19 then BvAnd else if nat_eq c.kind 20 then BvOr else if nat_eq c.kind 21 then BvXor
    else if nat_eq c.kind 22 then BvNot else if nat_eq c.kind 23 then Concat else if nat_eq c.kind 24 then Extract c.first c.second
    else if nat_eq c.kind 25 then ZeroExt c.first else if nat_eq c.kind 26 then SignExt c.first else if nat_eq c.kind 27 then Shl
    else if nat_eq c.kind 28 then Lshr else if nat_eq c.kind 29 then Ashr else if nat_eq c.kind 30 then Slt else if nat_eq c.kind 31 then Sle
    else if nat_eq c.kind 32 then Ult else if nat_eq c.kind 33 then Ule else if nat_eq c.kind 34 then App c.first ty
    else if nat_eq c.kind 35 then Select else if nat_eq c.kind 36 then Store else if nat_eq c.kind 37 then Diff
    else if nat_eq c.kind 38 then MkRec ty else GetField c.first

-- the operation of a code and a type
rebuilt : Code → Ty → Op
rebuilt c ty =
    if nat_eq c.kind 0 then Symbol c.first ty else if nat_eq c.kind 7 then Not else if nat_eq c.kind 8 then And else if nat_eq c.kind 9 then Or
    else if nat_eq c.kind 10 then Eq else if nat_eq c.kind 11 then Ite else if nat_eq c.kind 12 then Add else if nat_eq c.kind 13 then Scale c.number
    else if nat_eq c.kind 1 then Const ty (constant_of c) else if nat_eq c.kind 2 then Const ty (constant_of c)
    else if nat_eq c.kind 3 then Const ty (constant_of c) else if nat_eq c.kind 4 then Const ty (constant_of c) else late_op c ty

abbrev again : Op → Op
again op = rebuilt (op_code op) (type_or (held_type op))

truth_again : (ty : Ty) (b : Bool) → again (Const ty (Truth b)) ≡ Const ty (Truth b)
unfolding rebuilt constant_of
truth_again ty true = refl
truth_again ty false = refl

bits_again : (ty : Ty) (width n : ℕ) → again (Const ty (Bv width n)) ≡ Const ty (Bv width n)
unfolding rebuilt constant_of magnitude
bits_again ty width n = refl

constant_again : (ty : Ty) (v : Value) → IsTrue (is_constant ty) → IsTrue (fits ty v) → again (Const ty v) ≡ Const ty v
unfolding rebuilt constant_of
constant_again Boolean v c f = let b = IsBoolean-fits v f in subst (λ x. again (Const Boolean x) ≡ Const Boolean x) (sym b.is) (truth_again Boolean b.truth)
constant_again Integer v c f = let b = IsInteger-fits v f in subst (λ x. again (Const Integer x) ≡ Const Integer x) (sym b.is) refl
constant_again (Bits width) v c f =
    let b = IsBits-fits width v f in subst (λ x. again (Const (Bits width) x) ≡ Const (Bits width) x) (sym b.is) (bits_again (Bits width) width b.number)
constant_again (Label number labels) v c f =
    let b = IsLabel-fits number labels v f in subst (λ x. again (Const (Label number labels) x) ≡ Const (Label number labels) x) (sym b.is) refl
constant_again other v c f = absurd (false≢true c)

op_again : (op : Op) (types : List Ty) → Suits op types → again op ≡ op
unfolding rebuilt late_op
op_again (Const ty v) types s = constant_again ty v s.2 s.3
op_again op types s = refl

-- operations that suit their parts are the same where they have one code and hold one type
pub same_ops : (a b : Op) (s t : List Ty) → Suits a s → Suits b t → op_code a ≡ op_code b → held_type a ≡ held_type b → a ≡ b
same_ops a b s t f g e h =
    sym (op_again a s f) ∙ ap (λ c. rebuilt c (type_or (held_type a))) e ∙ ap (λ o. rebuilt (op_code b) (type_or o)) h ∙ op_again b t g

-- nodes whose operations suit their parts have one operation and the same parts where the test says so
pub same_nodes : (m n : Node) (s t : List Ty) → Suits m.op s → Suits n.op t → equal_nodes m n ≡ true → (m.op ≡ n.op) × (m.parts ≡ n.parts)
same_nodes m n s t f g h =
    let e = (nodes-decided m n).0 h in
    (same_ops m.op n.op s t f g (ap (λ (k : Key). k.0) e) (ap (λ (k : Key). k.1) e), ap (λ (k : Key). k.2) e)

-- and the test says so of nodes with one operation and the same parts
pub nodes_equal : (m n : Node) → m.op ≡ n.op → m.parts ≡ n.parts → equal_nodes m n ≡ true
nodes_equal m n e f = (nodes-decided m n).1 (λ i. (op_code (e i), held_type (e i), f i))
