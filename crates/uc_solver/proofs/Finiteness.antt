-- A simplified term of finitely many values is one too: it brings no symbols, functions and integers that are new.
use Rattle.std.specs.Prelude.{◌≡◌, ℕ, ◌+◌, ◌-◌, ◌<◌, ◌≤◌, Bool as Truth, true, false, ◌||◌, IsTrue, List, [], ◌∷◌, map, length, get_or, slice_get, Some, None, All, Contains, zero, suc}
use Rattle.std.specs.List.{list_any}
use Rattle.std.proofs.Common.{refl, sym, ap, ◌∙◌, subst, arith}
use Rattle.std.proofs.lemmas.Bool.{false≢true}
use Rattle.std.proofs.lemmas.List.{get_or_default}
use Rattle.std.proofs.lemmas.List.Elements.{All-nil, All-cons, All-head, All-tail, All-map}
use Rattle.uc_values.specs.Types.{field_types}
use Rattle.uc_values.specs.Sizes.{label_bits, bit_count, total_bits, both_bits, counts}
use Rattle.uc_values.proofs.Widths.{bits-Rec, bits-Bool, bits-Int, bits-Bv, bits-Enum, bits-Un, bits-Arr}
use Rattle.uc_values.proofs.Shapes.{with_test}
use Rattle.uc_values.specs.declared.ty.Field.{Field}
use Rattle.uc_values.specs.declared.ty.Ty.{Ty}
use Rattle.uc_values.specs.declared.ty.Ty.TheVariants.{Bool, Int, Bv, Enum, Un, Rec, Arr, rolls-Bool, rolls-Int, rolls-Bv, rolls-Rec, rolls-Enum}
use Rattle.uc_values.specs.declared.ty.Ty.TheFolds.{fold-roll-Ty}
use Rattle.uc_values.specs.declared.ty.Ty.TheOpen.Ty-F.{Bool as boolean_type, Int as integer_type, Bv as bits_type, Enum as enum_type, Rec as record_type}
use Rattle.uc_ops.specs.declared.op.Op.{Op}
use Rattle.uc_ops.specs.declared.op.Op.TheVariants.{Symbol, Const, Not, And, Or, Eq, Ite, Add, Scale, Le, BvAdd, BvSub, BvMul, BvNeg, BvAnd, BvOr, BvXor, BvNot, Concat, Extract, ZeroExt, SignExt, Shl, Lshr, Ashr, Slt, Sle, Ult, Ule, App, Select, Store, Diff, MkRec, GetField}
use Rattle.uc_ops.specs.declared.node.Node.{Node}
use Rattle.uc_ops.specs.Typing.{Suits, type_of, part_type, fields_of, width_of, type_at, types_at, is_constant}
use Rattle.uc_ops.proofs.Typed.{fields-Rec}
use Rattle.uc_ops.proofs.Lists.{at_place}
use Rattle.uc_terms.specs.Tables.{HasOp, WellTyped, IsFine, parts_at}
use Rattle.uc_terms.specs.Subterms.{IsSubterm, itself, deeper}
use Rattle.uc_terms.proofs.Grown.{parts-node, type-node}
use Rattle.uc_simplify.specs.Features.{holds_integer, integer_form, Feature, symbol, function, integer, Bears, Brings, BringsNoMore}
use Rattle.uc_simplify.proofs.Features.{node_of_op, has-op}
use Rattle.uc_lower.specs.Made.{HasBits}
use Rattle.uc_lower.specs.Lowering.{IsFiniteTerm}
use Rattle.uc_lower.proofs.Leaves.{AllFinite, none, boolean, word, label, fields, one_finite}
use Rattle.uc_lower.proofs.Inner.{node_facts}
use Rattle.uc_solver.proofs.Reading.{record_bits}
use Rattle.uc_solver.proofs.Setting.{subterm_there}

-- types with a number of bits
bool_bits : HasBits Bool
bool_bits = (1, bits-Bool)

word_bits : (w : ℕ) → HasBits (Bv w)
word_bits w = (w, bits-Bv w)

fields_bits : (fs : List (Field Ty)) → All HasBits (field_types fs) → (n : ℕ) × (total_bits (counts fs) ≡ Some n)
fields_bits [] h = (0, refl)
fields_bits (f ∷ fs) h =
    let own = All-head HasBits f.ty (field_types fs) h in
    let rest = fields_bits fs (All-tail HasBits f.ty (field_types fs) h) in
    (own.0 + rest.0, ap (λ o. both_bits o (total_bits (counts fs))) own.1 ∙ ap (both_bits (Some own.0)) rest.1)

Rec_bits : (fs : List (Field Ty)) → All HasBits (field_types fs) → HasBits (Rec fs)
Rec_bits fs h = let r = fields_bits fs h in (r.0, bits-Rec fs ∙ r.1)

no_Arr_bits : (i e : Ty) → HasBits (Arr i e) → ⊥
no_Arr_bits i e h = let x = sym (bits-Arr i e) ∙ h.1 in cc

-- integers
Int_holds : holds_integer Int ≡ true
Int_holds = ap holds_integer (sym rolls-Int) ∙ fold-roll-Ty Truth integer_form integer_type

none_holds : (fs : List (Field Ty)) → All (λ ty. holds_integer ty ≡ false) (field_types fs) → list_any (λ (f : Field Truth). f.ty) (map (with_test holds_integer) fs) ≡ false
none_holds [] h = refl
none_holds (f ∷ fs) h =
    ap (λ b. b || list_any (λ (g : Field Truth). g.ty) (map (with_test holds_integer) fs)) (All-head (λ ty. holds_integer ty ≡ false) f.ty (field_types fs) h)
    ∙ none_holds fs (All-tail (λ ty. holds_integer ty ≡ false) f.ty (field_types fs) h)

no_integers : (tys : List Ty) → AllFinite tys → All (λ ty. holds_integer ty ≡ false) tys
no_integers tys none = All-nil (λ ty. holds_integer ty ≡ false)
no_integers tys (boolean rest r) = All-cons (λ ty. holds_integer ty ≡ false) Bool rest (ap holds_integer (sym rolls-Bool) ∙ fold-roll-Ty Truth integer_form boolean_type) (no_integers rest r)
no_integers tys (word w rest r) = All-cons (λ ty. holds_integer ty ≡ false) (Bv w) rest (ap holds_integer (sym (rolls-Bv w)) ∙ fold-roll-Ty Truth integer_form (bits_type w)) (no_integers rest r)
no_integers tys (label n k rest r) = All-cons (λ ty. holds_integer ty ≡ false) (Enum n k) rest (ap holds_integer (sym (rolls-Enum n k)) ∙ fold-roll-Ty Truth integer_form (enum_type n k)) (no_integers rest r)
no_integers tys (fields fs rest f r) =
    All-cons (λ ty. holds_integer ty ≡ false) (Rec fs) rest (ap holds_integer (sym (rolls-Rec fs)) ∙ fold-roll-Ty Truth integer_form (record_type fs) ∙ none_holds fs (no_integers (field_types fs) f)) (no_integers rest r)

bits_no_integer : (ty : Ty) → HasBits ty → IsTrue (holds_integer ty) → ⊥
bits_no_integer ty h i = false≢true (sym (All-head (λ t. holds_integer t ≡ false) ty [] (no_integers (ty ∷ []) (one_finite ty h))) ∙ i)

-- the type of what an operation gives has a number of bits, where those of its parts have
record Asked (op : Op) (types : List Ty) : Type 0 where
  suits : Suits op types
  parts : All HasBits types
  symbol : (number : ℕ) (ty : Ty) → op ≡ Symbol number ty → HasBits ty
  no_function : (number : ℕ) (ty : Ty) → op ≡ App number ty → ⊥
  no_integer : IsTrue (holds_integer (type_of op types)) → ⊥

constant_bits : (ty : Ty) → IsTrue (is_constant ty) → (IsTrue (holds_integer ty) → ⊥) → HasBits ty
constant_bits Bool c n = bool_bits
constant_bits Int c n = absurd (n Int_holds)
constant_bits (Bv w) c n = word_bits w
constant_bits (Enum k labels) c n = (label_bits labels, bits-Enum k labels)
constant_bits other c n = absurd (false≢true c)

word_at : (types : List Ty) (w : ℕ) (rest : List Ty) → types ≡ Bv w ∷ rest → HasBits (part_type types 0)
word_at types w rest e = subst (λ ts. HasBits (part_type ts 0)) (sym e) (word_bits w)

first_bits : (types rest : List Ty) (ty : Ty) → types ≡ ty ∷ rest → All HasBits types → HasBits ty
first_bits types rest ty e h = All-head HasBits ty rest (subst (All HasBits) e h)

choice_bits : (types : List Ty) (ty : Ty) → types ≡ Bool ∷ ty ∷ ty ∷ [] → All HasBits types → HasBits (part_type types 1)
choice_bits types ty e h =
    subst (λ ts. HasBits (part_type ts 1)) (sym e) (All-head HasBits ty (ty ∷ []) (All-tail HasBits Bool (ty ∷ ty ∷ []) (subst (All HasBits) e h)))

part_bits : (types : List Ty) (k : ℕ) → k < length types → All HasBits types → HasBits (part_type types k)
part_bits [] k l h = absurd (omega (arith, l))
part_bits (ty ∷ types) zero l h = All-head HasBits ty types h
part_bits (ty ∷ types) (suc k) l h = part_bits types k (omega (arith, l)) (All-tail HasBits ty types h)

types_long : (fs : List (Field Ty)) → length (field_types fs) ≡ length fs
types_long [] = refl
types_long (f ∷ fs) = omega (arith, types_long fs)

field_bits : (types : List Ty) (place : ℕ) (fs : List (Field Ty)) → types ≡ Rec fs ∷ [] → place < length fs → All HasBits types → HasBits (part_type (field_types (fields_of (part_type types 0))) place)
field_bits types place fs e l h =
    let own : fields_of (part_type types 0) ≡ fs = ap (λ ts. fields_of (part_type ts 0)) e ∙ fields-Rec fs in
    subst (λ gs. HasBits (part_type (field_types gs) place)) (sym own) (part_bits (field_types fs) place (omega (arith, l, types_long fs)) (record_bits fs (first_bits types [] (Rec fs) e h)))

record_type_bits : (types : List Ty) (ty : Ty) (fs : List (Field Ty)) → ty ≡ Rec fs → types ≡ field_types fs → All HasBits types → HasBits ty
record_type_bits types ty fs e t h = subst HasBits (sym e) (Rec_bits fs (subst (All HasBits) t h))

op_bits : (op : Op) (types : List Ty) → Asked op types → HasBits (type_of op types)
op_bits (Symbol number ty) types a = a.symbol number ty refl
op_bits (Const ty value) types a = constant_bits ty a.suits.2 a.no_integer
op_bits Not types a = bool_bits
op_bits And types a = bool_bits
op_bits Or types a = bool_bits
op_bits Eq types a = bool_bits
op_bits Ite types a = choice_bits types a.suits.0 a.suits.1 a.parts
op_bits Add types a = absurd (a.no_integer Int_holds)
op_bits (Scale factor) types a = absurd (a.no_integer Int_holds)
op_bits Le types a = bool_bits
op_bits BvAdd types a = word_at types a.suits.0 (Bv a.suits.0 ∷ []) a.suits.1
op_bits BvSub types a = word_at types a.suits.0 (Bv a.suits.0 ∷ []) a.suits.1
op_bits BvMul types a = word_at types a.suits.0 (Bv a.suits.0 ∷ []) a.suits.1
op_bits BvNeg types a = word_at types a.suits.0 [] a.suits.1
op_bits BvAnd types a = word_at types a.suits.0 (Bv a.suits.0 ∷ []) a.suits.1
op_bits BvOr types a = word_at types a.suits.0 (Bv a.suits.0 ∷ []) a.suits.1
op_bits BvXor types a = word_at types a.suits.0 (Bv a.suits.0 ∷ []) a.suits.1
op_bits BvNot types a = word_at types a.suits.0 [] a.suits.1
op_bits Concat types a = word_bits (width_of (part_type types 0) + width_of (part_type types 1))
op_bits (Extract high low) types a = word_bits (high - low + 1)
op_bits (ZeroExt more) types a = word_bits (width_of (part_type types 0) + more)
op_bits (SignExt more) types a = word_bits (width_of (part_type types 0) + more)
op_bits Shl types a = word_at types a.suits.0 (Bv a.suits.0 ∷ []) a.suits.1
op_bits Lshr types a = word_at types a.suits.0 (Bv a.suits.0 ∷ []) a.suits.1
op_bits Ashr types a = word_at types a.suits.0 (Bv a.suits.0 ∷ []) a.suits.1
op_bits Slt types a = bool_bits
op_bits Sle types a = bool_bits
op_bits Ult types a = bool_bits
op_bits Ule types a = bool_bits
op_bits (App number ty) types a = absurd (a.no_function number ty refl)
op_bits Select types a = absurd (no_Arr_bits a.suits.0 a.suits.1 (first_bits types (a.suits.0 ∷ []) (Arr a.suits.0 a.suits.1) a.suits.2 a.parts))
op_bits Store types a = absurd (no_Arr_bits a.suits.0 a.suits.1 (first_bits types (a.suits.0 ∷ a.suits.1 ∷ []) (Arr a.suits.0 a.suits.1) a.suits.2 a.parts))
op_bits Diff types a = absurd (no_Arr_bits a.suits.0 a.suits.1 (first_bits types (Arr a.suits.0 a.suits.1 ∷ []) (Arr a.suits.0 a.suits.1) a.suits.2 a.parts))
op_bits (MkRec ty) types a = record_type_bits types ty a.suits.0 a.suits.1 a.suits.2 a.parts
op_bits (GetField place) types a = field_bits types place a.suits.0 a.suits.1 a.suits.2 a.parts

-- a symbol and a function of the simplified term
pub record Brought (old : List Node) (t : ℕ) (op : Op) : Type 0 where
  pub place : ℕ
  pub below : IsSubterm old t place
  pub there : place < length old
  pub has : HasOp old place op

pub brought_symbol : (new : List Node) (r : ℕ) (old : List Node) (t k number : ℕ) (ty : Ty) → WellTyped old → t < length old → BringsNoMore new r old t → IsSubterm new r k → HasOp new k (Symbol number ty) → Brought old t (Symbol number ty)
brought_symbol new r old t k number ty w l f s has =
    let n = node_of_op new k (Symbol number ty) has in
    let b = f (symbol number ty) (record { place = k; below = s; bears = record { node = n.0; there = n.1; shows = n.2 } }) in
    record {
      place = b.place;
      below = b.below;
      there = subterm_there old t b.place w l b.below;
      has = subst (λ op. HasOp old b.place op) b.bears.shows (has-op old b.place b.bears.node b.bears.there);
    }

pub brought_function : (new : List Node) (r : ℕ) (old : List Node) (t k number : ℕ) (ty : Ty) → WellTyped old → t < length old → BringsNoMore new r old t → IsSubterm new r k → HasOp new k (App number ty) → Brought old t (App number ty)
brought_function new r old t k number ty w l f s has =
    let n = node_of_op new k (App number ty) has in
    let b = f (function number (types_at new n.0.parts) ty) (record { place = k; below = s; bears = record { node = n.0; there = n.1; shows = (n.2, refl) } }) in
    record {
      place = b.place;
      below = b.below;
      there = subterm_there old t b.place w l b.below;
      has = subst (λ op. HasOp old b.place op) b.bears.shows.0 (has-op old b.place b.bears.node b.bears.there);
    }

no_integer_in : (new : List Node) (r : ℕ) (old : List Node) (t k : ℕ) (node : Node) → BringsNoMore new r old t → IsFiniteTerm old t → IsSubterm new r k → slice_get new k ≡ Some node → IsTrue (holds_integer node.ty) → ⊥
no_integer_in new r old t k node f finite s e h =
    let b = f integer (record { place = k; below = s; bears = record { node = node; there = e; shows = h } }) in
    bits_no_integer (type_at old b.place) (finite.bits b.place b.below) (subst (λ ty. IsTrue (holds_integer ty)) (sym (type-node old b.place b.bears.node b.bears.there)) b.bears.shows)

all_by : {A : Type 0} (P : A → Type 0) (xs : List A) → ((x : A) → Contains xs x → P x) → All P xs
all_by P xs f i d l = f (get_or xs i d) (i, l, get_or_default xs i (get_or xs i d) d l)

-- what is known of a simplified term
pub record Simple (old new : List Node) (t r : ℕ) : Type 0 where
  pub well : WellTyped old
  pub there : t < length old
  pub finite : IsFiniteTerm old t
  pub new_well : WellTyped new
  pub new_there : r < length new
  pub features : BringsNoMore new r old t

bits_below : (old new : List Node) (t r : ℕ) → Simple old new t r → (bound k : ℕ) → k < bound → k < length new → IsSubterm new r k → HasBits (type_at new k)
bits_below old new t r h zero k l i s = absurd (omega (arith, l))
bits_below old new t r h (suc bound) k l i s =
    let node = at_place new k i in
    let fine = h.new_well k node.0 node.1 in
    let types = types_at new node.0.parts in
    let on : parts_at new k ≡ node.0.parts = parts-node new k node.0 node.1 in
    let own : (op : Op) → node.0.op ≡ op → HasOp new k op = λ op e. subst (λ o. HasOp new k o) e (has-op new k node.0 node.1) in
    let part : (p : ℕ) → Contains node.0.parts p → HasBits (type_at new p) = λ p c.
    let below : p < k = subst (λ x. x < k) c.2 (fine.before c.0 p c.1) in
    bits_below old new t r h bound p (omega (arith, below, l)) (omega (arith, below, i)) (deeper k p s (subst (λ ps. Contains ps p) (sym on) c)) in
    let asked : Asked node.0.op types = record {
      suits = fine.suits;
      parts = All-map HasBits (type_at new) node.0.parts (all_by (λ p. HasBits (type_at new p)) node.0.parts part);
      symbol = λ number ty e.
          let b = brought_symbol new r old t k number ty h.well h.there h.features s (own (Symbol number ty) e) in
          subst HasBits (node_facts old b.place (Symbol number ty) h.well b.there b.has).typed (h.finite.bits b.place b.below);
      no_function = λ number ty e.
          let b = brought_function new r old t k number ty h.well h.there h.features s (own (App number ty) e) in
          h.finite.no_function b.place number ty b.below b.has;
      no_integer = λ y. no_integer_in new r old t k node.0 h.features h.finite s node.1 (subst (λ ty. IsTrue (holds_integer ty)) (sym fine.typed) y);
    } in
    subst HasBits (sym (type-node new k node.0 node.1 ∙ fine.typed)) (op_bits node.0.op types asked)

pub simple_finite : (old new : List Node) (t r : ℕ) → Simple old new t r → IsFiniteTerm new r
simple_finite old new t r h = record {
  bits = λ k s. bits_below old new t r h (k + 1) k (omega arith) (subterm_there new r k h.new_well h.new_there s) s;
  no_function = λ k number ty s has.
      let b = brought_function new r old t k number ty h.well h.there h.features s has in
      h.finite.no_function b.place number ty b.below b.has;
}
