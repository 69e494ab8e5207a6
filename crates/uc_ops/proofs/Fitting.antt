-- The value of an operation on values that fit the types of its parts fits the type of the operation.
use Rattle.std.specs.Prelude.{◌≡◌, ℕ, ◌+◌, ◌-◌, ◌*◌, ◌/◌, ◌%◌, ◌^◌, ◌<◌, Bool as Truth, true, false, cond, IsTrue, bit_and, bit_or, bit_xor, List, [], ◌∷◌, length, slice_get, Option, Some, None, zero, suc}
use Rattle.std.specs.Option.{option_map}
use Rattle.std.proofs.Common.{refl, sym, ap, ◌∙◌, arith, subst, rules, pow_pos}
use Rattle.std.proofs.lemmas.Nat.{mod_below, mul-add-lt, pow-add, and_le_l, or_lt, xor_lt, shr_le}
use Rattle.std.proofs.Math.Pow.{pow_mono}
use Rattle.std.proofs.lemmas.List.{length-map}
use Rattle.uc_values.specs.Values.{fits, zero_of, truth_of, parts_of, field_of}
use Rattle.uc_values.specs.Types.{field_types}
use Rattle.uc_values.specs.Operators.{on_bits, on_two_bits, added, subtracted, multiplied, negated, complemented, shifted_left, shifted_right, shifted_right_signed, is_low, concatenated, sign_extended, bv_concat, bv_zero_extend, bv_sign_extend}
use Rattle.uc_values.proofs.Fitting.{Fit, IsBits, IsBits-fits, fits-IsBits, Truth-fits, Int-fits, IsRecord-fits, fits-IsRecord, zero-fits}
use Rattle.uc_values.proofs.Stores.{at-fits, store-fits}
use Rattle.uc_values.specs.Arrays.{at, store}
use Rattle.uc_values.specs.Tables.{result_of}
use Rattle.uc_values.specs.declared.ty.Field.{Field}
use Rattle.uc_values.specs.declared.ty.Ty.{Ty}
use Rattle.uc_values.specs.declared.ty.Ty.TheVariants.{Bool, Bv, Rec, Arr}
use Rattle.uc_values.specs.declared.value.Value.{Value}
use Rattle.uc_values.specs.declared.value.Value.TheVariants.{Bv as Bits, Rec as Record}
use Rattle.uc_values.specs.declared.value.Value.TheViews.{the_lemmas}
use Rattle.uc_ops.specs.declared.model.Model.{Model}
use Rattle.uc_ops.specs.declared.op.Op.{Op}
use Rattle.uc_ops.specs.declared.op.Op.TheVariants.{Symbol, Const, Not, And, Or, Eq, Ite, Add, Scale, Le, BvAdd, BvSub, BvMul, BvNeg, BvAnd, BvOr, BvXor, BvNot, Concat, Extract, ZeroExt, SignExt, Shl, Lshr, Ashr, Slt, Sle, Ult, Ule, App, Select, Store, Diff, MkRec, GetField}
use Rattle.uc_ops.specs.Typing.{Suits, Valid, AllValid, Bits as OneOfBits, Pair_of_bits, Extends, type_of, part_type, width_of, fields_of, element_of, index_of}
use Rattle.uc_ops.specs.Meaning.{apply, fitting, part}
use Rattle.uc_ops.specs.Differences.{difference}
use Rattle.uc_ops.proofs.Differing.{difference-fits}
use Rattle.uc_ops.proofs.Typed.{fields-Rec, element-Arr, first_valid}

abbrev pub Fits : Ty → Value → Type 0
Fits ty v = IsTrue (fits ty v)

-- the only value of a list that fits one type
pub record IsOne (s : Ty) (values : List Value) : Type 0 where
  pub a : Value
  pub is : values ≡ a ∷ []
  pub fit : IsTrue (fits s a)

pub record IsTwo (s t : Ty) (values : List Value) : Type 0 where
  pub a : Value
  pub b : Value
  pub is : values ≡ a ∷ b ∷ []
  pub fit_a : IsTrue (fits s a)
  pub fit_b : IsTrue (fits t b)

pub record IsThree (s t u : Ty) (values : List Value) : Type 0 where
  pub a : Value
  pub b : Value
  pub c : Value
  pub is : values ≡ a ∷ b ∷ c ∷ []
  pub fit_a : IsTrue (fits s a)
  pub fit_b : IsTrue (fits t b)
  pub fit_c : IsTrue (fits u c)

one_fits : (s : Ty) (values : List Value) → Fit (s ∷ []) values → IsOne s values
one_fits s [] f = absurd f
one_fits s (a ∷ []) f = record { a = a; is = refl; fit = f.0 }
one_fits s (a ∷ b ∷ vs) f = absurd f.1

two_fit : (s t : Ty) (values : List Value) → Fit (s ∷ t ∷ []) values → IsTwo s t values
two_fit s t [] f = absurd f
two_fit s t (a ∷ []) f = absurd f.1
two_fit s t (a ∷ b ∷ []) f = record { a = a; b = b; is = refl; fit_a = f.0; fit_b = f.1.0 }
two_fit s t (a ∷ b ∷ c ∷ vs) f = absurd f.1.1

three_fit : (s t u : Ty) (values : List Value) → Fit (s ∷ t ∷ u ∷ []) values → IsThree s t u values
three_fit s t u [] f = absurd f
three_fit s t u (a ∷ []) f = absurd f.1
three_fit s t u (a ∷ b ∷ []) f = absurd f.1.1
three_fit s t u (a ∷ b ∷ c ∷ []) f = record { a = a; b = b; c = c; is = refl; fit_a = f.0; fit_b = f.1.0; fit_c = f.1.1.0 }
three_fit s t u (a ∷ b ∷ c ∷ d ∷ vs) f = absurd f.1.1.1

pub fit_one : (s : Ty) (types : List Ty) (values : List Value) → types ≡ s ∷ [] → Fit types values → IsOne s values
fit_one s types values e f = one_fits s values (subst (λ ts. Fit ts values) e f)

pub fit_two : (s t : Ty) (types : List Ty) (values : List Value) → types ≡ s ∷ t ∷ [] → Fit types values → IsTwo s t values
fit_two s t types values e f = two_fit s t values (subst (λ ts. Fit ts values) e f)

pub fit_three : (s t u : Ty) (types : List Ty) (values : List Value) → types ≡ s ∷ t ∷ u ∷ [] → Fit types values → IsThree s t u values
fit_three s t u types values e f = three_fit s t u values (subst (λ ts. Fit ts values) e f)

fitting_cases : (ty : Ty) (v : Value) (b : Truth) → fits ty v ≡ b → Valid ty → Fits ty (cond b v (zero_of ty))
fitting_cases ty v true e h = e
fitting_cases ty v false e h = zero-fits ty h

pub fitting-fits : (ty : Ty) (o : Option Value) → Valid ty → Fits ty (fitting ty o)
fitting-fits ty None h = zero-fits ty h
fitting-fits ty (Some v) h = fitting_cases ty v (fits ty v) refl h

either_fits : (ty : Ty) (b : Truth) (v w : Value) → Fits ty v → Fits ty w → Fits ty (cond b v w)
either_fits ty true v w f g = f
either_fits ty false v w f g = g

-- an operator on bits that stays below the power of 2 of the width
abbrev Stays : (ℕ → ℕ → ℕ) → Type 0
Stays f = (width a : ℕ) → a < 2 ^ width → f width a < 2 ^ width

abbrev StaysOfTwo : (ℕ → ℕ → ℕ → ℕ) → Type 0
StaysOfTwo f = (width a b : ℕ) → a < 2 ^ width → b < 2 ^ width → f width a b < 2 ^ width

bits_fit : (f : ℕ → ℕ → ℕ) → Stays f → (width : ℕ) (v : Value) → IsBits width v → Fits (Bv width) (on_bits f v)
bits_fit f h width v b = subst (λ x. Fits (Bv width) (on_bits f x)) (sym b.is) (fits-IsBits width (f width b.number) (h width b.number b.small))

two_bits_fit : (f : ℕ → ℕ → ℕ → ℕ) → StaysOfTwo f → (width : ℕ) (v w : Value) → IsBits width v → IsBits width w → Fits (Bv width) (on_two_bits f v w)
two_bits_fit f h width v w b c =
    subst (λ x. Fits (Bv width) (on_two_bits f x w)) (sym b.is)
    (subst (λ y. Fits (Bv width) (on_two_bits f (Bits width b.number) y)) (sym c.is) (fits-IsBits width (f width b.number c.number) (h width b.number c.number b.small c.small)))

abbrev at_width : ℕ → ℕ → ℕ
at_width width n = n % 2 ^ width

remainder_stays : (width n : ℕ) → n % 2 ^ width < 2 ^ width
remainder_stays width n = mod_below n (2 ^ width) (pow_pos width)

complement_stays : Stays complemented
complement_stays width a h = omega (arith, pow_pos width)

shift_stays : (width a n : ℕ) → a < 2 ^ width → a / 2 ^ n < 2 ^ width
shift_stays width a n h = omega (arith, h, shr_le a n)

signed_shift_cases : (width a n : ℕ) (b : Truth) → a < 2 ^ width → cond b (a / 2 ^ n) (2 ^ width - 1 - (2 ^ width - 1 - a) / 2 ^ n) < 2 ^ width
signed_shift_cases width a n true h = shift_stays width a n h
signed_shift_cases width a n false h = omega (arith, pow_pos width)

signed_shift_stays : StaysOfTwo shifted_right_signed
signed_shift_stays width a n h g = signed_shift_cases width a n (is_low width a) h

extended_small : (width more a : ℕ) → a < 2 ^ width → a < 2 ^ (width + more)
extended_small width more a h = omega (arith, h, pow_mono {i = width} {j = width + more} (omega arith))

sign_cases : (width more a : ℕ) (b : Truth) → a < 2 ^ width → cond b a (a + (2 ^ (width + more) - 2 ^ width)) < 2 ^ (width + more)
sign_cases width more a true h = extended_small width more a h
sign_cases width more a false h = omega (arith, h, pow_mono {i = width} {j = width + more} (omega arith))

concat_fits : (high low : ℕ) (v w : Value) → IsBits high v → IsBits low w → Fits (Bv (high + low)) (bv_concat v w)
concat_fits high low v w b c =
    subst (λ x. Fits (Bv (high + low)) (bv_concat x w)) (sym b.is)
    (subst (λ y. Fits (Bv (high + low)) (bv_concat (Bits high b.number) y)) (sym c.is)
    (fits-IsBits (high + low) (concatenated low b.number c.number)
    (omega (arith, mul-add-lt b.number (2 ^ low) c.number (2 ^ high) b.small c.small, pow-add 2 high low))))

fit_at : (types : List Ty) (values : List Value) (place : ℕ) → Fit types values → place < length types → Fits (part_type types place) (part values place)
fit_at [] values place f h = absurd (omega arith)
fit_at (t ∷ ts) [] place f h = absurd f
fit_at (t ∷ ts) (v ∷ vs) zero f h = f.0
fit_at (t ∷ ts) (v ∷ vs) (suc place) f h = fit_at ts vs place f.1 (omega arith)

parts-Rec : (vs : List Value) → parts_of (Record vs) ≡ vs
parts-Rec vs = search (rules, the_lemmas)

-- operations on one or two bit-vectors of one width
one_of_bits : (f : ℕ → ℕ → ℕ) → Stays f → (types : List Ty) (values : List Value) → OneOfBits types → Fit types values → Fits (part_type types 0) (on_bits f (part values 0))
one_of_bits f h types values s fit =
    let r = fit_one (Bv s.0) types values s.1 fit in
    subst (λ ts. Fits (part_type ts 0) (on_bits f (part values 0))) (sym s.1)
    (subst (λ vs. Fits (Bv s.0) (on_bits f (part vs 0))) (sym r.is) (bits_fit f h s.0 r.a (IsBits-fits s.0 r.a r.fit)))

two_of_bits : (f : ℕ → ℕ → ℕ → ℕ) → StaysOfTwo f → (types : List Ty) (values : List Value) → Pair_of_bits types → Fit types values → Fits (part_type types 0) (on_two_bits f (part values 0) (part values 1))
two_of_bits f h types values s fit =
    let r = fit_two (Bv s.0) (Bv s.0) types values s.1 fit in
    subst (λ ts. Fits (part_type ts 0) (on_two_bits f (part values 0) (part values 1))) (sym s.1)
    (subst (λ vs. Fits (Bv s.0) (on_two_bits f (part vs 0) (part vs 1))) (sym r.is) (two_bits_fit f h s.0 r.a r.b (IsBits-fits s.0 r.a r.fit_a) (IsBits-fits s.0 r.b r.fit_b)))

zero_extend_fits : (more width : ℕ) (v : Value) → IsBits width v → Fits (Bv (width + more)) (bv_zero_extend more v)
zero_extend_fits more width v b = subst (λ x. Fits (Bv (width + more)) (bv_zero_extend more x)) (sym b.is) (fits-IsBits (width + more) b.number (extended_small width more b.number b.small))

sign_extend_fits : (more width : ℕ) (v : Value) → IsBits width v → Fits (Bv (width + more)) (bv_sign_extend more v)
sign_extend_fits more width v b =
    subst (λ x. Fits (Bv (width + more)) (bv_sign_extend more x)) (sym b.is)
    (fits-IsBits (width + more) (sign_extended width more b.number) (sign_cases width more b.number (is_low width b.number) b.small))

extension_fits : (f : Value → Value) (more : ℕ) → ((width : ℕ) (v : Value) → IsBits width v → Fits (Bv (width + more)) (f v)) → (types : List Ty) (values : List Value) → Extends more types → Fit types values
    → Fits (Bv (width_of (part_type types 0) + more)) (f (part values 0))
extension_fits f more h types values s fit =
    let r = fit_one (Bv s.0) types values s.1 fit in
    subst (λ ts. Fits (Bv (width_of (part_type ts 0) + more)) (f (part values 0))) (sym s.1)
    (subst (λ vs. Fits (Bv (s.0 + more)) (f (part vs 0))) (sym r.is) (h s.0 r.a (IsBits-fits s.0 r.a r.fit)))

-- the value of an operation on values that fit the types of its parts fits the type of the operation
pub apply-fits : (m : Model) (op : Op) (types : List Ty) (values : List Value) → Suits op types → AllValid types → Fit types values → Fits (type_of op types) (apply m op types values)
apply-fits m (Symbol number ty) types values s v f = fitting-fits ty (slice_get m.symbols number) s.1
apply-fits m (App number ty) types values s v f = fitting-fits ty (option_map (λ table. result_of table values) (slice_get m.tables number)) s.1
apply-fits m (Const ty value) types values s v f = s.3
apply-fits m Not types values s v f = Truth-fits _
apply-fits m And types values s v f = Truth-fits _
apply-fits m Or types values s v f = Truth-fits _
apply-fits m Eq types values s v f = Truth-fits _
apply-fits m Le types values s v f = Truth-fits _
apply-fits m Slt types values s v f = Truth-fits _
apply-fits m Sle types values s v f = Truth-fits _
apply-fits m Ult types values s v f = Truth-fits _
apply-fits m Ule types values s v f = Truth-fits _
apply-fits m Add types values s v f = Int-fits _
apply-fits m (Scale factor) types values s v f = Int-fits _
apply-fits m Ite types values s v f =
    let r = fit_three Bool s.0 s.0 types values s.1 f in
    subst (λ ts. Fits (part_type ts 1) (cond (truth_of (part values 0)) (part values 1) (part values 2))) (sym s.1)
    (subst (λ vs. Fits s.0 (cond (truth_of (part vs 0)) (part vs 1) (part vs 2))) (sym r.is) (either_fits s.0 (truth_of r.a) r.b r.c r.fit_b r.fit_c))
apply-fits m BvAdd types values s v f = two_of_bits added (λ w a b h g. remainder_stays w (a + b)) types values s f
apply-fits m BvSub types values s v f = two_of_bits subtracted (λ w a b h g. remainder_stays w (a + (2 ^ w - b))) types values s f
apply-fits m BvMul types values s v f = two_of_bits multiplied (λ w a b h g. remainder_stays w (a * b)) types values s f
apply-fits m BvNeg types values s v f = one_of_bits negated (λ w a h. remainder_stays w (2 ^ w - a)) types values s f
apply-fits m BvNot types values s v f = one_of_bits complemented complement_stays types values s f
apply-fits m BvAnd types values s v f = two_of_bits (λ w a b. bit_and a b) (λ w a b h g. omega (arith, h, and_le_l a b)) types values s f
apply-fits m BvOr types values s v f = two_of_bits (λ w a b. bit_or a b) (λ w a b h g. or_lt w a b h g) types values s f
apply-fits m BvXor types values s v f = two_of_bits (λ w a b. bit_xor a b) (λ w a b h g. xor_lt w a b h g) types values s f
apply-fits m Shl types values s v f = two_of_bits shifted_left (λ w a b h g. remainder_stays w (a * 2 ^ b)) types values s f
apply-fits m Lshr types values s v f = two_of_bits (λ w a b. shifted_right a b) (λ w a b h g. shift_stays w a b h) types values s f
apply-fits m Ashr types values s v f = two_of_bits shifted_right_signed signed_shift_stays types values s f
apply-fits m (ZeroExt more) types values s v f = extension_fits (bv_zero_extend more) more (zero_extend_fits more) types values s f
apply-fits m (SignExt more) types values s v f = extension_fits (bv_sign_extend more) more (sign_extend_fits more) types values s f
apply-fits m (Extract high low) types values s v f = fits-IsBits (high - low + 1) _ (remainder_stays (high - low + 1) _)
apply-fits m Concat types values s v f =
    let r = fit_two (Bv s.0) (Bv s.1) types values s.2 f in
    subst (λ ts. Fits (type_of Concat ts) (bv_concat (part values 0) (part values 1))) (sym s.2)
    (subst (λ vs. Fits (Bv (s.0 + s.1)) (bv_concat (part vs 0) (part vs 1))) (sym r.is) (concat_fits s.0 s.1 r.a r.b (IsBits-fits s.0 r.a r.fit_a) (IsBits-fits s.1 r.b r.fit_b)))
apply-fits m Select types values s v f =
    let r = fit_two (Arr s.0 s.1) s.0 types values s.2 f in
    subst (λ ts. Fits (element_of (part_type ts 0)) (at (part values 0) (part values 1))) (sym s.2)
    (subst (λ ty. Fits ty (at (part values 0) (part values 1))) (sym (element-Arr s.0 s.1))
    (subst (λ vs. Fits s.1 (at (part vs 0) (part vs 1))) (sym r.is) (at-fits s.0 s.1 r.a r.b r.fit_a)))
apply-fits m Store types values s v f =
    let r = fit_three (Arr s.0 s.1) s.0 s.1 types values s.2 f in
    subst (λ ts. Fits (part_type ts 0) (store (part values 0) (part values 1) (part values 2))) (sym s.2)
    (subst (λ vs. Fits (Arr s.0 s.1) (store (part vs 0) (part vs 1) (part vs 2))) (sym r.is) (store-fits s.0 s.1 r.a r.b r.c r.fit_a r.fit_b r.fit_c))
apply-fits m Diff types values s v f =
    let r = fit_two (Arr s.0 s.1) (Arr s.0 s.1) types values s.2 f in
    subst (λ ts. Fits (index_of (part_type ts 0)) (difference (part_type ts 0) (part values 0) (part values 1))) (sym s.2)
    (subst (λ vs. Fits (index_of (Arr s.0 s.1)) (difference (Arr s.0 s.1) (part vs 0) (part vs 1))) (sym r.is)
    (difference-fits s.0 s.1 r.a r.b (first_valid (Arr s.0 s.1) (Arr s.0 s.1 ∷ []) types s.2 v) r.fit_a r.fit_b))
apply-fits m (MkRec ty) types values s v f =
    subst (λ t. Fits t (Record values)) (sym s.1) (fits-IsRecord s.0 values (subst (λ ts. Fit ts values) s.2 f))
apply-fits m (GetField place) types values s v f =
    let r = fit_one (Rec s.0) types values s.1 f in
    let p = IsRecord-fits s.0 r.a r.fit in
    let inner = fit_at (field_types s.0) p.parts place p.fit (omega (arith, s.2, length-map s.0 (λ (x : Field Ty). x.ty))) in
    let same : parts_of (part values 0) ≡ p.parts = ap (λ vs. parts_of (part vs 0)) r.is ∙ ap parts_of p.is ∙ parts-Rec p.parts in
    let fields : fields_of (part_type types 0) ≡ s.0 = ap (λ ts. fields_of (part_type ts 0)) s.1 ∙ fields-Rec s.0 in
    subst (λ fs. Fits (part_type (field_types fs) place) (field_of (part values 0) place)) (sym fields)
    (subst (λ vs. Fits (part_type (field_types s.0) place) (part vs place)) (sym same) inner)
