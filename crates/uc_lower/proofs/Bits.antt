-- How many bits terms have, and that what stands for a term has as many as the term.
use Rattle.std.specs.Prelude.{◌≡◌, ℕ, ◌+◌, ◌<◌, ◌≤◌, List, [], ◌∷◌, ◌++◌, length, get_or, Option, Some, None, All, Contains, zero, suc}
use Rattle.std.proofs.Common.{refl, sym, ap, ◌∙◌, subst, arith, inl, inr, append-nil}
use Rattle.std.proofs.lemmas.List.{map-append}
use Rattle.std.proofs.lemmas.List.Elements.{All-head, All-tail, All-cons, All-nil, Contains-append_left, Contains-append_right, Contains-append_cases}
use Rattle.uc_values.specs.Types.{field_types}
use Rattle.uc_values.specs.Sizes.{label_bits, bit_count, total_bits, both_bits, counts}
use Rattle.uc_values.proofs.Widths.{bits-Rec, bits-Bv, bits-Enum}
use Rattle.uc_values.specs.declared.ty.Field.{Field}
use Rattle.uc_values.specs.declared.ty.Ty.{Ty}
use Rattle.uc_values.specs.declared.ty.Ty.TheVariants.{Bool, Bv, Enum, Rec}
use Rattle.uc_ops.specs.declared.node.Node.{Node}
use Rattle.uc_ops.specs.Typing.{type_at, types_at}
use Rattle.uc_lower.specs.Fields.{low_types, all_low}
use Rattle.uc_lower.specs.Made.{Grows, Within, HasBits}
use Rattle.uc_lower.specs.Bits.{bits_or, type_bits, bits_at, AreApart}
use Rattle.uc_lower.proofs.Leaves.{AllFinite, none, boolean, word, label, fields, one_finite, low-Bool, low-Bv, low-Enum, low-Rec}
use Rattle.uc_lower.proofs.Growing.{kept_types}

pub type_bits-append : (xs ys : List Ty) → type_bits (xs ++ ys) ≡ type_bits xs + type_bits ys
type_bits-append [] ys = omega arith
type_bits-append (x ∷ xs) ys = omega (arith, type_bits-append xs ys)

-- the bits of a record are those of its fields, where all of them have a number of bits
sum_of : (a b : Option ℕ) (n m : ℕ) → both_bits a b ≡ Some n → ((k : ℕ) → b ≡ Some k → m ≡ k) → bits_or a + m ≡ n
sum_of None b n m h g = cc
sum_of (Some i) None n m h g = cc
sum_of (Some i) (Some j) n m h g =
    let e : m ≡ j = g j refl in
    let f : i + j ≡ n = cc in
    omega (arith, e, f)

fields_bits : (fs : List (Field Ty)) (n : ℕ) → total_bits (counts fs) ≡ Some n → type_bits (field_types fs) ≡ n
fields_bits [] n h = let e : 0 ≡ n = cc in e
fields_bits (f ∷ fs) n h = sum_of (bit_count f.ty) (total_bits (counts fs)) n (type_bits (field_types fs)) h (λ k e. fields_bits fs k e)

abbrev AllHaveBits : List Ty → Type 0
AllHaveBits tys = All HasBits tys

both_have : (a b : Option ℕ) (n : ℕ) → both_bits a b ≡ Some n → (i : ℕ) × (a ≡ Some i) × (j : ℕ) × (b ≡ Some j)
both_have None b n h = cc
both_have (Some i) None n h = cc
both_have (Some i) (Some j) n h = (i, refl, j, refl)

fields_have : (fs : List (Field Ty)) (n : ℕ) → total_bits (counts fs) ≡ Some n → AllHaveBits (field_types fs)
fields_have [] n h = All-nil HasBits
fields_have (f ∷ fs) n h =
    let r = both_have (bit_count f.ty) (total_bits (counts fs)) n h in
    All-cons HasBits f.ty (field_types fs) (r.0, r.1) (fields_have fs r.2 r.3)

-- what stands for a type has as many bits
low_bits_same : (tys : List Ty) → AllFinite tys → AllHaveBits tys → type_bits (all_low tys) ≡ type_bits tys
low_bits_same tys none h = refl
low_bits_same tys (boolean rest r) h = rw low-Bool (ap (λ n. bits_or (bit_count Bool) + n) (low_bits_same rest r (All-tail HasBits Bool rest h)))
low_bits_same tys (word width rest r) h = rw (low-Bv width) (ap (λ n. bits_or (bit_count (Bv width)) + n) (low_bits_same rest r (All-tail HasBits (Bv width) rest h)))
low_bits_same tys (label n k rest r) h =
    rw (low-Enum n k) (ap (λ o. bits_or o + type_bits (all_low rest)) (bits-Bv (label_bits k) ∙ sym (bits-Enum n k)) ∙ ap (λ m. bits_or (bit_count (Enum n k)) + m) (low_bits_same rest r (All-tail HasBits (Enum n k) rest h)))
low_bits_same tys (fields fs rest f r) h =
    let own = All-head HasBits (Rec fs) rest h in
    let inner = low_bits_same (field_types fs) f (fields_have fs own.0 (sym (bits-Rec fs) ∙ own.1)) in
    let whole : type_bits (field_types fs) ≡ bits_or (bit_count (Rec fs)) = fields_bits fs own.0 (sym (bits-Rec fs) ∙ own.1) ∙ ap bits_or (sym own.1) in
    rw (low-Rec fs) (type_bits-append (all_low (field_types fs)) (all_low rest) ∙ ap (λ n. n + type_bits (all_low rest)) (inner ∙ whole) ∙ ap (λ n. bits_or (bit_count (Rec fs)) + n) (low_bits_same rest r (All-tail HasBits (Rec fs) rest h)))

pub low_types-bits : (ty : Ty) → HasBits ty → type_bits (low_types ty) ≡ type_bits (ty ∷ [])
low_types-bits ty h = ap type_bits (sym (append-nil (low_types ty))) ∙ low_bits_same (ty ∷ []) (one_finite ty h) (All-cons HasBits ty [] h (All-nil HasBits))

pub bits_kept : (old new : List Node) (ts : List ℕ) → Grows old new → Within old ts → bits_at new ts ≡ bits_at old ts
bits_kept old new ts g b = ap type_bits (kept_types old new ts g b)

pub bits_append : (nodes : List Node) (xs ys : List ℕ) → bits_at nodes (xs ++ ys) ≡ bits_at nodes xs + bits_at nodes ys
bits_append nodes xs ys = ap type_bits (map-append (type_at nodes) xs ys) ∙ type_bits-append (types_at nodes xs) (types_at nodes ys)

-- a list around one of its items
record Around (xs : List ℕ) (u : ℕ) : Type 0 where
  front : List ℕ
  back : List ℕ
  is : xs ≡ front ++ u ∷ back

around : (xs : List ℕ) (u i : ℕ) → i < length xs → get_or xs i u ≡ u → Around xs u
around [] u i l e = absurd (omega arith)
around (x ∷ xs) u zero l e = record { front = []; back = xs; is = ap (λ y. y ∷ xs) e }
around (x ∷ xs) u (suc i) l e = let r = around xs u i (omega (arith, l)) e in record { front = x ∷ r.front; back = r.back; is = ap (λ ys. x ∷ ys) r.is }

item_at : (u x i : ℕ) → i < 1 → get_or (u ∷ []) i x ≡ x → x ≡ u
item_at u x zero l e = sym e
item_at u x (suc i) l e = absurd (omega (arith, l))

only_item : (u x : ℕ) → Contains (u ∷ []) x → x ≡ u
only_item u x c = item_at u x c.0 c.1 c.2

-- different terms that are all among others have no more bits than these
pub fewer_bits : (nodes : List Node) (us xs : List ℕ) → AreApart us → ((x : ℕ) → Contains us x → Contains xs x) → bits_at nodes us ≤ bits_at nodes xs
fewer_bits nodes [] xs a h = omega arith
fewer_bits nodes (u ∷ us) xs a h =
    let c = h u (0, omega arith, refl) in
    let r = around xs u c.0 c.1 c.2 in
    let rest : (x : ℕ) → Contains us x → Contains (r.front ++ r.back) x = λ x d.
    let e = subst (λ ys. Contains ys x) r.is (h x (Contains-append_right (u ∷ []) us x d)) in
    elim (Contains-append_cases r.front (u ∷ r.back) x e) [
      | inl y ↦ Contains-append_left r.front r.back x y
      | inr y ↦ elim (Contains-append_cases (u ∷ []) r.back x y) [
        | inl z ↦ absurd (a.0 (subst (Contains us) (only_item u x z) d))
        | inr z ↦ Contains-append_right r.front r.back x z
      ]
    ] in
    let less = fewer_bits nodes us (r.front ++ r.back) a.1 rest in
    omega (arith, less, ap (bits_at nodes) r.is, bits_append nodes r.front (u ∷ r.back), bits_append nodes r.front r.back)
