-- How many bits tell labels apart, and what a sum of bits is where it is capped.
use Rattle.std.specs.Prelude.{ℕ, zero, suc, ◌+◌, ◌^◌, ◌≤◌, ◌<◌, ◌≡◌, nat_le, cond, Bool, true, false, List, [], ◌∷◌, Option, Some, None}
use Rattle.std.specs.Option.{option_map}
use Rattle.std.proofs.Common.{refl, sym, ap, ◌∙◌, subst, arith, ◌⊎◌, inl, inr, pow_pos, length, drop}
use Rattle.std.proofs.Math.Seq.{drop-nil}
use Rattle.std.proofs.Math.Pow.{pow_mono}
use Rattle.std.proofs.lemmas.Nat.{pow-add}
use Rattle.std.proofs.lemmas.Bool.Decides.{leb_tells}
use Rattle.uc_values.specs.Sizes.{IsLeastWidth, label_bits, both_bits, total_bits, bits_form, bit_count, capped, counts}
use Rattle.uc_values.specs.declared.ty.Field.{Field}
use Rattle.uc_values.specs.declared.ty.Ty.{Ty}
use Rattle.uc_values.specs.declared.ty.Ty.TheVariants.{Bool as Boolean, Int as Integer, Bv as Bits, Rec as Record, Enum as Label, Un as Open, Arr as Array, rolls-Bool, rolls-Int, rolls-Bv, rolls-Rec, rolls-Enum, rolls-Un, rolls-Arr}
use Rattle.uc_values.specs.declared.ty.Ty.TheFolds.{fold-roll-Ty}
use Rattle.uc_values.specs.declared.ty.Ty.TheOpen.Ty-F.{Bool as boolean_type, Int as integer_type, Bv as bits_type, Rec as record_type, Arr as array_type, Enum as enum_type, Un as open_type}

greater : (width other : ℕ) → 2 ^ width < 2 ^ other → width + 1 ≤ other
greater width other h = elim (leb_tells (width + 1) other) [ inl x ↦ x.1 | inr x ↦ absurd (omega (arith, h, pow_mono {i = other} {j = width} (omega (arith, x.1)))) ]

some_same : {m n : ℕ} → Some m ≡ Some n → m ≡ n
some_same h = cc

twice : (width : ℕ) → 2 ^ (width + 1) ≡ 2 ^ width + 2 ^ width
twice width = pow-add 2 width 1 ∙ omega arith

wider_cases : (labels width : ℕ) (b : Bool) → IsLeastWidth labels width → ((b ≡ true) × (suc labels ≤ 2 ^ width)) ⊎ ((b ≡ false) × (2 ^ width < suc labels)) → IsLeastWidth (suc labels) (cond b width (width + 1))
wider_cases labels width b h c =
    elim c [
      | inl x ↦ subst (λ t. IsLeastWidth (suc labels) (cond t width (width + 1))) (sym x.0)
          (record { some = h.some; enough = x.1; least = λ other s e. h.least other s (omega (arith, e)) })
      | inr x ↦ subst (λ t. IsLeastWidth (suc labels) (cond t width (width + 1))) (sym x.0)
          (record {
            some = omega arith;
            enough = omega (arith, h.enough, twice width, pow_pos width);
            least = λ other s e. greater width other (omega (arith, e, x.1));
          })
    ]

leb_cases : (m n : ℕ) → ((nat_le m n ≡ true) × (m ≤ n)) ⊎ ((nat_le m n ≡ false) × (n < m))
leb_cases m n = elim (leb_tells m n) [ inl x ↦ inl x | inr x ↦ inr (x.0, omega (arith, x.1)) ]

-- so many labels take so many bits
pub label_bits-least : (labels : ℕ) → IsLeastWidth labels (label_bits labels)
unfolding label_bits
label_bits-least zero = record { some = omega arith; enough = omega arith; least = λ other s e. s }
label_bits-least (suc labels) = wider_cases labels (label_bits labels) (nat_le (suc labels) (2 ^ label_bits labels)) (label_bits-least labels) (leb_cases (suc labels) (2 ^ label_bits labels))

pub least_width-unique : (labels a b : ℕ) → IsLeastWidth labels a → IsLeastWidth labels b → a ≡ b
least_width-unique labels a b x y = omega (arith, x.least b y.some y.enough, y.least a x.some x.enough)

-- a width is the least where it is 1, or where half as many labels would fit the next lower
pub IsLeastWidth-found : (labels width : ℕ) → 1 ≤ width → labels ≤ 2 ^ width → ((other : ℕ) → 1 ≤ other → other < width → 2 ^ other < labels) → IsLeastWidth labels width
IsLeastWidth-found labels width s e below = record {
  some = s;
  enough = e;
  least = λ other t f. elim (leb_cases width other) [ inl x ↦ x.1 | inr x ↦ absurd (omega (arith, below other t x.1, f)) ];
}

-- the bits of a record
pub bits-Rec : (fs : List (Field Ty)) → bit_count (Record fs) ≡ total_bits (counts fs)
bits-Rec fs = ap bit_count (sym (rolls-Rec fs)) ∙ fold-roll-Ty (Option ℕ) bits_form (record_type fs)

pub bits-Bool : bit_count Boolean ≡ Some 1
bits-Bool = ap bit_count (sym rolls-Bool) ∙ fold-roll-Ty (Option ℕ) bits_form boolean_type

pub bits-Int : bit_count Integer ≡ None
bits-Int = ap bit_count (sym rolls-Int) ∙ fold-roll-Ty (Option ℕ) bits_form integer_type

pub bits-Bv : (width : ℕ) → bit_count (Bits width) ≡ Some width
bits-Bv width = ap bit_count (sym (rolls-Bv width)) ∙ fold-roll-Ty (Option ℕ) bits_form (bits_type width)

pub bits-Enum : (n labels : ℕ) → bit_count (Label n labels) ≡ Some (label_bits labels)
bits-Enum n labels = ap bit_count (sym (rolls-Enum n labels)) ∙ fold-roll-Ty (Option ℕ) bits_form (enum_type n labels)

pub bits-Un : (n : ℕ) → bit_count (Open n) ≡ None
bits-Un n = ap bit_count (sym (rolls-Un n)) ∙ fold-roll-Ty (Option ℕ) bits_form (open_type n)

pub bits-Arr : (i e : Ty) → bit_count (Array i e) ≡ None
bits-Arr i e = ap bit_count (sym (rolls-Arr i e)) ∙ fold-roll-Ty (Option ℕ) bits_form (array_type i e)

-- what is counted so far, with what is still to count, capped
abbrev pub capped_sum : ℕ → Option ℕ → Option ℕ
capped_sum total rest = option_map (λ n. capped (total + n)) rest

pub capped_sum-more : (total count : ℕ) (one rest : Option ℕ) → option_map capped one ≡ Some count → capped_sum total (both_bits one rest) ≡ capped_sum (capped (total + count)) rest
capped_sum-more total count None rest h = cc
capped_sum-more total count (Some n) None h = refl
capped_sum-more total count (Some n) (Some r) h =
    let e : capped n ≡ count = some_same h in
    ap Some (omega (arith, e))

pub capped_sum-none : (total : ℕ) (one rest : Option ℕ) → option_map capped one ≡ None → capped_sum total (both_bits one rest) ≡ None
capped_sum-none total None rest h = refl
capped_sum-none total (Some n) rest h = cc

zero_sum : (o : Option ℕ) → capped_sum 0 o ≡ option_map capped o
zero_sum None = refl
zero_sum (Some n) = ap Some (omega arith)

rest_none : (fs : List (Field Ty)) (n : ℕ) → length fs ≤ n → total_bits (counts (drop n fs)) ≡ Some 0
rest_none [] n h = ap (λ fs. total_bits (counts fs)) (drop-nil {A = Field Ty} n)
rest_none (f ∷ fs) zero h = absurd (omega arith)
rest_none (f ∷ fs) (suc n) h = rest_none fs n (omega arith)

-- once all is counted, the count is the capped one
pub counted-end : (total : ℕ) (fs : List (Field Ty)) (n : ℕ) → length fs ≤ n → total < 2 ^ 64 → capped_sum 0 (total_bits (counts fs)) ≡ capped_sum total (total_bits (counts (drop n fs))) → Some total ≡ option_map capped (total_bits (counts fs))
counted-end total fs n l h e =
    let last : Some (capped (total + 0)) ≡ Some total = ap Some (omega (arith, h)) in
    sym (sym (zero_sum (total_bits (counts fs))) ∙ e ∙ ap (capped_sum total) (rest_none fs n l) ∙ last)
