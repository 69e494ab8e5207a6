-- Numbers whose bits are cut, extended and turned.
use Rattle.std.specs.Prelude.{◌≡◌, ℕ, ◌+◌, ◌-◌, ◌*◌, ◌/◌, ◌%◌, ◌^◌, ◌<◌, ◌≤◌, Bool, true, false, cond, nat_lt}
use Rattle.std.proofs.Common.{refl, sym, ap, ◌∙◌, arith, div-one, suc, zero, inl, inr}
use Rattle.std.proofs.Math.Nat.{mod-eq_of_lt, mod_self, suc-mul, add_comm, mul_comm, add-mul-mod_self_right, div-div-eq-div-mul}
use Rattle.std.proofs.Math.Pow.{mod-mod-pow, pow_mono}
use Rattle.std.proofs.lemmas.Nat.{pow_pos, pow-add, div-mul-add, mod_below, mod-pow-add}
use Rattle.std.proofs.lemmas.Bool.Decides.{Decides-ltb, leb_tells}
use Rattle.uc_values.specs.Operators.{is_low, negated, complemented, extracted, sign_extended}
use Rattle.uc_values.proofs.Words.{shifted-out}

-- bits that are cut out of cut bits
cut_within : (n k l j : ℕ) → l + j ≤ k → n % 2 ^ k / 2 ^ l % 2 ^ j ≡ n / 2 ^ l % 2 ^ j
cut_within n k l j h =
    let whole : k ≡ (k - l - j + j) + l = omega (arith, h) in
    ap (λ x. n % 2 ^ x / 2 ^ l % 2 ^ j) whole ∙ ap (λ x. x / 2 ^ l % 2 ^ j) (mod-pow-add n (k - l - j + j) l)
    ∙ ap (λ x. x % 2 ^ j) (div-mul-add (n / 2 ^ l % 2 ^ (k - l - j + j)) (2 ^ l) (n % 2 ^ l) (mod_below n (2 ^ l) (pow_pos l)))
    ∙ mod-mod-pow (n / 2 ^ l) (k - l - j) j

div_both : (n b l : ℕ) → n / 2 ^ b / 2 ^ l ≡ n / 2 ^ (l + b)
div_both n b l = div-div-eq-div-mul n (2 ^ b) (2 ^ l) ∙ ap (λ x. n / x) (sym (pow-add 2 b l)) ∙ ap (λ x. n / 2 ^ x) (add_comm b l)

pub cut_twice_number : (n h l t b : ℕ) → l ≤ h → h < t - b + 1 → extracted (h + b) (l + b) n ≡ extracted h l (extracted t b n)
cut_twice_number n h l t b g k =
    let within : l + (h - l + 1) ≤ t - b + 1 = omega (arith, g, k) in
    let long : h + b - (l + b) + 1 ≡ h - l + 1 = omega (arith, g) in
    ap (λ x. n / 2 ^ (l + b) % 2 ^ x) long ∙ ap (λ x. x % 2 ^ (h - l + 1)) (sym (div_both n b l)) ∙ sym (cut_within (n / 2 ^ b) (t - b + 1) l (h - l + 1) within)

-- bits of the low part
pub cut_low : (k w n h l : ℕ) → l ≤ h → h < w → extracted h l (k * 2 ^ w + n) ≡ extracted h l n
cut_low k w n h l g b =
    let within : l + (h - l + 1) ≤ w = omega (arith, g, b) in
    let low : (k * 2 ^ w + n) % 2 ^ w ≡ n % 2 ^ w = ap (λ x. x % 2 ^ w) (add_comm (k * 2 ^ w) n) ∙ add-mul-mod_self_right n k (2 ^ w) in
    sym (cut_within (k * 2 ^ w + n) w l (h - l + 1) within) ∙ ap (λ x. x / 2 ^ l % 2 ^ (h - l + 1)) low ∙ cut_within n w l (h - l + 1) within

-- bits of the high part
pub cut_high : (k w n h l : ℕ) → n < 2 ^ w → w ≤ l → l ≤ h → extracted h l (k * 2 ^ w + n) ≡ extracted (h - w) (l - w) k
cut_high k w n h l s a g =
    let far : l ≡ w + (l - w) = omega (arith, a) in
    let long : h - l + 1 ≡ h - w - (l - w) + 1 = omega (arith, a, g) in
    ap (λ x. (k * 2 ^ w + n) / 2 ^ x % 2 ^ (h - l + 1)) far ∙ ap (λ x. (k * 2 ^ w + n) / x % 2 ^ (h - l + 1)) (pow-add 2 w (l - w))
    ∙ ap (λ x. x % 2 ^ (h - l + 1)) (sym (div-div-eq-div-mul (k * 2 ^ w + n) (2 ^ w) (2 ^ (l - w))) ∙ ap (λ x. x / 2 ^ (l - w)) (div-mul-add k (2 ^ w) n s))
    ∙ ap (λ x. k / 2 ^ (l - w) % 2 ^ x) long

less_one : (p q : ℕ) → 0 < q → p * q - p ≡ (q - 1) * p
less_one p zero h = absurd (omega (arith, h))
less_one p (suc q) h =
    let e : p * suc q ≡ q * p + p = mul_comm p (suc q) ∙ suc-mul q p in
    let g : (suc q - 1) * p ≡ q * p = ap (λ x. x * p) (let f : suc q - 1 ≡ q = omega arith in f) in
    omega (arith, e, g)

-- the copies of the highest bit as a multiple
signs_number : (w more n : ℕ) → n + (2 ^ (w + more) - 2 ^ w) ≡ (2 ^ more - 1) * 2 ^ w + n
signs_number w more n =
    ap (λ x. n + (x - 2 ^ w)) (pow-add 2 w more) ∙ ap (λ x. n + x) (less_one (2 ^ w) (2 ^ more) (pow_pos more)) ∙ add_comm n ((2 ^ more - 1) * 2 ^ w)

cut_either : (b : Bool) (h l x y z : ℕ) → extracted h l x ≡ z → extracted h l y ≡ z → extracted h l (cond b x y) ≡ z
cut_either true h l x y z e f = e
cut_either false h l x y z e f = f

pub cut_signs : (w more n h l : ℕ) → l ≤ h → h < w → extracted h l (sign_extended w more n) ≡ extracted h l n
cut_signs w more n h l g b =
    cut_either (is_low w n) h l n (n + (2 ^ (w + more) - 2 ^ w)) (extracted h l n) refl
    (ap (extracted h l) (signs_number w more n) ∙ cut_low (2 ^ more - 1) w n h l g b)

pub cut_zeros : (w n h l : ℕ) → n < 2 ^ w → w ≤ l → extracted h l n ≡ 0
cut_zeros w n h l s a = ap (λ x. x % 2 ^ (h - l + 1)) (shifted-out n w l s a) ∙ mod-eq_of_lt (pow_pos (h - l + 1))

pub cut_all : (n h : ℕ) → n < 2 ^ (h + 1) → extracted h 0 n ≡ n
cut_all n h s =
    let long : h - 0 + 1 ≡ h + 1 = omega arith in
    ap (λ x. x % 2 ^ (h - 0 + 1)) (div-one n) ∙ ap (λ x. n % 2 ^ x) long ∙ mod-eq_of_lt s

either : (b : Bool) (x y z : ℕ) → x ≡ z → y ≡ z → cond b x y ≡ z
either true x y z e f = e
either false x y z e f = f

pub signs_none : (w n : ℕ) → sign_extended w 0 n ≡ n
signs_none w n =
    let same : w + 0 ≡ w = omega arith in
    let none : n + (2 ^ w - 2 ^ w) ≡ n = omega arith in
    either (is_low w n) n (n + (2 ^ (w + 0) - 2 ^ w)) n refl (ap (λ x. n + (2 ^ x - 2 ^ w)) same ∙ none)

pub turned_back : (w n : ℕ) → n < 2 ^ w → complemented w (complemented w n) ≡ n
turned_back w n h = omega (arith, h)

pub negated_back : (w n : ℕ) → n < 2 ^ w → negated w (negated w n) ≡ n
negated_back w zero h =
    let none : negated w 0 ≡ 0 = ap (λ x. x % 2 ^ w) (let e : 2 ^ w - 0 ≡ 2 ^ w = omega arith in e) ∙ mod_self (2 ^ w) in
    ap (negated w) none ∙ none
negated_back w (suc n) h =
    let small : 2 ^ w - suc n < 2 ^ w = omega (arith, h) in
    let back : 2 ^ w - (2 ^ w - suc n) ≡ suc n = omega (arith, h) in
    ap (negated w) (mod-eq_of_lt small) ∙ ap (λ x. x % 2 ^ w) back ∙ mod-eq_of_lt h

-- an extension of an extension
low_stays : (w own n : ℕ) → 1 ≤ w → n < 2 ^ (w - 1) → is_low (w + own) n ≡ true
low_stays w own n o h =
    let more : 2 ^ (w - 1) ≤ 2 ^ (w + own - 1) = pow_mono {i = w - 1} {j = w + own - 1} (omega (arith, o)) in
    (Decides-ltb n (2 ^ (w + own - 1))).1 (omega (arith, h, more))

twice : (k : ℕ) → 2 ^ (k + 1) ≡ 2 ^ k + 2 ^ k
twice k = pow-add 2 k 1 ∙ (let e : 2 ^ k * 2 ≡ 2 ^ k + 2 ^ k = omega arith in e)

halves : (w : ℕ) → 1 ≤ w → 2 ^ w ≡ 2 ^ (w - 1) + 2 ^ (w - 1)
halves w o = ap (λ x. 2 ^ x) (let e : w ≡ w - 1 + 1 = omega (arith, o) in e) ∙ twice (w - 1)

high_stays : (w own n : ℕ) → 1 ≤ w → 2 ^ (w - 1) ≤ n → is_low (w + own) (n + (2 ^ (w + own) - 2 ^ w)) ≡ false
high_stays w own n o h =
    let more : 2 ^ (w - 1) ≤ 2 ^ (w + own - 1) = pow_mono {i = w - 1} {j = w + own - 1} (omega (arith, o)) in
    let one = halves w o in
    let two = halves (w + own) (omega (arith, o)) in
    let wide : 2 ^ (w + own - 1) ≤ n + (2 ^ (w + own) - 2 ^ w) = omega (arith, h, more, one, two) in
    elim (leb_tells (suc (n + (2 ^ (w + own) - 2 ^ w))) (2 ^ (w + own - 1))) [ inl x ↦ absurd (omega (arith, x.1, wide)) | inr x ↦ x.0 ]

pub signs_twice_number : (w own more n : ℕ) → 1 ≤ w → sign_extended w (own + more) n ≡ sign_extended (w + own) more (sign_extended w own n)
signs_twice_number w own more n o =
    elim (leb_tells (suc n) (2 ^ (w - 1))) [
      | inl x ↦
          ap (λ b. cond b n (n + (2 ^ (w + (own + more)) - 2 ^ w))) x.0
          ∙ sym (ap (λ b. cond b n (n + (2 ^ (w + own + more) - 2 ^ (w + own)))) (low_stays w own n o x.1))
          ∙ sym (ap (sign_extended (w + own) more) (ap (λ b. cond b n (n + (2 ^ (w + own) - 2 ^ w))) x.0))
      | inr x ↦
          let high = high_stays w own n o (omega (arith, x.1)) in
          let a : 2 ^ w ≤ 2 ^ (w + own) = pow_mono {i = w} {j = w + own} (omega arith) in
          let b : 2 ^ (w + own) ≤ 2 ^ (w + own + more) = pow_mono {i = w + own} {j = w + own + more} (omega arith) in
          let long : w + (own + more) ≡ w + own + more = omega arith in
          let sum : n + (2 ^ (w + own + more) - 2 ^ w) ≡ n + (2 ^ (w + own) - 2 ^ w) + (2 ^ (w + own + more) - 2 ^ (w + own)) = omega (arith, a, b) in
          ap (λ b. cond b n (n + (2 ^ (w + (own + more)) - 2 ^ w))) x.0 ∙ ap (λ k. n + (2 ^ k - 2 ^ w)) long ∙ sum
          ∙ sym (ap (λ b. cond b (n + (2 ^ (w + own) - 2 ^ w)) (n + (2 ^ (w + own) - 2 ^ w) + (2 ^ (w + own + more) - 2 ^ (w + own)))) high)
          ∙ sym (ap (sign_extended (w + own) more) (ap (λ b. cond b n (n + (2 ^ (w + own) - 2 ^ w))) x.0))
    ]
