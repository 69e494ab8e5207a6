-- Numbers that are cut off.
use Rattle.std.proofs.Common.{◌⊎◌, inl, inr, ◌≡◌, ℕ, zero, suc, ◌+◌, ◌*◌, ◌^◌, ◌-◌, ◌≤◌, refl, ap, ◌∙◌, sym, arith}
use Rattle.std.specs.Prelude.{min}
use Rattle.uc_sizes.specs.Pieces.{cut, most}

pub side : (a b : ℕ) → (a ≤ b) ⊎ (b ≤ a)
side zero b = inl (omega arith)
side (suc a) zero = inr (omega arith)
side (suc a) (suc b) = elim (side a b) [ inl l ↦ inl (omega (arith, l)) | inr m ↦ inr (omega (arith, m)) ]

pub cut_low : (n : ℕ) → n ≤ most → cut n ≡ n
cut_low n h = omega (arith, h)

pub cut_high : (n : ℕ) → most ≤ n → cut n ≡ most
cut_high n h = omega (arith, h)

high_times : (a b : ℕ) → most ≤ a → cut (cut a * b) ≡ cut (a * b)
high_times a zero h = let l : cut a * 0 ≡ 0 = omega arith in let r : a * 0 ≡ 0 = omega arith in ap cut (l ∙ sym r)
high_times a (suc b) h =
    let l : most ≤ most * suc b = omega arith in
    let r : most ≤ a * suc b = omega (arith, h) in
    ap (λ n. cut (n * suc b)) (cut_high a h) ∙ cut_high (most * suc b) l ∙ sym (cut_high (a * suc b) r)

pub cut_left : (a b : ℕ) → cut (cut a * b) ≡ cut (a * b)
cut_left a b = elim (side a most) [ inl h ↦ ap (λ n. cut (n * b)) (cut_low a h) | inr h ↦ high_times a b h ]

swap_times : (a b : ℕ) → a * b ≡ b * a
swap_times a b = omega arith

pub cut_right : (a b : ℕ) → cut (a * cut b) ≡ cut (a * b)
cut_right a b = ap cut (swap_times a (cut b)) ∙ cut_left b a ∙ ap cut (swap_times b a)

-- so many turns, each so often: a count that stops at a large number is as good
pub turned : (t n l t' : ℕ) → n ≡ min l (2 ^ 128 - 1) → t' ≡ cut (t * n) → t' ≡ cut (t * l)
turned t n l t' counted is =
    let same : cut n ≡ cut l = ap cut counted ∙ cut_min in
    is ∙ sym (cut_right t n) ∙ ap (λ m. cut (t * m)) same ∙ cut_right t l
  where
    cut_min : cut (min l (2 ^ 128 - 1)) ≡ cut l
    cut_min = omega arith

pub repeated : (t l t' b : ℕ) → t' ≡ cut (t * l) → cut (t' * b) ≡ cut (t * (l * b))
repeated t l t' b is = ap (λ m. cut (m * b)) is ∙ cut_left (t * l) b ∙ ap cut (regroup t l b)
  where
    regroup : (x y z : ℕ) → (x * y) * z ≡ x * (y * z)
    regroup x y z = omega arith

pub cut_sum : (a b c : ℕ) → cut b ≡ cut c → cut (a + b) ≡ cut (a + c)
cut_sum a b c h = omega (arith, h)
