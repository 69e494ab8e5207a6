-- Adders.
use Rattle.std.specs.Prelude.{◌≡◌, ℕ, ◌+◌, ◌-◌, ◌*◌, ◌%◌, ◌^◌, ◌<◌, Bool, true, false, cond, List, [], ◌∷◌, ◌++◌, length, take, map, replicate}
use Rattle.std.proofs.Common.{refl, sym, ap, ◌∙◌, arith, subst, get_or, zero, suc}
use Rattle.std.proofs.Math.Nat.{pow-suc, mul-add, mul_assoc, mul_comm}
use Rattle.std.proofs.lemmas.Nat.{mod-mul-add}
use Rattle.std.proofs.lemmas.List.{length_push, take_all, length-replicate}
use Rattle.std.proofs.lemmas.List.Elements.{All-push, All-nil}
use Rattle.uc_values.specs.Operators.{added, subtracted, negated, complemented}
use Rattle.uc_circuit.specs.declared.signal.Signal.{Signal}
use Rattle.uc_circuit.specs.declared.signal.Signal.TheVariants.{Constant}
use Rattle.uc_circuit.specs.Signals.{signal_value, turned, differ, number, bit, Below, AllBelow}
use Rattle.uc_circuit.specs.Building.{Building, Grows, size, Obeys}
use Rattle.uc_circuit.specs.Meanings.{Means, Amounts}
use Rattle.uc_circuit.specs.Adding.{Adds}
use Rattle.uc_circuit.proofs.Growing.{grows-refl, grows-trans, below-grown, all_below-grown, obeys-back}
use Rattle.uc_circuit.proofs.Numbers.{number-more, number-push, number-below}
use Rattle.uc_circuit.proofs.BitByBit.{number-turned}

three : (x y c : Bool) → bit (differ (differ x y) c) + 2 * bit (cond (differ x y) c x) ≡ bit x + bit y + bit c
three true true true = refl
three true true false = refl
three true false true = refl
three true false false = refl
three false true true = refl
three false true false = refl
three false false true = refl
three false false false = refl

pub adds :
    (b1 b2 b3 : Building) (x y carry d sum next : Signal) → Grows b1 b2 → Grows b2 b3
    → Means b1 (λ v. differ (signal_value v x) (signal_value v y)) d
    → Means b2 (λ v. differ (signal_value v d) (signal_value v carry)) sum
    → Means b3 (λ v. cond (signal_value v d) (signal_value v carry) (signal_value v x)) next
    → Adds b3 x y carry sum next
adds b1 b2 b3 x y carry d sum next g h md ms mn = record {
  sum_below = below-grown b2 b3 h sum ms.below;
  next_below = mn.below;
  value = λ v o.
      let o2 = obeys-back b2 b3 h v o in
      let o1 = obeys-back b1 b2 g v o2 in
      let ed = md.value v o1 in
      ap (λ t. bit t + 2 * bit (signal_value v next)) (ms.value v o2 ∙ ap (λ t. differ t (signal_value v carry)) ed)
      ∙ ap (λ t. bit (differ (differ (signal_value v x) (signal_value v y)) (signal_value v carry)) + 2 * bit t) (mn.value v o ∙ ap (λ t. cond t (signal_value v carry) (signal_value v x)) ed)
      ∙ three (signal_value v x) (signal_value v y) (signal_value v carry);
}

-- the bits so far, with the carry, are worth the sum of the fronts
pub record Adding (start now : Building) (i : ℕ) (a b : List Signal) (carry last : Signal) (out : List Signal) : Type 0 where
  pub grows : Grows start now
  pub below : AllBelow (size now) out
  pub long : length out ≡ i
  pub last_below : Below (size now) last
  pub value : (v : ℕ → Bool) → Obeys v now → number v out + 2 ^ i * bit (signal_value v last) ≡ number v (take i a) + number v (take i b) + bit (signal_value v carry)

pub adding-none : (b : Building) (xs ys : List Signal) (carry : Signal) → Below (size b) carry → Adding b b 0 xs ys carry carry []
adding-none b xs ys carry h = record { grows = grows-refl b; below = All-nil (Below (size b)); long = refl; last_below = h; value = λ v o. omega arith }

carried : (p o s n x y c r t k m q : ℕ) → s + 2 * n ≡ x + y + c → o + p * c ≡ r + t + k → m ≡ r + p * x → q ≡ t + p * y → (o + p * s) + (p * 2) * n ≡ m + q + k
carried p o s n x y c r t k m q e f em eq =
    let left : p * (s + 2 * n) ≡ p * s + p * (2 * n) = mul-add p s (2 * n) in
    let right : p * (x + y + c) ≡ p * (x + y) + p * c = mul-add p (x + y) c in
    let right' : p * (x + y) ≡ p * x + p * y = mul-add p x y in
    let same : p * (s + 2 * n) ≡ p * (x + y + c) = ap (λ z. p * z) e in
    let turn : (p * 2) * n ≡ p * (2 * n) = mul_assoc p 2 n in
    omega arith

pub adding-more :
    (start old new : Building) (i : ℕ) (a b : List Signal) (carry last : Signal) (out : List Signal) (d e sum next : Signal)
    → i < length a → i < length b
    → Adding start old i a b carry last out → Grows old new → Adds new (get_or a i d) (get_or b i e) last sum next
    → Adding start new (i + 1) a b carry next (out ++ sum ∷ [])
adding-more start old new i a b carry last out d e sum next ha hb t grown s = record {
  grows = grows-trans start old new t.grows grown;
  below = All-push (Below (size new)) out sum (all_below-grown old new grown out t.below) s.sum_below;
  long = omega (arith, length_push out sum, t.long);
  last_below = s.next_below;
  value = λ v o.
      ap (λ n. n + 2 ^ (i + 1) * bit (signal_value v next)) (number-push v out sum i t.long)
      ∙ ap (λ p. number v out + 2 ^ i * bit (signal_value v sum) + p * bit (signal_value v next)) (ap (λ k. 2 ^ k) (omega arith) ∙ pow-suc 2 i)
      ∙ carried (2 ^ i) (number v out) (bit (signal_value v sum)) (bit (signal_value v next)) (bit (signal_value v (get_or a i d))) (bit (signal_value v (get_or b i e)))
      (bit (signal_value v last)) (number v (take i a)) (number v (take i b)) (bit (signal_value v carry)) (number v (take (i + 1) a)) (number v (take (i + 1) b))
      (s.value v o) (t.value v (obeys-back old new grown v o)) (number-more v a i d ha) (number-more v b i e hb);
}

low-part : (p o c n : ℕ) → o < p → o + p * c ≡ n → o ≡ n % p
low-part p o c n h e =
    let turn : o + p * c ≡ c * p + o = omega (arith, mul_comm p c) in
    sym (ap (λ m. m % p) (sym e ∙ turn) ∙ mod-mul-add c p o h)

pub adding-all :
    (start now : Building) (a b : List Signal) (carry last : Signal) (out : List Signal) (i : ℕ) → i ≡ length a → length b ≡ length a → Adding start now i a b carry last out
    → Amounts now (length a) (λ v. (number v a + number v b + bit (signal_value v carry)) % 2 ^ length a) out
adding-all start now a b carry last out i is long t = record {
  below = t.below;
  long = t.long ∙ is;
  value = λ v o.
      low-part (2 ^ length a) (number v out) (bit (signal_value v last)) (number v a + number v b + bit (signal_value v carry))
      (subst (λ k. number v out < 2 ^ k) (t.long ∙ is) (number-below v out))
      (ap (λ k. number v out + 2 ^ k * bit (signal_value v last)) (sym is) ∙ t.value v o
      ∙ ap (λ xs. number v xs + number v (take i b) + bit (signal_value v carry)) (take_all i a (omega arith))
      ∙ ap (λ xs. number v a + number v xs + bit (signal_value v carry)) (take_all i b (omega arith)));
}

pub sum-plain : (w a b : ℕ) → (a + b + 0) % 2 ^ w ≡ added w a b
sum-plain w a b = ap (λ n. n % 2 ^ w) (omega arith)

pub difference : (v : ℕ → Bool) (a b c : List Signal) → c ≡ map turned b → length b ≡ length a
    → (number v a + number v c + 1) % 2 ^ length a ≡ subtracted (length a) (number v a) (number v b)
difference v a b c is long =
    let t : number v c ≡ complemented (length b) (number v b) = ap (number v) is ∙ number-turned v b in
    let low : number v b < 2 ^ length b = number-below v b in
    let e : 2 ^ length b ≡ 2 ^ length a = ap (λ k. 2 ^ k) long in
    ap (λ n. n % 2 ^ length a) (omega arith)

pub number-zeros : (v : ℕ → Bool) (n : ℕ) (s : Signal) → signal_value v s ≡ false → number v (replicate n s) ≡ 0
number-zeros v zero s is = refl
number-zeros v (suc n) s is =
    let b : bit (signal_value v s) ≡ 0 = ap bit is in
    omega (arith, number-zeros v n s is)

-- 0 minus a number
pub negation : (v : ℕ → Bool) (a zs : List Signal) → zs ≡ replicate (length a) (Constant false) → subtracted (length zs) (number v zs) (number v a) ≡ negated (length a) (number v a)
negation v a zs is =
    let long : length zs ≡ length a = ap (length {A = Signal}) is ∙ length-replicate (length a) (Constant false) in
    let none : number v zs ≡ 0 = ap (number v) is ∙ number-zeros v (length a) (Constant false) refl in
    ap (λ w. (number v zs + (2 ^ w - number v a)) % 2 ^ w) long ∙ ap (λ n. n % 2 ^ length a) (omega arith)

pub zeros-long : (a zs : List Signal) → zs ≡ replicate (length a) (Constant false) → length zs ≡ length a
zeros-long a zs is = ap (length {A = Signal}) is ∙ length-replicate (length a) (Constant false)
