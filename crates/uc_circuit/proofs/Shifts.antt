-- Shifts.
use Rattle.std.specs.Prelude.{◌≡◌, ℕ, ◌+◌, ◌-◌, ◌*◌, ◌/◌, ◌%◌, ◌^◌, ◌<◌, ◌≤◌, Bool, true, false, not, ◌||◌, cond, List, ◌++◌, length, take, drop, map, replicate, nat_lt}
use Rattle.std.proofs.Common.{refl, sym, ap, ◌∙◌, arith, subst, get_or, zero, suc}
use Rattle.std.proofs.Math.Nat.{pow-suc, mul_assoc, mul_comm, pow-le-pow_right}
use Rattle.std.proofs.lemmas.Nat.{pow_pos, pow-add, shl-shr, shr-shr, shr_le, mod-pow-add, mul-mod_first, mod_low, shr_high}
use Rattle.std.proofs.lemmas.List.{map-append, length-append, length-take-le, length-drop, length-replicate, length-map, drop-map}
use Rattle.std.proofs.lemmas.List.Elements.{All-append, All-replicate, All-take, All-drop}
use Rattle.std.proofs.lemmas.Bool.{false≢true}
use Rattle.std.proofs.lemmas.Bool.Decides.{nat_tests}
use Rattle.uc_values.specs.Operators.{complemented, shifted_left}
use Rattle.uc_circuit.specs.declared.signal.Signal.{Signal}
use Rattle.uc_circuit.specs.declared.signal.Signal.TheVariants.{Constant}
use Rattle.uc_circuit.specs.declared.shifting.Shift.{Shift}
use Rattle.uc_circuit.specs.declared.shifting.Shift.TheVariants.{Left, Right}
use Rattle.uc_circuit.specs.Signals.{signal_value, turned, number, bit, Below, AllBelow}
use Rattle.uc_circuit.specs.Building.{Building, Grows, size}
use Rattle.uc_circuit.specs.Meanings.{Means, Amounts}
use Rattle.uc_circuit.specs.Shifting.{shifted, shifted_down, fill_of, moved}
use Rattle.uc_circuit.proofs.Growing.{grows-trans, obeys-back}
use Rattle.uc_circuit.proofs.Numbers.{number-append, number-take, number-drop, number-below, number-more, number-split}
use Rattle.uc_circuit.proofs.BitByBit.{number-turned}
use Rattle.uc_circuit.proofs.Choices.{turned-value}
use Rattle.uc_circuit.proofs.Sums.{number-zeros}
use Rattle.uc_circuit.proofs.Turns.{Turn}

twice : (w n : ℕ) → n < 2 ^ w → complemented w (complemented w n) ≡ n
twice w n h = omega arith

complement-below : (w n : ℕ) → complemented w n < 2 ^ w
complement-below w n = omega (arith, pow_pos w)

over-one : (a : ℕ) → a / 2 ^ 0 ≡ a
over-one a = ap (λ n. n / 2 ^ 0) (omega arith) ∙ shl-shr a 0

small-mod : (w a : ℕ) → a < 2 ^ w → a % 2 ^ w ≡ a
small-mod w a h = ap (λ n. n % 2 ^ w) (omega arith) ∙ mod_low 0 w a h

down-none : (w : ℕ) (f : Bool) (a : ℕ) → a < 2 ^ w → shifted_down w f a 0 ≡ a
down-none w true a h = ap (complemented w) (over-one (complemented w a)) ∙ twice w a h
down-none w false a h = over-one a

pub shifted-none : (v : ℕ → Bool) (w : ℕ) (s : Shift) (a : ℕ) → a < 2 ^ w → shifted v w s a 0 ≡ a
shifted-none v w Left a h = ap (λ n. n % 2 ^ w) (omega arith) ∙ small-mod w a h
shifted-none v w (Right fill) a h = down-none w (signal_value v fill) a h

over-below : (w a n : ℕ) → a < 2 ^ w → a / 2 ^ n < 2 ^ w
over-below w a n h = omega (arith, shr_le a n)

down-more : (w : ℕ) (f : Bool) (a m n : ℕ) → a < 2 ^ w → shifted_down w f (shifted_down w f a m) n ≡ shifted_down w f a (m + n)
down-more w true a m n h =
    ap (λ x. complemented w (x / 2 ^ n)) (twice w (complemented w a / 2 ^ m) (over-below w (complemented w a) m (complement-below w a)))
    ∙ ap (complemented w) (shr-shr (complemented w a) m n)
down-more w false a m n h = shr-shr a m n

pub shifted-more : (v : ℕ → Bool) (w : ℕ) (s : Shift) (a m n : ℕ) → a < 2 ^ w → shifted v w s (shifted v w s a m) n ≡ shifted v w s a (m + n)
shifted-more v w Left a m n h =
    mul-mod_first (a * 2 ^ m) (2 ^ n) (2 ^ w)
    ∙ ap (λ x. x % 2 ^ w) (mul_assoc a (2 ^ m) (2 ^ n) ∙ ap (λ x. a * x) (sym (pow-add 2 m n)))
shifted-more v w (Right fill) a m n h = down-more w (signal_value v fill) a m n h

over-far : (w a n : ℕ) → a < 2 ^ w → w ≤ n → a / 2 ^ n ≡ 0
over-far w a n h far =
    let two : 0 < 2 = omega arith in
    let more : 2 ^ w ≤ 2 ^ n = pow-le-pow_right two far in
    ap (λ x. x / 2 ^ n) (omega arith) ∙ shr_high 0 n a (omega arith)

pub number-ones : (v : ℕ → Bool) (n : ℕ) (s : Signal) → signal_value v s ≡ true → number v (replicate n s) + 1 ≡ 2 ^ n
number-ones v zero s is = refl
number-ones v (suc n) s is =
    let b : bit (signal_value v s) ≡ 1 = ap bit is in
    omega (arith, number-ones v n s is, pow-suc 2 n)

down-far : (v : ℕ → Bool) (w : ℕ) (fill : Signal) (f : Bool) (a n : ℕ) → signal_value v fill ≡ f → a < 2 ^ w → w ≤ n → shifted_down w f a n ≡ number v (replicate w fill)
down-far v w fill true a n is h far =
    ap (complemented w) (over-far w (complemented w a) n (complement-below w a) far) ∙ omega (arith, number-ones v w fill is)
down-far v w fill false a n is h far = over-far w a n h far ∙ sym (number-zeros v w fill is)

left-far : (w a n : ℕ) → w ≤ n → a * 2 ^ n % 2 ^ w ≡ 0
left-far w a n far =
    let e : n ≡ (n - w) + w = omega arith in
    ap (λ x. x % 2 ^ w) (ap (λ k. a * 2 ^ k) e ∙ ap (λ x. a * x) (pow-add 2 (n - w) w) ∙ sym (mul_assoc a (2 ^ (n - w)) (2 ^ w)) ∙ omega arith)
    ∙ mod_low (a * 2 ^ (n - w)) w 0 (pow_pos w)

-- a shift by the width or more leaves what fills
pub shifted-far : (v : ℕ → Bool) (w : ℕ) (s : Shift) (a n : ℕ) → a < 2 ^ w → w ≤ n → shifted v w s a n ≡ number v (replicate w (fill_of s))
shifted-far v w Left a n h far = left-far w a n far ∙ sym (number-zeros v w (Constant false) refl)
shifted-far v w (Right fill) a n h far = down-far v w fill (signal_value v fill) a n refl h far

-- signals that were moved
left-moved : (v : ℕ → Bool) (a : List Signal) (k : ℕ) → k ≤ length a → number v (moved Left a k) ≡ shifted_left (length a) (number v a) k
left-moved v a k h =
    let w = length a in
    let A = number v a in
    let j : w - k ≤ length a = omega arith in
    let e : w ≡ (w - k) + k = omega arith in
    let low : A * 2 ^ k % 2 ^ k ≡ 0 = ap (λ x. x % 2 ^ k) (omega arith) ∙ mod_low A k 0 (pow_pos k) in
    let right : A * 2 ^ k % 2 ^ w ≡ A % 2 ^ (w - k) * 2 ^ k =
    ap (λ x. A * 2 ^ k % 2 ^ x) e ∙ mod-pow-add (A * 2 ^ k) (w - k) k
    ∙ ap (λ x. x % 2 ^ (w - k) * 2 ^ k + A * 2 ^ k % 2 ^ k) (shl-shr A k) ∙ omega (arith, low) in
    number-append v (replicate k (Constant false)) (take (w - k) a)
    ∙ ap (λ x. x + 2 ^ length (replicate k (Constant false)) * number v (take (w - k) a)) (number-zeros v k (Constant false) refl)
    ∙ ap (λ x. 0 + 2 ^ x * number v (take (w - k) a)) (length-replicate k (Constant false))
    ∙ ap (λ x. 0 + 2 ^ k * x) (number-take v a (w - k) j)
    ∙ omega (arith, right, mul_comm (A % 2 ^ (w - k)) (2 ^ k))

pub mul-zero-right : (p n : ℕ) → n ≡ 0 → p * n ≡ 0
mul-zero-right p n e = ap (λ x. p * x) e ∙ omega arith

zeros-moved : (v : ℕ → Bool) (a zs : List Signal) (k : ℕ) → k ≤ length a → number v zs ≡ 0 → number v (drop k a ++ zs) ≡ number v a / 2 ^ k
zeros-moved v a zs k h none =
    let z = mul-zero-right (2 ^ length (drop k a)) (number v zs) none in
    number-append v (drop k a) zs ∙ omega (arith, z) ∙ number-drop v a k h

number-turned-ones : (v : ℕ → Bool) (n : ℕ) (s : Signal) → signal_value v s ≡ true → number v (map turned (replicate n s)) ≡ 0
number-turned-ones v zero s is = refl
number-turned-ones v (suc n) s is =
    let b : bit (signal_value v (turned s)) ≡ 0 = ap bit (turned-value v s ∙ ap not is) in
    omega (arith, number-turned-ones v n s is, b)

right-moved : (v : ℕ → Bool) (a : List Signal) (fill : Signal) (f : Bool) (k : ℕ) → k ≤ length a → signal_value v fill ≡ f
    → number v (drop k a ++ replicate k fill) ≡ shifted_down (length a) f (number v a) k
right-moved v a fill false k h is = zeros-moved v a (replicate k fill) k h (number-zeros v k fill is)
right-moved v a fill true k h is =
    let X = drop k a ++ replicate k fill in
    let long : length X ≡ length a = length-append (drop k a) (replicate k fill) ∙ omega (arith, length-drop k a, length-replicate k fill) in
    let below : number v X < 2 ^ length a = subst (λ n. number v X < 2 ^ n) long (number-below v X) in
    let over : k ≤ length (map turned a) = omega (arith, length-map a turned) in
    let down : number v (map turned X) ≡ complemented (length a) (number v a) / 2 ^ k =
    ap (number v) (map-append turned (drop k a) (replicate k fill) ∙ ap (λ xs. xs ++ map turned (replicate k fill)) (sym (drop-map turned k a)))
    ∙ zeros-moved v (map turned a) (map turned (replicate k fill)) k over (number-turned-ones v k fill is)
    ∙ ap (λ x. x / 2 ^ k) (number-turned v a) in
    sym (twice (length a) (number v X) below)
    ∙ ap (complemented (length a)) (ap (λ w. complemented w (number v X)) (sym long) ∙ sym (number-turned v X) ∙ down)

pub moved-number : (v : ℕ → Bool) (s : Shift) (a : List Signal) (k : ℕ) → k ≤ length a → number v (moved s a k) ≡ shifted v (length a) s (number v a) k
moved-number v Left a k h = left-moved v a k h
moved-number v (Right fill) a k h = right-moved v a fill (signal_value v fill) k h refl

pub moved-long : (s : Shift) (a : List Signal) (k : ℕ) → k ≤ length a → length (moved s a k) ≡ length a
moved-long Left a k h =
    let j : length a - k ≤ length a = omega arith in
    length-append (replicate k (Constant false)) (take (length a - k) a) ∙ omega (arith, length-replicate k (Constant false), length-take-le (length a - k) a j)
moved-long (Right fill) a k h = length-append (drop k a) (replicate k fill) ∙ omega (arith, length-drop k a, length-replicate k fill)

pub moved-below : (n : ℕ) (s : Shift) (a : List Signal) (k : ℕ) → Below n (fill_of s) → AllBelow n a → AllBelow n (moved s a k)
moved-below n Left a k f h = All-append (Below n) (replicate k (Constant false)) (take (length a - k) a) (All-replicate (Below n) k (Constant false) f) (All-take (Below n) (length a - k) a h)
moved-below n (Right fill) a k f h = All-append (Below n) (drop k a) (replicate k fill) (All-drop (Below n) k a h) (All-replicate (Below n) k fill f)

chosen : (v : ℕ → Bool) (w : ℕ) (s : Shift) (a m p : ℕ) (x : Bool) → a < 2 ^ w → cond x (shifted v w s (shifted v w s a m) p) (shifted v w s a m) ≡ shifted v w s a (m + p * bit x)
chosen v w s a m p true h = shifted-more v w s a m p h ∙ ap (shifted v w s a) (omega arith)
chosen v w s a m p false h = ap (shifted v w s a) (omega arith)

-- one bit of the amount more
pub shift-turn :
    (start old new : Building) (s : Shift) (a amount bits ms out : List Signal) (i places : ℕ) (d : Signal)
    → i < length amount → places ≡ 2 ^ i → places ≤ length a
    → Turn start old (length a) (λ v. shifted v (length a) s (number v a) (number v (take i amount))) bits
    → ms ≡ moved s bits places
    → Grows old new
    → Amounts new (length ms) (λ v. cond (signal_value v (get_or amount i d)) (number v ms) (number v bits)) out
    → Turn start new (length a) (λ v. shifted v (length a) s (number v a) (number v (take (i + 1) amount))) out
shift-turn start old new s a amount bits ms out i places d hi power near t is g r =
    let long : length bits ≡ length a = t.amounts.long in
    let le : places ≤ length bits = omega arith in
    let mslong : length ms ≡ length a = ap (length {A = Signal}) is ∙ moved-long s bits places le ∙ long in record {
      grows = grows-trans start old new t.grows g;
      amounts = record {
        below = r.below;
        long = r.long ∙ mslong;
        value = λ v o.
            let x = signal_value v (get_or amount i d) in
            let A = number v a in
            let n = number v (take i amount) in
            let eb : number v bits ≡ shifted v (length a) s A n = t.amounts.value v (obeys-back old new g v o) in
            let em : number v ms ≡ shifted v (length a) s (shifted v (length a) s A n) (2 ^ i) =
            ap (number v) is ∙ moved-number v s bits places le
            ∙ ap (λ w. shifted v w s (number v bits) places) long
            ∙ ap (λ y. shifted v (length a) s y places) eb
            ∙ ap (shifted v (length a) s (shifted v (length a) s A n)) power in
            r.value v o
            ∙ ap (λ y. cond x y (number v bits)) em
            ∙ ap (λ y. cond x (shifted v (length a) s (shifted v (length a) s A n) (2 ^ i)) y) eb
            ∙ chosen v (length a) s A n (2 ^ i) x (number-below v a)
            ∙ ap (shifted v (length a) s A) (sym (number-more v amount i d hi));
      };
    }

pub shift-start : (b : Building) (s : Shift) (a amount bits : List Signal) → bits ≡ a → AllBelow (size b) a → Grows b b
    → Turn b b (length a) (λ v. shifted v (length a) s (number v a) (number v (take 0 amount))) bits
shift-start b s a amount bits is below g = record {
  grows = g;
  amounts = record {
    below = subst (AllBelow (size b)) (sym is) below;
    long = ap (length {A = Signal}) is;
    value = λ v o. ap (number v) is ∙ sym (shifted-none v (length a) s (number v a) (number-below v a));
  };
}

any-bit : (p r n : ℕ) (x : Bool) → 0 < p → n ≡ r + p * bit x → (nat_lt 0 r || x) ≡ nat_lt 0 n
any-bit p r n true h e = grind (arith, nat_tests)
any-bit p r n false h e = grind (arith, nat_tests)

pub any-more : (v : ℕ → Bool) (a : List Signal) (i : ℕ) (d : Signal) → i < length a
    → (nat_lt 0 (number v (take i a)) || signal_value v (get_or a i d)) ≡ nat_lt 0 (number v (take (i + 1) a))
any-more v a i d h = any-bit (2 ^ i) (number v (take i a)) (number v (take (i + 1) a)) (signal_value v (get_or a i d)) (pow_pos i) (number-more v a i d h)

pub any-turn :
    (start old new : Building) (a : List Signal) (i : ℕ) (d found next : Signal) → i < length a
    → Grows start old × Means old (λ v. nat_lt 0 (number v (take i a))) found
    → Grows old new → Means new (λ v. signal_value v found || signal_value v (get_or a i d)) next
    → Grows start new × Means new (λ v. nat_lt 0 (number v (take (i + 1) a))) next
any-turn start old new a i d found next h t g m = (
  grows-trans start old new t.0 g,
  record {
    below = m.below;
    value = λ v o. m.value v o ∙ ap (λ b. b || signal_value v (get_or a i d)) (t.1.value v (obeys-back old new g v o)) ∙ any-more v a i d h;
  },
)

above-zero : (n : ℕ) → nat_lt 0 (suc n) ≡ true
above-zero n = grind (arith, nat_tests)

joined : (v : ℕ → Bool) (w : ℕ) (s : Shift) (a low high near n : ℕ) (far : Bool) → far ≡ nat_lt 0 high → a < 2 ^ w → w ≤ 2 ^ near → n ≡ low + 2 ^ near * high
    → cond far (number v (replicate w (fill_of s))) (shifted v w s a low) ≡ shifted v w s a n
joined v w s a low zero near n true is h wide e = absurd (false≢true (sym is))
joined v w s a low (suc high) near n true is h wide e =
    let more : 2 ^ near * suc high ≡ 2 ^ near * high + 2 ^ near = omega arith in
    sym (shifted-far v w s a n h (omega arith))
joined v w s a low zero near n false is h wide e = ap (shifted v w s a) (omega arith)
joined v w s a low (suc high) near n false is h wide e = absurd (false≢true (is ∙ above-zero high))

-- the near part and the far part of an amount together
pub shift-all :
    (one two three : Building) (s : Shift) (a amount bits bs rest fills : List Signal) (near : ℕ) (far : Signal) (out : List Signal)
    → near ≤ length amount → length a ≤ 2 ^ near
    → Amounts one (length a) (λ v. shifted v (length a) s (number v a) (number v (take near amount))) bits
    → bs ≡ bits
    → rest ≡ drop near amount → Grows one two → Means two (λ v. nat_lt 0 (number v rest)) far
    → fills ≡ replicate (length a) (fill_of s)
    → Grows two three → Amounts three (length fills) (λ v. cond (signal_value v far) (number v fills) (number v bs)) out
    → Amounts three (length a) (λ v. shifted v (length a) s (number v a) (number v amount)) out
shift-all one two three s a amount bits bs rest fills near far out within wide low eb er g m is h r = record {
  below = r.below;
  long = r.long ∙ ap (length {A = Signal}) is ∙ length-replicate (length a) (fill_of s);
  value = λ v o.
      let o2 = obeys-back two three h v o in
      r.value v o
      ∙ ap (λ x. cond (signal_value v far) (number v x) (number v bs)) is
      ∙ ap (λ x. cond (signal_value v far) (number v (replicate (length a) (fill_of s))) (number v x)) eb
      ∙ ap (λ x. cond (signal_value v far) (number v (replicate (length a) (fill_of s))) x) (low.value v (obeys-back one two g v o2))
      ∙ joined v (length a) s (number v a) (number v (take near amount)) (number v (drop near amount)) near (number v amount) (signal_value v far)
      (m.value v o2 ∙ ap (λ xs. nat_lt 0 (number v xs)) er) (number-below v a) wide (number-split v amount near within);
}

pub self-power : (n : ℕ) → n ≤ 2 ^ n
self-power zero = omega arith
self-power (suc n) = omega (arith, self-power n, pow-suc 2 n, pow_pos n)

pub power-more : (p i : ℕ) → p ≡ 2 ^ i → p * 2 ≡ 2 ^ (i + 1)
power-more p i e = ap (λ k. k * 2) e ∙ sym (ap (λ k. 2 ^ k) (omega arith) ∙ pow-suc 2 i)
