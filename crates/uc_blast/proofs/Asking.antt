-- The inputs for the bits of a term, and the word that is made of them.
use Rattle.std.specs.Prelude.{◌≡◌, ℕ, ◌+◌, ◌*◌, ◌/◌, ◌%◌, ◌<◌, ◌≤◌, ◌^◌, Bool as Truth, true, nat_eq, List, [], ◌∷◌, ◌++◌, length, slice_get, Some, zero, suc}
use Rattle.std.proofs.Common.{refl, sym, ap, ◌∙◌, arith, subst, inl, inr, length-append, append_assoc}
use Rattle.std.proofs.Math.Nat.{div-one, div-div-eq-div-mul, eq-or-lt_of_le, pow-suc}
use Rattle.std.proofs.lemmas.Bool.{false≢true}
use Rattle.std.proofs.lemmas.List.{length_push}
use Rattle.std.proofs.lemmas.List.Elements.{All-nil, All-push}
use Rattle.uc_values.proofs.Fitting.{IsBoolean-fits, IsBits-fits}
use Rattle.uc_values.specs.declared.ty.Ty.{Ty}
use Rattle.uc_values.specs.declared.ty.Ty.TheVariants.{Bool, Bv}
use Rattle.uc_values.specs.declared.value.Value.{Value}
use Rattle.uc_values.specs.declared.value.Value.TheVariants.{Bool as truth, Bv as bits}
use Rattle.uc_circuit.specs.Literals.{positive}
use Rattle.uc_ops.specs.declared.model.Model.{Model}
use Rattle.uc_ops.specs.declared.node.Node.{Node}
use Rattle.uc_ops.specs.Typing.{type_at}
use Rattle.uc_ops.proofs.Fitting.{Fits}
use Rattle.uc_terms.specs.Values.{value}
use Rattle.uc_terms.proofs.Grown.{slice_get-front, slice_get-last}
use Rattle.uc_circuit.specs.declared.signal.Signal.{Signal}
use Rattle.uc_circuit.specs.declared.signal.Signal.TheVariants.{Constant, Of}
use Rattle.uc_circuit.specs.Signals.{bit, number, Below, AllBelow}
use Rattle.uc_circuit.proofs.Growing.{all_below-more}
use Rattle.uc_circuit.proofs.Numbers.{number-push}
use Rattle.uc_circuit.proofs.Digits.{Digits, digits-none, digits-more, digits-all}
use Rattle.uc_log.specs.declared.atom.Atom.{Atom}
use Rattle.uc_log.specs.declared.atom.Atom.TheVariants.{Bit}
use Rattle.uc_log.specs.Atoms.{bit_of}
use Rattle.uc_blast.specs.Words.{is_bits, bit_width, worth}
use Rattle.uc_blast.specs.Walk.{term_bits, variables_from, AgreesWith, IsInputWord}

pub variables-long : (first n : ℕ) → length (variables_from first n) ≡ n
variables-long first zero = refl
variables-long first (suc n) = omega (arith, length_push (variables_from first n) (Of (positive (first + n))), variables-long first n)

pub variables-below : (first n : ℕ) → AllBelow (first + n) (variables_from first n)
variables-below first zero = All-nil (Below (first + zero))
variables-below first (suc n) =
    All-push (Below (first + suc n)) (variables_from first n) (Of (positive (first + n)))
    (all_below-more (first + n) (first + suc n) (omega arith) (variables_from first n) (variables-below first n)) (omega arith)

pub bits-long : (k n : ℕ) → length (term_bits k n) ≡ n
bits-long k zero = refl
bits-long k (suc n) = omega (arith, length_push (term_bits k n) (Bit k n), bits-long k n)

bit-of-term : (k n j : ℕ) → j < n → slice_get (term_bits k n) j ≡ Some (Bit k j)
bit-of-term k zero j h = absurd (omega arith)
bit-of-term k (suc n) j h =
    elim (eq-or-lt_of_le {n = j} {m = n} (omega arith)) [
      | inl e ↦
          let at : length (term_bits k n) ≡ j = bits-long k n ∙ sym e in
          ap (slice_get (term_bits k n ++ Bit k n ∷ [])) (sym at) ∙ slice_get-last (term_bits k n) (Bit k n) ∙ ap (λ i. Some (Bit k i)) (sym e)
      | inr l ↦ slice_get-front (term_bits k n) (Bit k n ∷ []) j (omega (arith, bits-long k n)) ∙ bit-of-term k n j l
    ]

slice_get-after : {A : Type 0} (xs ys : List A) (j : ℕ) → slice_get (xs ++ ys) (length xs + j) ≡ slice_get ys j
slice_get-after [] ys j = ap (slice_get ys) (omega arith)
slice_get-after (x ∷ xs) ys j =
    let next : suc (length xs) + j ≡ suc (length xs + j) = omega arith in
    ap (slice_get (x ∷ xs ++ ys)) next ∙ slice_get-after xs ys j

-- variables with the bits of a number stand for it
abbrev constant_digits : ℕ → ℕ → List Signal
constant_digits n zero = []
constant_digits n (suc i) = constant_digits n i ++ Constant (nat_eq (n / 2 ^ i % 2) 1) ∷ []

halved : (n i : ℕ) → n / 2 ^ i / 2 ≡ n / 2 ^ suc i
halved n i = div-div-eq-div-mul n (2 ^ i) 2 ∙ ap (λ p. n / p) (sym (pow-suc 2 i))

are-digits : (n i : ℕ) → Digits i n (n / 2 ^ i) (constant_digits n i)
are-digits n zero = subst (λ r. Digits 0 n r []) (sym (div-one n)) (digits-none n)
are-digits n (suc i) =
    subst (λ j. Digits j n (n / 2 ^ suc i) (constant_digits n (suc i))) (omega arith)
    (subst (λ r. Digits (i + 1) n r (constant_digits n (suc i))) (halved n i) (digits-more i n (n / 2 ^ i) (constant_digits n i) (are-digits n i)))

same-number : (v : ℕ → Truth) (first n w : ℕ) → ((j : ℕ) → j < w → v (first + j) ≡ nat_eq (n / 2 ^ j % 2) 1) → (i : ℕ) → i ≤ w
    → number v (variables_from first i) ≡ number v (constant_digits n i)
same-number v first n w h zero le = refl
same-number v first n w h (suc i) le =
    let d = nat_eq (n / 2 ^ i % 2) 1 in
    number-push v (variables_from first i) (Of (positive (first + i))) i (variables-long first i)
    ∙ ap (λ x. x + 2 ^ i * bit (v (first + i))) (same-number v first n w h i (omega arith))
    ∙ ap (λ b. number v (constant_digits n i) + 2 ^ i * bit b) (h i (omega arith))
    ∙ sym (number-push v (constant_digits n i) (Constant d) i (are-digits n i).long)

number-of-bits : (v : ℕ → Truth) (first n w : ℕ) → n < 2 ^ w → ((j : ℕ) → j < w → v (first + j) ≡ nat_eq (n / 2 ^ j % 2) 1) → number v (variables_from first w) ≡ n
number-of-bits v first n w small h =
    same-number v first n w h w (omega arith) ∙ (digits-all w w n (n / 2 ^ w) (constant_digits n w) refl small (are-digits n w)).value v

-- variables with the bits of a value of the type stand for it
bits-stand-for : (ty : Ty) (x : Value) (v : ℕ → Truth) (first : ℕ) → is_bits ty ≡ true → Fits ty x → ((j : ℕ) → j < bit_width ty → v (first + j) ≡ bit_of x j)
    → worth v ty (variables_from first (bit_width ty)) ≡ x
bits-stand-for Bool x v first is f h =
    let b = IsBoolean-fits x f in
    ap truth (ap v (omega arith) ∙ h 0 (omega arith) ∙ ap (λ y. bit_of y 0) b.is) ∙ sym b.is
bits-stand-for (Bv w) x v first is f h =
    let b = IsBits-fits w x f in
    ap (bits w) (number-of-bits v first b.number w b.small (λ j l. h j l ∙ ap (λ y. bit_of y j) b.is)) ∙ sym b.is
bits-stand-for _ x v first is f h = absurd (false≢true is)

pub agrees-front : (m : Model) (nodes : List Node) (atoms more : List Atom) (v : ℕ → Truth) → AgreesWith m nodes (atoms ++ more) v → AgreesWith m nodes atoms v
agrees-front m nodes atoms more v a i x h = a i x (slice_get-front atoms more i (within atoms i x h) ∙ h)
  where
    within : (xs : List Atom) (i : ℕ) (x : Atom) → slice_get xs i ≡ Some x → i < length xs
    within [] i x h = absurd (cc)
    within (y ∷ xs) zero x h = omega arith
    within (y ∷ xs) (suc i) x h = omega (arith, within xs i x h)

-- the word of the new inputs of a term
pub input-word : (nodes : List Node) (atoms : List Atom) (k : ℕ) → is_bits (type_at nodes k) ≡ true → ((m : Model) → Fits (type_at nodes k) (value m nodes k))
    → IsInputWord nodes (atoms ++ term_bits k (bit_width (type_at nodes k))) k (variables_from (length atoms) (bit_width (type_at nodes k)))
input-word nodes atoms k is f =
    let ty = type_at nodes k in
    let w = bit_width ty in
    let first = length atoms in
    let all : List Atom = atoms ++ term_bits k w in
    let long : length all ≡ first + w = length-append atoms (term_bits k w) ∙ ap (λ n. first + n) (bits-long k w) in
    record {
      is_word = record { below = subst (λ n. AllBelow n (variables_from first w)) (sym long) (variables-below first w); long = variables-long first w };
      value = λ m v a.
          bits-stand-for ty (value m nodes k) v first is (f m)
          (λ j l. a (first + j) (Bit k j) (slice_get-after atoms (term_bits k w) j ∙ bit-of-term k w j l));
    }

-- more inputs leave a word as it is
pub input-word-more : (nodes : List Node) (atoms more : List Atom) (k : ℕ) (word : List Signal) → IsInputWord nodes atoms k word → IsInputWord nodes (atoms ++ more) k word
input-word-more nodes atoms more k word i = record {
  is_word = record { below = all_below-more (length atoms) (length (atoms ++ more)) (omega (arith, length-append atoms more)) word i.is_word.below; long = i.is_word.long };
  value = λ m v a. i.value m v (agrees-front m nodes atoms more v a);
}

-- one bit more
pub bits-more : (k i : ℕ) (before old new : List Atom) → old ≡ before ++ term_bits k i → new ≡ old ++ Bit k i ∷ [] → new ≡ before ++ term_bits k (i + 1)
bits-more k i before old new h n =
    let next : suc i ≡ i + 1 = omega arith in
    n ∙ ap (λ xs. xs ++ Bit k i ∷ []) h ∙ append_assoc before (term_bits k i) (Bit k i ∷ []) ∙ ap (λ j. before ++ term_bits k j) next

pub variables-more : (first i k : ℕ) (before old : List Atom) (word more : List Signal) (s : Signal) → first ≡ length before → old ≡ before ++ term_bits k i → word ≡ variables_from first i
    → s ≡ Of (positive (length old)) → more ≡ word ++ s ∷ [] → more ≡ variables_from first (i + 1)
variables-more first i k before old word more s ef eo ew es em =
    let next : suc i ≡ i + 1 = omega arith in
    let number : length old ≡ first + i = omega (arith, ap (length {A = Atom}) eo, length-append before (term_bits k i), bits-long k i, ef) in
    em ∙ ap (λ xs. xs ++ s ∷ []) ew ∙ ap (λ x. variables_from first i ++ x ∷ []) (es ∙ ap (λ n. Of (positive n)) number) ∙ ap (variables_from first) next
