-- Reading a form from the front of a list of words, with the count of declared names beside the words.
use Rattle.std.specs.Prelude.{ℕ, zero, suc, if◌then◌else◌, List, [], ◌∷◌, ◌++◌, length, Option, Some, None, Result, Ok, Err, ◌⊎◌}
use Rattle.std.proofs.Common.{inl, inr}
use Rattle.uc_forms.specs.declared.fault.Fault.{Fault}
use Rattle.uc_forms.specs.declared.fault.Fault.TheVariants.{Syntax, TooDeep}
use Rattle.uc_forms.specs.declared.tally.Tally.{Tally}
use Rattle.uc_forms.specs.Alphabet.{Alphabet}
use Rattle.uc_forms.specs.Form.{Mark, quiet, Form, any, nothing, both, either, chain, until, made, ahead, deep, Rules, codes_of, goes_on_with}
use Rattle.uc_forms.specs.Spelling.{stand}
use Rattle.uc_forms.specs.Reading.{is_at, is_at_two, first}
use Rattle.uc_forms.specs.Tally.{with_word}

-- the words that are left, and the count of the names so far
abbrev pub State : Type 0 → Type 0
State W = List W × Tally W

-- a value and the state after it, or a fault and the state at it
abbrev pub Outcome : Type 0 → Type 0 → Type 0
Outcome W A = Result (A × State W) (Fault × State W)

infixl 10 ◌>>=◌
abbrev pub ◌>>=◌ : {W A B : Type 0} → Outcome W A → (A × State W → Outcome W B) → Outcome W B
(Ok x) >>= k = k x
(Err e) >>= k = Err e

abbrev pub turned : {W A B : Type 0} → (A → B) → Outcome W A → Outcome W B
turned h (Ok x) = Ok (h x.0, x.1)
turned h (Err e) = Err e

-- one after the other
abbrev pub paired : {W A B : Type 0} → Outcome W A → (State W → Outcome W B) → Outcome W (A × B)
paired (Ok x) g = turned (λ b. (x.0, b)) (g x.1)
paired (Err e) g = Err e

-- a word is counted by its mark
abbrev pub marked : {W : Type 0} → Mark → W → State W → State W
marked q w s = (s.0, with_word s.1 (stand q w))

abbrev pub take_first : {W : Type 0} → Mark → List W → Tally W → Outcome W W
take_first q [] n = Err (Syntax, ([], n))
take_first q (w ∷ ws) n = Ok (w, (ws, with_word n (stand q w)))

-- a word of one of these kinds
abbrev pub count_any : (T : Alphabet) → Mark → T.Kind → List T.Kind → State T.Word → Outcome T.Word T.Word
count_any T q j js s = if is_at T (codes_of T j js) s.0 then take_first q s.0 s.1 else Err (Syntax, s)

abbrev pub count_word : (T : Alphabet) → T.Kind → State T.Word → Outcome T.Word T.Word
count_word T k s = count_any T quiet k [] s

-- The number bounds the turns. The count of the words is always enough, and one more where there is an end to read.
unfoldable pub count_chain : (T : Alphabet) {A B : Type 0} → List ℕ → (State T.Word → Outcome T.Word (A ⊎ B)) → ℕ → State T.Word → Outcome T.Word (List A × Option B)
count_chain T codes item zero s = Ok (([], None), s)
count_chain T codes item (suc n) s = if is_at T codes s.0 then (item s >>= λ x. elim x.0 [
  | inl a ↦ turned (λ y. (a ∷ y.0, y.1)) (count_chain T codes item n x.1)
  | inr b ↦ Ok (([], Some b), x.1)
]) else Ok (([], None), s)

unfoldable pub count_until : (T : Alphabet) {A B : Type 0} → List ℕ → (State T.Word → Outcome T.Word A) → (State T.Word → Outcome T.Word B) → ℕ → State T.Word → Outcome T.Word (List A × B)
count_until T codes item ender zero s = turned (λ b. ([], b)) (ender s)
count_until T codes item ender (suc n) s = if is_at T codes s.0 then turned (λ b. ([], b)) (ender s) else (item s >>= λ x. turned (λ y. (x.0 ∷ y.0, y.1)) (count_until T codes item ender n x.1))

-- one turn after the other while the next word is of one of these kinds
abbrev pub turns : (T : Alphabet) {A : Type 0} → List ℕ → (State T.Word → Outcome T.Word A) → State T.Word → Outcome T.Word (List A)
turns T codes item s = turned (λ x. x.0) (count_chain T codes (λ u. turned goes_on_with (item u)) (length s.0) s)

-- what was read before, and what is still read
abbrev pub with_front : {W A : Type 0} → List A → Outcome W (List A) → Outcome W (List A)
with_front front r = turned (λ xs. front ++ xs) r

-- one turn after the other, and then maybe one of another type
abbrev pub links : (T : Alphabet) {A B : Type 0} → List ℕ → (State T.Word → Outcome T.Word (A ⊎ B)) → State T.Word → Outcome T.Word (List A × Option B)
links T codes item s = count_chain T codes item (length s.0) s

-- one turn after the other until the next word is of one of these kinds, and then the end
abbrev pub endings : (T : Alphabet) {A B : Type 0} → List ℕ → (State T.Word → Outcome T.Word A) → (State T.Word → Outcome T.Word B) → State T.Word → Outcome T.Word (List A × B)
endings T codes item ender s = count_until T codes item ender (suc (length s.0)) s

abbrev pub with_head : {W A B : Type 0} → List A → Outcome W (List A × B) → Outcome W (List A × B)
with_head front r = turned (λ x. (front ++ x.0, x.1)) r

abbrev pub count_with : {T : Alphabet} {N : Type 0} {V : N → Type 0} → (N → List ℕ) → ((n : N) → State T.Word → Outcome T.Word (V n)) → {A : Type 0} → Form T N V A → State T.Word → Outcome T.Word A
count_with {T} opens deeper (any q j js) s = count_any T q j js s
count_with opens deeper nothing s = Ok (tt, s)
count_with opens deeper (both f g) s = paired (count_with opens deeper f s) (count_with opens deeper g)
count_with {T} opens deeper (either f g) s = if is_at T (first opens f) s.0 then turned inl (count_with opens deeper f s) else turned inr (count_with opens deeper g s)
count_with {T} opens deeper (chain f) s = links T (first opens f) (count_with opens deeper f) s
count_with {T} opens deeper (until f g) s = endings T (first opens g) (count_with opens deeper f) (count_with opens deeper g) s
count_with opens deeper (made h f) s = turned h (count_with opens deeper f s)
count_with {T} opens deeper (ahead q j js k f g) s = if is_at_two T j js k s.0
    then turned inl (count_any T quiet j js s >>= λ x. turned (λ a. (x.0, a)) (count_word T k x.1 >>= λ y. count_with opens deeper f (marked q x.0 y.1)))
    else turned inr (count_with opens deeper g s)
count_with opens deeper (deep n) s = deeper n s

-- A nested form is read to so many levels. Where none is left, a word that would begin it lies too deep.
unfoldable pub count_at : {T : Alphabet} {N : Type 0} {V : N → Type 0} → Rules T N V → (N → List ℕ) → ℕ → (n : N) → State T.Word → Outcome T.Word (V n)
count_at {T} rule opens zero n s = if is_at T (opens n) s.0 then Err (TooDeep, s) else Err (Syntax, s)
count_at rule opens (suc m) n s = count_with opens (count_at rule opens m) (rule n) s

abbrev pub count : {T : Alphabet} {N : Type 0} {V : N → Type 0} → Rules T N V → (N → List ℕ) → ℕ → {A : Type 0} → Form T N V A → State T.Word → Outcome T.Word A
count rule opens m f s = count_with opens (count_at rule opens m) f s
