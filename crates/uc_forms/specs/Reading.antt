-- Reading a form from the front of a list of words, with one word of lookahead, and two at `ahead`.
use Rattle.std.specs.Prelude.{ℕ, zero, suc, map, Bool, true, false, ◌&&◌, ◌||◌, if◌then◌else◌, List, [], ◌∷◌, ◌++◌, length, Option, Some, None, Result, Ok, Err, ◌⊎◌}
use Rattle.std.proofs.Common.{inl, inr}
use Rattle.uc_forms.specs.declared.fault.Fault.{Fault}
use Rattle.uc_forms.specs.declared.fault.Fault.TheVariants.{Syntax, TooDeep}
use Rattle.uc_forms.specs.Alphabet.{Alphabet}
pub use Rattle.uc_forms.specs.Form.{member, codes_of}
use Rattle.uc_forms.specs.Form.{Mark, quiet, Form, any, nothing, both, either, chain, until, made, ahead, deep, Rules, goes_on_with}
use Rattle.uc_forms.specs.Spelling.{Stand, stand, one_deeper}

-- a value and the words after it, or a fault and the words from the faulty one on
abbrev pub Outcome : Type 0 → Type 0 → Type 0
Outcome W A = Result (A × List W) (Fault × List W)

infixl 10 ◌>>=◌
abbrev pub ◌>>=◌ : {W A B : Type 0} → Outcome W A → (A × List W → Outcome W B) → Outcome W B
(Ok x) >>= k = k x
(Err e) >>= k = Err e

abbrev pub turned : {W A B : Type 0} → (A → B) → Outcome W A → Outcome W B
turned h (Ok x) = Ok (h x.0, x.1)
turned h (Err e) = Err e

-- one after the other
abbrev pub paired : {W A B : Type 0} → Outcome W A → (List W → Outcome W B) → Outcome W (A × B)
paired (Ok x) g = turned (λ b. (x.0, b)) (g x.1)
paired (Err e) g = Err e

-- the next word is of one of these kinds
abbrev pub is_at : (T : Alphabet) → List ℕ → List T.Word → Bool
is_at T codes [] = false
is_at T codes (w ∷ ws) = member (T.kind w) codes

-- the next two words are of these kinds
abbrev pub is_at_two : (T : Alphabet) → T.Kind → List T.Kind → T.Kind → List T.Word → Bool
is_at_two T j js k [] = false
is_at_two T j js k (w ∷ ws) = member (T.kind w) (codes_of T j js) && is_at T (T.code k ∷ []) ws

abbrev pub take_first : {W : Type 0} → List W → Outcome W W
take_first [] = Err (Syntax, [])
take_first (w ∷ ws) = Ok (w, ws)

-- a word of one of these kinds
abbrev pub read_any : (T : Alphabet) → T.Kind → List T.Kind → List T.Word → Outcome T.Word T.Word
read_any T j js ws = if is_at T (codes_of T j js) ws then take_first ws else Err (Syntax, ws)

abbrev pub read_word : (T : Alphabet) → T.Kind → List T.Word → Outcome T.Word T.Word
read_word T k ws = read_any T k [] ws

-- The number bounds the turns. The count of the words is always enough, and one more where there is an end to read.
unfoldable pub read_chain : (T : Alphabet) {A B : Type 0} → List ℕ → (List T.Word → Outcome T.Word (A ⊎ B)) → ℕ → List T.Word → Outcome T.Word (List A × Option B)
read_chain T codes item zero ws = Ok (([], None), ws)
read_chain T codes item (suc n) ws = if is_at T codes ws then (item ws >>= λ x. elim x.0 [
  | inl a ↦ turned (λ y. (a ∷ y.0, y.1)) (read_chain T codes item n x.1)
  | inr b ↦ Ok (([], Some b), x.1)
]) else Ok (([], None), ws)

unfoldable pub read_until : (T : Alphabet) {A B : Type 0} → List ℕ → (List T.Word → Outcome T.Word A) → (List T.Word → Outcome T.Word B) → ℕ → List T.Word → Outcome T.Word (List A × B)
read_until T codes item ender zero ws = turned (λ b. ([], b)) (ender ws)
read_until T codes item ender (suc n) ws = if is_at T codes ws then turned (λ b. ([], b)) (ender ws) else (item ws >>= λ x. turned (λ y. (x.0 ∷ y.0, y.1)) (read_until T codes item ender n x.1))

-- one turn after the other while the next word is of one of these kinds
abbrev pub turns : (T : Alphabet) {A : Type 0} → List ℕ → (List T.Word → Outcome T.Word A) → List T.Word → Outcome T.Word (List A)
turns T codes item ws = turned (λ x. x.0) (read_chain T codes (λ us. turned goes_on_with (item us)) (length ws) ws)

-- what was read before, and what is still read
abbrev pub with_front : {W A : Type 0} → List A → Outcome W (List A) → Outcome W (List A)
with_front front r = turned (λ xs. front ++ xs) r

-- one turn after the other until the next word is of one of these kinds, and then the end
abbrev pub endings : (T : Alphabet) {A B : Type 0} → List ℕ → (List T.Word → Outcome T.Word A) → (List T.Word → Outcome T.Word B) → List T.Word → Outcome T.Word (List A × B)
endings T codes item ender ws = read_until T codes item ender (suc (length ws)) ws

abbrev pub with_head : {W A B : Type 0} → List A → Outcome W (List A × B) → Outcome W (List A × B)
with_head front r = turned (λ x. (front ++ x.0, x.1)) r

-- ---- what a form begins with

-- it may be spelled by no word
abbrev pub skips : {T : Alphabet} {N : Type 0} {V : N → Type 0} {A : Type 0} → Form T N V A → Bool
skips (any q j js) = false
skips nothing = true
skips (both f g) = skips f && skips g
skips (either f g) = skips f || skips g
skips (chain f) = true
skips (until f g) = skips g
skips (made h f) = skips f
skips (ahead q j js k f g) = skips g
skips (deep n) = false

-- the kinds of word that it may begin with
abbrev pub first : {T : Alphabet} {N : Type 0} {V : N → Type 0} → (N → List ℕ) → {A : Type 0} → Form T N V A → List ℕ
first {T} opens (any q j js) = codes_of T j js
first opens nothing = []
first opens (both f g) = first opens f ++ (if skips f then first opens g else [])
first opens (either f g) = first opens f ++ first opens g
first opens (chain f) = first opens f
first opens (until f g) = first opens f ++ first opens g
first opens (made h f) = first opens f
first {T} opens (ahead q j js k f g) = codes_of T j js ++ first opens g
first opens (deep n) = opens n

-- ---- reading

abbrev pub read_with : {T : Alphabet} {N : Type 0} {V : N → Type 0} → (N → List ℕ) → ((n : N) → List T.Word → Outcome T.Word (V n)) → {A : Type 0} → Form T N V A → List T.Word → Outcome T.Word A
read_with {T} opens deeper (any q j js) ws = read_any T j js ws
read_with opens deeper nothing ws = Ok (tt, ws)
read_with opens deeper (both f g) ws = paired (read_with opens deeper f ws) (read_with opens deeper g)
read_with {T} opens deeper (either f g) ws = if is_at T (first opens f) ws then turned inl (read_with opens deeper f ws) else turned inr (read_with opens deeper g ws)
read_with {T} opens deeper (chain f) ws = read_chain T (first opens f) (read_with opens deeper f) (length ws) ws
read_with {T} opens deeper (until f g) ws = endings T (first opens g) (read_with opens deeper f) (read_with opens deeper g) ws
read_with opens deeper (made h f) ws = turned h (read_with opens deeper f ws)
read_with {T} opens deeper (ahead q j js k f g) ws = if is_at_two T j js k ws then turned inl (paired (read_any T j js ws) (λ us. turned (λ x. x.1) (paired (read_word T k us) (read_with opens deeper f)))) else turned inr (read_with opens deeper g ws)
read_with opens deeper (deep n) ws = deeper n ws

-- A nested form is read to so many levels. Where none is left, a word that would begin it lies too deep.
unfoldable pub read_at : {T : Alphabet} {N : Type 0} {V : N → Type 0} → Rules T N V → (N → List ℕ) → ℕ → (n : N) → List T.Word → Outcome T.Word (V n)
read_at {T} rule opens zero n ws = if is_at T (opens n) ws then Err (TooDeep, ws) else Err (Syntax, ws)
read_at rule opens (suc m) n ws = read_with opens (read_at rule opens m) (rule n) ws

abbrev pub read : {T : Alphabet} {N : Type 0} {V : N → Type 0} → Rules T N V → (N → List ℕ) → ℕ → {A : Type 0} → Form T N V A → List T.Word → Outcome T.Word A
read rule opens m f ws = read_with opens (read_at rule opens m) f ws

-- ---- how the words stand that reading takes, up to its end or its fault

abbrev pub note_word : (T : Alphabet) → Mark → T.Kind → List T.Kind → List T.Word → List (Stand T.Word)
note_word T q j js [] = []
note_word T q j js (w ∷ ws) = if member (T.kind w) (codes_of T j js) then stand q w ∷ [] else []

-- what is noted after a part that was read
abbrev pub then_note : {W A : Type 0} → Outcome W A → (A → List W → List (Stand W)) → List (Stand W)
then_note (Ok x) note = note x.0 x.1
then_note (Err e) note = []

abbrev pub note_turn : {W A B : Type 0} → A ⊎ B → List (Stand W) → List (Stand W)
note_turn (inl a) more = more
note_turn (inr b) more = []

unfoldable pub note_chain : (T : Alphabet) {A B : Type 0} → List ℕ → (List T.Word → Outcome T.Word (A ⊎ B)) → (List T.Word → List (Stand T.Word)) → ℕ → List T.Word → List (Stand T.Word)
note_chain T codes item note zero ws = []
note_chain T codes item note (suc n) ws = if is_at T codes ws then note ws ++ then_note (item ws) (λ x rest. note_turn x (note_chain T codes item note n rest)) else []

unfoldable pub note_until : (T : Alphabet) {A : Type 0} → List ℕ → (List T.Word → Outcome T.Word A) → (List T.Word → List (Stand T.Word)) → (List T.Word → List (Stand T.Word)) → ℕ → List T.Word → List (Stand T.Word)
note_until T codes item note last zero ws = last ws
note_until T codes item note last (suc n) ws = if is_at T codes ws then last ws else note ws ++ then_note (item ws) (λ a rest. note_until T codes item note last n rest)

-- how the words of such turns stand
abbrev pub note_turns : (T : Alphabet) {A : Type 0} → List ℕ → (List T.Word → Outcome T.Word A) → (List T.Word → List (Stand T.Word)) → List T.Word → List (Stand T.Word)
note_turns T codes item note ws = note_chain T codes (λ us. turned goes_on_with (item us)) note (length ws) ws

abbrev pub note_endings : (T : Alphabet) {A : Type 0} → List ℕ → (List T.Word → Outcome T.Word A) → (List T.Word → List (Stand T.Word)) → (List T.Word → List (Stand T.Word)) → List T.Word → List (Stand T.Word)
note_endings T codes item note last ws = note_until T codes item note last (suc (length ws)) ws

-- two words and what comes after them
abbrev pub note_two : {W : Type 0} → Mark → (List W → List (Stand W)) → List W → List (Stand W)
note_two q note [] = []
note_two q note (v ∷ []) = []
note_two q note (v ∷ w ∷ ws) = stand quiet v ∷ stand q v ∷ note ws

abbrev pub note_with : {T : Alphabet} {N : Type 0} {V : N → Type 0} → (N → List ℕ) → ((n : N) → List T.Word → Outcome T.Word (V n)) → ((n : N) → List T.Word → List (Stand T.Word)) → {A : Type 0} → Form T N V A → List T.Word → List (Stand T.Word)
note_with {T} opens deeper inner (any q j js) ws = note_word T q j js ws
note_with opens deeper inner nothing ws = []
note_with opens deeper inner (both f g) ws = note_with opens deeper inner f ws ++ then_note (read_with opens deeper f ws) (λ a rest. note_with opens deeper inner g rest)
note_with {T} opens deeper inner (either f g) ws = if is_at T (first opens f) ws then note_with opens deeper inner f ws else note_with opens deeper inner g ws
note_with {T} opens deeper inner (chain f) ws = note_chain T (first opens f) (read_with opens deeper f) (note_with opens deeper inner f) (length ws) ws
note_with {T} opens deeper inner (until f g) ws = note_endings T (first opens g) (read_with opens deeper f) (note_with opens deeper inner f) (note_with opens deeper inner g) ws
note_with opens deeper inner (made h f) ws = note_with opens deeper inner f ws
note_with {T} opens deeper inner (ahead q j js k f g) ws = if is_at_two T j js k ws then note_two q (note_with opens deeper inner f) ws else note_with opens deeper inner g ws
note_with opens deeper inner (deep n) ws = map one_deeper (inner n ws)

unfoldable pub note_at : {T : Alphabet} {N : Type 0} {V : N → Type 0} → Rules T N V → (N → List ℕ) → ℕ → (n : N) → List T.Word → List (Stand T.Word)
note_at rule opens zero n ws = []
note_at rule opens (suc m) n ws = note_with opens (read_at rule opens m) (note_at rule opens m) (rule n) ws

abbrev pub noted : {T : Alphabet} {N : Type 0} {V : N → Type 0} → Rules T N V → (N → List ℕ) → ℕ → {A : Type 0} → Form T N V A → List T.Word → List (Stand T.Word)
noted rule opens m f ws = note_with opens (read_at rule opens m) (note_at rule opens m) f ws
