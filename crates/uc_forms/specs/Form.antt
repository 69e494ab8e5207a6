-- The forms in which words may stand.
use Rattle.std.specs.Prelude.{ℕ, Bool, false, ◌||◌, ◌==◌, List, [], ◌∷◌, Option, ◌⊎◌}
use Rattle.std.proofs.Common.{inl, inr}
use Rattle.uc_forms.specs.Alphabet.{Alphabet}

-- what a word does beside being there
pub data Mark : Type 0 where
  -- nothing
  quiet : Mark
  -- it declares a name
  declares : Mark
  -- the count of declared names starts again at zero
  restarts : Mark

-- A form of a value of type A. N has the names of the nested forms, and V the type of the values of each.
pub data Form (T : Alphabet) (N : Type 0) (V : N → Type 0) : Type 0 → Type 1 where
  -- one word of one of these kinds: the first, or one of the further ones
  any : Mark → T.Kind → List T.Kind → Form T N V T.Word
  -- no word
  nothing : Form T N V (Unit {0})
  -- one after the other
  both : {A B : Type 0} → Form T N V A → Form T N V B → Form T N V (A × B)
  -- one or the other; the second may be spelled by no word
  either : {A B : Type 0} → Form T N V A → Form T N V B → Form T N V (A ⊎ B)
  -- any number of the first, and then maybe one of the second
  chain : {A B : Type 0} → Form T N V (A ⊎ B) → Form T N V (List A × Option B)
  -- any number of the first, and then one of the second
  until : {A B : Type 0} → Form T N V A → Form T N V B → Form T N V (List A × B)
  -- a form whose value is made of the parts
  made : {A B : Type 0} → (A → B) → Form T N V A → Form T N V B
  -- A word of one of these kinds, a word of that kind, and then the first form; or the second form.
  -- The mark is that of the second word, and it is about the name that the first word is.
  ahead : {A B : Type 0} → Mark → T.Kind → List T.Kind → T.Kind → Form T N V A → Form T N V B → Form T N V ((T.Word × A) ⊎ B)
  -- a form one level deeper
  deep : (n : N) → Form T N V (V n)

-- a grammar gives each nested form its rule
abbrev pub Rules : (T : Alphabet) (N : Type 0) → (N → Type 0) → Type 1
Rules T N V = (n : N) → Form T N V (V n)

-- ---- kinds

abbrev pub member : ℕ → List ℕ → Bool
member c [] = false
member c (d ∷ ds) = (c == d) || member c ds

-- the codes of one kind or more
abbrev pub codes_of : (T : Alphabet) → T.Kind → List T.Kind → List ℕ
codes_of T j [] = T.code j ∷ []
codes_of T j (i ∷ is) = T.code j ∷ codes_of T i is

-- ---- forms made of forms

-- a word of this kind
abbrev pub word : {T : Alphabet} {N : Type 0} {V : N → Type 0} → T.Kind → Form T N V T.Word
word k = any quiet k []

-- a word of one of these kinds
abbrev pub one_of : {T : Alphabet} {N : Type 0} {V : N → Type 0} → T.Kind → List T.Kind → Form T N V T.Word
one_of j js = any quiet j js

-- a word of one of these kinds, and it declares a name
abbrev pub declared : {T : Alphabet} {N : Type 0} {V : N → Type 0} → T.Kind → List T.Kind → Form T N V T.Word
declared j js = any declares j js

-- a word of this kind, where the count of declared names starts again
abbrev pub restart : {T : Alphabet} {N : Type 0} {V : N → Type 0} → T.Kind → Form T N V T.Word
restart k = any restarts k []

-- the form, behind a word of this kind
abbrev pub after : {T : Alphabet} {N : Type 0} {V : N → Type 0} {A : Type 0} → T.Kind → Form T N V A → Form T N V A
after {T} {A = A} k f = made (λ (x : T.Word × A). x.1) (both (word k) f)

-- the form, and a word of this kind behind it
abbrev pub before : {T : Alphabet} {N : Type 0} {V : N → Type 0} {A : Type 0} → Form T N V A → T.Kind → Form T N V A
before {T} {A = A} f k = made (λ (x : A × T.Word). x.0) (both f (word k))

abbrev pub goes_on_with : {A : Type 0} → A → A ⊎ ⊥
goes_on_with a = inl a

abbrev pub merged : {A : Type 0} → A ⊎ A → A
merged (inl a) = a
merged (inr a) = a

-- one or the other, of one type
infixr 20 ◌<|>◌
abbrev pub ◌<|>◌ : {T : Alphabet} {N : Type 0} {V : N → Type 0} {A : Type 0} → Form T N V A → Form T N V A → Form T N V A
f <|> g = made merged (either f g)

-- any number of them
abbrev pub many : {T : Alphabet} {N : Type 0} {V : N → Type 0} {A : Type 0} → Form T N V A → Form T N V (List A)
many f = made (λ x. x.0) (chain (made goes_on_with f))

-- one or more, with a word of this kind between neighbours
abbrev pub joined_by : {T : Alphabet} {N : Type 0} {V : N → Type 0} {A : Type 0} → T.Kind → Form T N V A → Form T N V (List A)
joined_by k f = made (λ x. x.0 ∷ x.1) (both f (many (after k f)))
