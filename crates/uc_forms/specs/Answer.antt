-- What is to be answered for words as a text.
use Rattle.std.specs.Prelude.{◌≡◌, ℕ, true, false, take, List, [], ◌∷◌, ◌++◌, length, Option, Some, None, Ok, Err}
use Rattle.uc_forms.specs.declared.fault.Fault.TheVariants.{Syntax, TooDeep}
use Rattle.uc_forms.specs.Spelling.{Spells, Stand, stands, is_deeper, past_limit}
use Rattle.uc_forms.specs.Reading.{Outcome, read, noted}
use Rattle.uc_forms.specs.Grammar.{Grammar}

-- W are the words, and A the values of texts.
pub data Answer (W A : Type 0) : Type 0 where
  -- the words spell this value
  spelled : A → Answer W A
  -- no text goes on with the first of these words; where there is none, the words end too early
  wrong : List W → Answer W A
  -- the first of these words lies too deep
  too_deep : List W → Answer W A
  -- this declared name is one too many
  too_many : W → Answer W A

abbrev pub WordOf : Grammar → Type 0
WordOf g = g.alphabet.Word

-- No word lies in more nested forms than there may be, and no declared name is past the limit.
abbrev pub IsClean : {W : Type 0} → ℕ → ℕ → List (Stand W) → Type 0
IsClean levels limit xs = (is_deeper levels xs ≡ false) × (past_limit limit 0 xs ≡ None)

-- some text begins with these words
abbrev pub Begins : (g : Grammar) → List (WordOf g) → Type 0
Begins g front = (more : List (WordOf g)) × (m : ℕ) × (a : g.Text) × Spells g.rule m g.text (front ++ more) a

-- some text begins with these words, and P holds of how they stand in it (in every such text they stand so)
abbrev pub BeginsAs : (g : Grammar) → List (WordOf g) → (List (Stand (WordOf g)) → Type 0) → Type 0
BeginsAs g front P = (more : List (WordOf g)) × (m : ℕ) × (a : g.Text) × (s : Spells g.rule m g.text (front ++ more) a) × P (take (length front) (stands g.rule m g.text (front ++ more) a s))

-- What each answer says: the words before the fault begin a text and are within the limits, and with the word at the fault
-- no text goes on, or it lies too deep, or it makes the name one too many. A word that lies too deep is never a name too many.
abbrev pub IsAnswer : (g : Grammar) → (levels limit : ℕ) → List (WordOf g) → Answer (WordOf g) g.Text → Type 0
IsAnswer g levels limit ws (spelled a) = (m : ℕ) × (s : Spells g.rule m g.text ws a) × IsClean levels limit (stands g.rule m g.text ws a s)
IsAnswer g levels limit ws (wrong []) = BeginsAs g ws (IsClean levels limit) × ((m : ℕ) (a : g.Text) → Spells g.rule m g.text ws a → ⊥)
IsAnswer g levels limit ws (wrong (w ∷ rest)) = (front : List (WordOf g)) × (ws ≡ front ++ w ∷ rest) × BeginsAs g front (IsClean levels limit) × (Begins g (front ++ w ∷ []) → ⊥)
IsAnswer g levels limit ws (too_deep []) = ⊥
IsAnswer g levels limit ws (too_deep (w ∷ rest)) = (front : List (WordOf g)) × (ws ≡ front ++ w ∷ rest) × BeginsAs g front (IsClean levels limit) × BeginsAs g (front ++ w ∷ []) (λ xs. is_deeper levels xs ≡ true)
IsAnswer g levels limit ws (too_many x) = (front : List (WordOf g)) × (v : WordOf g) × (rest : List (WordOf g)) × (ws ≡ front ++ v ∷ rest) × BeginsAs g front (IsClean levels limit) × BeginsAs g (front ++ v ∷ []) (λ xs. (is_deeper levels xs ≡ false) × (past_limit limit 0 xs ≡ Some x))

-- ---- the answer that reading gives

abbrev pub whole : {W A : Type 0} → Outcome W A → Answer W A
whole (Ok x) = elim x.1 [ [] ↦ spelled x.0 | w ∷ rest ↦ wrong (w ∷ rest) ]
whole (Err e) = elim e.0 [ Syntax ↦ wrong e.1 | TooDeep ↦ too_deep e.1 ]

abbrev pub first_of : {W A : Type 0} → Option W → Answer W A → Answer W A
first_of None r = r
first_of (Some x) r = too_many x

-- a name too many, and else what reading all of the words gives
abbrev pub answer : (g : Grammar) → ℕ → ℕ → List (WordOf g) → Answer (WordOf g) g.Text
answer g levels limit ws = first_of (past_limit limit 0 (noted g.rule g.opens levels g.text ws)) (whole (read g.rule g.opens levels g.text ws))
