-- The laws of reading, for every plain grammar.
use Rattle.std.specs.Prelude.{◌≡◌, ℕ, suc, true, false, take, List, [], ◌∷◌, ◌++◌, length, Ok, Err}
use Rattle.uc_forms.specs.declared.fault.Fault.{Fault}
use Rattle.uc_forms.specs.declared.fault.Fault.TheVariants.{TooDeep}
use Rattle.uc_forms.specs.Spelling.{Spells, stands, is_deeper}
use Rattle.uc_forms.specs.Reading.{read}
use Rattle.uc_forms.specs.Grammar.{Grammar}
use Rattle.uc_forms.specs.Answer.{Answer, WordOf, Begins, IsAnswer, answer}

-- What is read is spelled by the words that were taken.
abbrev pub ReadIsSpelled : Grammar → Type 0
ReadIsSpelled g = (levels : ℕ) (ws : List (WordOf g)) (a : g.Text) (rest : List (WordOf g)) → read g.rule g.opens levels g.text ws ≡ Ok (a, rest)
    → (front : List (WordOf g)) × (ws ≡ front ++ rest) × Spells g.rule levels g.text front a

-- What is spelled is read, where no word lies too deep.
abbrev pub SpelledIsRead : Grammar → Type 0
SpelledIsRead g = (levels m : ℕ) (ws : List (WordOf g)) (a : g.Text) (s : Spells g.rule m g.text ws a) → is_deeper levels (stands g.rule m g.text ws a s) ≡ false
    → read g.rule g.opens levels g.text ws ≡ Ok (a, [])

-- Where a word of what is spelled lies too deep, reading stops at the first that does.
abbrev pub DeepIsRefused : Grammar → Type 0
DeepIsRefused g = (levels m : ℕ) (ws : List (WordOf g)) (a : g.Text) (s : Spells g.rule m g.text ws a) → is_deeper levels (stands g.rule m g.text ws a s) ≡ true
    → (front : List (WordOf g)) × (w : WordOf g) × (rest : List (WordOf g)) × (ws ≡ front ++ w ∷ rest) × (read g.rule g.opens levels g.text ws ≡ Err (TooDeep, w ∷ rest))
    × (is_deeper levels (take (length front) (stands g.rule m g.text ws a s)) ≡ false) × (is_deeper levels (take (suc (length front)) (stands g.rule m g.text ws a s)) ≡ true)

-- In what is spelled with so many levels, no word lies in more nested forms.
abbrev pub LevelsBoundDepths : Grammar → Type 0
LevelsBoundDepths g = (levels : ℕ) (ws : List (WordOf g)) (a : g.Text) (s : Spells g.rule levels g.text ws a) → is_deeper levels (stands g.rule levels g.text ws a s) ≡ false

-- What is spelled, and with no word in more nested forms, is spelled with so many levels.
abbrev pub DepthsBoundLevels : Grammar → Type 0
DepthsBoundLevels g = (levels m : ℕ) (ws : List (WordOf g)) (a : g.Text) (s : Spells g.rule m g.text ws a) → is_deeper levels (stands g.rule m g.text ws a s) ≡ false → Spells g.rule levels g.text ws a

-- A fault at a word comes whatever words follow it.
abbrev pub FaultComesAgain : Grammar → Type 0
FaultComesAgain g = (levels : ℕ) (front rest other : List (WordOf g)) (w : WordOf g) (e : Fault) → read g.rule g.opens levels g.text (front ++ w ∷ rest) ≡ Err (e, w ∷ rest)
    → read g.rule g.opens levels g.text (front ++ w ∷ other) ≡ Err (e, w ∷ other)

-- The words before a fault can be completed.
abbrev pub FaultCompletes : Grammar → Type 0
FaultCompletes g = (levels : ℕ) (ws : List (WordOf g)) (e : Fault) (rest : List (WordOf g)) → read g.rule g.opens levels g.text ws ≡ Err (e, rest)
    → (front : List (WordOf g)) × (ws ≡ front ++ rest) × Begins g front

-- How words stand is the same in all texts that begin with them.
abbrev pub StandAlike : Grammar → Type 0
StandAlike g = (front more other : List (WordOf g)) (m k : ℕ) (a b : g.Text) (s : Spells g.rule m g.text (front ++ more) a) (t : Spells g.rule k g.text (front ++ other) b)
    → take (length front) (stands g.rule m g.text (front ++ more) a s) ≡ take (length front) (stands g.rule k g.text (front ++ other) b t)

-- Words spell at most one value.
abbrev pub OneValue : Grammar → Type 0
OneValue g = (ws : List (WordOf g)) (m k : ℕ) (a b : g.Text) → Spells g.rule m g.text ws a → Spells g.rule k g.text ws b → a ≡ b

-- What reading answers is to be answered.
abbrev pub AnswersRight : Grammar → Type 0
AnswersRight g = (levels limit : ℕ) (ws : List (WordOf g)) → IsAnswer g levels limit ws (answer g levels limit ws)

-- One answer is right: of two faults the first place, and at one place the word that no text goes on with, before the word
-- that lies too deep, before the name that is one too many.
abbrev pub OneAnswer : Grammar → Type 0
OneAnswer g = (levels limit : ℕ) (ws : List (WordOf g)) (r q : Answer (WordOf g) g.Text) → IsAnswer g levels limit ws r → IsAnswer g levels limit ws q → r ≡ q
