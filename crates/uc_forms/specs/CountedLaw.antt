-- The law of counting, for every plain grammar.
use Rattle.std.specs.Prelude.{◌≡◌, ℕ, List, Ok, Err}
use Rattle.uc_forms.specs.declared.tally.Tally.{Tally}
use Rattle.uc_forms.specs.Reading.{Outcome as Read, read, noted}
use Rattle.uc_forms.specs.Tally.{counted_on}
use Rattle.uc_forms.specs.Grammar.{Grammar}
use Rattle.uc_forms.specs.Answer.{WordOf}
use Rattle.uc_forms.specs.Counted.{Outcome, count}

-- what was read, with this count
abbrev pub joined : {W A : Type 0} → Read W A → Tally W → Outcome W A
joined (Ok x) n = Ok (x.0, (x.1, n))
joined (Err e) n = Err (e.0, (e.1, n))

-- Counting reads what reading reads, and counts the names that the words which it takes declare.
abbrev pub CountingIsReading : Grammar → Type 0
CountingIsReading g = (levels : ℕ) (ws : List (WordOf g)) (n : Tally (WordOf g)) → count g.rule g.opens levels g.text (ws, n) ≡ joined (read g.rule g.opens levels g.text ws) (counted_on n (noted g.rule g.opens levels g.text ws))
