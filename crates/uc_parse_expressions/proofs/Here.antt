-- The lemmas of reading, for this grammar.
use Rattle.std.proofs.Common.{◌≡◌, ℕ, ◌-◌, ◌<◌, false, Err}
use Rattle.uc_forms.specs.Reading.{is_at, skips}
use Rattle.uc_forms.specs.Gives.{stop_deep}
use Rattle.uc_grammar.specs.declared.word.Word.{Word}
use Rattle.uc_grammar.specs.Plain.{rules_are_plain}
use Rattle.uc_grammar.specs.Syntax.{words, F, Nested, rule, opens, goes}
use Rattle.uc_forms.specs.Counted.{State}
use Rattle.uc_forms.specs.CountedGives.{Counts}
use Rattle.uc_forms.proofs.CountedLevels.{deeper, no_level_gives}
use Rattle.uc_forms.proofs.Advances.{Advances, advances}
use Rattle.uc_parse_expressions.specs.Reading.{form, nested}

-- a form with words takes some of them
pub takes : (levels : ℕ) {A : Type 0} (f : F A) → skips f ≡ false → Advances words (form levels f)
takes levels f s = advances words rule opens goes rules_are_plain levels f s

pub one_deeper : (levels : ℕ) (n : Nested) (s : State Word) → 0 < levels → nested levels n s ≡ form (levels - 1) (rule n) s
one_deeper levels n s h = deeper rule opens levels n s h

pub none_left : (levels : ℕ) (n : Nested) (s : State Word) → levels ≡ 0 → Counts (Err (stop_deep (is_at words (opens n) s.0))) s (nested levels n s)
none_left levels n s h = no_level_gives rule opens levels n s h
