-- What a run is to answer to its words and its texts.
use Rattle.std.specs.Prelude.{◌≡◌, ℕ, ◌+◌, ◌*◌, ◌≤◌, Bool, true, false, not, ◌&&◌, nat_le, nat_eq, codes, decimal, IsTrue, List, [], ◌∷◌, ◌++◌, length, slice_get, unwrap_or, Option, Some, None}
use Rattle.std.specs.List.{list_all}
use Rattle.uc_report.specs.Reports.{status}
use Rattle.uc_report.specs.Verdicts.{out_of_budget}
use Rattle.uc_report.specs.ControlText.{report_text}
use Rattle.uc_front.specs.declared.refusal.Refusal.{Refusal}
use Rattle.uc_front.specs.Refusals.{number_of, place_of}
use Rattle.uc_front.specs.Denotes.{Denotes, IsKept, RunsToday}
use Rattle.uc_front.specs.Refused.{IsRefused}
use Rattle.uc_judge.specs.Reports.{IsReport}
use Rattle.uclid.specs.declared.answer.Session.{Session}
use Rattle.uclid.specs.declared.answer.Answer.{Answer}
use Rattle.uclid.specs.declared.answer.Answer.TheVariants.{Usage, Refused, Reported}

-- ---- words

abbrev pub begins_with_dash : List ℕ → Bool
begins_with_dash [] = false
begins_with_dash (c ∷ cs) = nat_eq c 45

-- no word begins with `-`
abbrev pub are_names : List (List ℕ) → Bool
are_names words = list_all (λ w. not (begins_with_dash w)) words

-- 1 to 256 words, none of which begins with `-`
abbrev pub is_form : List (List ℕ) → Bool
is_form words = nat_le 1 (length words) && (nat_le (length words) 256 && are_names words)

-- the word of a number, none where there is none
abbrev pub word_at : List (List ℕ) → ℕ → List ℕ
word_at words n = unwrap_or (slice_get words n) []

-- ---- answers

-- how many entries of a log each line may spend: 2^20
abbrev pub line_budget : ℕ
line_budget = 1048576

-- The answer to files: a refusal, or the report of a design that keeps the rules and runs. Where it is told what is held under the files' names, the refusal is right for it, and it denotes the design.
abbrev pub IsFilesAnswer : Bool → List (List ℕ) → (List ℕ → Option (List ℕ)) → Answer → Type 0
IsFilesAnswer tells files held Usage = ⊥
IsFilesAnswer tells files held (Refused r) = IsTrue tells → IsRefused held files r
IsFilesAnswer tells files held (Reported s) = IsReport s.design line_budget s.report × IsKept s.design × RunsToday s.design × (IsTrue tells → Denotes held files s.design)

-- Words that are not of the form are answered with the usage line; else each is the name of a file.
abbrev pub IsAnswerFor : Bool → Bool → List (List ℕ) → (List ℕ → Option (List ℕ)) → Answer → Type 0
IsAnswerFor true tells words held a = IsFilesAnswer tells words held a
IsAnswerFor false tells words held a = a ≡ Usage

abbrev pub IsAnswer : Bool → List (List ℕ) → (List ℕ → Option (List ℕ)) → Answer → Type 0
IsAnswer tells words held a = IsAnswerFor (is_form words) tells words held a

-- 4 for words that are not of the form, 3 for texts that are refused, else the status of the report
abbrev pub status_of : Answer → ℕ
status_of Usage = 4
status_of (Refused r) = 3
status_of (Reported s) = status s.report

abbrev pub session_of : Answer → Option Session
session_of (Reported s) = Some s
session_of other = None

-- For a session the meter rose by at least the budget for each line that is undecided by it, and by at most the budget for each line. Else it stayed as it was.
abbrev pub HasSpent : ℕ → ℕ → Answer → Type 0
HasSpent before after (Reported s) = (before + line_budget * out_of_budget s.report.lines ≤ after) × (after ≤ before + line_budget * length s.report.lines)
HasSpent before after other = after ≡ before

-- ---- bytes

abbrev pub usage_line : List ℕ
usage_line = codes "usage: uclid [--main NAME] [--budget N] FILE... or uclid --ring N [--budget N]\n"

-- the line of a refusal, with the name of the file that it is in
unfoldable pub error_line : List ℕ → Refusal → List ℕ
error_line file r = codes "error " ++ decimal (number_of r) ++ codes " in " ++ file ++ codes " at line " ++ decimal (place_of r).line ++ codes ", column " ++ decimal (place_of r).col ++ codes "\n"

abbrev pub text_of : List (List ℕ) → Answer → List ℕ
text_of words Usage = usage_line
text_of words (Refused r) = error_line (word_at words (place_of r).file) r
text_of words (Reported s) = report_text s.design s.report
