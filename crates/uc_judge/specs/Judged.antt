-- The commands whose lines are judged, and what is right of judged lines.
use Rattle.std.specs.Prelude.{◌≡◌, ℕ, suc, ◌+◌, ◌*◌, ◌≤◌, ◌^◌, if◌then◌else◌, List, [], ◌∷◌, ◌++◌, map, length, take, slice_get, unwrap_or, Some}
use Rattle.std.specs.List.{list_any, All}
use Rattle.uc_syntax.specs.declared.declaration.Command.{Command}
use Rattle.uc_syntax.specs.declared.declaration.Module.{Module}
use Rattle.uc_meaning.specs.declared.line.Line.{Line}
use Rattle.uc_meaning.specs.Lookup.{System}
use Rattle.uc_meaning.specs.Lines.{is_check, command_lines}
use Rattle.uc_flat.specs.declared.flat.Flat.{Flat}
use Rattle.uc_flat_design.specs.Design.{IsFlatOf}
use Rattle.uc_report.specs.declared.report.LineResult.{LineResult}
use Rattle.uc_report.specs.Verdicts.{IsRightVerdict, out_of_budget}
use Rattle.uc_judge.specs.Reports.{IsHonestLine}

-- how many commands stand in front of the last `check`: all that one follows
unfoldable pub followed : List Command → ℕ
followed [] = 0
followed (c ∷ cs) = if list_any is_check cs then suc (followed cs) else 0

-- the lines of commands, of which the first has number n
unfoldable pub lines_in : System → ℕ → List Command → List Line
lines_in system n [] = []
lines_in system n (c ∷ cs) = command_lines system n c ++ lines_in system (n + 1) cs

-- how many lines stand in front of each of the first n commands, and behind the last of these
pub record AreCounts (system : System) (commands : List Command) (n : ℕ) (counts : List ℕ) : Type 0 where
  pub sized : length counts ≡ n + 1
  pub each : (k : ℕ) → k ≤ n → slice_get counts k ≡ Some (length (lines_in system 0 (take k commands)))

-- how many stand in front of the command of a number, 0 where that is not known
abbrev pub count_at : List ℕ → ℕ → ℕ
count_at counts n = unwrap_or (slice_get counts n) 0

-- These lines are judged, in order, each with its command and a right verdict. Each one that is undecided by its budget spent it, and none spent more: before and after count the entries that were spent in all.
pub record AreJudged (system : System) (budget before after : ℕ) (lines : List Line) (ls : List LineResult) : Type 0 where
  pub are : map (λ l. l.line) ls ≡ lines
  pub commands : All (λ l. l.command ≡ l.line.command) ls
  pub verdicts : All (λ l. IsRightVerdict system l.line l.verdict) ls
  pub honest : (code : Module) (f : Flat) → IsFlatOf system code f → All (IsHonestLine f budget) ls
  pub spent : before + budget * out_of_budget ls ≤ after
  pub few : after ≤ before + 2 ^ 32 * length ls
  pub within : after ≤ before + budget * length ls
