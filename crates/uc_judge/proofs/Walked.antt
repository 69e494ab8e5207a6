-- The prints of commands, one after another, are those of the control block.
use Rattle.std.proofs.Common.{◌≡◌, ℕ, ◌+◌, ◌<◌, ◌≤◌, List, [], ◌∷◌, ◌++◌, length, take, drop, get_or, refl, sym, ap, ◌∙◌, arith, true, append-nil, append_assoc, length-append}
use Rattle.std.proofs.lemmas.List.{drop_all}
use Rattle.uc_lexer.specs.declared.place.Place.{Place}
use Rattle.uc_syntax.specs.declared.declaration.Command.{Command}
use Rattle.uc_syntax.specs.declared.declaration.Command.TheVariants.{Run, Check, PrintResults, PrintCounterexamples}
use Rattle.uc_meaning.specs.Lookup.{System}
use Rattle.uc_meaning.specs.Lines.{command_lines, commands_of}
use Rattle.uc_meaning.proofs.Lists.{drop_turn}
use Rattle.uc_report.specs.declared.report.LineResult.{LineResult}
use Rattle.uc_report.specs.declared.report.Print.{Print}
use Rattle.uc_report.specs.declared.report.Print.TheVariants.{Results, Cex}
use Rattle.uc_report.specs.Prints.{failed_lines, cells_shown, prints_from, prints_of}
use Rattle.uc_judge.specs.Judged.{followed, lines_in, AreCounts, count_at}
use Rattle.uc_judge.specs.Prints.{first_after, end_after, printed}
use Rattle.uc_judge.proofs.Listed.{check_within, count_found, lines_more, lines_none}

-- how many lines the first k commands have
abbrev added : System → List Command → ℕ → ℕ
added system commands k = length (lines_in system 0 (take k commands))

-- A walk over commands, which stands at number k: the prints so far, and those of the rest, are those of the design.
abbrev pub IsWalked : System → List LineResult → List Command → ℕ → ℕ → ℕ → List Print → Type 0
IsWalked system lines commands k first end prints = prints ++ prints_from system lines k first end (added system commands k) (drop k commands) ≡ prints_of system lines

-- one command and the rest
one_by_one : (system : System) (lines : List LineResult) (n first end sum : ℕ) (c : Command) (cs : List Command)
    → prints_from system lines n first end sum (c ∷ cs) ≡ printed system lines first end c ++ prints_from system lines (n + 1) (first_after first end c) (end_after end sum c) (sum + length (command_lines system n c)) cs
unfolding prints_from
one_by_one system lines n first end sum (Check place) cs = ap (λ m. prints_from system lines (n + 1) end sum m cs) (none sum)
  where
    none : (m : ℕ) → m ≡ m + 0
    none m = omega arith
one_by_one system lines n first end sum (PrintResults place) cs = ap (λ m. Results first end ∷ prints_from system lines (n + 1) first end m cs) (none sum)
  where
    none : (m : ℕ) → m ≡ m + 0
    none m = omega arith
one_by_one system lines n first end sum (PrintCounterexamples place f paths) cs =
    ap (λ m. Cex (failed_lines system lines first end f) (cells_shown system paths) ∷ prints_from system lines (n + 1) first end m cs) (none sum)
  where
    none : (m : ℕ) → m ≡ m + 0
    none m = omega arith
one_by_one system lines n first end sum (Run place name run) cs = refl

-- what is counted in front of a `check` are the lines of all commands before
same_end : (system : System) (commands : List Command) (counts : List ℕ) (k end : ℕ) (c : Command) → AreCounts system commands (followed commands) counts → k < length commands → c ≡ get_or commands k c
    → end_after end (count_at counts k) c ≡ end_after end (added system commands k) c
same_end system commands counts k end (Check place) h within at = count_found system commands (followed commands) k counts h (check_within commands k (Check place) within at refl)
same_end system commands counts k end (Run place name run) h within at = refl
same_end system commands counts k end (PrintResults place) h within at = refl
same_end system commands counts k end (PrintCounterexamples place f paths) h within at = refl

more_added : (system : System) (commands : List Command) (k : ℕ) (c : Command) → k < length commands → c ≡ get_or commands k c → added system commands k + length (command_lines system k c) ≡ added system commands (k + 1)
more_added system commands k c within at =
    sym (ap length (lines_more system commands k c within at) ∙ length-append (lines_in system 0 (take k commands)) (command_lines system k c))

pub walked_begin : (system : System) (lines : List LineResult) (commands : List Command) (prints : List Print) → commands ≡ commands_of system → prints ≡ [] → IsWalked system lines commands 0 0 0 prints
walked_begin system lines commands prints are none =
    ap (λ ps. ps ++ prints_from system lines 0 0 0 (added system commands 0) commands) none
    ∙ ap (λ m. prints_from system lines 0 0 0 m commands) (ap length (lines_none system 0))
    ∙ ap (λ cs. prints_from system lines 0 0 0 0 cs) are

pub walked_more : (system : System) (lines : List LineResult) (commands : List Command) (counts : List ℕ) (k first end next last : ℕ) (prints more : List Print) (c : Command) → AreCounts system commands (followed commands) counts
    → k < length commands → c ≡ get_or commands k c → more ≡ prints ++ printed system lines first end c → next ≡ first_after first end c → last ≡ end_after end (count_at counts k) c
    → IsWalked system lines commands k first end prints → IsWalked system lines commands (k + 1) next last more
walked_more system lines commands counts k first end next last prints more c h within at is begins ends before =
    let here = printed system lines first end c in
    let rest = drop (k + 1) commands in
    let behind = prints_from system lines (k + 1) (first_after first end c) (end_after end (added system commands k) c) (added system commands (k + 1)) rest in
    (λ i. is i ++ prints_from system lines (k + 1) (begins i) ((ends ∙ same_end system commands counts k end c h within at) i) (added system commands (k + 1)) rest)
    ∙ append_assoc prints here behind
    ∙ ap (λ m. prints ++ (here ++ prints_from system lines (k + 1) (first_after first end c) (end_after end (added system commands k) c) m rest)) (sym (more_added system commands k c within at))
    ∙ ap (λ ps. prints ++ ps) (sym (one_by_one system lines k first end (added system commands k) c rest))
    ∙ ap (λ cs. prints ++ prints_from system lines k first end (added system commands k) cs) (sym (drop_turn commands k c within at))
    ∙ before

pub walked_end : (system : System) (lines : List LineResult) (commands : List Command) (k first end : ℕ) (prints : List Print) → length commands ≤ k → IsWalked system lines commands k first end prints → prints ≡ prints_of system lines
unfolding prints_from
walked_end system lines commands k first end prints past h =
    sym (append-nil prints) ∙ ap (λ cs. prints ++ prints_from system lines k first end (added system commands k) cs) (sym (drop_all k commands past)) ∙ h
