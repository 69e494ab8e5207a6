-- Judged lines, one after another.
use Rattle.std.proofs.Common.{◌≡◌, ℕ, ◌+◌, ◌*◌, ◌<◌, ◌≤◌, List, [], ◌++◌, map, length, take, get_or, refl, sym, ap, subst, ◌∙◌, arith, length-append}
use Rattle.std.specs.Prelude.{cond, count_by}
use Rattle.std.specs.List.{All}
use Rattle.std.proofs.Math.Nat.{mul-add}
use Rattle.std.proofs.lemmas.List.{map-append, length-map}
use Rattle.std.proofs.lemmas.List.Sums.{sum_by-append}
use Rattle.std.proofs.lemmas.List.Elements.{All-nil, All-append}
use Rattle.uc_syntax.specs.declared.declaration.Command.{Command}
use Rattle.uc_meaning.specs.declared.line.Line.{Line}
use Rattle.uc_meaning.specs.Lookup.{System}
use Rattle.uc_meaning.specs.Lines.{command_lines}
use Rattle.uc_report.specs.declared.report.LineResult.{LineResult}
use Rattle.uc_report.specs.Verdicts.{IsRightVerdict, is_out_of_budget, out_of_budget}
use Rattle.uc_judge.specs.Reports.{IsHonestLine}
use Rattle.uc_judge.specs.Judged.{lines_in, AreJudged}
use Rattle.uc_judge.proofs.Listed.{lines_none, lines_more}

abbrev OwnCommand : LineResult → Type 0
OwnCommand l = l.command ≡ l.line.command

abbrev RightLine : System → LineResult → Type 0
RightLine system l = IsRightVerdict system l.line l.verdict

pub none_judged : (system : System) (budget at : ℕ) (ls : List LineResult) → ls ≡ [] → AreJudged system budget at at [] ls
none_judged system budget at ls is = subst (AreJudged system budget at at []) (sym is) (record {
  are = refl;
  commands = All-nil OwnCommand;
  verdicts = All-nil (RightLine system);
  honest = λ code f d. All-nil (IsHonestLine f budget);
  spent = omega arith;
  few = omega arith;
  within = omega arith;
})

pub both_judged : (system : System) (budget a b c : ℕ) (xs ys : List Line) (ls ms all : List LineResult) → AreJudged system budget a b xs ls → AreJudged system budget b c ys ms → all ≡ ls ++ ms
    → AreJudged system budget a c (xs ++ ys) all
both_judged system budget a b c xs ys ls ms all h g is = subst (AreJudged system budget a c (xs ++ ys)) (sym is) (record {
  are = map-append (λ (l : LineResult). l.line) ls ms ∙ ap (λ zs. zs ++ map (λ (l : LineResult). l.line) ms) h.are ∙ ap (λ zs. xs ++ zs) g.are;
  commands = All-append OwnCommand ls ms h.commands g.commands;
  verdicts = All-append (RightLine system) ls ms h.verdicts g.verdicts;
  honest = λ code f d. All-append (IsHonestLine f budget) ls ms (h.honest code f d) (g.honest code f d);
  spent =
      let e : out_of_budget (ls ++ ms) ≡ out_of_budget ls + out_of_budget ms = sum_by-append (λ (l : LineResult). cond (is_out_of_budget l.verdict) 1 0) ls ms in
      let d : budget * out_of_budget (ls ++ ms) ≡ budget * out_of_budget ls + budget * out_of_budget ms = ap (λ n. budget * n) e ∙ mul-add budget (out_of_budget ls) (out_of_budget ms) in
      omega (arith, d, h.spent, g.spent);
  few = omega (arith, h.few, g.few, length-append ls ms);
  within =
      let d : budget * length (ls ++ ms) ≡ budget * length ls + budget * length ms = ap (λ n. budget * n) (length-append ls ms) ∙ mul-add budget (length ls) (length ms) in
      omega (arith, d, h.within, g.within);
})

-- the same lines under another name
pub judged_as : (system : System) (budget a b : ℕ) (xs ys : List Line) (ls : List LineResult) → xs ≡ ys → AreJudged system budget a b xs ls → AreJudged system budget a b ys ls
judged_as system budget a b xs ys ls is h = subst (λ zs. AreJudged system budget a b zs ls) is h

-- ---- command by command

pub commands_begin : (system : System) (budget at : ℕ) (commands : List Command) (ls : List LineResult) → ls ≡ [] → AreJudged system budget at at (lines_in system 0 (take 0 commands)) ls
commands_begin system budget at commands ls is = judged_as system budget at at [] (lines_in system 0 (take 0 commands)) ls (sym (lines_none system 0)) (none_judged system budget at ls is)

pub commands_more : (system : System) (budget a b c : ℕ) (commands : List Command) (k own : ℕ) (command : Command) (ls ms all : List LineResult) → AreJudged system budget a b (lines_in system 0 (take k commands)) ls
    → AreJudged system budget b c (command_lines system own command) ms → all ≡ ls ++ ms → own ≡ k → k < length commands → command ≡ get_or commands k command
    → AreJudged system budget a c (lines_in system 0 (take (k + 1) commands)) all
commands_more system budget a b c commands k own command ls ms all h g is number within at =
    judged_as system budget a c (lines_in system 0 (take k commands) ++ command_lines system k command) (lines_in system 0 (take (k + 1) commands)) all (sym (lines_more system commands k command within at))
    (both_judged system budget a b c (lines_in system 0 (take k commands)) (command_lines system k command) ls ms all h
    (judged_as system budget b c (command_lines system own command) (command_lines system k command) ms (ap (λ n. command_lines system n command) number) g) is)

-- how many lines are judged
pub counted : (system : System) (budget a b n : ℕ) (lines : List Line) (ls : List LineResult) → AreJudged system budget a b lines ls → n ≡ length ls → n ≡ length lines
counted system budget a b n lines ls h long = long ∙ sym (length-map ls (λ (l : LineResult). l.line)) ∙ ap length h.are

-- all commands that are asked for
pub commands_end : (system : System) (budget a b : ℕ) (commands : List Command) (k count : ℕ) (ls : List LineResult) → k ≡ count → AreJudged system budget a b (lines_in system 0 (take k commands)) ls → AreJudged system budget a b (lines_in system 0 (take count commands)) ls
commands_end system budget a b commands k count ls is h = subst (λ n. AreJudged system budget a b (lines_in system 0 (take n commands)) ls) is h
