-- Judged lines over cells are right lines of the report.
use Rattle.std.proofs.Common.{◌≡◌, ℕ, zero, suc, ◌+◌, ◌*◌, ◌≤◌, List, [], ◌∷◌, ◌++◌, map, length, Bool, true, false, refl, sym, ap, ◌∙◌, subst, Option, Some, None, arith}
use Rattle.std.specs.Prelude.{◌^◌, cond, count_by, slice_get, nat_eq, nat_le}
use Rattle.std.specs.List.{All}
use Rattle.std.proofs.lemmas.Bool.Decides.{nat_tests}
use Rattle.std.proofs.lemmas.List.{length-map}
use Rattle.std.proofs.lemmas.List.Sums.{sum_by-append}
use Rattle.std.proofs.lemmas.List.Elements.{All-nil, All-cons, All-head, All-tail, All-append, All-map}
use Rattle.uc_syntax.specs.declared.place.Identifier.{Identifier}
use Rattle.uc_syntax.specs.declared.declaration.WrittenRun.{WrittenRun}
use Rattle.uc_syntax.specs.declared.declaration.WrittenRun.TheVariants.{Unroll, Induction, Verify}
use Rattle.uc_syntax.specs.declared.declaration.Module.{Module}
use Rattle.uc_values.proofs.Shapes.{and_true}
use Rattle.uc_meaning.specs.declared.line.At.TheVariants.{Exactly, Base, Step}
use Rattle.uc_meaning.specs.declared.line.Line.{Line}
use Rattle.uc_meaning.specs.Lookup.{System}
use Rattle.uc_meaning.specs.Lines.{lines_at, lines_from, all_judged, step_sites, induction_lines, lines_of}
use Rattle.uc_meaning.specs.Fragment.{most_steps}
use Rattle.uc_flat.specs.declared.flat.Flat.{Flat}
use Rattle.uc_flat.specs.declared.flat.Formula.{Formula}
use Rattle.uc_flat.specs.Drawn.{listed_if}
use Rattle.uc_flat_copies.specs.declared.trace.Start.TheVariants.{Initially, Anywhere}
use Rattle.uc_flat_design.specs.Design.{IsFlatOf}
use Rattle.uc_flat_lines.specs.declared.line.FlatLine.{FlatLine}
use Rattle.uc_flat_lines.specs.declared.line.FlatVerdict.{FlatVerdict}
use Rattle.uc_flat_lines.specs.declared.line.FlatVerdict.TheVariants.{Passed, Failed, Undef}
use Rattle.uc_flat_lines.specs.declared.line.FlatWhy.TheVariants.{Budget, Memory}
use Rattle.uc_flat_lines.specs.Lines.{speaks_of_one, singles_below, step_lines, lines_below, IsRightLine, is_out_of_budget as is_flat_out, AreFlatJudged}
use Rattle.uc_flat_laws.specs.FlatRefutationsLaws.{IsOfSteps, start_at, steps_at}
use Rattle.uc_flat_laws.specs.FlatVerdictsLaws.{design_line, IsRightOf}
use Rattle.uc_flat_laws.proofs.Judged.{order_holds, linked_hold, verdict_holds}
use Rattle.uc_report.specs.declared.report.LineResult.{LineResult}
use Rattle.uc_report.specs.Verdicts.{IsRightVerdict, is_out_of_budget, out_of_budget}
use Rattle.uc_runnable.specs.Commands.{most_linked, is_linked, is_judged}
use Rattle.uc_runnable.specs.Runnable.{RunsOver}
use Rattle.uc_judge.specs.declared.lines.Moment.{Moment}
use Rattle.uc_judge.specs.declared.lines.Moment.TheVariants.{Unrolled, Based, Linked}
use Rattle.uc_judge.specs.Lines.{verdict_as, linked_by, at_moment, start_of, line_as}
use Rattle.uc_judge.specs.Judged.{AreJudged}
use Rattle.uc_judge.proofs.Honest.{honest_are}
use Rattle.uc_judge.proofs.Joined.{both_judged}

from_map : {A B : Type 0} (P : B → Type 0) (g : A → B) (xs : List A) → All P (map g xs) → All (λ x. P (g x)) xs
from_map P g [] h = All-nil (λ x. P (g x))
from_map P g (x ∷ xs) h = All-cons (λ x. P (g x)) x xs (All-head P (g x) (map g xs) h) (from_map P g xs (All-tail P (g x) (map g xs) h))

weaker : {A : Type 0} (P Q : A → Type 0) (xs : List A) → ((x : A) → P x → Q x) → All P xs → All Q xs
weaker P Q [] f h = All-nil Q
weaker P Q (x ∷ xs) f h = All-cons Q x xs (f x (All-head P x xs h)) (weaker P Q xs f (All-tail P x xs h))

both : {A : Type 0} (P Q : A → Type 0) (xs : List A) → All P xs → All Q xs → All (λ x. P x × Q x) xs
both P Q [] h g = All-nil (λ x. P x × Q x)
both P Q (x ∷ xs) h g = All-cons (λ x. P x × Q x) x xs (All-head P x xs h, All-head Q x xs g) (both P Q xs (All-tail P x xs h) (All-tail Q x xs g))

-- ---- each line is one of a formula

-- a formula of one copy has the number
abbrev IsThere : Flat → ℕ → Type 0
IsThere f k = (x : Formula) × (slice_get f.formulas k ≡ Some x) × (x.copies ≡ 1)

spoken : (o : Option Formula) → speaks_of_one o ≡ true → (x : Formula) × (o ≡ Some x) × (x.copies ≡ 1)
spoken None h = absurd cc
spoken (Some x) h = (x, refl, is_one x.copies h)
  where
    is_one : (n : ℕ) → nat_eq n 1 ≡ true → n ≡ 1
    is_one n e = grind (arith, nat_tests)

single_there : (f : Flat) (k : ℕ) (b : Bool) → speaks_of_one (slice_get f.formulas k) ≡ b → All (IsThere f) (listed_if b k)
single_there f k true h = All-cons (IsThere f) k [] (spoken (slice_get f.formulas k) h) (All-nil (IsThere f))
single_there f k false h = All-nil (IsThere f)

singles_there : (f : Flat) (n : ℕ) → All (IsThere f) (singles_below f n)
unfolding singles_below
singles_there f zero = All-nil (IsThere f)
singles_there f (suc k) = All-append (IsThere f) (singles_below f k) (listed_if (speaks_of_one (slice_get f.formulas k)) k) (singles_there f k) (single_there f k (speaks_of_one (slice_get f.formulas k)) refl)

abbrev IsOne : Flat → ℕ × ℕ → Type 0
IsOne f p = IsThere f p.1

step_there : (f : Flat) (steps : ℕ) (ks : List ℕ) → All (IsThere f) ks → All (IsOne f) (map (λ k. (steps, k)) ks)
step_there f steps [] h = All-nil (IsOne f)
step_there f steps (k ∷ ks) h = All-cons (IsOne f) (steps, k) (map (λ j. (steps, j)) ks) (All-head (IsThere f) k ks h) (step_there f steps ks (All-tail (IsThere f) k ks h))

lines_there : (f : Flat) (n : ℕ) → All (IsOne f) (lines_below f n)
unfolding lines_below
lines_there f zero = All-nil (IsOne f)
lines_there f (suc n) = All-append (IsOne f) (lines_below f n) (step_lines f n) (lines_there f n) (step_there f n (singles_below f (length f.formulas)) (singles_there f (length f.formulas)))

-- ---- the moments of runs and of linked states

of_steps : (moment : Moment) (n : ℕ) → IsOfSteps (at_moment moment n)
of_steps Unrolled n = tt
of_steps Based n = tt
of_steps Linked n = tt

steps_are : (moment : Moment) (n : ℕ) → steps_at (at_moment moment n) ≡ n
steps_are Unrolled n = refl
steps_are Based n = refl
steps_are Linked n = refl

start_is : (moment : Moment) (n : ℕ) → start_of moment ≡ start_at (at_moment moment n)
start_is Unrolled n = refl
start_is Based n = refl
start_is Linked n = refl

-- ---- the lines of the report

same_lines : (f : Flat) (command : ℕ) (moment : Moment) (budget : ℕ) (ls : List FlatLine) → map (λ l. l.line) (map (line_as f command moment budget) ls) ≡ map (design_line f command (at_moment moment)) (map (λ l. (l.steps, l.formula)) ls)
same_lines f command moment budget [] = refl
same_lines f command moment budget (l ∷ ls) = ap (λ xs. design_line f command (at_moment moment) (l.steps, l.formula) ∷ xs) (same_lines f command moment budget ls)

abbrev OwnCommand : LineResult → Type 0
OwnCommand l = l.command ≡ l.line.command

commands_are : (f : Flat) (command : ℕ) (moment : Moment) (budget : ℕ) (ls : List FlatLine) → All OwnCommand (map (line_as f command moment budget) ls)
commands_are f command moment budget [] = All-nil OwnCommand
commands_are f command moment budget (l ∷ ls) = All-cons OwnCommand (line_as f command moment budget l) (map (line_as f command moment budget) ls) refl (commands_are f command moment budget ls)

abbrev RightLine : System → LineResult → Type 0
RightLine system l = IsRightVerdict system l.line l.verdict

right_as : (system : System) (budget : ℕ) (line : Line) (v : FlatVerdict) → IsRightOf system line v → IsRightVerdict system line (verdict_as budget v)
right_as system budget line Passed h = h
right_as system budget line (Failed t) h = h
right_as system budget line (Undef why) h = tt

verdicts_are : (system : System) (code : Module) (f : Flat) (command : ℕ) (moment : Moment) (budget before after : ℕ) (lines : List (ℕ × ℕ)) (ls : List FlatLine) → IsFlatOf system code f → All (IsOne f) lines
    → AreFlatJudged f (start_of moment) budget before after lines ls → All (RightLine system) (map (line_as f command moment budget) ls)
verdicts_are system code f command moment budget before after lines ls d ones j =
    All-map (RightLine system) (line_as f command moment budget) ls
    (weaker (λ l. IsThere f l.formula × IsRightLine f (start_of moment) l) (λ l. RightLine system (line_as f command moment budget l)) ls
    (λ l h.
    right_as system budget (design_line f command (at_moment moment) (l.steps, l.formula)) l.verdict
    (verdict_holds system code f command (at_moment moment) l h.0.0 d h.0.1 h.0.2 (of_steps moment l.steps) (steps_are moment l.steps) (subst (λ s. IsRightLine f s l) (start_is moment l.steps) h.1)))
    (both (λ l. IsThere f l.formula) (IsRightLine f (start_of moment)) ls there j.right))
  where
    there : All (λ (l : FlatLine). IsThere f l.formula) ls
    there = from_map (IsOne f) (λ (l : FlatLine). (l.steps, l.formula)) ls (subst (All (IsOne f)) (sym j.are) ones)

out_as : (budget : ℕ) (v : FlatVerdict) → is_out_of_budget (verdict_as budget v) ≡ is_flat_out v
out_as budget Passed = refl
out_as budget (Failed t) = refl
out_as budget (Undef Budget) = refl
out_as budget (Undef Memory) = refl

count_cons : {A : Type 0} (p : A → Bool) (x : A) (xs : List A) → count_by p (x ∷ xs) ≡ 0 + cond (p x) 1 0 + count_by p xs
count_cons p x xs = sum_by-append (λ y. cond (p y) 1 0) (x ∷ []) xs

out_are : (f : Flat) (command : ℕ) (moment : Moment) (budget : ℕ) (ls : List FlatLine) → out_of_budget (map (line_as f command moment budget) ls) ≡ count_by (λ l. is_flat_out l.verdict) ls
out_are f command moment budget [] = refl
out_are f command moment budget (l ∷ ls) =
    count_cons (λ (x : LineResult). is_out_of_budget x.verdict) (line_as f command moment budget l) (map (line_as f command moment budget) ls)
    ∙ (λ i. 0 + cond (out_as budget l.verdict i) 1 0 + out_are f command moment budget ls i)
    ∙ sym (count_cons (λ (x : FlatLine). is_flat_out x.verdict) l ls)

-- judged lines over cells are judged lines of the design
told_judged : (system : System) (f : Flat) (command : ℕ) (moment : Moment) (budget before after : ℕ) (lines : List (ℕ × ℕ)) (asked : List Line) (js : List FlatLine) (ls : List LineResult) → RunsOver system f → All (IsOne f) lines
    → map (design_line f command (at_moment moment)) lines ≡ asked → AreFlatJudged f (start_of moment) budget before after lines js → ls ≡ map (line_as f command moment budget) js → AreJudged system budget before after asked ls
told_judged system f command moment budget before after lines asked js ls r ones same j is = subst (AreJudged system budget before after asked) (sym is) (record {
  are = same_lines f command moment budget js ∙ ap (map (design_line f command (at_moment moment))) j.are ∙ same;
  commands = commands_are f command moment budget js;
  verdicts = verdicts_are system r.code f command moment budget before after lines js r.is_flat ones j;
  honest = honest_are system r.code f command moment budget before after lines js r.is_flat j;
  spent = subst (λ k. before + budget * k ≤ after) (sym (out_are f command moment budget js)) j.spent;
  few = subst (λ k. after ≤ before + 2 ^ 32 * k) (sym (length-map js (line_as f command moment budget))) j.few;
  within = subst (λ k. after ≤ before + budget * k) (sym (length-map js (line_as f command moment budget))) j.within;
})

-- the lines of runs
pub runs_judged : (system : System) (f : Flat) (command : ℕ) (moment : Moment) (budget before after depth : ℕ) (js : List FlatLine) (ls : List LineResult) → RunsOver system f → start_of moment ≡ Initially
    → AreFlatJudged f Initially budget before after (lines_below f (depth + 1)) js → ls ≡ map (line_as f command moment budget) js → AreJudged system budget before after (lines_from system command (at_moment moment) 0 (depth + 1)) ls
runs_judged system f command moment budget before after depth js ls r begins j is =
    told_judged system f command moment budget before after (lines_below f (depth + 1)) (lines_from system command (at_moment moment) 0 (depth + 1)) js ls r (lines_there f (depth + 1))
    (sym (order_holds system r.code f command (at_moment moment) (depth + 1) r.is_flat)) (subst (λ s. AreFlatJudged f s budget before after (lines_below f (depth + 1)) js) (sym begins) j) is

-- the lines of linked states
pub links_judged : (system : System) (f : Flat) (command budget before after depth : ℕ) (js : List FlatLine) (ls : List LineResult) → RunsOver system f → AreFlatJudged f Anywhere budget before after (step_lines f depth) js
    → ls ≡ map (line_as f command Linked budget) js → AreJudged system budget before after (lines_at command (Step depth) (all_judged system (step_sites system))) ls
links_judged system f command budget before after depth js ls r j is =
    told_judged system f command Linked budget before after (step_lines f depth) (lines_at command (Step depth) (all_judged system (step_sites system))) js ls r
    (step_there f depth (singles_below f (length f.formulas)) (singles_there f (length f.formulas))) (sym (linked_hold system r.code f command depth r.is_flat)) j is

-- the lines of an induction
pub induction_judged : (system : System) (command budget a b c depth before : ℕ) (ls ms all : List LineResult) → before + 1 ≡ depth → AreJudged system budget a b (lines_from system command Base 0 (before + 1)) ls
    → AreJudged system budget b c (lines_at command (Step depth) (all_judged system (step_sites system))) ms → all ≡ ls ++ ms → AreJudged system budget a c (induction_lines system command depth) all
induction_judged system command budget a b c depth before ls ms all e h g is =
    both_judged system budget a b c (lines_from system command Base 0 depth) (lines_at command (Step depth) (all_judged system (step_sites system))) ls ms all (subst (λ n. AreJudged system budget a b (lines_from system command Base 0 n) ls) e h) g is

-- ---- the lines of a run

pub unroll_told : (system : System) (number budget a b n k : ℕ) (run : WrittenRun) (ls : List LineResult) → run ≡ Unroll n → k ≡ n → AreJudged system budget a b (lines_from system number Exactly 0 (k + 1)) ls → AreJudged system budget a b (lines_of system number run) ls
unroll_told system number budget a b n k run ls is e h =
    subst (λ r. AreJudged system budget a b (lines_of system number r) ls) (sym is) (subst (λ m. AreJudged system budget a b (lines_from system number Exactly 0 (m + 1)) ls) e h)

linked_lines_are : (system : System) (number : ℕ) (depth : Option ℕ) → induction_lines system number (linked_by depth) ≡ lines_of system number (Induction depth)
linked_lines_are system number None = refl
linked_lines_are system number (Some k) = refl

pub induction_told : (system : System) (number budget a b k : ℕ) (depth : Option ℕ) (run : WrittenRun) (ls : List LineResult) → run ≡ Induction depth → k ≡ linked_by depth → AreJudged system budget a b (induction_lines system number k) ls
    → AreJudged system budget a b (lines_of system number run) ls
induction_told system number budget a b k depth run ls is e h =
    subst (λ r. AreJudged system budget a b (lines_of system number r) ls) (sym is)
    (subst (λ xs. AreJudged system budget a b xs ls) (linked_lines_are system number depth) (subst (λ m. AreJudged system budget a b (induction_lines system number m) ls) e h))

-- a run that is judged is no verification, and its numbers are small
pub not_verified : (run : WrittenRun) (p : Identifier) → run ≡ Verify p → is_judged run ≡ true → ⊥
not_verified run p is h = let e : false ≡ true = ap is_judged (sym is) ∙ h in cc

pub few_steps : (run : WrittenRun) (n : ℕ) → run ≡ Unroll n → is_judged run ≡ true → n ≤ most_steps
few_steps run n is h = let e : nat_le n most_steps ≡ true = ap is_judged (sym is) ∙ h in grind (arith, nat_tests)

pub is_linked_run : (run : WrittenRun) (depth : Option ℕ) → run ≡ Induction depth → is_judged run ≡ true → is_linked depth ≡ true
is_linked_run run depth is h = ap is_judged (sym is) ∙ h

pub linked_low : (k : ℕ) → is_linked (Some k) ≡ true → 1 ≤ k
linked_low k h = let e : nat_le 1 k ≡ true = (and_true h).0 in grind (arith, nat_tests)

pub linked_high : (k : ℕ) → is_linked (Some k) ≡ true → k ≤ most_linked
linked_high k h = let e : nat_le k most_linked ≡ true = (and_true h).1 in grind (arith, nat_tests)
