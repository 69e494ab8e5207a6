-- Judged lines, one after another.
use Rattle.std.proofs.Common.{◌≡◌, ℕ, ◌+◌, ◌*◌, ◌<◌, ◌≤◌, List, [], ◌∷◌, ◌++◌, map, length, Some, Bool, true, false, refl, ap, ◌∙◌, sym, subst, arith, length-append, add-one, suc, get_or, slice_get}
use Rattle.std.specs.Prelude.{◌^◌, cond, count_by, nat_eq}
use Rattle.std.proofs.lemmas.Bool.Decides.{nat_tests}
use Rattle.std.proofs.lemmas.List.{map-append}
use Rattle.std.proofs.lemmas.List.Sums.{sum_by-append}
use Rattle.std.proofs.lemmas.Option.{slice_get-get_or}
use Rattle.std.proofs.Math.Nat.{mul-add}
use Rattle.std.proofs.lemmas.List.Elements.{All-nil, All-append, All-cons}
use Rattle.uc_flat.specs.declared.flat.Flat.{Flat}
use Rattle.uc_flat.specs.declared.flat.Formula.{Formula}
use Rattle.uc_flat.specs.Drawn.{listed_if}
use Rattle.uc_flat_copies.specs.declared.trace.Start.{Start}
use Rattle.uc_ops.specs.declared.node.Node.{Node}
use Rattle.uc_obligations.specs.declared.unrolling.Unrolling.{Unrolling}
use Rattle.uc_obligations.specs.Unrolling.{IsUnrolled}
use Rattle.uc_flat_lines.specs.declared.line.FlatLine.{FlatLine}
use Rattle.uc_flat_lines.specs.declared.line.FlatVerdict.{FlatVerdict}
use Rattle.uc_flat_lines.specs.declared.line.FlatVerdict.TheVariants.{Passed, Failed, Undef}
use Rattle.uc_flat_lines.specs.declared.line.FlatWhy.TheVariants.{Memory, Budget}
use Rattle.uc_flat_lines.specs.Lines.{speaks_of_one, singles_below, lines_of, step_lines, lines_below, IsFlatVerdict, IsRightLine, is_out_of_budget, IsHonestVerdict, IsHonestLine, AreFlatJudged}
use Rattle.uc_flat_lines.specs.Deciding.{IsSpentOn}
use Rattle.uc_flat_lines.specs.Joint.{IsUnrefuted}

abbrev out : FlatLine → Bool
out l = is_out_of_budget l.verdict

abbrev named : FlatLine → ℕ × ℕ
named l = (l.steps, l.formula)

pub none_judged : (f : Flat) (start : Start) (budget at : ℕ) (ls : List FlatLine) → ls ≡ [] → AreFlatJudged f start budget at at [] ls
none_judged f start budget at ls is = subst (AreFlatJudged f start budget at at []) (sym is) (record {
  are = refl;
  right = All-nil (IsRightLine f start);
  spent = omega arith;
  few = omega arith;
  within = omega arith;
  honest = All-nil (IsHonestLine f start budget);
})

pub both_judged : (f : Flat) (start : Start) (budget a b c : ℕ) (xs ys : List (ℕ × ℕ)) (ls ms all : List FlatLine) → AreFlatJudged f start budget a b xs ls → AreFlatJudged f start budget b c ys ms → all ≡ ls ++ ms → AreFlatJudged f start budget a c (xs ++ ys) all
both_judged f start budget a b c xs ys ls ms all h g is = subst (AreFlatJudged f start budget a c (xs ++ ys)) (sym is) (record {
  are = map-append named ls ms ∙ ap (λ zs. zs ++ map named ms) h.are ∙ ap (λ zs. xs ++ zs) g.are;
  right = All-append (IsRightLine f start) ls ms h.right g.right;
  spent =
      let e : count_by out (ls ++ ms) ≡ count_by out ls + count_by out ms = sum_by-append (λ x. cond (out x) 1 0) ls ms in
      let d : budget * count_by out (ls ++ ms) ≡ budget * count_by out ls + budget * count_by out ms = ap (λ n. budget * n) e ∙ mul-add budget (count_by out ls) (count_by out ms) in
      omega (arith, d, h.spent, g.spent);
  few = omega (arith, h.few, g.few, length-append ls ms);
  within =
      let d : budget * length (ls ++ ms) ≡ budget * length ls + budget * length ms = ap (λ n. budget * n) (length-append ls ms) ∙ mul-add budget (length ls) (length ms) in
      omega (arith, d, h.within, g.within);
  honest = All-append (IsHonestLine f start budget) ls ms h.honest g.honest;
})

pub judged_as : (f : Flat) (start : Start) (budget a b : ℕ) (xs ys : List (ℕ × ℕ)) (ls : List FlatLine) → xs ≡ ys → AreFlatJudged f start budget a b xs ls → AreFlatJudged f start budget a b ys ls
judged_as f start budget a b xs ys ls is h = subst (λ zs. AreFlatJudged f start budget a b zs ls) is h

spent_one : (budget before after : ℕ) (v : FlatVerdict) → IsSpentOn budget before after v → before + budget * (0 + cond (is_out_of_budget v) 1 0) ≤ after
spent_one budget before after Passed h = omega (arith, h)
spent_one budget before after (Failed t) h = omega (arith, h)
spent_one budget before after (Undef Budget) h = omega (arith, h)
spent_one budget before after (Undef Memory) h = omega (arith, h)

-- the formula at a place
pub one_of : (f : Flat) (k : ℕ) (x : Formula) (xs : List Formula) → xs ≡ f.formulas → k < length f.formulas → slice_get f.formulas k ≡ Some (get_or xs k x)
one_of f k x xs i l = ap (λ ys. slice_get ys k) (sym i) ∙ slice_get-get_or xs k x (subst (λ ys. k < length ys) (sym i) l)

pub single_is : (f : Flat) (k : ℕ) (x : Formula) → slice_get f.formulas k ≡ Some x → x.copies ≡ 1 → (y : Formula) → slice_get f.formulas k ≡ Some y → y.copies ≡ 1
single_is f k x at h y there = let e : Some x ≡ Some y = sym at ∙ there in let i : x ≡ y = cc in ap (λ (z : Formula). z.copies) (sym i) ∙ h

speaks : (f : Flat) (k : ℕ) (x : Formula) → slice_get f.formulas k ≡ Some x → x.copies ≡ 1 → speaks_of_one (slice_get f.formulas k) ≡ true
speaks f k x at h = ap speaks_of_one at ∙ ap (λ n. nat_eq n 1) h

speaks_not : (f : Flat) (k : ℕ) (x : Formula) → slice_get f.formulas k ≡ Some x → (x.copies ≡ 1 → ⊥) → speaks_of_one (slice_get f.formulas k) ≡ false
speaks_not f k x at h = ap speaks_of_one at ∙ by_test (nat_eq x.copies 1) refl
  where
    by_test : (b : Bool) → nat_eq x.copies 1 ≡ b → nat_eq x.copies 1 ≡ false
    by_test false e = e
    by_test true e = absurd (h (grind (arith, nat_tests, e)))

-- the line of a formula of one copy
pub one_judged : (f : Flat) (start : Start) (budget before after steps k : ℕ) (x : Formula) (v : FlatVerdict) (ls : List FlatLine) → slice_get f.formulas k ≡ Some x → x.copies ≡ 1
    → ((y : Formula) → slice_get f.formulas k ≡ Some y → IsFlatVerdict f start y steps v) → IsSpentOn budget before after v → after ≤ before + 2 ^ 32 → after ≤ before + budget → IsHonestVerdict f start budget steps v → ls ≡ record { steps = steps; formula = k; verdict = v } ∷ []
    → AreFlatJudged f start budget before after (map (λ j. (steps, j)) (listed_if (speaks_of_one (slice_get f.formulas k)) k)) ls
one_judged f start budget before after steps k x v ls at single right spent few within honest all =
    subst (AreFlatJudged f start budget before after (map (λ j. (steps, j)) (listed_if (speaks_of_one (slice_get f.formulas k)) k))) (sym all)
    (judged_as f start budget before after ((steps, k) ∷ []) (map (λ j. (steps, j)) (listed_if (speaks_of_one (slice_get f.formulas k)) k)) (record { steps = steps; formula = k; verdict = v } ∷ [])
    (sym (ap (λ b. map (λ j. (steps, j)) (listed_if b k)) (speaks f k x at single)))
    (record {
      are = refl;
      right = All-cons (IsRightLine f start) (record { steps = steps; formula = k; verdict = v }) [] right (All-nil (IsRightLine f start));
      spent = spent_one budget before after v spent;
      few = omega (arith, few);
      within = omega (arith, within);
      honest = All-cons (IsHonestLine f start budget) (record { steps = steps; formula = k; verdict = v }) [] honest (All-nil (IsHonestLine f start budget));
    }))

-- the line of one that no trace refutes
pub passed_judged : (f : Flat) (start : Start) (budget at steps k : ℕ) (x : Formula) (ls : List FlatLine) → slice_get f.formulas k ≡ Some x → x.copies ≡ 1 → IsUnrefuted f start steps k
    → ls ≡ record { steps = steps; formula = k; verdict = Passed } ∷ [] → AreFlatJudged f start budget at at (map (λ j. (steps, j)) (listed_if (speaks_of_one (slice_get f.formulas k)) k)) ls
passed_judged f start budget at steps k x ls there single unrefuted is =
    one_judged f start budget at at steps k x Passed ls there single (λ y h t r. unrefuted y h (single_is f k x there single y h) t r) (omega arith) (omega arith) (omega arith) tt is

-- no line
pub not_judged : (f : Flat) (start : Start) (budget at steps k : ℕ) (x : Formula) (ls : List FlatLine) → slice_get f.formulas k ≡ Some x → (x.copies ≡ 1 → ⊥) → ls ≡ []
    → AreFlatJudged f start budget at at (map (λ j. (steps, j)) (listed_if (speaks_of_one (slice_get f.formulas k)) k)) ls
not_judged f start budget at steps k x ls there single none =
    judged_as f start budget at at [] (map (λ j. (steps, j)) (listed_if (speaks_of_one (slice_get f.formulas k)) k)) ls (sym (ap (λ b. map (λ j. (steps, j)) (listed_if b k)) (speaks_not f k x there single))) (none_judged f start budget at ls none)

-- the lines of a step, formula by formula
pub step_none : (f : Flat) (steps : ℕ) → lines_of f steps 0 ≡ []
unfolding singles_below
step_none f steps = refl

pub step_begin : (f : Flat) (start : Start) (budget at steps : ℕ) (ls : List FlatLine) → ls ≡ [] → AreFlatJudged f start budget at at (lines_of f steps 0) ls
step_begin f start budget at steps ls is = judged_as f start budget at at [] (lines_of f steps 0) ls (sym (step_none f steps)) (none_judged f start budget at ls is)

step_lines_more : (f : Flat) (steps k : ℕ) → lines_of f steps (suc k) ≡ lines_of f steps k ++ map (λ j. (steps, j)) (listed_if (speaks_of_one (slice_get f.formulas k)) k)
unfolding singles_below
step_lines_more f steps k = map-append (λ j. (steps, j)) (singles_below f k) (listed_if (speaks_of_one (slice_get f.formulas k)) k)

pub step_more : (f : Flat) (start : Start) (budget a b c steps k : ℕ) (ls ms all : List FlatLine) → AreFlatJudged f start budget a b (lines_of f steps k) ls
    → AreFlatJudged f start budget b c (map (λ j. (steps, j)) (listed_if (speaks_of_one (slice_get f.formulas k)) k)) ms → all ≡ ls ++ ms → AreFlatJudged f start budget a c (lines_of f steps (k + 1)) all
step_more f start budget a b c steps k ls ms all h g is =
    judged_as f start budget a c (lines_of f steps k ++ map (λ j. (steps, j)) (listed_if (speaks_of_one (slice_get f.formulas k)) k)) (lines_of f steps (k + 1)) all
    (sym (step_lines_more f steps k) ∙ ap (lines_of f steps) (sym (add-one k)))
    (both_judged f start budget a b c (lines_of f steps k) (map (λ j. (steps, j)) (listed_if (speaks_of_one (slice_get f.formulas k)) k)) ls ms all h g is)

pub step_end : (f : Flat) (start : Start) (budget a b steps k : ℕ) (ls : List FlatLine) → AreFlatJudged f start budget a b (lines_of f steps k) ls → k ≤ length f.formulas → length f.formulas ≤ k → AreFlatJudged f start budget a b (step_lines f steps) ls
step_end f start budget a b steps k ls h low high = let e : k ≡ length f.formulas = omega (arith, low, high) in subst (λ n. AreFlatJudged f start budget a b (lines_of f steps n) ls) e h

-- the lines, step by step
pub lines_begin : (f : Flat) (start : Start) (budget at : ℕ) (ls : List FlatLine) → ls ≡ [] → AreFlatJudged f start budget at at (lines_below f 0) ls
unfolding lines_below
lines_begin f start budget at ls is = none_judged f start budget at ls is

below_more : (f : Flat) (n : ℕ) → lines_below f (suc n) ≡ lines_below f n ++ step_lines f n
unfolding lines_below
below_more f n = refl

pub lines_more : (f : Flat) (start : Start) (budget a b c n : ℕ) (ls ms all : List FlatLine) → AreFlatJudged f start budget a b (lines_below f n) ls → AreFlatJudged f start budget b c (step_lines f n) ms → all ≡ ls ++ ms
    → AreFlatJudged f start budget a c (lines_below f (n + 1)) all
lines_more f start budget a b c n ls ms all h g is =
    judged_as f start budget a c (lines_below f n ++ step_lines f n) (lines_below f (n + 1)) all (sym (below_more f n) ∙ ap (lines_below f) (sym (add-one n)))
    (both_judged f start budget a b c (lines_below f n) (step_lines f n) ls ms all h g is)

pub lines_last : (f : Flat) (start : Start) (budget a b c depth n : ℕ) (ls ms all : List FlatLine) → AreFlatJudged f start budget a b (lines_below f n) ls → n ≤ depth → depth ≤ n → AreFlatJudged f start budget b c (step_lines f depth) ms → all ≡ ls ++ ms
    → AreFlatJudged f start budget a c (lines_below f (depth + 1)) all
lines_last f start budget a b c depth n ls ms all h low high g is =
    let e : n ≡ depth = omega (arith, low, high) in
    lines_more f start budget a b c depth ls ms all (subst (λ k. AreFlatJudged f start budget a b (lines_below f k) ls) e h) g is

-- the lines of a run that began so
pub begun_as : (f : Flat) (own start : Start) (budget a b : ℕ) (lines : List (ℕ × ℕ)) (ls : List FlatLine) → own ≡ start → AreFlatJudged f own budget a b lines ls → AreFlatJudged f start budget a b lines ls
begun_as f own start budget a b lines ls is h = subst (λ s. AreFlatJudged f s budget a b lines ls) is h

-- so many steps, however many they are
pub unrolled_to : (f : Flat) (nodes : List Node) (n depth : ℕ) (u : Unrolling) → n ≡ depth → IsUnrolled f nodes n u → IsUnrolled f nodes depth u
unrolled_to f nodes n depth u e h = subst (λ k. IsUnrolled f nodes k u) e h
