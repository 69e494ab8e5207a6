-- Lines that are judged over cells are lines of the design.
use Rattle.std.proofs.Common.{◌≡◌, ℕ, zero, suc, ◌+◌, ◌<◌, ◌≤◌, Bool, true, false, cond, List, [], ◌∷◌, ◌++◌, map, length, take, refl, sym, ap, ◌∙◌, subst, Some, arith, append-nil, append_assoc}
use Rattle.std.specs.Prelude.{nat_eq, slice_get, Contains}
use Rattle.std.specs.List.{filter}
use Rattle.std.proofs.lemmas.List.{map-append}
use Rattle.std.proofs.lemmas.Option.{slice_get_within, get_or_from_slice_get}
use Rattle.uc_meaning.specs.declared.line.At.{At}
use Rattle.uc_meaning.specs.declared.line.At.TheVariants.{Step}
use Rattle.uc_meaning.specs.declared.line.What.TheVariants.{Formula as OfFormula}
use Rattle.uc_meaning.specs.declared.line.Line.{Line}
use Rattle.uc_meaning.specs.Lookup.{System}
use Rattle.uc_meaning.specs.Lines.{lines_at, lines_from, all_judged, sites_after, step_sites, Refutes}
use Rattle.uc_flat.specs.declared.flat.Flat.{Flat}
use Rattle.uc_flat.specs.declared.flat.Formula.{Formula}
use Rattle.uc_flat.specs.Drawn.{listed_if}
use Rattle.uc_flat_copies.specs.Traces.{RefutesCopies}
use Rattle.uc_flat_copies.specs.Lines.{line_over}
use Rattle.uc_flat_lines.specs.declared.line.FlatVerdict.{FlatVerdict}
use Rattle.uc_flat_lines.specs.declared.line.FlatVerdict.TheVariants.{Passed, Failed, Undef}
use Rattle.uc_flat_lines.specs.Lines.{speaks_of_one, singles_below, step_lines, lines_below, IsFlatVerdict}
use Rattle.uc_flat_laws.specs.FlatRefutationsLaws.{singles_of, start_at, line_of, trace_of}
use Rattle.uc_flat_laws.proofs.Judging.{lines_hold}
use Rattle.uc_flat_laws.proofs.Traces.{found_holds, refuted_holds}
use Rattle.uc_flat_laws.specs.FlatVerdictsLaws.{decl_of, design_line, OrderLaw, LinkedLaw, IsRightOf, VerdictLaw}

-- ---- the formulas of one copy

abbrev singles : List Formula → List Formula
singles fs = filter (λ x. nat_eq x.copies 1) fs

singles_append : (xs ys : List Formula) → singles (xs ++ ys) ≡ singles xs ++ singles ys
singles_append [] ys = refl
singles_append (x ∷ xs) ys = by_test (nat_eq x.copies 1) (singles_append xs ys)
  where
    by_test : (b : Bool) → singles (xs ++ ys) ≡ singles xs ++ singles ys → cond b (x ∷ singles (xs ++ ys)) (singles (xs ++ ys)) ≡ cond b (x ∷ singles xs) (singles xs) ++ singles ys
    by_test true h = ap (λ zs. x ∷ zs) h
    by_test false h = h

-- the formula of a number, which there is
formula_at : (fs : List Formula) (k : ℕ) → k < length fs → (x : Formula) × (slice_get fs k ≡ Some x) × (take (suc k) fs ≡ take k fs ++ x ∷ [])
formula_at [] k l = absurd (omega (arith, l))
formula_at (x ∷ fs) zero l = (x, refl, refl)
formula_at (x ∷ fs) (suc k) l = let a = formula_at fs k (omega (arith, l)) in (a.0, a.1, ap (λ ys. x ∷ ys) a.2)

take_whole : (fs : List Formula) → take (length fs) fs ≡ fs
take_whole [] = refl
take_whole (x ∷ fs) = ap (λ ys. x ∷ ys) (take_whole fs)

-- ---- the lines after so many steps

module _ (f : Flat) (command : ℕ) (moment : ℕ → At) where
  abbrev formula_line : ℕ → Formula → Line
  formula_line steps x = record { command = command; at = moment steps; what = OfFormula [] x.decl; arity = 1 }

  abbrev numbered : ℕ → List ℕ → List Line
  numbered steps ks = map (design_line f command moment) (map (λ k. (steps, k)) ks)

  numbered_append : (steps : ℕ) (ks js : List ℕ) → numbered steps (ks ++ js) ≡ numbered steps ks ++ numbered steps js
  numbered_append steps ks js =
      ap (map (design_line f command moment)) (map-append (λ (k : ℕ). (steps, k)) ks js) ∙ map-append (design_line f command moment) (map (λ k. (steps, k)) ks) (map (λ k. (steps, k)) js)

  one_more : (steps n : ℕ) (x : Formula) → design_line f command moment (steps, n) ≡ formula_line steps x → (b : Bool) → numbered steps (listed_if b n) ≡ map (formula_line steps) (cond b (x ∷ []) [])
  one_more steps n x own true = ap (λ l. l ∷ []) own
  one_more steps n x own false = refl

  own_line : (steps k : ℕ) (x : Formula) → slice_get f.formulas k ≡ Some x → design_line f command moment (steps, k) ≡ formula_line steps x
  own_line steps k x at = ap (λ o. record { command = command; at = moment steps; what = OfFormula [] (decl_of o); arity = 1 }) at

  first_lines : (steps n : ℕ) → n ≤ length f.formulas → numbered steps (singles_below f n) ≡ map (formula_line steps) (singles (take n f.formulas))
  unfolding singles_below
  first_lines steps zero h = refl
  first_lines steps (suc n) h =
      let a = formula_at f.formulas n (omega (arith, h)) in
      let own = own_line steps n a.0 a.1 in
      ap (λ o. numbered steps (singles_below f n ++ listed_if (speaks_of_one o) n)) a.1
      ∙ numbered_append steps (singles_below f n) (listed_if (nat_eq (a.0).copies 1) n)
      ∙ ap (λ ls. ls ++ numbered steps (listed_if (nat_eq (a.0).copies 1) n)) (first_lines steps n (omega (arith, h)))
      ∙ ap (λ ls. map (formula_line steps) (singles (take n f.formulas)) ++ ls) (one_more steps n a.0 own (nat_eq (a.0).copies 1))
      ∙ sym (map-append (formula_line steps) (singles (take n f.formulas)) (singles (a.0 ∷ [])))
      ∙ ap (map (formula_line steps)) (sym (singles_append (take n f.formulas) (a.0 ∷ [])) ∙ ap singles (sym a.2))

  after_steps : (steps : ℕ) → map (design_line f command moment) (step_lines f steps) ≡ map (formula_line steps) (singles_of f)
  after_steps steps = first_lines steps (length f.formulas) (omega arith) ∙ ap (λ fs. map (formula_line steps) (singles fs)) (take_whole f.formulas)

  judged_lines : (steps : ℕ) (fs : List Formula) → lines_at command (moment steps) (map (λ (x : Formula). (OfFormula [] x.decl, 1)) fs) ≡ map (formula_line steps) fs
  judged_lines steps [] = refl
  judged_lines steps (x ∷ fs) = ap (λ ls. formula_line steps x ∷ ls) (judged_lines steps fs)

  -- what is judged after so many steps
  lines_there : (steps : ℕ) → lines_at command (moment steps) (map (λ (x : Formula). (OfFormula [] x.decl, 1)) (singles_of f)) ≡ map (design_line f command moment) (step_lines f steps)
  lines_there steps = judged_lines steps (singles_of f) ∙ sym (after_steps steps)

  -- one moment more at the end
  lines_more : (system : System) (j n : ℕ) → lines_from system command moment j (suc n) ≡ lines_from system command moment j n ++ lines_at command (moment (j + n)) (all_judged system (sites_after system (j + n)))
  unfolding lines_from
  lines_more system j zero =
      append-nil (lines_at command (moment j) (all_judged system (sites_after system j))) ∙ ap (λ k. lines_at command (moment k) (all_judged system (sites_after system k))) (omega arith)
  lines_more system j (suc n) =
      let here = lines_at command (moment j) (all_judged system (sites_after system j)) in
      ap (λ ls. here ++ ls) (lines_more system (j + 1) n)
      ∙ sym (append_assoc here (lines_from system command moment (j + 1) n) (lines_at command (moment (j + 1 + n)) (all_judged system (sites_after system (j + 1 + n)))))
      ∙ ap (λ k. (here ++ lines_from system command moment (j + 1) n) ++ lines_at command (moment k) (all_judged system (sites_after system k))) (omega arith)

  none_from : (system : System) → lines_from system command moment 0 zero ≡ []
  unfolding lines_from
  none_from system = refl

pub order_holds : OrderLaw
unfolding lines_below
order_holds system code f command moment zero d = none_from f command moment system
order_holds system code f command moment (suc n) d =
    lines_more f command moment system 0 n
    ∙ ap (λ k. lines_from system command moment 0 n ++ lines_at command (moment k) (all_judged system (sites_after system k))) (omega arith)
    ∙ ap (λ ls. ls ++ lines_at command (moment n) (all_judged system (sites_after system n))) (order_holds system code f command moment n d)
    ∙ ap (λ js. map (design_line f command moment) (lines_below f n) ++ lines_at command (moment n) js) (lines_hold system code f n d)
    ∙ ap (λ ls. map (design_line f command moment) (lines_below f n) ++ ls) (lines_there f command moment n)
    ∙ sym (map-append (design_line f command moment) (lines_below f n) (step_lines f n))

pub linked_hold : LinkedLaw
linked_hold system code f command k d = ap (lines_at command (Step k)) (lines_hold system code f 1 d) ∙ lines_there f command Step k

-- ---- verdicts

pub verdict_holds : VerdictLaw
verdict_holds system code f command moment l x d there one of even right = by_verdict l.verdict (right x there)
  where
    at : At
    at = moment l.steps

    same : design_line f command moment (l.steps, l.formula) ≡ line_of command at x
    same = own_line f command moment l.steps l.formula x there

    among : Contains f.formulas x
    among = (l.formula, slice_get_within f.formulas l.formula x there, get_or_from_slice_get f.formulas l.formula x x there)

    by_verdict : (v : FlatVerdict) → IsFlatVerdict f (start_at at) x l.steps v → IsRightOf system (design_line f command moment (l.steps, l.formula)) v
    by_verdict Passed h = λ trace r.
        let t = found_holds system code f command at x trace d among one of (subst (λ line. Refutes system line trace) same r) in
        h t.0 (subst (λ n. RefutesCopies f (line_over f (start_at at) n x) t.0) even t.1)
    by_verdict (Failed t) h =
        subst (λ line. Refutes system line (trace_of t)) (sym same) (refuted_holds system code f command at x t d among one of (subst (λ n. RefutesCopies f (line_over f (start_at at) n x) t) (sym even) h))
    by_verdict (Undef why) h = tt
