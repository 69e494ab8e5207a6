-- Lines are undecided by their budget only where that is below 2 to their free bits.
use Rattle.std.proofs.Common.{◌≡◌, ℕ, ◌+◌, ◌<◌, ◌^◌, List, [], ◌∷◌, map, length, refl, sym, ap, ◌∙◌, subst, Some}
use Rattle.std.specs.List.{All}
use Rattle.std.proofs.lemmas.List.Elements.{All-nil, All-cons, All-head, All-tail}
use Rattle.std.proofs.lemmas.Option.{same_Some}
use Rattle.uc_syntax.specs.declared.declaration.Module.{Module}
use Rattle.uc_meaning.specs.Lookup.{System, init_of}
use Rattle.uc_meaning.specs.Cells.{cells_of}
use Rattle.uc_flat.specs.declared.flat.Flat.{Flat}
use Rattle.uc_flat_code.specs.Code.{code_of}
use Rattle.uc_flat_code.specs.CellTypes.{cell_type_of}
use Rattle.uc_flat_code.specs.Init.{init_code}
use Rattle.uc_flat_design.specs.Names.{names_over_cells, names_of_constants}
use Rattle.uc_flat_design.specs.Next.{primed_behind}
use Rattle.uc_flat_design.specs.Design.{next_names, next_arranged, invariant_in, axiom_in, formulas_from, flat_with, IsFlatOf}
use Rattle.uc_flat_copies.specs.declared.trace.Start.{Start}
use Rattle.uc_flat_lines.specs.declared.line.FlatLine.{FlatLine}
use Rattle.uc_flat_lines.specs.declared.line.FlatVerdict.{FlatVerdict}
use Rattle.uc_flat_lines.specs.declared.line.FlatVerdict.TheVariants.{Passed, Failed, Undef}
use Rattle.uc_flat_lines.specs.declared.line.FlatWhy.TheVariants.{Budget, Memory}
use Rattle.uc_flat_lines.specs.Lines.{free_bits, IsHonestVerdict, IsHonestLine as IsHonestFlat, AreFlatJudged}
use Rattle.uc_report.specs.declared.report.LineResult.{LineResult}
use Rattle.uc_report.specs.Verdicts.{IsHonest}
use Rattle.uc_judge.specs.declared.lines.Moment.{Moment}
use Rattle.uc_judge.specs.declared.lines.Moment.TheVariants.{Unrolled, Based, Linked}
use Rattle.uc_judge.specs.Lines.{verdict_as, at_moment, start_of, line_as}
use Rattle.uc_judge.specs.Reports.{line_bits, IsHonestLine}

-- ---- a design has one design over cells

abbrev head_of : Module → List Module → Module
head_of d [] = d
head_of d (m ∷ ms) = m

pub one_flat : (system : System) (code other : Module) (f g : Flat) → IsFlatOf system code f → IsFlatOf system other g → f ≡ g
one_flat system code other f g d e =
    let same : code ≡ other = ap (head_of code) (sym d.only ∙ e.only) in
    let init : d.init ≡ e.init = same_Some d.init e.init (sym d.init_is ∙ ap (λ m. init_code (cell_type_of system m) (names_over_cells system m) (length (cells_of system)) (init_of m)) same ∙ e.init_is) in
    let next : d.next ≡ e.next = same_Some d.next e.next (sym d.next_is ∙ ap (λ m. code_of (next_names system m) (primed_behind (length (cells_of system))) (next_arranged system m)) same ∙ e.next_is) in
    let axioms : d.axioms ≡ e.axioms = same_Some d.axioms e.axioms (sym d.axioms_are ∙ ap (λ m. formulas_from (axiom_in (names_of_constants system m)) 0 m.decls) same ∙ e.axioms_are) in
    let formulas : d.formulas ≡ e.formulas = same_Some d.formulas e.formulas (sym d.formulas_are ∙ ap (λ m. formulas_from (invariant_in (names_over_cells system m)) 0 m.decls) same ∙ e.formulas_are) in
    d.is ∙ (λ i. flat_with system (init i) (next i) (axioms i) (formulas i)) ∙ sym e.is

-- ---- verdicts

honest_as : (f : Flat) (start : Start) (budget n : ℕ) (v : FlatVerdict) → IsHonestVerdict f start budget n v → IsHonest budget (free_bits f start n) (verdict_as budget v)
honest_as f start budget n Passed h = tt
honest_as f start budget n (Failed t) h = tt
honest_as f start budget n (Undef Budget) h = (refl, h)
honest_as f start budget n (Undef Memory) h = tt

bits_are : (f : Flat) (moment : Moment) (n : ℕ) → free_bits f (start_of moment) n ≡ line_bits f (at_moment moment n)
bits_are f Unrolled n = refl
bits_are f Based n = refl
bits_are f Linked n = refl

each_honest : (f : Flat) (command : ℕ) (moment : Moment) (budget : ℕ) (ls : List FlatLine) → All (IsHonestFlat f (start_of moment) budget) ls → All (IsHonestLine f budget) (map (line_as f command moment budget) ls)
each_honest f command moment budget [] h = All-nil (IsHonestLine f budget)
each_honest f command moment budget (l ∷ ls) h =
    All-cons (IsHonestLine f budget) (line_as f command moment budget l) (map (line_as f command moment budget) ls)
    (subst (λ bits. IsHonest budget bits (verdict_as budget l.verdict)) (bits_are f moment l.steps) (honest_as f (start_of moment) budget l.steps l.verdict (All-head (IsHonestFlat f (start_of moment) budget) l ls h)))
    (each_honest f command moment budget ls (All-tail (IsHonestFlat f (start_of moment) budget) l ls h))

pub honest_are : (system : System) (code : Module) (f : Flat) (command : ℕ) (moment : Moment) (budget before after : ℕ) (lines : List (ℕ × ℕ)) (ls : List FlatLine) → IsFlatOf system code f → AreFlatJudged f (start_of moment) budget before after lines ls
    → (other : Module) (g : Flat) → IsFlatOf system other g → All (IsHonestLine g budget) (map (line_as f command moment budget) ls)
honest_are system code f command moment budget before after lines ls d j other g e =
    subst (λ h. All (IsHonestLine h budget) (map (line_as f command moment budget) ls)) (one_flat system code other f g d e) (each_honest f command moment budget ls j.honest)
