-- What is assumed of a state: that each formula of one copy holds in it.
use Rattle.std.proofs.Common.{◌≡◌, ℕ, ◌+◌, ◌<◌, ◌≤◌, List, [], ◌∷◌, ◌++◌, length, map, take, Some, refl, sym, ap, ◌∙◌, subst, arith, slice_get, zero, suc, get_or}
use Rattle.std.specs.Prelude.{Bool as Truth, true, false, ◌&&◌, ◌||◌, nat_eq, cond, filter}
use Rattle.std.specs.List.{list_all}
use Rattle.std.proofs.lemmas.Bool.Decides.{nat_tests}
use Rattle.std.proofs.lemmas.List.{take_all}
use Rattle.std.proofs.lemmas.List.Elements.{filter_more}
use Rattle.std.proofs.lemmas.List.Folds.{list_all-append}
use Rattle.std.proofs.lemmas.Option.{get_or_from_slice_get}
use Rattle.uc_values.specs.declared.ty.Ty.{Ty}
use Rattle.uc_values.specs.declared.ty.Ty.TheVariants.{Bool}
use Rattle.uc_values.specs.declared.value.Value.{Value}
use Rattle.uc_values.specs.declared.value.Value.TheVariants.{Bool as Boolean}
use Rattle.uc_values.specs.Values.{truth_of}
use Rattle.uc_ops.specs.declared.model.Model.{Model}
use Rattle.uc_ops.specs.declared.node.Node.{Node}
use Rattle.uc_ops.specs.Typing.{type_at}
use Rattle.uc_ops.proofs.Lists.{at_place}
use Rattle.uc_terms.specs.Values.{value}
use Rattle.uc_flat.specs.declared.flat.Flat.{Flat}
use Rattle.uc_flat.specs.declared.flat.Formula.{Formula}
use Rattle.uc_flat.specs.Flats.{cell_types}
use Rattle.uc_flat.specs.Unrolled.{formula_in, holds_in}
use Rattle.uc_flat_copies.specs.declared.trace.Start.{Start}
use Rattle.uc_flat_copies.specs.declared.trace.Start.TheVariants.{Initially}
use Rattle.uc_flat_copies.specs.Lines.{is_supposed, supposed, before_of}
use Rattle.uc_symstep.specs.declared.state.SymState.{SymState}
use Rattle.uc_symstep.specs.Growing.{Grows, IsTerm}
use Rattle.uc_symstep.specs.Stands.{holds, IsTruth}
use Rattle.uc_symstep.specs.Unrolled.{IsSeen}
use Rattle.uc_symstep.proofs.Grown.{grows_not, grows_on, grows_value, grows_values}
use Rattle.uc_symstep.proofs.Runs.{two_there}
use Rattle.uc_symstep.proofs.States.{truth_grows}
use Rattle.uc_obligations.specs.Unrolling.{Tells}
use Rattle.uc_obligations.proofs.Terms.{all_cells, OfFormula, formula_one}

-- the formulas hold in the cells of a state
abbrev pub all_hold : Flat → List Node → SymState → List Formula → Model → Truth
all_hold f nodes s xs m = list_all (λ x. holds_in f x m (map (value m nodes) s.cells)) xs

-- what was assumed holds, and the first k formulas, as far as they are assumed
abbrev pub SupposedTo : Flat → List Node → List Node → ℕ → ℕ → SymState → ℕ → Type 0
SupposedTo f old now t assumed s k = Tells old now t (λ m. holds m old assumed && all_hold f old s (filter (is_supposed 1) (take k f.formulas)) m)

-- the same of one formula
abbrev pub SupposedOne : Flat → List Node → List Node → ℕ → ℕ → SymState → Formula → Type 0
SupposedOne f now new t all s x = Tells now new t (λ m. holds m now all && all_hold f now s (filter (is_supposed 1) (x ∷ [])) m)

and_true_right : (b : Truth) → (b && true) ≡ b
and_true_right true = refl
and_true_right false = refl

and_assoc : (a b c : Truth) → (a && (b && c)) ≡ ((a && b) && c)
and_assoc true b c = refl
and_assoc false b c = refl

-- where nothing is added, the term stays
pub same_tells : (f : Flat) (nodes : List Node) (t : ℕ) (s : SymState) → IsTruth nodes t → Tells nodes nodes t (λ m. holds m nodes t && all_hold f nodes s [] m)
same_tells f nodes t s h = record { grown = grows_not nodes nodes refl; truth = h; tells = λ m. sym (and_true_right (holds m nodes t)) }

-- a line from an initial state assumes nothing
pub not_before : (f : Flat) (start : Start) (nodes : List Node) (t : ℕ) (s : SymState) → start ≡ Initially → IsTruth nodes t → Tells nodes nodes t (λ m. holds m nodes t && all_hold f nodes s (before_of f start 1) m)
not_before f start nodes t s is h = subst (λ b. Tells nodes nodes t (λ m. holds m nodes t && all_hold f nodes s (before_of f b 1) m)) (sym is) (same_tells f nodes t s h)

take_none : (xs : List Formula) → take 0 xs ≡ []
take_none [] = refl
take_none (x ∷ xs) = refl

pub supposed_none : (f : Flat) (nodes : List Node) (t : ℕ) (s : SymState) → IsTruth nodes t → SupposedTo f nodes nodes t t s 0
supposed_none f nodes t s h = subst (λ xs. Tells nodes nodes t (λ m. holds m nodes t && all_hold f nodes s (filter (is_supposed 1) xs) m)) (sym (take_none f.formulas)) (same_tells f nodes t s h)

-- one formula more
pub supposed_more : (f : Flat) (old now new : List Node) (t all assumed k : ℕ) (s : SymState) (x : Formula) → IsSeen old (cell_types f) s → k < length f.formulas → slice_get f.formulas k ≡ Some x
    → SupposedTo f old now all assumed s k → SupposedOne f now new t all s x → SupposedTo f old new t assumed s (k + 1)
supposed_more f old now new t all assumed k s x seen l at a b = record {
  grown = grows_on old now new a.grown b.grown;
  truth = b.truth;
  tells = λ m.
      let test : Formula → Truth = λ y. holds_in f y m (map (value m old) s.cells) in
      let front = filter (is_supposed 1) (take k f.formulas) in
      let one = filter (is_supposed 1) (x ∷ []) in
      let whole : filter (is_supposed 1) (take (k + 1) f.formulas) ≡ front ++ one =
      filter_more (is_supposed 1) f.formulas k x l ∙ ap (λ y. front ++ cond (is_supposed 1 y) (y ∷ []) []) (get_or_from_slice_get f.formulas k x x at) in
      b.tells m
      ∙ ap (λ c. c && all_hold f now s one m) (a.tells m)
      ∙ ap (λ cs. (holds m old assumed && list_all test front) && list_all (λ y. holds_in f y m cs) one) (grows_values old now a.grown m s.cells seen.cells.there)
      ∙ sym (and_assoc (holds m old assumed) (list_all test front) (list_all test one))
      ∙ ap (λ c. holds m old assumed && c) (sym (list_all-append test front one) ∙ ap (list_all test) (sym whole));
}

pub supposed_next : (f : Flat) (old now new : List Node) (t all assumed k : ℕ) (s : SymState) → IsSeen old (cell_types f) s → k < length f.formulas → SupposedTo f old now all assumed s k
    → ((x : Formula) → slice_get f.formulas k ≡ Some x → SupposedOne f now new t all s x) → SupposedTo f old new t assumed s (k + 1)
supposed_next f old now new t all assumed k s seen l a b = let x = at_place f.formulas k l in supposed_more f old now new t all assumed k s x.0 seen l x.1 a (b x.0 x.1)

-- all formulas
pub supposed_end : (f : Flat) (old now : List Node) (t assumed k : ℕ) (s : SymState) → length f.formulas ≤ k → SupposedTo f old now t assumed s k → Tells old now t (λ m. holds m old assumed && all_hold f old s (supposed f 1) m)
supposed_end f old now t assumed k s l a = subst (λ xs. Tells old now t (λ m. holds m old assumed && all_hold f old s (filter (is_supposed 1) xs) m)) (take_all k f.formulas l) a

-- One formula: it is not assumed where it speaks of another number of copies.

one_at : (f : Flat) (k : ℕ) (x y : Formula) (formulas : List Formula) → formulas ≡ f.formulas → slice_get f.formulas k ≡ Some y → get_or formulas k x ≡ y
one_at f k x y formulas i at = ap (λ xs. get_or xs k x) i ∙ get_or_from_slice_get f.formulas k y x at

none_kept : (b : Truth) (x : Formula) → b ≡ false → cond (b || b) (x ∷ []) [] ≡ []
none_kept b x e = ap (λ c. cond (c || c) (x ∷ []) []) e

one_kept : (b : Truth) (x : Formula) → b ≡ true → cond (b || b) (x ∷ []) [] ≡ x ∷ []
one_kept b x e = ap (λ c. cond (c || c) (x ∷ []) []) e

differs : (n : ℕ) → (n ≡ 1 → ⊥) → nat_eq n 1 ≡ false
differs n h = by_test (nat_eq n 1) refl
  where
    by_test : (b : Truth) → nat_eq n 1 ≡ b → b ≡ false
    by_test true e = absurd (h (grind (arith, nat_tests, e)))
    by_test false e = refl

pub not_supposed : (f : Flat) (nodes : List Node) (k t : ℕ) (s : SymState) (x : Formula) (formulas : List Formula) → IsTruth nodes t → formulas ≡ f.formulas → ((get_or formulas k x).copies ≡ 1 → ⊥)
    → (y : Formula) → slice_get f.formulas k ≡ Some y → SupposedOne f nodes nodes t t s y
not_supposed f nodes k t s x formulas h i other y at =
    let e : get_or formulas k x ≡ y = one_at f k x y formulas i at in
    let none : filter (is_supposed 1) (y ∷ []) ≡ [] = none_kept (nat_eq y.copies 1) y (ap (λ (z : Formula). nat_eq z.copies 1) (sym e) ∙ differs (get_or formulas k x).copies other) in
    subst (λ xs. Tells nodes nodes t (λ m. holds m nodes t && all_hold f nodes s xs m)) (sym none) (same_tells f nodes t s h)

pub one_copy : (f : Flat) (k : ℕ) (x : Formula) (formulas : List Formula) → formulas ≡ f.formulas → (get_or formulas k x).copies ≡ 1 → (y : Formula) → slice_get f.formulas k ≡ Some y → y.copies ≡ 1
one_copy f k x formulas i c y at = ap (λ (z : Formula). z.copies) (sym (one_at f k x y formulas i at)) ∙ c

-- the terms of both are there
pub both_ready : (f : Flat) (now mid : List Node) (k all one : ℕ) (cells : List ℕ) → k < length f.formulas → IsTruth now all → OfFormula f k now mid one cells
    → ((all < length mid) × (one < length mid)) × ((type_at mid all ≡ Bool) × (type_at mid one ≡ Bool))
both_ready f now mid k all one cells l h a =
    let x = at_place f.formulas k l in
    let b = a x.0 x.1 in
    let up = truth_grows now mid all b.grown h in
    ((up.there, b.there), (up.typed, b.typed))

pub one_supposed_is : (f : Flat) (now mid new : List Node) (k t all one : ℕ) (s : SymState) (states : List SymState) → IsTruth now all → states ≡ s ∷ [] → ((y : Formula) → slice_get f.formulas k ≡ Some y → y.copies ≡ 1)
    → OfFormula f k now mid one (all_cells states) → IsTerm mid new t Bool (λ m. Boolean (truth_of (value m mid all) && truth_of (value m mid one))) → (y : Formula) → slice_get f.formulas k ≡ Some y → SupposedOne f now new t all s y
one_supposed_is f now mid new k t all one s states h i single a b y at =
    let c = formula_one now mid f y s states one i (a y at) in
    let kept : filter (is_supposed 1) (y ∷ []) ≡ y ∷ [] = one_kept (nat_eq y.copies 1) y (ap (λ n. nat_eq n 1) (single y at)) in
    record {
      grown = grows_on now mid new c.grown b.grown;
      truth = record { there = b.there; typed = b.typed };
      tells = λ m.
          let test : Formula → Truth = λ z. holds_in f z m (map (value m now) s.cells) in
          ap truth_of (b.means m)
          ∙ ap (λ v. truth_of v && truth_of (value m mid one)) (grows_value now mid c.grown m all h.there)
          ∙ ap (λ v. holds m now all && truth_of v) (c.means m)
          ∙ ap (λ v. holds m now all && v) (sym (and_true_right (test y)) ∙ ap (list_all test) (sym kept));
    }
