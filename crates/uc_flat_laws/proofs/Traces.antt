-- Traces of a design and traces over cells refute alike.
use Rattle.std.proofs.Common.{◌≡◌, ℕ, zero, suc, ◌+◌, List, [], ◌∷◌, ◌++◌, map, length, refl, sym, ap, ◌∙◌, subst, true, false, Bool, Some, None, arith, append-nil, get_or, take}
use Rattle.std.specs.Prelude.{◌&&◌, ◌||◌, ◌<◌, ◌≤◌, cond, filter, nat_eq, not, slice_get, Contains}
use Rattle.std.specs.Option.{option_map, option_and_then}
use Rattle.std.specs.List.{flat_map, filter_map, list_all, cons_option, All}
use Rattle.std.proofs.lemmas.Option.{slice_get-get_or, slice_get-map, slice_get_within, get_or_from_slice_get}
use Rattle.std.proofs.lemmas.List.{length-map}
use Rattle.std.proofs.lemmas.List.Elements.{All-head, All-tail, All-cons, All-nil, All-append, All-weaker, All-contains}
use Rattle.uc_lexer.specs.declared.place.Place.{Place}
use Rattle.uc_syntax.specs.declared.place.Identifier.{Identifier}
use Rattle.uc_syntax.specs.declared.expression.Expr.{Expr}
use Rattle.uc_syntax.specs.declared.declaration.Decl.{Decl}
use Rattle.uc_syntax.specs.declared.declaration.Decl.TheVariants.{Function, Invariant, Axiom, Hyperinvariant, Hyperaxiom}
use Rattle.uc_syntax.specs.declared.declaration.Module.{Module}
use Rattle.uc_values.specs.declared.value.Value.{Value}
use Rattle.uc_values.specs.Values.{truth_of}
use Rattle.uc_values.proofs.Shapes.{and_true}
use Rattle.uc_meaning.specs.declared.scope.Interp.{Interp}
use Rattle.uc_meaning.specs.declared.scope.Site.{Site}
use Rattle.uc_meaning.specs.declared.scope.State.{State}
use Rattle.uc_meaning.specs.Lookup.{System, axiom_in as axiom_of_decl, invariant_in as invariant_of_decl, hyperinvariant_in, hyperaxiom_in, module_at, module_from}
use Rattle.uc_meaning.specs.Cells.{InstanceAt, main_instance, instances, functions_in, functions_of, FitTables, IsState}
use Rattle.uc_meaning.specs.Expressions.{value, is_true}
use Rattle.uc_meaning.specs.Steps.{scope_of, state_of, IsStep}
use Rattle.uc_meaning.specs.Runs.{Position, no_state, no_position, position_at, states_at, Continues, IsRunListing, IsRun, AxiomsAt, IsAdmitted, HyperaxiomsIn, HyperaxiomsAt, AreInStep, of_arity, copies_scope}
use Rattle.uc_meaning.specs.declared.line.At.{At}
use Rattle.uc_meaning.specs.declared.line.At.TheVariants.{Exactly, Base, Step, Body}
use Rattle.uc_meaning.specs.Lines.{formula_in as formula_of_decl, formula_of, IsFalseAt, FailsAfter, FailsInduction, FailsIn, AreLinked, InvariantsIn, HyperinvariantsIn, Refutes}
use Rattle.uc_ops.specs.declared.model.Model.{Model}
use Rattle.uc_ops.specs.Meaning.{fitting}
use Rattle.uc_ops.proofs.Lists.{at_place}
use Rattle.uc_flat.specs.declared.flat.Flat.{Flat}
use Rattle.uc_flat.specs.declared.flat.Formula.{Formula}
use Rattle.uc_flat.specs.Flats.{cell_types, repeated, axioms_of}
use Rattle.uc_flat.specs.Reading.{value_of}
use Rattle.uc_flat.specs.Unrolled.{holds_in, axioms_hold}
use Rattle.uc_flat.specs.Executions.{FitAll, IsInitial as IsInitialOver, IsStep as IsStepOver}
use Rattle.uc_flat.specs.declared.trace.FlatPosition.{FlatPosition}
use Rattle.uc_flat.specs.Laws.{AgreeBelow}
use Rattle.uc_flat.specs.Traces.{HasConstants}
use Rattle.uc_flat_copies.specs.declared.trace.FlatCopies.{FlatCopies}
use Rattle.uc_flat_copies.specs.declared.trace.Start.{Start}
use Rattle.uc_flat_copies.specs.declared.trace.Start.TheVariants.{Initially, Anywhere}
use Rattle.uc_flat_copies.specs.Traces.{asks, ask_all, IsAny, Starts, IsLinked, IsCopy, cells_in, cells_at, RefutesCopies}
use Rattle.uc_flat_copies.specs.Lines.{is_supposed, supposed, before_of, line_over}
use Rattle.uc_flat_copies.proofs.Single.{asks_one, ask_all_one}
use Rattle.uc_flat_expressions.specs.declared.typed.TypedExpression.{TypedExpression}
use Rattle.uc_flat_expressions.specs.declared.typed.Meant.{Meant}
use Rattle.uc_flat_expressions.specs.Types.{is_boolean}
use Rattle.uc_flat_expressions.specs.Expressions.{flat_of}
use Rattle.uc_flat_design.specs.Names.{names_over_cells, types_of, names_of_constants, constant_types}
use Rattle.uc_flat_design.specs.Constants.{SharesConstants}
use Rattle.uc_flat_design.proofs.Sharing.{shares_first}
use Rattle.uc_flat_design.proofs.Cells.{alone_instances}
use Rattle.uc_flat_design.proofs.Meaning.{mapped_at}
use Rattle.uc_flat_design.proofs.FlatInitLawOptions.{then_some, map_some, if_some, some_same}
use Rattle.uc_flat_design.proofs.Forms.{truth_holds}
use Rattle.uc_flat_design.specs.Design.{is_built, condition_of, invariant_in, axiom_in, formulas_from, IsFlatOf}
use Rattle.uc_flat_design.proofs.Formulas.{formula_of as own_formula, invariants_read}
use Rattle.uc_flat_design.proofs.Tables.{fit_cells, fit_types, init_said, axiom_says}
use Rattle.uc_flat_design.proofs.Laws.{main_is, alone_of, flat_types, flat_constant_types, initial_holds, step_holds}
use Rattle.uc_flat_laws.specs.FlatRefutationsLaws.{singles_of, IsOfSteps, start_at, steps_at, line_of, interpretation_of, positions_of, FoundLaw, RefutedLaw}
use Rattle.uc_flat_laws.proofs.Judging.{axioms_copied, singles_are}

shifted : (k : ℕ) → suc (k + 1) ≡ suc k + 1
shifted k = omega arith

none_some : {A : Type 0} (y : A) → None ≡ Some y → ⊥
none_some y h = cc

-- ---- the invariant of a formula

-- The invariant that a formula over cells stands for.
record IsInvariantOf (names : List Meant) (decls : List Decl) (x : Formula) : Type 0 where
  place : Place
  identifier : Identifier
  formula : Expr
  typed : TypedExpression
  at_number : slice_get decls x.decl ≡ Some (Invariant place identifier formula)
  flat : flat_of names formula ≡ Some typed
  is_condition : x.condition ≡ typed.expression

invariants_of : (names : List Meant) (decls : List Decl) (fs : List Formula) → formulas_from (invariant_in names) 0 decls ≡ Some fs → All (IsInvariantOf names decls) fs
invariants_of names decls fs h =
    invariants_read (IsInvariantOf names decls) names decls
    (λ n place i e t at flat b. record { place = place; identifier = i; formula = e; typed = t; at_number = at; flat = flat; is_condition = refl })
    fs h

-- ---- the axioms

all_true : {A : Type 0} (p : A → Bool) (xs : List A) → list_all p xs ≡ true → All (λ x. p x ≡ true) xs
all_true p [] h = All-nil (λ x. p x ≡ true)
all_true p (x ∷ xs) h = let b = and_true h in All-cons (λ x. p x ≡ true) x xs b.0 (all_true p xs b.1)

true_all : {A : Type 0} (p : A → Bool) (xs : List A) → All (λ x. p x ≡ true) xs → list_all p xs ≡ true
true_all p [] h = refl
true_all p (x ∷ xs) h = ap (λ b. b && list_all p xs) (All-head (λ y. p y ≡ true) x xs h) ∙ true_all p xs (All-tail (λ y. p y ≡ true) x xs h)

-- axioms over constants hold where those that are written do
module _ (names : List Meant) (told : Expr → Bool) (holds : Formula → Bool) (alike : (k : ℕ) (e : Expr) (t : TypedExpression) → flat_of names e ≡ Some t → holds (own_formula 0 k t) ≡ told e) where
  one_axiom : (k : ℕ) (d : Decl) (xs : List Formula) → axiom_in names k d ≡ Some xs → (ys : List Formula) (es : List Expr) → list_all holds ys ≡ list_all told es
      → list_all holds (xs ++ ys) ≡ list_all told (cons_option (axiom_of_decl d) es)
  one_axiom k (Axiom place name e) xs h ys es g =
      let s = then_some (condition_of 0 k) (flat_of names e) xs h in
      let x = own_formula 0 k s.0 in
      let t = if_some (is_boolean s.0.ty) (Some (x ∷ [])) xs s.2 in
      ap (λ zs. list_all holds (zs ++ ys)) (sym (some_same (x ∷ []) xs t.1))
      ∙ ap (λ b. b && list_all holds ys) (alike k e s.0 s.1)
      ∙ ap (λ b. told e && b) g
  one_axiom k other xs h ys es g = ap (λ zs. list_all holds (zs ++ ys)) (sym (some_same [] xs h)) ∙ g

  axioms_alike : (k : ℕ) (decls : List Decl) (fs : List Formula) → formulas_from (axiom_in names) k decls ≡ Some fs → list_all holds fs ≡ list_all told (filter_map axiom_of_decl decls)
  unfolding formulas_from
  axioms_alike k [] fs h = ap (list_all holds) (sym (some_same [] fs h))
  axioms_alike k (d ∷ decls) fs h =
      let s = then_some (λ xs. option_map (λ ys. xs ++ ys) (formulas_from (axiom_in names) (k + 1) decls)) (axiom_in names k d) fs h in
      let t = map_some (λ ys. s.0 ++ ys) (formulas_from (axiom_in names) (k + 1) decls) fs s.2 in
      ap (list_all holds) (sym t.2) ∙ one_axiom k d s.0 s.1 t.0 (filter_map axiom_of_decl decls) (axioms_alike (k + 1) decls t.0 t.1)

-- invariants over cells hold where those that are written do
module _ (names : List Meant) (told : Expr → Bool) (holds : Formula → Bool) (alike : (k : ℕ) (e : Expr) (t : TypedExpression) → flat_of names e ≡ Some t → holds (own_formula 1 k t) ≡ told e) where
  one_invariant : (k : ℕ) (d : Decl) (xs : List Formula) → invariant_in names k d ≡ Some xs → (ys : List Formula) (es : List Expr) → list_all holds ys ≡ list_all told es
      → list_all holds (xs ++ ys) ≡ list_all told (cons_option (invariant_of_decl d) es)
  one_invariant k (Invariant place name e) xs h ys es g =
      let s = then_some (condition_of 1 k) (flat_of names e) xs h in
      let x = own_formula 1 k s.0 in
      let t = if_some (is_boolean s.0.ty) (Some (x ∷ [])) xs s.2 in
      ap (λ zs. list_all holds (zs ++ ys)) (sym (some_same (x ∷ []) xs t.1))
      ∙ ap (λ b. b && list_all holds ys) (alike k e s.0 s.1)
      ∙ ap (λ b. told e && b) g
  one_invariant k other xs h ys es g = ap (λ zs. list_all holds (zs ++ ys)) (sym (some_same [] xs h)) ∙ g

  invariants_alike : (k : ℕ) (decls : List Decl) (fs : List Formula) → formulas_from (invariant_in names) k decls ≡ Some fs → list_all holds fs ≡ list_all told (filter_map invariant_of_decl decls)
  unfolding formulas_from
  invariants_alike k [] fs h = ap (list_all holds) (sym (some_same [] fs h))
  invariants_alike k (d ∷ decls) fs h =
      let s = then_some (λ xs. option_map (λ ys. xs ++ ys) (formulas_from (invariant_in names) (k + 1) decls)) (invariant_in names k d) fs h in
      let t = map_some (λ ys. s.0 ++ ys) (formulas_from (invariant_in names) (k + 1) decls) fs s.2 in
      ap (list_all holds) (sym t.2) ∙ one_invariant k d s.0 s.1 t.0 (filter_map invariant_of_decl decls) (invariants_alike (k + 1) decls t.0 t.1)

-- a test twice is the test
either_same : (b : Bool) → (b || b) ≡ b
either_same true = refl
either_same false = refl

same_filter : (fs : List Formula) → filter (is_supposed 1) fs ≡ filter (λ (x : Formula). nat_eq x.copies 1) fs
same_filter [] = refl
same_filter (x ∷ fs) = λ i. cond (either_same (nat_eq x.copies 1) i) (x ∷ same_filter fs i) (same_filter fs i)

take_front : {A : Type 0} (xs ys : List A) → take (length xs) (xs ++ ys) ≡ xs
take_front [] ys = refl
take_front (x ∷ xs) ys = ap (λ zs. x ∷ zs) (take_front xs ys)

-- ---- what a design of built declarations lacks

no_hyperaxiom : (d : Decl) → is_built d ≡ true → hyperaxiom_in d ≡ None
no_hyperaxiom (Hyperaxiom place n name e) h = absurd (cc)
no_hyperaxiom other h = refl

no_hyperaxioms : (decls : List Decl) → list_all is_built decls ≡ true → filter_map hyperaxiom_in decls ≡ []
no_hyperaxioms [] h = refl
no_hyperaxioms (d ∷ decls) h = ap (λ o. cons_option o (filter_map hyperaxiom_in decls)) (no_hyperaxiom d (and_true h).0) ∙ no_hyperaxioms decls (and_true h).1

no_hyperinvariant : (d : Decl) → is_built d ≡ true → hyperinvariant_in d ≡ None
no_hyperinvariant (Hyperinvariant place n name e) h = absurd (cc)
no_hyperinvariant other h = refl

no_hyperinvariants : (decls : List Decl) → list_all is_built decls ≡ true → filter_map hyperinvariant_in decls ≡ []
no_hyperinvariants [] h = refl
no_hyperinvariants (d ∷ decls) h = ap (λ o. cons_option o (filter_map hyperinvariant_in decls)) (no_hyperinvariant d (and_true h).0) ∙ no_hyperinvariants decls (and_true h).1

no_function : (system : System) (code : Module) (d : Decl) → is_built d ≡ true → functions_in system code d ≡ []
no_function system code (Function place i ps type) h = absurd (cc)
no_function system code other h = refl

no_functions : (system : System) (code : Module) (decls : List Decl) → list_all is_built decls ≡ true → flat_map (functions_in system code) decls ≡ []
no_functions system code [] h = refl
no_functions system code (d ∷ decls) h = ap (λ xs. xs ++ flat_map (functions_in system code) decls) (no_function system code d (and_true h).0) ∙ no_functions system code decls (and_true h).1

module _ (system : System) (code : Module) (f : Flat) (d : IsFlatOf system code f) where
  functions_none : functions_of system ≡ []
  unfolding functions_of
  functions_none =
      ap (λ ms. flat_map (λ m. flat_map (functions_in system m) m.decls) ms) (alone_of system code f d).used
      ∙ append-nil (flat_map (functions_in system code) code.decls)
      ∙ no_functions system code code.decls d.declarations

  axioms_are : axioms_of f ≡ d.axioms
  axioms_are = ap axioms_of d.is ∙ take_front d.axioms d.formulas

  abbrev Agrees : Interp → ℕ → List State → ℕ × Expr → Type 0
  Agrees i n states h = of_arity n h ≡ true → is_true system (copies_scope i [] states) h.1 ≡ true

  hyper_none : (i : Interp) (n : ℕ) (states : List State) → HyperaxiomsAt system i n states
  hyper_none i n states = subst (All (HyperaxiomsIn system i n states)) (sym (alone_instances system code (alone_of system code f d)))
      (All-cons (HyperaxiomsIn system i n states) (main_instance code) [] (subst (All (Agrees i n states)) (sym (no_hyperaxioms code.decls d.declarations)) (All-nil (Agrees i n states))) (All-nil (HyperaxiomsIn system i n states)))

  hypers_none : (i : Interp) (n : ℕ) (states : List State) → All (HyperinvariantsIn system i n states) (instances system)
  hypers_none i n states = subst (All (HyperinvariantsIn system i n states)) (sym (alone_instances system code (alone_of system code f d)))
      (All-cons (HyperinvariantsIn system i n states) (main_instance code) [] (subst (All (Agrees i n states)) (sym (no_hyperinvariants code.decls d.declarations)) (All-nil (Agrees i n states))) (All-nil (HyperinvariantsIn system i n states)))

  -- ---- formulas

  abbrev names : List Meant
  names = names_over_cells system code

  abbrev FromInvariant : Formula → Type 0
  FromInvariant x = x.copies ≡ 1 → IsInvariantOf names code.decls x

  axioms_from : All FromInvariant d.axioms
  axioms_from = All-weaker (λ (x : Formula). x.copies ≡ 0) FromInvariant (λ x none one. absurd (differs x none one)) d.axioms (axioms_copied (names_of_constants system code) code.decls d.axioms d.axioms_are)
    where
      differs : (x : Formula) → x.copies ≡ 0 → x.copies ≡ 1 → ⊥
      differs x none one = absurd (omega (arith, none, one))

  formulas_from_invariants : All FromInvariant d.formulas
  formulas_from_invariants = All-weaker (IsInvariantOf names code.decls) FromInvariant (λ x a one. a) d.formulas (invariants_of names code.decls d.formulas d.formulas_are)

  invariant_at : (x : Formula) → Contains f.formulas x → FromInvariant x
  invariant_at x c =
      All-contains FromInvariant (d.axioms ++ d.formulas) x (All-append FromInvariant d.axioms d.formulas axioms_from formulas_from_invariants)
      (subst (λ (g : Flat). Contains g.formulas x) d.is c)

  -- what a line from any state assumes is the formulas of the invariants
  supposed_is : supposed f 1 ≡ d.formulas
  supposed_is = same_filter f.formulas ∙ singles_are system code f d

  module_there : module_at system [] ≡ Some code
  unfolding module_from
  module_there = ap (λ m. option_and_then (λ c. module_from system c []) m) (main_is system code f d)

  formula_is : (x : Formula) (a : IsInvariantOf names code.decls x) → formula_of system [] x.decl ≡ Some (false, a.formula)
  formula_is x a =
      ap (λ m. option_and_then formula_of_decl (option_and_then (λ c. slice_get c.decls x.decl) m)) module_there
      ∙ ap (option_and_then formula_of_decl) a.at_number

  -- ---- under an interpretation and a model that share the constants

  module _ (i : Interp) (m : Model) (shares : SharesConstants system i m) where
    abbrev told : Expr → Bool
    told e = is_true system (scope_of i [] no_state) e

    abbrev holds_there : Formula → Bool
    holds_there x = holds_in f x m []

    axiom_alike : (k : ℕ) (e : Expr) (t : TypedExpression) → flat_of (names_of_constants system code) e ≡ Some t → holds_there (own_formula 0 k t) ≡ told e
    unfolding repeated
    axiom_alike k e t h =
        sym (truth_holds (value system (scope_of i [] no_state) e) ∙ ap truth_of (axiom_says system code (alone_of system code f d) d.constants (scope_of i [] no_state) m (record { path = refl; locals = refl }) shares e t h).value)

    axioms_same : axioms_hold f m ≡ list_all told (filter_map axiom_of_decl code.decls)
    axioms_same =
        ap (list_all holds_there) axioms_are
        ∙ axioms_alike (names_of_constants system code) told holds_there axiom_alike 0 code.decls d.axioms d.axioms_are

    axioms_there : All (AxiomsAt system i) (instances system) → axioms_hold f m ≡ true
    axioms_there h =
        let here = All-head (AxiomsAt system i) (main_instance code) [] (subst (All (AxiomsAt system i)) (alone_instances system code (alone_of system code f d)) h) in
        axioms_same ∙ true_all told (filter_map axiom_of_decl code.decls) here

    axioms_here : axioms_hold f m ≡ true → All (AxiomsAt system i) (instances system)
    axioms_here h = subst (All (AxiomsAt system i)) (sym (alone_instances system code (alone_of system code f d)))
        (All-cons (AxiomsAt system i) (main_instance code) [] (all_true told (filter_map axiom_of_decl code.decls) (sym axioms_same ∙ h)) (All-nil (AxiomsAt system i)))

    says_formula : (k : ℕ) (e : Expr) (t : TypedExpression) → flat_of names e ≡ Some t → (cells : List Value) → IsState system (state_of cells) → is_true system (scope_of i [] (state_of cells)) e ≡ holds_in f (own_formula 1 k t) m cells
    unfolding repeated
    says_formula k e t flat cells fit =
        truth_holds (value system (scope_of i [] (state_of cells)) e)
        ∙ ap truth_of ((init_said system code (alone_of system code f d) m d.types d.constants i shares cells (fit_cells (types_of system) cells fit) e t flat).same
        ∙ ap (λ ts. value_of m ts cells t.expression) (sym (append-nil (types_of system)) ∙ ap (λ ts. ts ++ []) (sym (flat_types system code f d))))

    says_same : (x : Formula) → x.copies ≡ 1 → (a : IsInvariantOf names code.decls x) (cells : List Value) → IsState system (state_of cells) → is_true system (scope_of i [] (state_of cells)) a.formula ≡ holds_in f x m cells
    says_same x single a cells fit =
        says_formula x.decl a.formula a.typed a.flat cells fit
        ∙ ap (λ n. truth_of (value_of m (repeated n (cell_types f)) cells a.typed.expression)) (sym single)
        ∙ ap (λ c. truth_of (value_of m (repeated x.copies (cell_types f)) cells c)) (sym a.is_condition)

    -- ---- the invariants

    abbrev holds_with : List Value → Formula → Bool
    holds_with cells x = holds_in f x m cells

    abbrev told_of : State → Expr → Bool
    told_of s e = is_true system (scope_of i [] s) e

    invariants_same : (cells : List Value) → IsState system (state_of cells) → list_all (holds_with cells) (supposed f 1) ≡ list_all (told_of (state_of cells)) (filter_map invariant_of_decl code.decls)
    invariants_same cells fit =
        ap (list_all (holds_with cells)) supposed_is
        ∙ invariants_alike names (told_of (state_of cells)) (holds_with cells) (λ k e t h. sym (says_formula k e t h cells fit)) 0 code.decls d.formulas d.formulas_are

    invariants_there : (s : State) → IsState system s → All (InvariantsIn system i s) (instances system) → list_all (holds_with s.cells) (supposed f 1) ≡ true
    invariants_there s fit h =
        let here = All-head (InvariantsIn system i s) (main_instance code) [] (subst (All (InvariantsIn system i s)) (alone_instances system code (alone_of system code f d)) h) in
        invariants_same s.cells fit ∙ true_all (told_of s) (filter_map invariant_of_decl code.decls) here

    invariants_here : (cells : List Value) → IsState system (state_of cells) → list_all (holds_with cells) (supposed f 1) ≡ true → All (InvariantsIn system i (state_of cells)) (instances system)
    invariants_here cells fit h =
        let one : InstanceAt → Type 0 = InvariantsIn system i (state_of cells) in
        subst (All one) (sym (alone_instances system code (alone_of system code f d)))
        (All-cons one (main_instance code) [] (all_true (told_of (state_of cells)) (filter_map invariant_of_decl code.decls) (sym (invariants_same cells fit) ∙ h)) (All-nil one))

    -- ---- from a trace of the design

    abbrev flat_position : Position → FlatPosition
    flat_position p = record { cells = p.0.cells; choices = p.1; sites = [] }

    links : (s : State) (choices : List Value) (sites listed : List Site) (ps : List Position) → IsState system s → Continues system i s sites ps listed → (k : ℕ) (p q : FlatPosition)
        → slice_get (map flat_position ((s, choices) ∷ ps)) k ≡ Some p → slice_get (map flat_position ((s, choices) ∷ ps)) (k + 1) ≡ Some q → IsStepOver f m p.cells q.cells q.choices q.sites
    unfolding Continues
    links s choices sites listed [] fit h zero p q a b = absurd (none_some q b)
    links s choices sites listed [] fit h (suc k) p q a b = absurd (none_some p a)
    links s choices sites listed (r ∷ ps) fit h zero p q a b =
        let step = step_holds.there system code f i m s r.0 r.1 h.1 d shares fit h.0 h.2 in
        subst (λ (z : FlatPosition). IsStepOver f m z.cells q.cells q.choices q.sites) (some_same (flat_position (s, choices)) p a)
        (subst (λ (z : FlatPosition). IsStepOver f m s.cells z.cells z.choices z.sites) (some_same (flat_position r) q b)
        (subst (λ cs. IsStepOver f m s.cells r.0.cells cs []) (sym step.no_choices) step.step))
    links s choices sites listed (r ∷ ps) fit h (suc k) p q a b = links r.0 r.1 h.1 listed ps h.0 h.3 k p q a (ap (slice_get (map flat_position ((s, choices) ∷ (r ∷ ps)))) (shifted k) ∙ b)

    -- every state of a run fits
    states_fit : (s : State) (choices : List Value) (sites listed : List Site) (ps : List Position) → IsState system s → Continues system i s sites ps listed → (k : ℕ) (q : Position) → slice_get ((s, choices) ∷ ps) k ≡ Some q → IsState system q.0
    unfolding Continues
    states_fit s choices sites listed ps fit h zero q a = subst (λ (z : Position). IsState system z.0) (some_same (s, choices) q a) fit
    states_fit s choices sites listed [] fit h (suc k) q a = absurd (none_some q a)
    states_fit s choices sites listed (r ∷ ps) fit h (suc k) q a = states_fit r.0 r.1 h.1 listed ps h.0 h.3 k q a

    -- a state of a run, over cells
    cells_there : (run : List Position) (k : ℕ) → k < length run → cells_in (slice_get (map flat_position run) k) ≡ (position_at k run).0.cells
    cells_there run k l = ap cells_in (slice_get-map flat_position run k) ∙ ap (λ o. cells_in (option_map flat_position o)) (slice_get-get_or run k no_position l)

    copy_found : (start : Start) (steps : ℕ) (p : Position) (ps : List Position) (first listed : List Site) → IsState system p.0 → Starts f m start (flat_position p) → Continues system i p.0 first ps listed
        → length (p ∷ ps) ≡ steps + 1 → IsCopy f m start steps (map flat_position (p ∷ ps))
    copy_found start steps p ps first listed fit begins goes n = record {
      own = m;
      agrees = record { symbols = λ k l. refl; tables = refl };
      linked = record {
        count = length-map (p ∷ ps) flat_position ∙ n;
        begins = λ q b. subst (Starts f m start) (some_same (flat_position p) q b) begins;
        goes_on = links p.0 p.1 first listed ps fit goes;
      };
    }

    -- one copy, over cells
    found_of : (values : List Value) → HasConstants f values m → axioms_hold f m ≡ true → (start : Start) (steps : ℕ) (x : Formula) (one : x.copies ≡ 1) (a : IsInvariantOf names code.decls x) (p : Position) (ps : List Position) (first listed : List Site)
        → IsState system p.0 → Starts f m start (flat_position p) → Continues system i p.0 first ps listed → length (p ∷ ps) ≡ steps + 1
        → ((k : ℕ) → k < steps → list_all (holds_with (position_at k (p ∷ ps)).0.cells) (before_of f start 1) ≡ true)
        → is_true system (scope_of i [] (position_at steps (p ∷ ps)).0) a.formula ≡ false → (t : FlatCopies) × RefutesCopies f (line_over f start steps x) t
    found_of values has axioms start steps x one a p ps first listed fit begins goes n before fails =
        let run = p ∷ ps in
        let flat = map flat_position run in
        let end : slice_get run steps ≡ Some (position_at steps run) = slice_get-get_or run steps no_position (omega (arith, n)) in
        let last = states_fit p.0 p.1 first listed ps fit goes steps (position_at steps run) end in (
          record { constants = values; copies = flat ∷ [] },
          record {
            model = m;
            constants = has;
            axioms = axioms;
            number = sym one;
            linked = All-cons (IsCopy f m start steps) flat [] (copy_found start steps p ps first listed fit begins goes n) (All-nil (IsCopy f m start steps));
            before = λ k l.
                ask_all_one f m (cells_in (slice_get flat k)) (before_of f start x.copies)
                ∙ ap (λ cs. list_all (holds_with cs) (before_of f start x.copies)) (cells_there run k (omega (arith, l, n)))
                ∙ ap (λ c. list_all (holds_with (position_at k run).0.cells) (before_of f start c)) one
                ∙ before k l;
            throughout = λ k l. refl;
            fails =
                ap not (asks_one f m (cells_in (slice_get flat steps)) x
                ∙ ap (λ cs. holds_in f x m cs) (cells_there run steps (omega (arith, n)))
                ∙ sym (says_same x one a (position_at steps run).0.cells last)
                ∙ fails);
          },
        )

    found_in_run : (values : List Value) → HasConstants f values m → axioms_hold f m ≡ true → (steps : ℕ) (x : Formula) (one : x.copies ≡ 1) (a : IsInvariantOf names code.decls x) (run : List Position) → IsRun system i run → length run ≡ steps + 1
        → is_true system (scope_of i [] (position_at steps run).0) a.formula ≡ false → (t : FlatCopies) × RefutesCopies f (line_over f Initially steps x) t
    unfolding IsRunListing
    found_in_run values has axioms steps x one a [] r n fails = absurd r.1
    found_in_run values has axioms steps x one a (p ∷ ps) r n fails =
        let start = r.1 in
        let first = start.1 in
        let initial = initial_holds.there system code f i m p.0 p.1 first d shares start.2 in
        found_of values has axioms Initially steps x one a p ps first r.0 start.0 initial.initial start.3 n (λ k l. refl) fails

    found_in_links : (values : List Value) → HasConstants f values m → axioms_hold f m ≡ true → (steps : ℕ) (x : Formula) (one : x.copies ≡ 1) (a : IsInvariantOf names code.decls x) (run : List Position) → (listed : List Site) × AreLinked system i run listed
        → length run ≡ steps + 1 → ((k : ℕ) → k < steps → All (InvariantsIn system i (position_at k run).0) (instances system))
        → is_true system (scope_of i [] (position_at steps run).0) a.formula ≡ false → (t : FlatCopies) × RefutesCopies f (line_over f Anywhere steps x) t
    found_in_links values has axioms steps x one a [] r n before fails = absurd r.1
    found_in_links values has axioms steps x one a (p ∷ ps) r n before fails =
        let linked = r.1 in
        let run = p ∷ ps in
        let any : IsAny f (flat_position p) = record { fits = subst (λ ts. FitAll ts p.0.cells) (sym (flat_types system code f d)) (fit_cells (types_of system) p.0.cells linked.0); no_choices = linked.1; no_sites = refl } in
        found_of values has axioms Anywhere steps x one a p ps [] r.0 linked.0 any linked.2 n
        (λ k l.
        let at : slice_get run k ≡ Some (position_at k run) = slice_get-get_or run k no_position (omega (arith, l, n)) in
        invariants_there (position_at k run).0 (states_fit p.0 p.1 [] r.0 ps linked.0 linked.2 k (position_at k run) at) (before k l))
        fails

  -- ---- the constants of an interpretation, and of a trace over cells

  abbrev model_of : Interp → Model
  model_of i = record { symbols = i.consts; tables = [] }

  constants_fit : (i : Interp) → IsAdmitted system i → FitAll (constant_types system) i.consts
  constants_fit i a = fit_cells (constant_types system) i.consts a.fits.constants

  model_shares : (i : Interp) → IsAdmitted system i → SharesConstants system i (model_of i)
  model_shares i a = shares_first system i (model_of i) [] (constants_fit i a) (sym (append-nil i.consts))

  model_has : (i : Interp) → IsAdmitted system i → HasConstants f i.consts (model_of i)
  model_has i a = record {
    fit = subst (λ ts. FitAll ts i.consts) (sym (flat_constant_types system code f d)) (constants_fit i a);
    others = [];
    symbols = sym (append-nil i.consts);
  }

  trace_fit : (t : FlatCopies) (m : Model) → HasConstants f t.constants m → FitAll (constant_types system) t.constants
  trace_fit t m has = subst (λ ts. FitAll ts t.constants) (flat_constant_types system code f d) has.fit

  trace_shares : (t : FlatCopies) (m : Model) → HasConstants f t.constants m → SharesConstants system (interpretation_of t) m
  trace_shares t m has = shares_first system (interpretation_of t) m has.others (trace_fit t m has) has.symbols

  admitted : (t : FlatCopies) (m : Model) → HasConstants f t.constants m → axioms_hold f m ≡ true → IsAdmitted system (interpretation_of t)
  unfolding FitTables
  admitted t m has axioms = record {
    fits = record {
      constants = fit_types (constant_types system) t.constants (trace_fit t m has);
      tables = subst (λ fs. FitTables fs []) (sym functions_none) tt;
    };
    axioms = axioms_here (interpretation_of t) m (trace_shares t m has) axioms;
  }

pub found_holds : FoundLaw
found_holds system code f command at x trace d c one of r = by_moment at of r.fails
  where
    a : IsInvariantOf (names_over_cells system code) code.decls x
    a = invariant_at system code f d x c one

    m : Model
    m = model_of system code f d trace.interp

    shares : SharesConstants system trace.interp m
    shares = model_shares system code f d trace.interp r.admitted

    axioms : axioms_hold f m ≡ true
    axioms = axioms_there system code f d trace.interp m shares r.admitted.axioms

    false_in : (copies : List (List Position)) (steps : ℕ) → IsFalseAt system trace.interp [] copies steps (formula_of system [] x.decl) → All (λ run. is_true system (scope_of trace.interp [] (position_at steps run).0) a.formula ≡ false) copies
    false_in copies steps h = subst (λ o. IsFalseAt system trace.interp [] copies steps o) (formula_is system code f d x a) h

    after : (line : ℕ) (moment : At) (steps : ℕ) (copies : List (List Position)) → FailsAfter system (line_of line moment x) steps trace.interp copies → (t : FlatCopies) × RefutesCopies f (line_over f Initially steps x) t
    after line moment steps [] h = absurd (omega (arith, h.runs.copied.number))
    after line moment steps (run ∷ (other ∷ rest)) h = absurd (omega (arith, h.runs.copied.number))
    after line moment steps (run ∷ []) h =
        found_in_run system code f d trace.interp m shares trace.interp.consts (model_has system code f d trace.interp r.admitted) axioms steps x one a run
        (All-head (IsRun system trace.interp) run [] h.runs.runs)
        (All-head (λ r. length r ≡ steps + 1) run [] h.runs.copied.even)
        (All-head (λ r. is_true system (scope_of trace.interp [] (position_at steps r).0) a.formula ≡ false) run [] (false_in (run ∷ []) steps h.fails))

    linked : (line : ℕ) (moment : At) (steps : ℕ) (copies : List (List Position)) → FailsInduction system (line_of line moment x) steps trace.interp copies → (t : FlatCopies) × RefutesCopies f (line_over f Anywhere steps x) t
    linked line moment steps [] h = absurd (omega (arith, h.copied.number))
    linked line moment steps (run ∷ (other ∷ rest)) h = absurd (omega (arith, h.copied.number))
    linked line moment steps (run ∷ []) h =
        found_in_links system code f d trace.interp m shares trace.interp.consts (model_has system code f d trace.interp r.admitted) axioms steps x one a run
        (All-head (λ r. (listed : List Site) × AreLinked system trace.interp r listed) run [] h.linked)
        (All-head (λ r. length r ≡ steps + 1) run [] h.copied.even)
        (λ k l. All-head (λ s. All (InvariantsIn system trace.interp s) (instances system)) (position_at k run).0 [] (h.invariants k l))
        (All-head (λ r. is_true system (scope_of trace.interp [] (position_at steps r).0) a.formula ≡ false) run [] (false_in (run ∷ []) steps h.fails))

    by_moment : (moment : At) → IsOfSteps moment → FailsIn system (line_of command at x) moment trace.interp trace.copies → (t : FlatCopies) × RefutesCopies f (line_over f (start_at moment) (steps_at moment) x) t
    by_moment (Exactly n) o h = after command at n trace.copies h
    by_moment (Base n) o h = after command at n trace.copies h
    by_moment (Step n) o h = linked command at n trace.copies h
    by_moment (Body n) o h = absurd o

-- ---- from a trace over cells

mapped_some : {A B : Type 0} (g : A → B) (xs : List A) (k : ℕ) (y : A) → slice_get xs k ≡ Some y → slice_get (map g xs) k ≡ Some (g y)
mapped_some g [] k y h = absurd (none_some y h)
mapped_some g (z ∷ xs) zero y h = ap (λ w. Some (g w)) (some_same z y h)
mapped_some g (z ∷ xs) (suc k) y h = mapped_some g xs k y h

-- a model that agrees on the constants shares them too
shares_too : (system : System) (code : Module) (f : Flat) → IsFlatOf system code f → (i : Interp) (m own : Model) → SharesConstants system i m → AgreeBelow (length f.constants) m own → SharesConstants system i own
shares_too system code f d i m own shares agrees = record {
  same = λ k ty at.
      let count : length f.constants ≡ length (constant_types system) = sym (length-map f.constants (λ c. c.ty)) ∙ ap length (flat_constant_types system code f d) in
      let within : k < length f.constants = omega (arith, count, slice_get_within (constant_types system) k ty at) in
      shares.same k ty at ∙ ap (fitting ty) (agrees.symbols k within);
}

module _ (system : System) (code : Module) (f : Flat) (d : IsFlatOf system code f) (i : Interp) (own : Model) (shares : SharesConstants system i own) where
  abbrev position : FlatPosition → Position
  position p = (state_of p.cells, p.choices)

  continues : (p : FlatPosition) (ps : List FlatPosition) → IsState system (state_of p.cells)
      → ((k : ℕ) (q r : FlatPosition) → slice_get (p ∷ ps) k ≡ Some q → slice_get (p ∷ ps) (k + 1) ≡ Some r → IsStepOver f own q.cells r.cells r.choices r.sites)
      → Continues system i (state_of p.cells) [] (map position ps) []
  unfolding Continues
  continues p [] fit h = refl
  continues p (q ∷ ps) fit h =
      let step = step_holds.here system code f i own p.cells q.cells q.choices q.sites d shares fit (h 0 p q refl refl) in (
        step.fits,
        [],
        subst (λ cs. IsStep system i (state_of p.cells) (state_of q.cells) cs []) (sym step.no_choices) step.step,
        continues q ps step.fits (λ k a b x y. h (suc k) a b x (ap (slice_get (p ∷ (q ∷ ps))) (sym (shifted k)) ∙ y)),
      )

  run_there : (steps : ℕ) (p : FlatPosition) (ps : List FlatPosition) → IsLinked f own Initially steps (p ∷ ps) → IsRunListing system i (positions_of (p ∷ ps)) []
  unfolding IsRunListing
  run_there steps p ps h =
      let initial = initial_holds.here system code f i own p.cells p.choices p.sites d shares (h.begins p refl) in
      (initial.fits, [], initial.initial, continues p ps initial.fits h.goes_on)

  links_there : (steps : ℕ) (p : FlatPosition) (ps : List FlatPosition) → IsLinked f own Anywhere steps (p ∷ ps) → AreLinked system i (positions_of (p ∷ ps)) []
  links_there steps p ps h =
      let any = h.begins p refl in
      let fit = fit_types (types_of system) p.cells (subst (λ ts. FitAll ts p.cells) (flat_types system code f d) any.fits) in
      (fit, any.no_choices, continues p ps fit h.goes_on)

  -- every state fits
  all_fit : (p : FlatPosition) (ps : List FlatPosition) (first : List Site) → IsState system (state_of p.cells) → Continues system i (state_of p.cells) first (map position ps) []
      → (k : ℕ) (q : FlatPosition) → slice_get (p ∷ ps) k ≡ Some q → IsState system (state_of q.cells)
  all_fit p ps first fit goes k q at = states_fit system code f d i own shares (state_of p.cells) p.choices first [] (map position ps) fit goes k (position q) (mapped_some position (p ∷ ps) k q at)

  -- the states of a copy that starts so, and that all of them fit
  record Stood (start : Start) (ps : List FlatPosition) : Type 0 where
    fits : (k : ℕ) (q : FlatPosition) → slice_get ps k ≡ Some q → IsState system (state_of q.cells)

  stood : (start : Start) (steps : ℕ) (ps : List FlatPosition) → IsLinked f own start steps ps → Stood start ps
  unfolding IsRunListing
  stood start steps [] h = absurd (omega (arith, h.count))
  stood Initially steps (p ∷ ps) h = let r = run_there steps p ps h in record { fits = all_fit p ps r.1 r.0 r.3 }
  stood Anywhere steps (p ∷ ps) h = let r = links_there steps p ps h in record { fits = all_fit p ps [] r.0 r.2 }

  is_run : (steps : ℕ) (ps : List FlatPosition) → IsLinked f own Initially steps ps → IsRun system i (positions_of ps)
  is_run steps [] h = absurd (omega (arith, h.count))
  is_run steps (p ∷ ps) h = ([], run_there steps p ps h)

  are_linked : (steps : ℕ) (ps : List FlatPosition) → IsLinked f own Anywhere steps ps → (listed : List Site) × AreLinked system i (positions_of ps) listed
  are_linked steps [] h = absurd (omega (arith, h.count))
  are_linked steps (p ∷ ps) h = ([], links_there steps p ps h)

module _ (system : System) (code : Module) (f : Flat) (d : IsFlatOf system code f) (i : Interp) (m : Model) (shares : SharesConstants system i m) where
  -- the states of the copy, as states of the design
  end_there : (ps : List FlatPosition) (k : ℕ) (q : FlatPosition) → slice_get ps k ≡ Some q → position_at k (positions_of ps) ≡ (state_of q.cells, q.choices)
  end_there ps k q at =
      let g : FlatPosition → Position = λ p. (state_of p.cells, p.choices) in
      get_or_from_slice_get (positions_of ps) k (g q) no_position (mapped_some g ps k q at)

  module _ (start : Start) (steps : ℕ) (x : Formula) (one : x.copies ≡ 1) (a : IsInvariantOf (names_over_cells system code) code.decls x) (ps : List FlatPosition) (count : length ps ≡ steps + 1)
      (fits : (k : ℕ) (q : FlatPosition) → slice_get ps k ≡ Some q → IsState system (state_of q.cells)) where
    at : (k : ℕ) → k < steps + 1 → (q : FlatPosition) × (slice_get ps k ≡ Some q)
    at k l = at_place ps k (omega (arith, l, count))

    false_here : not (asks f m (cells_at steps (ps ∷ [])) x) ≡ true → is_true system (scope_of i [] (position_at steps (positions_of ps)).0) a.formula ≡ false
    false_here h =
        let q = at steps (omega arith) in
        let here : asks f m (cells_at steps (ps ∷ [])) x ≡ holds_in f x m q.0.cells = asks_one f m (cells_in (slice_get ps steps)) x ∙ ap (λ o. holds_in f x m (cells_in o)) q.1 in
        ap (λ (z : Position). is_true system (scope_of i [] z.0) a.formula) (end_there ps steps q.0 q.1)
        ∙ says_same system code f d i m shares x one a q.0.cells (fits steps q.0 q.1)
        ∙ sym here ∙ not_true (asks f m (cells_at steps (ps ∷ [])) x) h
      where
        not_true : (b : Bool) → not b ≡ true → b ≡ false
        not_true true e = cc
        not_true false e = refl

    false_at : not (asks f m (cells_at steps (ps ∷ [])) x) ≡ true → IsFalseAt system i [] (positions_of ps ∷ []) steps (formula_of system [] x.decl)
    false_at h =
        let P : List Position → Type 0 = λ run. is_true system (scope_of i [] (position_at steps run).0) a.formula ≡ false in
        subst (λ o. IsFalseAt system i [] (positions_of ps ∷ []) steps o) (sym (formula_is system code f d x a)) (All-cons P (positions_of ps) [] (false_here h) (All-nil P))

    invariants_before : (k : ℕ) → k < steps → ask_all f m (cells_at k (ps ∷ [])) (supposed f x.copies) ≡ true → All (InvariantsIn system i (position_at k (positions_of ps)).0) (instances system)
    invariants_before k l h =
        let q = at k (omega (arith, l)) in
        let holds : list_all (λ y. holds_in f y m q.0.cells) (supposed f 1) ≡ true =
        sym (ask_all_one f m (cells_in (slice_get ps k)) (supposed f x.copies) ∙ ap (λ o. list_all (λ y. holds_in f y m (cells_in o)) (supposed f x.copies)) q.1 ∙ ap (λ c. list_all (λ y. holds_in f y m q.0.cells) (supposed f c)) one) ∙ h in
        subst (λ (z : Position). All (InvariantsIn system i z.0) (instances system)) (sym (end_there ps k q.0 q.1)) (invariants_here system code f d i m shares q.0.cells (fits k q.0 q.1) holds)

  abbrev Even : ℕ → List Position → Type 0
  Even steps run = length run ≡ steps + 1

  -- a copy from an initial state, and from any
  after_here : (line : ℕ) (moment : At) (steps : ℕ) (x : Formula) (t : FlatCopies) → x.copies ≡ 1 → IsInvariantOf (names_over_cells system code) code.decls x → (own : Model) → SharesConstants system i own
      → (ps : List FlatPosition) → IsLinked f own Initially steps ps → not (asks f m (cells_at steps (ps ∷ [])) x) ≡ true → FailsAfter system (line_of line moment x) steps i (positions_of ps ∷ [])
  after_here line moment steps x t one a own too ps h fails =
      let run = positions_of ps in
      let s = stood system code f d i own too Initially steps ps h in
      record {
        runs = record {
          copied = record { number = refl; even = All-cons (Even steps) run [] (length-map ps (λ p. (state_of p.cells, p.choices)) ∙ h.count) (All-nil (Even steps)) };
          runs = All-cons (IsRun system i) run [] (is_run system code f d i own too steps ps h) (All-nil (IsRun system i));
          agree = λ k l. hyper_none system code f d i 1 (states_at k (run ∷ []));
        };
        fails = false_at Initially steps x one a ps h.count s.fits fails;
      }

  linked_here : (line : ℕ) (moment : At) (steps : ℕ) (x : Formula) (t : FlatCopies) → x.copies ≡ 1 → IsInvariantOf (names_over_cells system code) code.decls x → (own : Model) → SharesConstants system i own
      → (ps : List FlatPosition) → IsLinked f own Anywhere steps ps → ((k : ℕ) → k < steps → ask_all f m (cells_at k (ps ∷ [])) (supposed f x.copies) ≡ true)
      → not (asks f m (cells_at steps (ps ∷ [])) x) ≡ true → FailsInduction system (line_of line moment x) steps i (positions_of ps ∷ [])
  linked_here line moment steps x t one a own too ps h before fails =
      let run = positions_of ps in
      let s = stood system code f d i own too Anywhere steps ps h in
      let Links : List Position → Type 0 = λ r. (listed : List Site) × AreLinked system i r listed in
      let Invariants : State → Type 0 = λ z. All (InvariantsIn system i z) (instances system) in
      record {
        copied = record { number = refl; even = All-cons (Even steps) run [] (length-map ps (λ p. (state_of p.cells, p.choices)) ∙ h.count) (All-nil (Even steps)) };
        linked = All-cons Links run [] (are_linked system code f d i own too steps ps h) (All-nil Links);
        invariants = λ k l. All-cons Invariants (position_at k run).0 [] (invariants_before Anywhere steps x one a ps h.count s.fits k l (before k l)) (All-nil Invariants);
        hyperinvariants = λ k l. hypers_none system code f d i 1 (states_at k (run ∷ []));
        hyperaxioms = λ k l. hyper_none system code f d i 1 (states_at k (run ∷ []));
        fails = false_at Anywhere steps x one a ps h.count s.fits fails;
      }

pub refuted_holds : RefutedLaw
refuted_holds system code f command at x t d c one of r = record { admitted = admits; fails = by_moment at of r }
  where
    a : IsInvariantOf (names_over_cells system code) code.decls x
    a = invariant_at system code f d x c one

    i : Interp
    i = interpretation_of t

    admits : IsAdmitted system i
    admits = admitted system code f d t r.model r.constants r.axioms

    after : (moment : At) (steps : ℕ) (copies : List (List FlatPosition)) → RefutesCopies f (line_over f Initially steps x) (record { constants = t.constants; copies = copies }) → FailsAfter system (line_of command moment x) steps i (map positions_of copies)
    after moment steps [] h = absurd (omega (arith, h.number, one))
    after moment steps (ps ∷ (other ∷ rest)) h = absurd (omega (arith, h.number, one))
    after moment steps (ps ∷ []) h =
        let copy = All-head (IsCopy f h.model Initially steps) ps [] h.linked in
        let shares = trace_shares system code f d t h.model h.constants in
        after_here system code f d i h.model shares command moment steps x t one a copy.own (shares_too system code f d i h.model copy.own shares copy.agrees) ps copy.linked h.fails

    linked : (moment : At) (steps : ℕ) (copies : List (List FlatPosition)) → RefutesCopies f (line_over f Anywhere steps x) (record { constants = t.constants; copies = copies }) → FailsInduction system (line_of command moment x) steps i (map positions_of copies)
    linked moment steps [] h = absurd (omega (arith, h.number, one))
    linked moment steps (ps ∷ (other ∷ rest)) h = absurd (omega (arith, h.number, one))
    linked moment steps (ps ∷ []) h =
        let copy = All-head (IsCopy f h.model Anywhere steps) ps [] h.linked in
        let shares = trace_shares system code f d t h.model h.constants in
        linked_here system code f d i h.model shares command moment steps x t one a copy.own (shares_too system code f d i h.model copy.own shares copy.agrees) ps copy.linked h.before h.fails

    by_moment : (moment : At) → IsOfSteps moment → RefutesCopies f (line_over f (start_at moment) (steps_at moment) x) t → FailsIn system (line_of command at x) moment i (map positions_of t.copies)
    by_moment (Exactly n) o h = after at n t.copies h
    by_moment (Base n) o h = after at n t.copies h
    by_moment (Step n) o h = linked at n t.copies h
    by_moment (Body n) o h = absurd o
