-- The design over cells of a design is sound, and reads its constants at their types.
use Rattle.std.proofs.Common.{◌≡◌, ℕ, zero, suc, ◌+◌, ◌<◌, ◌≤◌, List, [], ◌∷◌, ◌++◌, map, length, take, refl, sym, ap, ◌∙◌, subst, true, false, Bool, Some, None, arith, slice_get, append-nil}
use Rattle.std.specs.Prelude.{if◌then◌else◌, slice_set, All}
use Rattle.std.proofs.lemmas.List.{length-map, length-append}
use Rattle.std.proofs.lemmas.List.Elements.{All-cons, All-head, All-tail, All-append, All-weaker}
use Rattle.std.proofs.lemmas.Option.{none-some, same_Some, slice_get_within}
use Rattle.uc_syntax.specs.declared.expression.Expr.{Expr}
use Rattle.uc_syntax.specs.declared.declaration.Module.{Module}
use Rattle.uc_values.specs.declared.ty.Ty.{Ty}
use Rattle.uc_values.specs.declared.value.Value.{Value}
use Rattle.uc_values.specs.Values.{fits, zero_of}
use Rattle.uc_values.proofs.Shapes.{and_true}
use Rattle.uc_values.proofs.Fitting.{zero-fits}
use Rattle.uc_meaning.specs.Lookup.{System, init_of}
use Rattle.uc_meaning.specs.Types.{type_of_written}
use Rattle.uc_meaning.specs.Cells.{Cell, cells_of}
use Rattle.uc_meaning.specs.Expressions.{reading}
use Rattle.uc_meaning.specs.Steps.{is_input}
use Rattle.uc_ops.specs.Typing.{Valid, AllValid}
use Rattle.uc_ops.specs.Meaning.{part}
use Rattle.uc_flat.specs.declared.expression.Expression.{Expression}
use Rattle.uc_flat.specs.declared.flat.Flat.{Flat}
use Rattle.uc_flat.specs.declared.flat.Formula.{Formula}
use Rattle.uc_flat.specs.declared.statement.Statement.{Statement}
use Rattle.uc_flat.specs.declared.statement.Statement.TheVariants.{Havoc}
use Rattle.uc_flat.specs.Fine.{IsTyped, IsTest, AreFine, ReadsBelow, CodeReadsBelow, ReadsTyped}
use Rattle.uc_flat.specs.Reading.{type_of}
use Rattle.uc_flat.specs.Executions.{FitAll}
use Rattle.uc_flat.specs.Flats.{cell_types, wider_types, repeated, axioms_of, IsFormula, IsSound}
use Rattle.uc_flat.proofs.Making.{Alone, fine_alone}
use Rattle.uc_symstep.specs.Known.{CodeReadsTyped, constants_typed, ReadsOwnTypes}
use Rattle.uc_flat_expressions.specs.declared.typed.TypedExpression.{TypedExpression}
use Rattle.uc_flat_expressions.specs.declared.typed.Meant.{Meant}
use Rattle.uc_flat_expressions.specs.declared.typed.Meant.TheVariants.{Cell as CellOf}
use Rattle.uc_flat_expressions.specs.Expressions.{flat_of}
use Rattle.uc_flat_design.specs.Sayings.{Says}
use Rattle.uc_flat_design.proofs.Telling.{flat_says}
use Rattle.uc_flat_design.specs.Names.{StandsAlone, names_over_cells, types_of, names_of_constants, constant_types}
use Rattle.uc_flat_design.specs.Constants.{SharesConstants}
use Rattle.uc_flat_design.proofs.Cells.{cell_type}
use Rattle.uc_flat_code.specs.CellTypes.{is_cell_type, cell_type_of}
use Rattle.uc_flat_code.specs.Init.{init_code}
use Rattle.uc_flat_design.proofs.Entries.{entry}
use Rattle.uc_flat_design.proofs.Locals.{Held, names_with, Stands, FitHeld, later, scope_with}
use Rattle.uc_flat_design.proofs.Names.{held_meant}
use Rattle.uc_flat_laws.specs.Fits.{AreCellsOf, AreWritten, ExpressionsFit, ExpressionsReadTyped, ReadsCellTypes, HasLocals, without, passed, with_local}
use Rattle.uc_flat_laws.proofs.Conditions.{boolean_is}
use Rattle.uc_flat_laws.proofs.Standing.{Everywhere, nowhere, both, one_havoc}
use Rattle.uc_flat_laws.proofs.Suiting.{code_gives}
use Rattle.uc_flat_laws.proofs.Typing.{AloneTyped, typed_alone}
use Rattle.uc_flat_laws.proofs.Laws.{fits_suited, typed_suited, step_holds}
use Rattle.uc_flat_laws.proofs.Initial.{init_holds, init_typed_holds}
use Rattle.uc_flat_design.specs.Next.{primed_behind, inputs_from, step_code}
use Rattle.uc_flat_design.specs.Design.{next_names, next_arranged, IsFlatOf}
use Rattle.uc_flat_design.proofs.Formulas.{axioms_read, invariants_read}
use Rattle.uc_flat_design.proofs.Tables.{all_valid, zero_interpretation, zero_model, zeros_fit, zero_shared, says_at_zeros, axiom_says_at_zeros}
use Rattle.uc_flat_design.proofs.NextTable.{next_table, next_says_at_zeros}
use Rattle.uc_flat_design.proofs.Laws.{alone_of, flat_types, flat_further, flat_init_types, flat_constant_types}
use Rattle.uc_flat_laws.specs.Law.{SoundLaw, OwnTypesLaw, ValidConstantsLaw}

valid_append : (xs ys : List Ty) → AllValid xs → AllValid ys → AllValid (xs ++ ys)
valid_append [] ys f g = g
valid_append (x ∷ xs) ys f g = All-cons Valid x (xs ++ ys) (All-head Valid x xs f) (valid_append xs ys (All-tail Valid x xs f) g)

-- the inputs have cells of the new state
inputs_fine : (types : List Ty) (cells : List Cell) (n : ℕ) → ((k : ℕ) → k < length cells → (ty : Ty) × (slice_get types (n + k) ≡ Some ty) × Valid ty) → Everywhere (Alone types) (inputs_from n cells)
unfolding inputs_from
inputs_fine types [] n h = nowhere (Alone types)
inputs_fine types (c ∷ cells) n h =
    both (Alone types) (if is_input c.kind then Havoc n false ∷ [] else []) (inputs_from (n + 1) cells) (by_kind (is_input c.kind))
    (inputs_fine types cells (n + 1) (λ k l. moved k (h (suc k) (omega (arith, l)))))
  where
    here : (ty : Ty) × (slice_get types n ≡ Some ty) × Valid ty
    here = let a = h 0 (omega arith) in (a.0, ap (slice_get types) (omega arith) ∙ a.1, a.2)

    by_kind : (b : Bool) → Everywhere (Alone types) (if b then Havoc n false ∷ [] else [])
    by_kind true = one_havoc (Alone types) n false here
    by_kind false = nowhere (Alone types)

    moved : (k : ℕ) → ((ty : Ty) × (slice_get types (n + suc k) ≡ Some ty) × Valid ty) → (ty : Ty) × (slice_get types (n + 1 + k) ≡ Some ty) × Valid ty
    moved k a = (a.0, ap (slice_get types) (omega arith) ∙ a.1, a.2)

inputs_read : (constants : List Ty) (cells : List Cell) (n : ℕ) → Everywhere (AloneTyped constants) (inputs_from n cells)
unfolding inputs_from
inputs_read constants [] n = nowhere (AloneTyped constants)
inputs_read constants (c ∷ cells) n =
    both (AloneTyped constants) (if is_input c.kind then Havoc n false ∷ [] else []) (inputs_from (n + 1) cells) (by_kind (is_input c.kind)) (inputs_read constants cells (n + 1))
  where
    by_kind : (b : Bool) → Everywhere (AloneTyped constants) (if b then Havoc n false ∷ [] else [])
    by_kind true = one_havoc (AloneTyped constants) n false tt
    by_kind false = nowhere (AloneTyped constants)

there : (types : List Ty) (k : ℕ) → AllValid types → k < length types → (ty : Ty) × (slice_get types k ≡ Some ty) × Valid ty
there [] k v l = absurd (omega (arith, l))
there (t ∷ types) zero v l = (t, refl, All-head Valid t types v)
there (t ∷ types) (suc k) v l = there types k (All-tail Valid t types v) (omega (arith, l))

get_behind : (xs ys : List Ty) (n k : ℕ) → n ≡ length xs → slice_get (xs ++ ys) (n + k) ≡ slice_get ys k
get_behind [] ys n k h = ap (slice_get ys) (omega (arith, h))
get_behind (x ∷ xs) ys zero k h = absurd (omega (arith, h))
get_behind (x ∷ xs) ys (suc n) k h = ap (slice_get (x ∷ (xs ++ ys))) (shifted n k) ∙ get_behind xs ys n k (omega (arith, h))
  where
    shifted : (a b : ℕ) → suc a + b ≡ suc (a + b)
    shifted a b = omega arith

take_front : {A : Type 0} (xs ys : List A) → take (length xs) (xs ++ ys) ≡ xs
take_front [] ys = refl
take_front (x ∷ xs) ys = ap (λ zs. x ∷ zs) (take_front xs ys)

-- ---- the values that count as 0

part_zero : (types : List Ty) (k : ℕ) (ty : Ty) → slice_get types k ≡ Some ty → part (map zero_of types) k ≡ zero_of ty
part_zero [] k ty h = absurd (none-some ty h)
part_zero (t ∷ types) zero ty h = ap zero_of (same_Some t ty h)
part_zero (t ∷ types) (suc k) ty h = part_zero types k ty h

take_zeros : (types more : List Ty) → take (length types) (map zero_of (types ++ more)) ≡ map zero_of types
take_zeros [] more = refl
take_zeros (t ∷ types) more = ap (λ vs. zero_of t ∷ vs) (take_zeros types more)

-- constants that are read at their types are there
below : (constants : List Ty) (e : Expression) → ReadsTyped constants e → ReadsBelow (length constants) e
below constants e h k ty parts within = slice_get_within constants k ty (h k ty parts within)

code_below : (constants : List Ty) (code : List Statement) → CodeReadsTyped constants code → CodeReadsBelow (length constants) code
code_below constants code h = record {
  assigns = λ k e d. below constants e (h.assigns k e d);
  assumes = λ e d. below constants e (h.assumes e d);
  asserts = λ s e d. below constants e (h.asserts s e d);
  decides = λ e xs ys d. below constants e (h.decides e xs ys d);
}

module _ (system : System) (code : Module) (f : Flat) (d : IsFlatOf system code f) where
  abbrev types : List Ty
  types = types_of system

  abbrev constants : List Ty
  constants = constant_types system

  abbrev names : List Meant
  names = names_over_cells system code

  alone : StandsAlone system code
  alone = alone_of system code f d

  shared : SharesConstants system (zero_interpretation system) (zero_model system)
  shared = zero_shared system d.constants

  valid : AllValid types
  valid = all_valid types d.types

  fit : ExpressionsFit names types
  fit e t h = let x = says_at_zeros system code alone d.types d.constants e t h in (x.typed, x.own)

  reads : ExpressionsReadTyped names constants
  reads e t h = (says_at_zeros system code alone d.types d.constants e t h).reads

  cells_of_names : AreCellsOf names types
  cells_of_names x k new ty h =
      let a = entry system code x k new ty h in
      cell_type system code x k a.kind a.type alone a.has_cells a.variable a.cell ∙ ap Some a.own

  even : length (cells_of system) ≡ length types
  even = sym (length-map (cells_of system) (λ (c : Cell). c.type))

  -- the same of the next block, over the cells of both states
  abbrev between : List Meant
  between = next_names system code

  fit_twice : ExpressionsFit between (types ++ types)
  fit_twice e t h = let x = next_says_at_zeros system code alone d.types d.constants e t h in (x.typed, x.own)

  reads_twice : ExpressionsReadTyped between constants
  reads_twice e t h = (next_says_at_zeros system code alone d.types d.constants e t h).reads

  cells_between : AreCellsOf between types
  cells_between x k new ty h = ((next_table system code alone (zero_model system) d.types d.constants (zero_interpretation system) shared).cells x k new ty h).typed

  -- ---- init code, with its further cells

  abbrev further : List Expression
  further = d.init.further

  abbrev wide : List Ty
  wide = wider_types types further

  abbrev zeros : List Value
  zeros = map zero_of wide

  fit_zeros : FitAll types (take (length types) zeros)
  fit_zeros = subst (FitAll types) (sym (take_zeros types (map (type_of types) further))) (zeros_fit types d.types)

  only_cell_types : ReadsCellTypes (cell_type_of system code)
  only_cell_types e ty h = by_test (is_cell_type (type_of_written system code e)) refl h
    where
      by_test : (b : Bool) → is_cell_type (type_of_written system code e) ≡ b → (if b then Some (type_of_written system code e) else None) ≡ Some ty → is_cell_type ty ≡ true
      by_test true q r = ap is_cell_type (sym (same_Some (type_of_written system code e) ty r)) ∙ q
      by_test false q r = absurd (none-some ty r)

  -- what names stand for where there are locals, by a list of these
  record IsHeldBy (others : List Meant) (k : ℕ) : Type 0 where
    pub locals : List Held
    pub is : names_with names locals ≡ others
    pub stands : Stands wide (length types) locals k
    pub fit : FitHeld zeros locals

  held_by : (others : List Meant) (k : ℕ) → HasLocals names wide (length types) others k → IsHeldBy others k
  held_by others k without = record { locals = []; is = refl; stands = omega arith; fit = tt }
  held_by others k (passed names' j h) =
      let r = held_by names' j h in
      record { locals = r.locals; is = r.is; stands = later wide (length types) r.locals j (j + 1) r.stands (omega arith); fit = r.fit }
  held_by others k (with_local names' j x ty h at good) =
      let r = held_by names' j h in
      let local : Held = record { name = x; ty = ty; cell = j } in
      let valid : Valid ty = (and_true good).0 in
      record {
        locals = local ∷ r.locals;
        is = ap (λ ns. slice_set ns x (CellOf j None ty)) r.is;
        stands = (omega arith, at, valid, r.stands);
        fit = (ap (fits ty) (part_zero wide j ty at) ∙ zero-fits ty valid, r.fit);
      }

  says_with : (others : List Meant) (k : ℕ) (r : IsHeldBy others k) (e : Expr) (t : TypedExpression) → flat_of others e ≡ Some t
      → Says constants (zero_model system) wide zeros (reading system (scope_with (zero_interpretation system) (length types) zeros r.locals) e) t
  says_with others k r e t h =
      flat_says system (scope_with (zero_interpretation system) (length types) zeros r.locals) constants (zero_model system) wide zeros (names_with names r.locals) e t
      (held_meant system code (zero_interpretation system) (zero_model system) (map (type_of types) further) alone shared (all_valid constants d.constants) valid r.locals k zeros r.stands fit_zeros r.fit)
      (ap (λ ns. flat_of ns e) r.is ∙ h)

  fit_with : (others : List Meant) (k : ℕ) → HasLocals names wide (length types) others k → ExpressionsFit others wide
  fit_with others k h e t is = let x = says_with others k (held_by others k h) e t is in (x.typed, x.own)

  reads_with : (others : List Meant) (k : ℕ) → HasLocals names wide (length types) others k → ExpressionsReadTyped others constants
  reads_with others k h e t is = (says_with others k (held_by others k h) e t is).reads

  init_is : init_code (cell_type_of system code) names (length types) (init_of code) ≡ Some d.init
  init_is = ap (λ n. init_code (cell_type_of system code) names n (init_of code)) (sym even) ∙ d.init_is

  init_fine : AreFine wide d.init.code × All (IsTyped types) further
  init_fine = init_holds (cell_type_of system code) names types (init_of code) d.init only_cell_types cells_of_names d.types fit_with init_is

  init_reads : CodeReadsTyped constants d.init.code × All (ReadsTyped constants) further
  init_reads = init_typed_holds (cell_type_of system code) names types constants (init_of code) d.init only_cell_types cells_of_names d.types reads_with init_is

  next_written : AreWritten between (primed_behind (length (cells_of system))) (types ++ types)
  next_written = subst (λ n. AreWritten between (record { primed = true; shift = n }) (types ++ types)) (sym even) (step_holds between types cells_between)

  step_fine : Everywhere (Alone (types ++ types)) (step_code (cells_of system) d.next)
  step_fine = both (Alone (types ++ types)) (inputs_from (length (cells_of system)) (cells_of system)) d.next
      (inputs_fine (types ++ types) (cells_of system) (length (cells_of system)) (λ k l.
      let a = there types k valid (omega (arith, l, even)) in
      (a.0, get_behind types types (length (cells_of system)) k even ∙ a.1, a.2)))
      (code_gives between (primed_behind (length (cells_of system))) (Alone (types ++ types)) (fits_suited between (primed_behind (length (cells_of system))) (types ++ types) fit_twice next_written (valid_append types types valid valid)) (next_arranged system code) d.next d.next_is)

  step_reads : CodeReadsTyped constants (step_code (cells_of system) d.next)
  step_reads = typed_alone constants (step_code (cells_of system) d.next)
      (both (AloneTyped constants) (inputs_from (length (cells_of system)) (cells_of system)) d.next (inputs_read constants (cells_of system) (length (cells_of system)))
      (code_gives between (primed_behind (length (cells_of system))) (AloneTyped constants) (typed_suited between (primed_behind (length (cells_of system))) constants reads_twice) (next_arranged system code) d.next d.next_is))

  -- ---- formulas

  abbrev Fits : Formula → Type 0
  Fits x = IsTest (repeated x.copies types) x.condition × ReadsTyped constants x.condition

  axioms_fit : All Fits d.axioms
  unfolding repeated
  axioms_fit = axioms_read Fits (names_of_constants system code) code.decls
      (λ n place name e t at flat b.
      let x = axiom_says_at_zeros system code alone d.constants e t flat in
      (record { typed = x.typed; boolean = x.own ∙ boolean_is t.ty b }, x.reads))
      d.axioms d.axioms_are

  invariants_fit : All Fits d.formulas
  unfolding repeated
  invariants_fit = invariants_read Fits names code.decls
      (λ n place i e t at flat b.
      let x = says_at_zeros system code alone d.types d.constants e t flat in
      let test : IsTest types t.expression = record { typed = x.typed; boolean = x.own ∙ boolean_is t.ty b } in
      (subst (λ ts. IsTest ts t.expression) (sym (append-nil types)) test, x.reads))
      d.formulas d.formulas_are

  formulas_fit : All Fits f.formulas
  formulas_fit = subst (λ (g : Flat). All Fits g.formulas) (sym d.is) (All-append Fits d.axioms d.formulas axioms_fit invariants_fit)

  -- ---- of the design over cells

  typed : constants_typed f ≡ constants
  typed = flat_constant_types system code f d

  further_is : f.further ≡ further
  further_is = flat_further system code f d

  init_code_is : f.init ≡ d.init.code
  init_code_is = ap (λ (g : Flat). g.init) d.is

  own_types : ReadsOwnTypes f
  own_types = record {
    further = subst (λ ts. All (ReadsTyped ts) f.further) (sym typed) (subst (All (ReadsTyped constants)) (sym further_is) init_reads.1);
    init = subst (λ ts. CodeReadsTyped ts f.init) (sym typed) (subst (CodeReadsTyped constants) (sym init_code_is) init_reads.0);
    step = subst (λ ts. CodeReadsTyped ts f.step) (sym typed) (subst (λ (g : Flat). CodeReadsTyped constants g.step) (sym d.is) step_reads);
    formulas = All-weaker Fits (λ (x : Formula). ReadsTyped (constants_typed f) x.condition) (λ x a. subst (λ ts. ReadsTyped ts x.condition) (sym typed) a.1) f.formulas formulas_fit;
  }

  counted : length (constants_typed f) ≡ length f.constants
  counted = length-map f.constants (λ c. c.ty)

  formula_fits : (x : Formula) → Fits x → IsFormula f x
  formula_fits x a = record {
    test = subst (λ ts. IsTest (repeated x.copies ts) x.condition) (sym (flat_types system code f d)) a.0;
    reads = subst (λ n. ReadsBelow n x.condition) (ap length (sym typed) ∙ counted) (below constants x.condition a.1);
  }

  sound : IsSound f
  sound = record {
    valid = subst AllValid (sym (flat_types system code f d)) valid;
    further = subst (λ ts. All (IsTyped ts) f.further) (sym (flat_types system code f d)) (subst (All (IsTyped types)) (sym further_is) init_fine.1);
    further_reads = All-weaker (ReadsTyped (constants_typed f)) (ReadsBelow (length f.constants)) (λ e h. subst (λ n. ReadsBelow n e) counted (below (constants_typed f) e h)) f.further own_types.further;
    init = subst (λ ts. AreFine ts f.init) (sym (flat_init_types system code f d)) (subst (AreFine wide) (sym init_code_is) init_fine.0);
    init_reads = subst (λ n. CodeReadsBelow n f.init) counted (code_below (constants_typed f) f.init own_types.init);
    step = subst (λ (g : Flat). AreFine (cell_types f ++ cell_types f) g.step) (sym d.is)
        (subst (λ ts. AreFine (ts ++ ts) (step_code (cells_of system) d.next)) (sym (flat_types system code f d)) (fine_alone (types ++ types) (step_code (cells_of system) d.next) step_fine.at));
    step_reads = subst (λ n. CodeReadsBelow n f.step) counted (code_below (constants_typed f) f.step own_types.step);
    formulas = All-weaker Fits (IsFormula f) formula_fits f.formulas formulas_fit;
    axioms = subst (λ (g : Flat). g.axioms ≤ length g.formulas) (sym d.is) (fewer d.axioms d.formulas);
    no_copy = subst (λ (g : Flat). All (λ (x : Formula). x.copies ≡ 0) (axioms_of g)) (sym d.is)
        (subst (All (λ (x : Formula). x.copies ≡ 0)) (sym (take_front d.axioms d.formulas))
        (axioms_read (λ (x : Formula). x.copies ≡ 0) (names_of_constants system code) code.decls (λ n place name e t at flat b. refl) d.axioms d.axioms_are));
  }
    where
      fewer : (xs ys : List Formula) → length xs ≤ length (xs ++ ys)
      fewer xs ys = omega (arith, length-append xs ys)

pub sound_holds : SoundLaw
sound_holds system code f d = sound system code f d

pub own_types_hold : OwnTypesLaw
own_types_hold system code f d = own_types system code f d

pub valid_constants_hold : ValidConstantsLaw
valid_constants_hold system code f d = subst AllValid (sym (flat_constant_types system code f d)) (all_valid (constant_types system) d.constants)
