-- The table of names of a design is one for its init code and for its next block.
use Rattle.std.proofs.Common.{◌≡◌, List, [], ◌∷◌, map, refl, sym, ap, ◌∙◌, subst, true, false, Bool, Some, None, append-nil}
use Rattle.std.specs.Prelude.{◌&&◌, All}
use Rattle.std.specs.List.{list_all, filter_map}
use Rattle.std.proofs.lemmas.List.Elements.{All-cons, All-nil}
use Rattle.uc_syntax.specs.declared.expression.Expr.{Expr}
use Rattle.uc_syntax.specs.declared.declaration.Decl.{Decl}
use Rattle.uc_syntax.specs.declared.declaration.Decl.TheVariants.{Instance}
use Rattle.uc_syntax.specs.declared.declaration.Module.{Module}
use Rattle.uc_values.specs.declared.ty.Field.{Field}
use Rattle.uc_values.specs.declared.ty.Ty.{Ty}
use Rattle.uc_values.specs.declared.ty.Ty.TheFolds.{fold-roll-Ty, ind-Ty, map-Ty}
use Rattle.uc_values.specs.declared.ty.Ty.TheViews.{roll-Ty}
use Rattle.uc_values.specs.declared.ty.Ty.TheOpen.{Ty-F}
use Rattle.uc_values.specs.declared.ty.Ty.TheOpen.Ty-F.{Bool as boolean_type, Int as integer_type, Bv as bits_type, Rec as record_type, Arr as array_type, Enum as enum_type, Un as open_type}
use Rattle.uc_values.specs.declared.ty.Ty.TheVariants.{Rec as Record, Arr as Array, rolls-Rec, rolls-Arr}
use Rattle.uc_values.specs.declared.value.Value.{Value}
use Rattle.uc_values.specs.Values.{fits, zero_of}
use Rattle.uc_values.proofs.Shapes.{and_true, all_mapped}
use Rattle.uc_values.proofs.Fitting.{zero-fits}
use Rattle.uc_meaning.specs.declared.scope.Interp.{Interp}
use Rattle.uc_meaning.specs.declared.scope.Scope.{Scope}
use Rattle.uc_meaning.specs.Lookup.{System, instance_in}
use Rattle.uc_meaning.specs.Cells.{FitAll as FitTypes}
use Rattle.uc_meaning.specs.Expressions.{reading}
use Rattle.uc_meaning.specs.Plain.{IsTop}
use Rattle.uc_meaning.specs.Steps.{state_of}
use Rattle.uc_ops.specs.declared.model.Model.{Model}
use Rattle.uc_ops.specs.Typing.{Valid, AllValid}
use Rattle.uc_flat.specs.Executions.{FitAll}
use Rattle.uc_flat_expressions.specs.declared.typed.TypedExpression.{TypedExpression}
use Rattle.uc_flat_expressions.specs.Expressions.{flat_of}
use Rattle.uc_flat_design.specs.Sayings.{Says}
use Rattle.uc_flat_design.proofs.Telling.{flat_says}
use Rattle.uc_flat_design.specs.Names.{StandsAlone, names_over_cells, types_of, names_of_constants, constant_types}
use Rattle.uc_flat_design.specs.Constants.{SharesConstants}
use Rattle.uc_flat_design.proofs.Meaning.{names_hold, constants_hold}
use Rattle.uc_flat_design.proofs.Sharing.{shares_first}
use Rattle.uc_flat_design.specs.Tables.{IsSaid}
use Rattle.uc_flat_design.specs.FlatInitLawLaw.{now}
use Rattle.uc_values.specs.Same.{has_no_array, no_array_form}
use Rattle.uc_values.proofs.SameValuesSame.{no_array-Rec}
use Rattle.uc_flat_code.specs.CellTypes.{is_finite, is_finite_form, is_cell_type}
use Rattle.uc_flat_design.specs.Design.{is_built}

-- ---- fitting values, by the definitions of designs and of cells

pub fit_cells : (types : List Ty) (values : List Value) → FitTypes types values → FitAll types values
unfolding FitAll FitTypes
fit_cells [] [] h = tt
fit_cells [] (v ∷ values) h = absurd h
fit_cells (t ∷ types) [] h = absurd h
fit_cells (t ∷ types) (v ∷ values) h = (h.0, fit_cells types values h.1)

pub fit_types : (types : List Ty) (values : List Value) → FitAll types values → FitTypes types values
unfolding FitAll FitTypes
fit_types [] [] h = tt
fit_types [] (v ∷ values) h = absurd h
fit_types (t ∷ types) [] h = absurd h
fit_types (t ∷ types) (v ∷ values) h = (h.0, fit_types types values h.1)

-- ---- types of finitely many values

finite-Rec : (fs : List (Field Ty)) → is_finite (Record fs) ≡ list_all (λ (f : Field Ty). is_finite f.ty) fs
finite-Rec fs = ap is_finite (sym (rolls-Rec fs)) ∙ fold-roll-Ty Bool is_finite_form (record_type fs) ∙ all_mapped is_finite (λ b. b) fs

finite-Arr : (i e : Ty) → is_finite (Array i e) ≡ false
finite-Arr i e = ap is_finite (sym (rolls-Arr i e)) ∙ fold-roll-Ty Bool is_finite_form (array_type i e)

false_true : false ≡ true → ⊥
false_true h = cc

abbrev Plain : Ty → Type 0
Plain ty = is_finite ty ≡ true → has_no_array ty ≡ true

abbrev Proved : Type 0
Proved = (ty : Ty) × Plain ty

abbrev firsts : Field Proved → Field Ty
firsts f = record { name = f.name; ty = f.ty.0 }

fields_plain : (ps : List (Field Proved)) → list_all (λ (f : Field Ty). is_finite f.ty) (map firsts ps) ≡ true → list_all (λ (f : Field Ty). has_no_array f.ty) (map firsts ps) ≡ true
fields_plain [] h = refl
fields_plain (p ∷ ps) h =
    let b = and_true h in
    ap (λ c. c && list_all (λ (f : Field Ty). has_no_array f.ty) (map firsts ps)) (p.ty.1 b.0) ∙ fields_plain ps b.1

plain_cases : (y : Ty-F Proved) → Plain (roll-Ty (map-Ty Proved Ty (λ e. e.0) y))
plain_cases boolean_type = λ h. fold-roll-Ty Bool no_array_form boolean_type
plain_cases integer_type = λ h. fold-roll-Ty Bool no_array_form integer_type
plain_cases (bits_type w) = λ h. fold-roll-Ty Bool no_array_form (bits_type w)
plain_cases (enum_type n k) = λ h. fold-roll-Ty Bool no_array_form (enum_type n k)
plain_cases (open_type n) = λ h. fold-roll-Ty Bool no_array_form (open_type n)
plain_cases (record_type ps) = subst Plain (sym (rolls-Rec (map firsts ps))) (λ h. no_array-Rec (map firsts ps) ∙ fields_plain ps (sym (finite-Rec (map firsts ps)) ∙ h))
plain_cases (array_type i e) = subst Plain (sym (rolls-Arr i.0 e.0)) (λ h. absurd (false_true (sym (finite-Arr i.0 e.0) ∙ h)))

plain : (ty : Ty) → Plain ty
plain = ind-Ty Plain (λ x y is. subst (λ z. Plain (roll-Ty z)) is (plain_cases y))

pub all_plain : (types : List Ty) → list_all is_cell_type types ≡ true → All (λ ty. has_no_array ty ≡ true) types
all_plain [] h = All-nil (λ ty. has_no_array ty ≡ true)
all_plain (t ∷ types) h = let b = and_true h in All-cons (λ ty. has_no_array ty ≡ true) t types (plain t (and_true b.0).1) (all_plain types b.1)

pub all_valid : (types : List Ty) → list_all is_cell_type types ≡ true → AllValid types
all_valid [] h = All-nil Valid
all_valid (t ∷ types) h = let b = and_true h in All-cons Valid t types (and_true b.0).0 (all_valid types b.1)

-- each type has a value
pub zeros_fit : (types : List Ty) → list_all is_cell_type types ≡ true → FitAll types (map zero_of types)
unfolding FitAll
zeros_fit [] h = tt
zeros_fit (t ∷ types) h = let b = and_true h in (zero-fits t (and_true b.0).0, zeros_fit types b.1)

-- ---- one module in use

no_instance : (d : Decl) → is_built d ≡ true → instance_in d ≡ None
no_instance (Instance place i m bindings) h = cc
no_instance other h = refl

pub no_instances : (decls : List Decl) → list_all is_built decls ≡ true → filter_map instance_in decls ≡ []
no_instances [] h = refl
no_instances (d ∷ decls) h = let b = and_true h in rw (no_instance d b.0) (no_instances decls b.1)

-- ---- tables

-- Where all constants have the values that count as 0: an interpretation, and a model.
abbrev pub zero_interpretation : System → Interp
zero_interpretation system = record { consts = map zero_of (constant_types system); tables = [] }

abbrev pub zero_model : System → Model
zero_model system = record { symbols = map zero_of (constant_types system); tables = [] }

pub zero_shared : (system : System) → list_all is_cell_type (constant_types system) ≡ true → SharesConstants system (zero_interpretation system) (zero_model system)
zero_shared system constants_fit =
    shares_first system (zero_interpretation system) (zero_model system) [] (zeros_fit (constant_types system) constants_fit) (sym (append-nil (map zero_of (constant_types system))))

module _ (system : System) (code : Module) (alone : StandsAlone system code) (constants_fit : list_all is_cell_type (constant_types system) ≡ true) where
  constants_valid : AllValid (constant_types system)
  constants_valid = all_valid (constant_types system) constants_fit

  -- what stands for an expression of an axiom says it
  pub axiom_says : (s : Scope) (m : Model) → IsTop s → SharesConstants system s.interp m → (e : Expr) (t : TypedExpression) → flat_of (names_of_constants system code) e ≡ Some t
      → Says (constant_types system) m [] [] (reading system s e) t
  axiom_says s m top shared e t h = flat_says system s (constant_types system) m [] [] (names_of_constants system code) e t (constants_hold system code s m alone top shared constants_valid) h

  pub axiom_says_at_zeros : (e : Expr) (t : TypedExpression) → flat_of (names_of_constants system code) e ≡ Some t
      → Says (constant_types system) (zero_model system) [] [] (reading system (now (zero_interpretation system) []) e) t
  axiom_says_at_zeros e t h = axiom_says (now (zero_interpretation system) []) (zero_model system) (record { path = refl; locals = refl }) (zero_shared system constants_fit) e t h

module _ (system : System) (code : Module) (alone : StandsAlone system code) (m : Model) (cell_types : list_all is_cell_type (types_of system) ≡ true) (constants_fit : list_all is_cell_type (constant_types system) ≡ true) where
  -- what stands for an expression says it
  says : (s : Scope) (cells : List Value) (top : IsTop s) → SharesConstants system s.interp m → s.before ≡ state_of cells → FitAll (types_of system) cells → (e : Expr) (t : TypedExpression) → flat_of (names_over_cells system code) e ≡ Some t
      → Says (constant_types system) m (types_of system) cells (reading system s e) t
  says s cells top shared before fit e t h =
      flat_says system s (constant_types system) m (types_of system) cells (names_over_cells system code) e t
      (names_hold system code s m cells alone top shared (all_valid (constant_types system) constants_fit) before (all_valid (types_of system) cell_types) fit) h

  -- the same in main, with one state
  pub init_said : (i : Interp) → SharesConstants system i m → (cells : List Value) → FitAll (types_of system) cells → (e : Expr) (t : TypedExpression) → flat_of (names_over_cells system code) e ≡ Some t
      → IsSaid system m (types_of system) (now i cells) cells e t
  init_said i shared cells fit e t h =
      let x = says (now i cells) cells (record { path = refl; locals = refl }) shared refl fit e t h in
      record { same = x.value; fit = ap (fits t.ty) (sym x.value) ∙ x.fit }

-- what stands for an expression says it where all cells and constants have the values that count as 0
pub says_at_zeros : (system : System) (code : Module) → StandsAlone system code → list_all is_cell_type (types_of system) ≡ true → list_all is_cell_type (constant_types system) ≡ true
    → (e : Expr) (t : TypedExpression) → flat_of (names_over_cells system code) e ≡ Some t
    → Says (constant_types system) (zero_model system) (types_of system) (map zero_of (types_of system)) (reading system (now (zero_interpretation system) (map zero_of (types_of system))) e) t
says_at_zeros system code alone cell_types constants_fit e t h =
    let zeros = map zero_of (types_of system) in
    says system code alone (zero_model system) cell_types constants_fit (now (zero_interpretation system) zeros) zeros (record { path = refl; locals = refl }) (zero_shared system constants_fit) refl (zeros_fit (types_of system) cell_types) e t h
