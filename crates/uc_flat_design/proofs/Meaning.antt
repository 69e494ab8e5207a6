-- Names of main stand for what they mean.
use Rattle.std.proofs.Common.{◌≡◌, ℕ, zero, suc, ◌+◌, ◌<◌, List, [], ◌∷◌, map, length, refl, sym, ap, ◌∙◌, subst, true, false, Bool, Option, Some, None, arith}
use Rattle.std.specs.Prelude.{nat_eq, nat_lt, if◌then◌else◌, slice_get, slice_index_or}
use Rattle.std.specs.Option.{option_and_then}
use Rattle.std.specs.List.{find}
use Rattle.std.proofs.lemmas.Bool.Decides.{nat_tests}
use Rattle.std.proofs.lemmas.Option.{unwrap_or-slice_get}
use Rattle.std.proofs.lemmas.List.Elements.{All-head, All-tail}
use Rattle.uc_syntax.specs.declared.type_expression.TypeExpr.{TypeExpr}
use Rattle.uc_syntax.specs.declared.declaration.VariableKind.{VariableKind}
use Rattle.uc_syntax.specs.declared.declaration.VariableKind.TheVariants.{Variable, Input, Output, Constant as constant_kind}
use Rattle.uc_syntax.specs.declared.declaration.Module.{Module}
use Rattle.uc_values.specs.declared.ty.Ty.{Ty}
use Rattle.uc_values.specs.declared.ty.Ty.TheVariants.{Enum}
use Rattle.uc_values.specs.declared.value.Value.{Value}
use Rattle.uc_values.specs.declared.value.Value.TheVariants.{Bool as truth, Enum as label}
use Rattle.uc_values.specs.Values.{fits}
use Rattle.uc_values.proofs.Shapes.{valid-Enum}
use Rattle.uc_values.proofs.Fitting.{fits-IsLabel}
use Rattle.uc_meaning.specs.declared.scope.Scope.{Scope}
use Rattle.uc_meaning.specs.declared.scope.State.{State}
use Rattle.uc_meaning.specs.Lookup.{System, instance_of, module_from, module_at, parent_of, variable_of}
use Rattle.uc_meaning.specs.Types.{label_of, type_of_written}
use Rattle.uc_meaning.specs.Cells.{cell_of, constant_number}
use Rattle.uc_meaning.specs.Expressions.{Elsewhere, Reading, reads, elsewhere, name, meaning_of, meant_reading, name_meaning, global_meaning, module_meaning, declared_meaning, variable_source, cell_source, binding_of, binding_from, label_count, in_cell, state_in, instance_at}
use Rattle.uc_meaning.specs.Plain.{IsTop}
use Rattle.uc_meaning.specs.Steps.{state_of}
use Rattle.uc_ops.specs.declared.model.Model.{Model}
use Rattle.uc_ops.specs.declared.op.Op.{Op}
use Rattle.uc_ops.specs.declared.op.Op.TheVariants.{Const, Symbol}
use Rattle.uc_ops.specs.Typing.{type_or, Valid, AllValid}
use Rattle.uc_ops.specs.Meaning.{part, fitting}
use Rattle.uc_flat.specs.declared.expression.Expression.{Expression}
use Rattle.uc_flat.specs.declared.expression.Expression.TheVariants.{Cell as CellOf, Apply}
use Rattle.uc_flat.specs.Fine.{IsWithin, itself, deeper}
use Rattle.uc_flat.specs.Executions.{FitAll}
use Rattle.uc_flat.proofs.Forms.{type_cell, value_cell}
use Rattle.uc_flat_expressions.specs.declared.typed.TypedExpression.{TypedExpression}
use Rattle.uc_flat_expressions.specs.declared.typed.Meant.{Meant}
use Rattle.uc_flat_expressions.specs.declared.typed.Meant.TheVariants.{Unknown, Label, Constant}
use Rattle.uc_flat_expressions.specs.Names.{of_cell, meant_as, named}
use Rattle.uc_flat_expressions.specs.Building.{constant}
use Rattle.uc_flat_design.specs.Sayings.{Says}
use Rattle.uc_flat_design.proofs.Saying.{OpReads, reading_says, operation_says}
use Rattle.uc_flat_design.specs.Names.{StandsAlone, of_label, of_cell_number, of_kind, of_variable, by_label, meant_in, counted, names_over_cells, types_of, without_cell, names_of_constants, constant_types}
use Rattle.uc_flat_design.specs.Constants.{SharesConstants}
use Rattle.uc_flat_design.specs.FlatNamesLaw.{NamesLaw, ConstantsLaw}
use Rattle.uc_flat_design.proofs.Cells.{HasCells, cell_type}
use Rattle.uc_flat_design.proofs.Constants.{constant_type}

some_same : {A : Type 0} (x y : A) → Some x ≡ Some y → x ≡ y
some_same x y h = cc

none_some : {A : Type 0} (y : A) → None ≡ Some y → ⊥
none_some y h = cc

-- ---- the table

pub counted_at : (from n k y : ℕ) → slice_get (counted from n) k ≡ Some y → y ≡ from + k
unfolding counted
counted_at from zero k y h = absurd (none_some y h)
counted_at from (suc n) zero y h = omega (arith, some_same from y h)
counted_at from (suc n) (suc k) y h = omega (arith, counted_at (from + 1) n k y h)

pub mapped_at : {A B : Type 0} (f : A → B) (xs : List A) (k : ℕ) (z : B) → slice_get (map f xs) k ≡ Some z → (y : A) × (slice_get xs k ≡ Some y) × (f y ≡ z)
mapped_at f [] k z h = absurd (none_some z h)
mapped_at f (x ∷ xs) zero z h = (x, refl, some_same (f x) z h)
mapped_at f (x ∷ xs) (suc k) z h = mapped_at f xs k z h

-- what a name of the table stands for
table_at : (system : System) (code : Module) (x : ℕ) (primed : Bool) (t : TypedExpression) → named (names_over_cells system code) x primed ≡ Some t → meant_as primed (Some (meant_in system code x)) ≡ Some t
table_at system code x primed t h = by_entry (slice_get (names_over_cells system code) x) refl
  where
    by_entry : (o : Option Meant) → slice_get (names_over_cells system code) x ≡ o → meant_as primed (Some (meant_in system code x)) ≡ Some t
    by_entry None e = absurd (none_some t (sym (ap (meant_as primed) e) ∙ h))
    by_entry (Some z) e =
        let y = mapped_at (meant_in system code) (counted 0 (length system.names)) x z e in
        let is : y.0 ≡ x = omega (arith, counted_at 0 (length system.names) x y.0 y.1) in
        ap (λ k. meant_as primed (Some (meant_in system code k))) (sym is) ∙ ap (λ q. meant_as primed (Some q)) y.2 ∙ sym (ap (meant_as primed) e) ∙ h

-- the same of the table without cells
without_at : (system : System) (code : Module) (x : ℕ) (primed : Bool) (t : TypedExpression) → named (names_of_constants system code) x primed ≡ Some t → meant_as primed (Some (without_cell (meant_in system code x))) ≡ Some t
without_at system code x primed t h = by_entry (slice_get (names_of_constants system code) x) refl
  where
    by_entry : (o : Option Meant) → slice_get (names_of_constants system code) x ≡ o → meant_as primed (Some (without_cell (meant_in system code x))) ≡ Some t
    by_entry None e = absurd (none_some t (sym (ap (meant_as primed) e) ∙ h))
    by_entry (Some z) e =
        let w = mapped_at without_cell (names_over_cells system code) x z e in
        let y = mapped_at (meant_in system code) (counted 0 (length system.names)) x w.0 w.1 in
        let is : y.0 ≡ x = omega (arith, counted_at 0 (length system.names) x y.0 y.1) in
        ap (λ k. meant_as primed (Some (without_cell (meant_in system code k)))) (sym is) ∙ ap (λ q. meant_as primed (Some (without_cell q))) y.2 ∙ ap (λ q. meant_as primed (Some q)) w.2 ∙ sym (ap (meant_as primed) e) ∙ h

no_cell : (primed : Bool) (t : TypedExpression) (o : Option ℕ) (ty : Ty) → meant_as primed (Some (without_cell (of_cell_number o ty))) ≡ Some t → ⊥
no_cell primed t None ty h = none_some t h
no_cell primed t (Some k) ty h = none_some t h

label_stays : (b : Bool) (e count k : ℕ) → without_cell (if b then Label e count k else Unknown) ≡ (if b then Label e count k else Unknown)
label_stays true e count k = refl
label_stays false e count k = refl

-- ---- cells and constants as expressions

within_cell : (k : ℕ) (e : Expression) → IsWithin (CellOf k) e → e ≡ CellOf k
within_cell k e itself = refl
within_cell k e (deeper op parts part w c) = absurd (apart op parts k (within_cell k (Apply op parts) w))
  where
    apart : (o : Op) (ps : List Expression) (j : ℕ) → Apply o ps ≡ CellOf j → ⊥
    apart o ps j h = cc

cell_number : (j k : ℕ) → CellOf j ≡ CellOf k → j ≡ k
cell_number j k h = cc

apart_cell : (op : Op) (parts : List Expression) (j : ℕ) → Apply op parts ≡ CellOf j → ⊥
apart_cell op parts j h = cc

below_of : {A : Type 0} (xs : List A) (k : ℕ) (x : A) → slice_get xs k ≡ Some x → k < length xs
below_of [] k x h = absurd (none_some x h)
below_of (y ∷ xs) zero x h = omega arith
below_of (y ∷ xs) (suc k) x h = omega (arith, below_of xs k x h)

valid_at : (types : List Ty) (k : ℕ) (ty : Ty) → AllValid types → slice_get types k ≡ Some ty → Valid ty
valid_at [] k ty a h = absurd (none_some ty h)
valid_at (t ∷ types) zero ty a h = subst Valid (some_same t ty h) (All-head Valid t types a)
valid_at (t ∷ types) (suc k) ty a h = valid_at types k ty (All-tail Valid t types a) h

fit_at : (types : List Ty) (values : List Value) (k : ℕ) (ty : Ty) → FitAll types values → slice_get types k ≡ Some ty → fits ty (part values k) ≡ true
unfolding FitAll
fit_at [] values k ty f h = absurd (none_some ty h)
fit_at (t ∷ types) [] k ty f h = absurd f
fit_at (t ∷ types) (v ∷ values) zero ty f h = ap (λ u. fits u v) (sym (some_same t ty h)) ∙ f.0
fit_at (t ∷ types) (v ∷ values) (suc k) ty f h = fit_at types values k ty f.1 h

cell_says : (constants : List Ty) (m : Model) (types : List Ty) (values : List Value) (k : ℕ) (ty : Ty) (r : Reading) → AllValid types → FitAll types values → slice_get types k ≡ Some ty → r ≡ reads ty (part values k)
    → Says constants m types values r (of_cell k ty)
cell_says constants m types values k ty r a f h is = record {
  typed = record {
    cells = λ j w. subst (λ i. i < length types) (sym (cell_number j k (within_cell k (CellOf j) w))) (below_of types k ty h);
    parts = λ op parts w. absurd (apart_cell op parts k (within_cell k (Apply op parts) w));
  };
  reads = λ j t parts w. absurd (apart_cell _ parts k (within_cell k _ w));
  own = type_cell types k ∙ ap type_or h;
  valid = valid_at types k ty a h;
  type = ap (λ (q : Reading). q.type) is;
  value = ap (λ (q : Reading). q.value) is ∙ sym (value_cell m types values k);
  fit = ap (λ (q : Reading). fits ty q.value) is ∙ fit_at types values k ty f h;
  literal = tt;
}

label_says : (constants : List Ty) (m : Model) (types : List Ty) (values : List Value) (e count k : ℕ) → nat_lt k count ≡ true → Says constants m types values (reads (Enum e count) (label e k)) (constant (Const (Enum e count) (label e k)) (Enum e count))
label_says constants m types values e count k h =
    let below : k < count = grind (arith, nat_tests) in
    let some : nat_lt 0 count ≡ true = grind (arith, nat_tests) in
    operation_says constants m types values (Const (Enum e count) (label e k)) (Enum e count) [] [] tt (refl, valid-Enum e count ∙ some, refl, fits-IsLabel e count k below) refl tt

-- a constant says its value in the model
constant_says : (constants : List Ty) (m : Model) (types : List Ty) (values : List Value) (k : ℕ) (ty : Ty) → slice_get constants k ≡ Some ty → Valid ty → Says constants m types values (reads ty (fitting ty (slice_get m.symbols k))) (constant (Symbol k ty) ty)
constant_says constants m types values k ty at valid = reading_says constants m types values (Symbol k ty) ty [] [] tt (refl, valid) refl own
  where
    own : OpReads constants (Symbol k ty)
    own number type e =
        let same : k ≡ number = cc in
        let typed : ty ≡ type = cc in
        ap (slice_get constants) (sym same) ∙ at ∙ ap Some typed

-- ---- in a scope

module _ (system : System) (code : Module) (alone : StandsAlone system code) (s : Scope) (top : IsTop s) where
  main_at_top : module_at system [] ≡ Some code
  unfolding module_from
  main_at_top = ap (λ m. option_and_then (λ c. module_from system c []) m) alone.main

  -- a name is read by what it is among labels
  pub name_by : (other : Elsewhere) (x : ℕ) (primed : Bool) → name system other s x primed ≡ meant_reading other (module_meaning system s x primed code (label_of system code x))
  unfolding meaning_of
  name_by other x primed =
      ap (λ ls. meant_reading other (name_meaning system s x primed (find (λ l. nat_eq l.name x) ls))) top.locals
      ∙ ap (λ p. meant_reading other (global_meaning system s x primed (module_at system p))) top.path
      ∙ ap (λ m. meant_reading other (global_meaning system s x primed m)) main_at_top

  no_binding : (x : ℕ) → binding_of system s.path x ≡ None
  unfolding parent_of
  no_binding x = ap (λ p. binding_from system x (parent_of p)) top.path

  -- a variable is read in its cell
  abbrev HeldIn : ℕ → Bool → VariableKind → Ty → Elsewhere → Type 0
  HeldIn x primed kind ty other =
      meant_reading other (record { type = ty; source = variable_source system s code x primed kind }) ≡ reads ty (in_cell (state_in s primed) (cell_of system [] x))

  in_own_cell : (other : Elsewhere) (x : ℕ) (primed : Bool) (ty : Ty) → reads ty (in_cell (state_in s primed) (cell_of system s.path x)) ≡ reads ty (in_cell (state_in s primed) (cell_of system [] x))
  in_own_cell other x primed ty = ap (λ p. reads ty (in_cell (state_in s primed) (cell_of system p x))) top.path

  variable_read : (other : Elsewhere) (x : ℕ) (primed : Bool) (kind : VariableKind) (ty : Ty) → HasCells kind → HeldIn x primed kind ty other
  variable_read other x primed Variable ty h = in_own_cell other x primed ty
  variable_read other x primed Input ty h = ap (λ b. meant_reading other (record { type = ty; source = cell_source system s x primed b })) (no_binding x) ∙ in_own_cell other x primed ty
  variable_read other x primed Output ty h = ap (λ b. meant_reading other (record { type = ty; source = cell_source system s x primed b })) (no_binding x) ∙ in_own_cell other x primed ty
  variable_read other x primed constant_kind ty h = absurd h

  -- a name that is no label, of a variable that has a cell
  pub name_in_cell : (other : Elsewhere) (x k : ℕ) (primed : Bool) (kind : VariableKind) (type : TypeExpr) → label_of system code x ≡ None → variable_of code x ≡ Some (kind, type) → HasCells kind → cell_of system [] x ≡ Some k
      → name system other s x primed ≡ reads (type_of_written system code type) (part (state_in s primed).cells k)
  name_in_cell other x k primed kind type l v h c =
      name_by other x primed
      ∙ ap (λ o. meant_reading other (module_meaning system s x primed code o)) l
      ∙ ap (λ d. meant_reading other (declared_meaning system s code x primed d)) v
      ∙ variable_read other x primed kind (type_of_written system code type) h
      ∙ ap (λ o. reads (type_of_written system code type) (in_cell (state_in s primed) o)) c
      ∙ ap (reads (type_of_written system code type)) (unwrap_or-slice_get (state_in s primed).cells k (truth false))

  -- no name is that of an instance
  pub no_instance : (x : ℕ) → instance_at system s x ≡ None
  no_instance x =
      ap (λ p. option_and_then (λ m. instance_of m x) (module_at system p)) top.path ∙ ap (option_and_then (λ m. instance_of m x)) main_at_top ∙ ap (find (λ i. nat_eq i.name x)) alone.alone

  -- a name that is no label, of a constant
  name_of_constant : (other : Elsewhere) (x : ℕ) (primed : Bool) (type : TypeExpr) → label_of system code x ≡ None → variable_of code x ≡ Some (constant_kind, type)
      → name system other s x primed ≡ reads (type_of_written system code type) (slice_index_or s.interp.consts (constant_number system code x) (truth false))
  name_of_constant other x primed type l v =
      name_by other x primed ∙ ap (λ o. meant_reading other (module_meaning system s x primed code o)) l ∙ ap (λ d. meant_reading other (declared_meaning system s code x primed d)) v

  module _ (m : Model) (shared : SharesConstants system s.interp m) (constants_valid : AllValid (constant_types system)) where
    abbrev Told : List Ty → List Value → ℕ → Bool → TypedExpression → Type 0
    Told types values x primed t = Says (constant_types system) m types values (name system (elsewhere system) s x primed) t

    module _ (types : List Ty) (values : List Value) where
      label_told : (x : ℕ) (primed : Bool) (t : TypedExpression) (l : ℕ × ℕ) → label_of system code x ≡ Some l → meant_as primed (Some (of_label system l)) ≡ Some t → Told types values x primed t
      label_told x primed t l e h = by_test (nat_lt l.1 (label_count system l.0)) refl
        where
          reading : name system (elsewhere system) s x primed ≡ reads (Enum l.0 (label_count system l.0)) (label l.0 l.1)
          reading = name_by (elsewhere system) x primed ∙ ap (λ o. meant_reading (elsewhere system) (module_meaning system s x primed code o)) e

          by_test : (b : Bool) → nat_lt l.1 (label_count system l.0) ≡ b → Told types values x primed t
          by_test true q =
              let is = some_same _ t (sym (ap (λ b. meant_as primed (Some (if b then Label l.0 (label_count system l.0) l.1 else Unknown))) q) ∙ h) in
              subst (λ r. Says (constant_types system) m types values r t) (sym reading)
              (subst (Says (constant_types system) m types values (reads (Enum l.0 (label_count system l.0)) (label l.0 l.1))) is (label_says (constant_types system) m types values l.0 (label_count system l.0) l.1 q))
          by_test false q = absurd (none_some t (sym (ap (λ b. meant_as primed (Some (if b then Label l.0 (label_count system l.0) l.1 else Unknown))) q) ∙ h))

      constant_told : (x : ℕ) (primed : Bool) (t : TypedExpression) (type : TypeExpr) → label_of system code x ≡ None → variable_of code x ≡ Some (constant_kind, type)
          → meant_as primed (Some (Constant (constant_number system code x) (type_of_written system code type))) ≡ Some t → Told types values x primed t
      constant_told x primed t type l v e =
          let k = constant_number system code x in
          let ty = type_of_written system code type in
          let at = constant_type system code x type alone v in
          let reading = name_of_constant (elsewhere system) x primed type l v ∙ ap (reads ty) (shared.same k ty at) in
          subst (Told types values x primed) (some_same (constant (Symbol k ty) ty) t e)
          (subst (λ r. Says (constant_types system) m types values r (constant (Symbol k ty) ty)) (sym reading)
          (constant_says (constant_types system) m types values k ty at (valid_at (constant_types system) k ty constants_valid at)))

    module _ (values : List Value) (before : s.before ≡ state_of values) (valid : AllValid (types_of system)) (fit : FitAll (types_of system) values) where
      cell_told : (x : ℕ) (primed : Bool) (t : TypedExpression) (kind : VariableKind) (type : TypeExpr) → label_of system code x ≡ None → variable_of code x ≡ Some (kind, type) → HasCells kind → (o : Option ℕ) → cell_of system [] x ≡ o
          → meant_as primed (Some (of_cell_number o (type_of_written system code type))) ≡ Some t → Told (types_of system) values x primed t
      cell_told x primed t kind type l v h None c e = absurd (none_some t e)
      cell_told x true t kind type l v h (Some k) c e = absurd (none_some t e)
      cell_told x false t kind type l v h (Some k) c e =
          let ty = type_of_written system code type in
          let reading = name_in_cell (elsewhere system) x k false kind type l v h c ∙ ap (λ (q : State). reads ty (part q.cells k)) before in
          subst (Told (types_of system) values x false) (some_same (of_cell k ty) t e)
          (cell_says (constant_types system) m (types_of system) values k ty (name system (elsewhere system) s x false) valid fit (cell_type system code x k kind type alone h v c) reading)

      kind_told : (x : ℕ) (primed : Bool) (t : TypedExpression) (kind : VariableKind) (type : TypeExpr) → label_of system code x ≡ None → variable_of code x ≡ Some (kind, type)
          → meant_as primed (Some (of_kind system code x type kind)) ≡ Some t → Told (types_of system) values x primed t
      kind_told x primed t Variable type l v e = cell_told x primed t Variable type l v tt (cell_of system [] x) refl e
      kind_told x primed t Input type l v e = cell_told x primed t Input type l v tt (cell_of system [] x) refl e
      kind_told x primed t Output type l v e = cell_told x primed t Output type l v tt (cell_of system [] x) refl e
      kind_told x primed t constant_kind type l v e = constant_told (types_of system) values x primed t type l v e

      variable_told : (x : ℕ) (primed : Bool) (t : TypedExpression) → label_of system code x ≡ None → (o : Option (VariableKind × TypeExpr)) → variable_of code x ≡ o → meant_as primed (Some (of_variable system code x o)) ≡ Some t
          → Told (types_of system) values x primed t
      variable_told x primed t l None v e = absurd (none_some t e)
      variable_told x primed t l (Some d) v e = kind_told x primed t d.0 d.1 l v e

      name_told : (x : ℕ) (primed : Bool) (t : TypedExpression) → (o : Option (ℕ × ℕ)) → label_of system code x ≡ o → meant_as primed (Some (by_label system code x o)) ≡ Some t → Told (types_of system) values x primed t
      name_told x primed t (Some l) q e = label_told (types_of system) values x primed t l q e
      name_told x primed t None q e = variable_told x primed t q (variable_of code x) refl e

    -- ---- where there are no cells

    kind_without : (x : ℕ) (primed : Bool) (t : TypedExpression) (kind : VariableKind) (type : TypeExpr) → label_of system code x ≡ None → variable_of code x ≡ Some (kind, type)
        → meant_as primed (Some (without_cell (of_kind system code x type kind))) ≡ Some t → Told [] [] x primed t
    kind_without x primed t Variable type l v e = absurd (no_cell primed t (cell_of system [] x) (type_of_written system code type) e)
    kind_without x primed t Input type l v e = absurd (no_cell primed t (cell_of system [] x) (type_of_written system code type) e)
    kind_without x primed t Output type l v e = absurd (no_cell primed t (cell_of system [] x) (type_of_written system code type) e)
    kind_without x primed t constant_kind type l v e = constant_told [] [] x primed t type l v e

    variable_without : (x : ℕ) (primed : Bool) (t : TypedExpression) → label_of system code x ≡ None → (o : Option (VariableKind × TypeExpr)) → variable_of code x ≡ o → meant_as primed (Some (without_cell (of_variable system code x o))) ≡ Some t
        → Told [] [] x primed t
    variable_without x primed t l None v e = absurd (none_some t e)
    variable_without x primed t l (Some d) v e = kind_without x primed t d.0 d.1 l v e

    name_without : (x : ℕ) (primed : Bool) (t : TypedExpression) → (o : Option (ℕ × ℕ)) → label_of system code x ≡ o → meant_as primed (Some (without_cell (by_label system code x o))) ≡ Some t → Told [] [] x primed t
    name_without x primed t (Some l) q e = label_told [] [] x primed t l q (ap (λ z. meant_as primed (Some z)) (sym (label_stays (nat_lt l.1 (label_count system l.0)) l.0 (label_count system l.0) l.1)) ∙ e)
    name_without x primed t None q e = variable_without x primed t q (variable_of code x) refl e

pub names_hold : NamesLaw
names_hold system code s m values alone top shared constants before valid fit x primed t h = record {
  alone = no_instance system code alone s top x;
  says = name_told system code alone s top m shared constants values before valid fit x primed t (label_of system code x) refl (table_at system code x primed t h);
}

pub constants_hold : ConstantsLaw
constants_hold system code s m alone top shared constants x primed t h = record {
  alone = no_instance system code alone s top x;
  says = name_without system code alone s top m shared constants x primed t (label_of system code x) refl (without_at system code x primed t h);
}
