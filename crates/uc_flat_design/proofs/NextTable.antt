-- The table of names of a design is one for its next block, between two states.
use Rattle.std.proofs.Common.{◌≡◌, ℕ, zero, suc, ◌+◌, List, [], ◌∷◌, ◌++◌, map, length, refl, sym, ap, ◌∙◌, subst, true, false, Bool, Option, Some, None, ◌⊎◌, inl, inr, arith}
use Rattle.std.specs.Prelude.{slice_get}
use Rattle.std.specs.Option.{option_map}
use Rattle.std.specs.List.{list_all}
use Rattle.std.proofs.lemmas.List.{length-map}
use Rattle.std.proofs.lemmas.Option.{slice_get-map}
use Rattle.std.proofs.lemmas.List.Elements.{All-head, All-tail}
use Rattle.uc_syntax.specs.declared.expression.Expr.{Expr}
use Rattle.uc_syntax.specs.declared.declaration.Module.{Module}
use Rattle.uc_values.specs.declared.ty.Ty.{Ty}
use Rattle.uc_values.specs.declared.value.Value.{Value}
use Rattle.uc_values.specs.Values.{fits, zero_of}
use Rattle.uc_meaning.specs.declared.scope.Interp.{Interp}
use Rattle.uc_meaning.specs.declared.scope.Scope.{Scope}
use Rattle.uc_meaning.specs.Lookup.{System}
use Rattle.uc_meaning.specs.Cells.{Cell as CellOfDesign, cells_of}
use Rattle.uc_meaning.specs.Expressions.{Reading, reads, reading, elsewhere, name}
use Rattle.uc_meaning.specs.Plain.{IsTop}
use Rattle.uc_ops.specs.declared.model.Model.{Model}
use Rattle.uc_ops.specs.declared.op.Op.{Op}
use Rattle.uc_ops.specs.Typing.{type_or, Valid, AllValid}
use Rattle.uc_ops.specs.Meaning.{part}
use Rattle.uc_flat.specs.declared.expression.Expression.{Expression}
use Rattle.uc_flat.specs.declared.expression.Expression.TheVariants.{Cell as CellOf, Apply}
use Rattle.uc_flat.specs.Fine.{IsWithin, itself, deeper}
use Rattle.uc_flat.specs.Executions.{FitAll}
use Rattle.uc_flat.proofs.Forms.{type_cell, value_cell}
use Rattle.uc_flat.proofs.Front.{front_holds}
use Rattle.uc_flat_expressions.specs.declared.typed.TypedExpression.{TypedExpression}
use Rattle.uc_flat_expressions.specs.declared.typed.Meant.{Meant}
use Rattle.uc_flat_expressions.specs.declared.typed.Meant.TheVariants.{Unknown, Cell, Label, Constant}
use Rattle.uc_flat_expressions.specs.Names.{of_cell, meant_as}
use Rattle.uc_flat_expressions.specs.Expressions.{flat_of}
use Rattle.uc_flat_design.specs.Sayings.{Says, IsMeant, AreMeant}
use Rattle.uc_flat_design.proofs.Telling.{flat_says}
use Rattle.uc_flat_design.specs.Names.{StandsAlone, names_over_cells, types_of, constant_types}
use Rattle.uc_flat_design.specs.Constants.{SharesConstants}
use Rattle.uc_flat_design.proofs.Cells.{cell_type}
use Rattle.uc_flat_design.proofs.Meaning.{name_in_cell, no_instance, names_hold}
use Rattle.uc_flat_design.specs.Tables.{IsSaid}
use Rattle.uc_flat_design.specs.Next.{between, with_new, IsNextTable}
use Rattle.uc_flat_code.specs.CellTypes.{is_cell_type}
use Rattle.uc_flat_design.specs.Design.{next_names}
use Rattle.uc_flat_design.proofs.FlatInitLawOptions.{some_same}
use Rattle.uc_flat_design.proofs.Effects.{none_some}
use Rattle.uc_flat_design.proofs.Halves.{get_behind, part_behind}
use Rattle.uc_flat_design.proofs.Turns.{fit_part}
use Rattle.uc_flat_design.proofs.Told.{fit_length, there_below}
use Rattle.uc_flat_design.proofs.Entries.{IsEntry, entry}
use Rattle.uc_flat_design.proofs.Tables.{all_valid, zeros_fit, zero_interpretation, zero_model, zero_shared}

-- ---- names between two states

-- A name that stands, with a prime, for a cell of the new state.
record IsNew (n : ℕ) (o : Option Meant) (primed : Bool) (t : TypedExpression) : Type 0 where
  is_primed : primed ≡ true
  cell : ℕ
  other : Option ℕ
  ty : Ty
  is : o ≡ Some (Cell cell other ty)
  own : of_cell (cell + n) ty ≡ t

-- a name stands for what it stands for in one state, or for a cell of the new state
meant_between : (n : ℕ) (o : Option Meant) (primed : Bool) (t : TypedExpression) → meant_as primed (option_map (with_new n) o) ≡ Some t → (meant_as primed o ≡ Some t) ⊎ IsNew n o primed t
meant_between n None primed t h = inl h
meant_between n (Some (Cell k o ty)) false t h = inl h
meant_between n (Some (Cell k o ty)) true t h = inr (record { is_primed = refl; cell = k; other = o; ty = ty; is = refl; own = some_same (of_cell (k + n) ty) t h })
meant_between n (Some Unknown) primed t h = inl h
meant_between n (Some (Label a b c)) primed t h = inl h
meant_between n (Some (Constant a ty)) primed t h = inl h

same_cell : (j k : ℕ) (o p : Option ℕ) (t u : Ty) → Some (Cell j o t) ≡ Some (Cell k p u) → (j ≡ k) × (t ≡ u)
same_cell j k o p t u h = (cc, cc)

other_cell : (k : ℕ) (p : Option ℕ) (ty : Ty) (z : Meant) → Some Unknown ≡ Some (Cell k p ty) → ⊥
other_cell k p ty z h = cc

label_cell : (a b c k : ℕ) (p : Option ℕ) (ty : Ty) → Some (Label a b c) ≡ Some (Cell k p ty) → ⊥
label_cell a b c k p ty h = cc

constant_cell : (a k : ℕ) (u : Ty) (p : Option ℕ) (ty : Ty) → Some (Constant a u) ≡ Some (Cell k p ty) → ⊥
constant_cell a k u p ty h = cc

-- the cells are the same
cell_between : (n : ℕ) (o : Option Meant) (k : ℕ) (p : Option ℕ) (ty : Ty) → option_map (with_new n) o ≡ Some (Cell k p ty) → (q : Option ℕ) × (o ≡ Some (Cell k q ty))
cell_between n None k p ty h = absurd (none_some (Cell k p ty) h)
cell_between n (Some (Cell j q t)) k p ty h = let e = same_cell j k (Some (j + n)) p t ty h in (q, ap (λ i. Some (Cell i q t)) e.0 ∙ ap (λ u. Some (Cell k q u)) e.1)
cell_between n (Some Unknown) k p ty h = absurd (other_cell k p ty Unknown h)
cell_between n (Some (Label a b c)) k p ty h = absurd (label_cell a b c k p ty h)
cell_between n (Some (Constant a u)) k p ty h = absurd (constant_cell a k u p ty h)

-- ---- a cell as an expression

within_cell : (k : ℕ) (e : Expression) → IsWithin (CellOf k) e → e ≡ CellOf k
within_cell k e itself = refl
within_cell k e (deeper op parts part w c) = absurd (apart op parts k (within_cell k (Apply op parts) w))
  where
    apart : (o : Op) (ps : List Expression) (j : ℕ) → Apply o ps ≡ CellOf j → ⊥
    apart o ps j h = cc

cell_number : (j k : ℕ) → CellOf j ≡ CellOf k → j ≡ k
cell_number j k h = cc

apart_cell : (op : Op) (parts : List Expression) (j : ℕ) → Apply op parts ≡ CellOf j → ⊥
apart_cell op parts j h = cc

valid_at : (types : List Ty) (k : ℕ) (ty : Ty) → AllValid types → slice_get types k ≡ Some ty → Valid ty
valid_at [] k ty a h = absurd (none_some ty h)
valid_at (t ∷ types) zero ty a h = subst Valid (some_same t ty h) (All-head Valid t types a)
valid_at (t ∷ types) (suc k) ty a h = valid_at types k ty (All-tail Valid t types a) h

-- a cell says what is read, where it has its value
cell_says : (constants : List Ty) (m : Model) (types : List Ty) (values : List Value) (k : ℕ) (ty : Ty) (r : Reading) → Valid ty → slice_get types k ≡ Some ty → fits ty (part values k) ≡ true → r ≡ reads ty (part values k)
    → Says constants m types values r (of_cell k ty)
cell_says constants m types values k ty r v h f is = record {
  typed = record {
    cells = λ j w. omega (arith, there_below types k ty h, cell_number j k (within_cell k (CellOf j) w));
    parts = λ op parts w. absurd (apart_cell op parts k (within_cell k (Apply op parts) w));
  };
  reads = λ j t parts w. absurd (apart_cell _ parts k (within_cell k _ w));
  own = type_cell types k ∙ ap type_or h;
  valid = v;
  type = ap (λ (q : Reading). q.type) is;
  value = ap (λ (q : Reading). q.value) is ∙ sym (value_cell m types values k);
  fit = ap (λ (q : Reading). fits ty q.value) is ∙ f;
  literal = tt;
}

module _ (system : System) (code : Module) (alone : StandsAlone system code) (m : Model) (cell_types : list_all is_cell_type (types_of system) ≡ true) (constants_fit : list_all is_cell_type (constant_types system) ≡ true) where
  abbrev types : List Ty
  types = types_of system

  abbrev constants : List Ty
  constants = constant_types system

  abbrev two : List Ty
  two = types ++ types

  abbrev n : ℕ
  n = length (cells_of system)

  abbrev names : List Meant
  names = names_over_cells system code

  valid : AllValid types
  valid = all_valid types cell_types

  count : n ≡ length types
  count = sym (length-map (cells_of system) (λ (c : CellOfDesign). c.type))

  -- what is said of the old cells is said of both
  front : (old new : List Value) (r : Reading) (t : TypedExpression) → FitAll types old → Says constants m types old r t → Says constants m two (old ++ new) r t
  front old new r t fit a =
      let f = front_holds m types types old new t.expression (fit_length types old fit) a.typed in
      record { typed = f.typed; reads = a.reads; own = f.type ∙ a.own; valid = a.valid; type = a.type; value = a.value ∙ sym f.value; fit = a.fit; literal = a.literal }

  behind : (old new : List Value) (k : ℕ) (ty : Ty) (r : Reading) → FitAll types old → FitAll types new → slice_get types k ≡ Some ty → r ≡ reads ty (part new k)
      → Says constants m two (old ++ new) r (of_cell (k + n) ty)
  behind old new k ty r fit_old fit_new h is =
      let there : part (old ++ new) (k + n) ≡ part new k = part_behind old new k n (count ∙ sym (fit_length types old fit_old)) in
      cell_says constants m two (old ++ new) (k + n) ty r (valid_at types k ty valid h) (get_behind types types k n count ∙ h) (ap (fits ty) there ∙ fit_part types new k ty fit_new h) (is ∙ ap (reads ty) (sym there))

  -- the entry of a name in the table of one state
  entry_between : (x k : ℕ) (p : Option ℕ) (ty : Ty) → slice_get (next_names system code) x ≡ Some (Cell k p ty) → IsEntry system code x k ty
  entry_between x k p ty h = let c = cell_between n (slice_get names x) k p ty (sym (slice_get-map (with_new n) names x) ∙ h) in entry system code x k c.0 ty c.1

  typed : (x k : ℕ) (ty : Ty) → IsEntry system code x k ty → slice_get types k ≡ Some ty
  typed x k ty a = cell_type system code x k a.kind a.type alone a.has_cells a.variable a.cell ∙ ap Some a.own

  module _ (i : Interp) (shared : SharesConstants system i m) (old new : List Value) (fit_old : FitAll types old) (fit_new : FitAll types new) where
    abbrev here : Scope
    here = between i new old

    top : IsTop here
    top = record { path = refl; locals = refl }

    meant : AreMeant system here constants m two (old ++ new) (next_names system code)
    meant x primed t h = by_case (meant_between n (slice_get names x) primed t (ap (meant_as primed) (sym (slice_get-map (with_new n) names x)) ∙ h))
      where
        by_case : (meant_as primed (slice_get names x) ≡ Some t) ⊎ IsNew n (slice_get names x) primed t → IsMeant system here constants m two (old ++ new) x primed t
        by_case (inl e) =
            let a = names_hold system code here m old alone top shared (all_valid constants constants_fit) refl valid fit_old x primed t e in
            record { alone = a.alone; says = front old new (name system (elsewhere system) here x primed) t fit_old a.says }
        by_case (inr q) =
            let a = entry system code x q.cell q.other q.ty q.is in
            let read : name system (elsewhere system) here x true ≡ reads q.ty (part new q.cell) =
            name_in_cell system code alone here top (elsewhere system) x q.cell true a.kind a.type a.no_label a.variable a.has_cells a.cell ∙ ap (λ t. reads t (part new q.cell)) a.own in
            subst (λ b. IsMeant system here constants m two (old ++ new) x b t) (sym q.is_primed)
            (subst (IsMeant system here constants m two (old ++ new) x true) q.own
            (record { alone = no_instance system code alone here top x; says = behind old new q.cell q.ty (name system (elsewhere system) here x true) fit_old fit_new (typed x q.cell q.ty a) read }))

    says : (e : Expr) (t : TypedExpression) → flat_of (next_names system code) e ≡ Some t → Says constants m two (old ++ new) (reading system here e) t
    says e t h = flat_says system here constants m two (old ++ new) (next_names system code) e t meant h

    said : (e : Expr) (t : TypedExpression) → flat_of (next_names system code) e ≡ Some t → IsSaid system m two here (old ++ new) e t
    said e t h = let x = says e t h in record { same = x.value; fit = ap (fits t.ty) (sym x.value) ∙ x.fit }

    primes : (x k : ℕ) (p : Option ℕ) (ty : Ty) → slice_get (next_names system code) x ≡ Some (Cell k p ty) → name system (reading system) here x true ≡ reads ty (part new k)
    primes x k p ty h =
        let a = entry_between x k p ty h in
        name_in_cell system code alone here top (reading system) x k true a.kind a.type a.no_label a.variable a.has_cells a.cell ∙ ap (λ t. reads t (part new k)) a.own

  pub next_table : (i : Interp) → SharesConstants system i m → IsNextTable system m types (next_names system code) i
  next_table i shared = record {
    says = λ old new fit_old fit_new e t h. said i shared old new fit_old fit_new e t h;
    cells = λ x k p ty h. let a = entry_between x k p ty h in record { cell = a.cell; typed = typed x k ty a };
    primes = λ x k p ty h old new fit_old fit_new. primes i shared old new fit_old fit_new x k p ty h;
  }

-- what stands for an expression says it where all cells and constants have the values that count as 0
pub next_says_at_zeros : (system : System) (code : Module) → StandsAlone system code → list_all is_cell_type (types_of system) ≡ true → list_all is_cell_type (constant_types system) ≡ true
    → (e : Expr) (t : TypedExpression) → flat_of (next_names system code) e ≡ Some t
    → Says (constant_types system) (zero_model system) (types_of system ++ types_of system) (map zero_of (types_of system) ++ map zero_of (types_of system))
    (reading system (between (zero_interpretation system) (map zero_of (types_of system)) (map zero_of (types_of system))) e) t
next_says_at_zeros system code alone cell_types constants_fit e t h =
    let zeros = map zero_of (types_of system) in
    let fit = zeros_fit (types_of system) cell_types in
    says system code alone (zero_model system) cell_types constants_fit (zero_interpretation system) (zero_shared system constants_fit) zeros zeros fit fit e t h
