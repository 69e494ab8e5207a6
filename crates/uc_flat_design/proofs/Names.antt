-- Names stand for what they mean in main where locals are in scope, and are set there.
use Rattle.std.proofs.Common.{◌≡◌, ℕ, zero, suc, ◌<◌, ◌≤◌, List, [], ◌∷◌, ◌++◌, length, take, drop, refl, sym, ap, ◌∙◌, subst, true, false, Bool, Option, Some, None, arith}
use Rattle.std.specs.Prelude.{slice_get, slice_set}
use Rattle.std.specs.Option.{option_map}
use Rattle.std.proofs.lemmas.List.{get_or-take, length-set, take-append-drop, take-set-le}
use Rattle.uc_syntax.specs.declared.type_expression.TypeExpr.{TypeExpr}
use Rattle.uc_syntax.specs.declared.expression.Expr.{Expr}
use Rattle.uc_syntax.specs.declared.declaration.VariableKind.{VariableKind}
use Rattle.uc_syntax.specs.declared.declaration.VariableKind.TheVariants.{Variable, Input, Output, Constant as constant_kind}
use Rattle.uc_syntax.specs.declared.declaration.Module.{Module}
use Rattle.uc_values.specs.declared.ty.Ty.{Ty}
use Rattle.uc_values.specs.declared.value.Value.{Value}
use Rattle.uc_values.specs.Values.{fits, nothing}
use Rattle.uc_meaning.specs.declared.scope.Interp.{Interp}
use Rattle.uc_meaning.specs.declared.scope.Local.{Local}
use Rattle.uc_meaning.specs.declared.scope.Scope.{Scope}
use Rattle.uc_meaning.specs.Lookup.{System, module_at, variable_of}
use Rattle.uc_meaning.specs.Types.{label_of}
use Rattle.uc_meaning.specs.Cells.{cell_of}
use Rattle.uc_meaning.specs.Expressions.{Elsewhere, Reading, reads, reading, elsewhere, name, OfCell, OfBinding, meaning_of, meant_reading, name_meaning, global_meaning, module_meaning, declared_meaning, means, variable_source, cell_source, binding_of, state_in, local_of, at_path, at_state}
use Rattle.uc_meaning.specs.Code.{set_cell, set_found, set_name}
use Rattle.uc_meaning.specs.Plain.{IsTop}
use Rattle.uc_meaning.specs.Steps.{state_of}
use Rattle.uc_meaning.proofs.Writes.{written_at_top}
use Rattle.uc_ops.specs.declared.model.Model.{Model}
use Rattle.uc_ops.specs.Typing.{type_or, Valid, AllValid}
use Rattle.uc_ops.specs.Meaning.{part}
use Rattle.uc_flat.specs.Executions.{FitAll}
use Rattle.uc_flat.proofs.Extending.{slice_get-front}
use Rattle.uc_flat.proofs.Forms.{type_cell, value_cell}
use Rattle.uc_flat.proofs.Making.{typed_cell}
use Rattle.uc_flat.proofs.Front.{front_holds}
use Rattle.uc_flat_expressions.specs.declared.typed.TypedExpression.{TypedExpression}
use Rattle.uc_flat_expressions.specs.declared.typed.Meant.{Meant}
use Rattle.uc_flat_expressions.specs.declared.typed.Meant.TheVariants.{Cell}
use Rattle.uc_flat_expressions.specs.Names.{of_cell, meant_as}
use Rattle.uc_flat_expressions.specs.Expressions.{flat_of}
use Rattle.uc_flat_design.specs.Sayings.{Says, AreMeant}
use Rattle.uc_flat_design.proofs.OnlyReads.{cell_reads}
use Rattle.uc_flat_design.proofs.Telling.{flat_says}
use Rattle.uc_flat_design.specs.Names.{StandsAlone, names_over_cells, types_of, constant_types}
use Rattle.uc_flat_design.specs.Constants.{SharesConstants}
use Rattle.uc_flat_design.proofs.Cells.{cell_type}
use Rattle.uc_flat_design.proofs.Meaning.{name_in_cell, no_instance, names_hold}
use Rattle.uc_flat_design.specs.FlatInitLawLaw.{now}
use Rattle.uc_flat_design.proofs.FlatInitLawOptions.{some_same}
use Rattle.uc_flat_design.proofs.Turns.{fit_set, fit_part}
use Rattle.uc_flat_design.proofs.Entries.{entry}
use Rattle.uc_flat_design.proofs.Locals.{Held, entry_of, names_with, local_in, locals_in, scope_with, held_at, Stands, FitHeld, Fine, none_some, take_set_front, part_set_same, floor, one_of, off_front, off_behind, locals_off, fit_off, local_at, fit_one, name_free, name_held, set_held, fit_set_held}

pub there_below : {A : Type 0} (xs : List A) (k : ℕ) (x : A) → slice_get xs k ≡ Some x → k < length xs
there_below [] k x e = absurd (none_some x e)
there_below (y ∷ xs) zero x e = omega arith
there_below (y ∷ xs) (suc k) x e = omega (arith, there_below xs k x e)

pub fit_length : (types : List Ty) (values : List Value) → FitAll types values → length values ≡ length types
unfolding FitAll
fit_length [] [] h = refl
fit_length [] (v ∷ values) h = absurd h
fit_length (ty ∷ types) [] h = absurd h
fit_length (ty ∷ types) (v ∷ values) h = omega (arith, fit_length types values h.1)

-- ---- a name in a scope with locals

module _ (system : System) (s : Scope) where
  -- the same scope without them
  abbrev bare : Scope
  bare = record s { locals = [] }

  same_state : (primed : Bool) → state_in s primed ≡ state_in bare primed
  same_state true = refl
  same_state false = refl

  same_cell : (x : ℕ) (primed : Bool) (o : Option (List ℕ × Expr)) → cell_source system s x primed o ≡ cell_source system bare x primed o
  same_cell x primed None = ap (λ st. OfCell st (cell_of system s.path x)) (same_state primed)
  same_cell x primed (Some b) = ap (λ st. OfBinding (at_path (at_state s st) b.0) b.1) (same_state primed)

  same_source : (c : Module) (x : ℕ) (primed : Bool) (kind : VariableKind) → variable_source system s c x primed kind ≡ variable_source system bare c x primed kind
  same_source c x primed constant_kind = refl
  same_source c x primed Variable = same_cell x primed None
  same_source c x primed Input = same_cell x primed (binding_of system s.path x)
  same_source c x primed Output = same_cell x primed (binding_of system s.path x)

  same_declared : (c : Module) (x : ℕ) (primed : Bool) (o : Option (VariableKind × TypeExpr)) → declared_meaning system s c x primed o ≡ declared_meaning system bare c x primed o
  same_declared c x primed None = refl
  same_declared c x primed (Some d) = ap (means _) (same_source c x primed d.0)

  same_module : (x : ℕ) (primed : Bool) (c : Module) (o : Option (ℕ × ℕ)) → module_meaning system s x primed c o ≡ module_meaning system bare x primed c o
  same_module x primed c (Some l) = refl
  same_module x primed c None = same_declared c x primed (variable_of c x)

  same_global : (x : ℕ) (primed : Bool) (o : Option Module) → global_meaning system s x primed o ≡ global_meaning system bare x primed o
  same_global x primed None = refl
  same_global x primed (Some c) = same_module x primed c (label_of system c x)

  -- a name of no local is read as without locals
  pub name_of_none : (other : Elsewhere) (x : ℕ) (primed : Bool) → local_of s x ≡ None → name system other s x primed ≡ name system other bare x primed
  unfolding meaning_of
  name_of_none other x primed none = ap (λ o. meant_reading other (name_meaning system s x primed o)) none ∙ ap (meant_reading other) (same_global x primed (module_at system s.path))

  -- a local is read as its value
  pub name_of_local : (other : Elsewhere) (x : ℕ) (primed : Bool) (l : Local) → local_of s x ≡ Some l → name system other s x primed ≡ reads l.ty l.value
  unfolding meaning_of
  name_of_local other x primed l found = ap (λ o. meant_reading other (name_meaning system s x primed o)) found

-- a cell says what is read, where it has its value
cell_says : (constants : List Ty) (m : Model) (types : List Ty) (values : List Value) (k : ℕ) (ty : Ty) (r : Reading) → Valid ty → slice_get types k ≡ Some ty → fits ty (part values k) ≡ true → r ≡ reads ty (part values k)
    → Says constants m types values r (of_cell k ty)
cell_says constants m types values k ty r v h f is = record {
  typed = typed_cell types k (there_below types k ty h);
  reads = cell_reads (λ j t. slice_get constants j ≡ Some t) k;
  own = type_cell types k ∙ ap type_or h;
  valid = v;
  type = ap (λ (q : Reading). q.type) is;
  value = ap (λ (q : Reading). q.value) is ∙ sym (value_cell m types values k);
  fit = ap (λ (q : Reading). fits ty q.value) is ∙ f;
  literal = tt;
}

-- A name that is written: its cell, with its type, is read as the name, and is given what the name is set to.
pub record IsPlace (system : System) (i : Interp) (first types : List Ty) (hs : List Held) (next x k : ℕ) (ty : Ty) : Type 0 where
  pub typed : slice_get types k ≡ Some ty
  pub below : k < next
  pub fit : (cells : List Value) → Fine first types hs cells → fits ty (part cells k) ≡ true
  pub read : (cells : List Value) → Fine first types hs cells → name system (reading system) (scope_with i (length first) cells hs) x false ≡ reads ty (part cells k)
  pub set : (cells : List Value) (v : Value) → Fine first types hs cells → set_name system (scope_with i (length first) cells hs) x v ≡ scope_with i (length first) (slice_set cells k v) hs
  pub fine : (cells : List Value) (v : Value) → Fine first types hs cells → fits ty v ≡ true → Fine first types hs (slice_set cells k v)

module _ (system : System) (code : Module) (i : Interp) (m : Model) (more : List Ty) (alone : StandsAlone system code) (shared : SharesConstants system i m) (constants_valid : AllValid (constant_types system)) (cells_valid : AllValid (types_of system)) where
  abbrev first : List Ty
  first = types_of system

  abbrev types : List Ty
  types = first ++ more

  abbrev n : ℕ
  n = length first

  abbrev base : List Meant
  base = names_over_cells system code

  abbrev here : List Value → List Held → Scope
  here cells hs = scope_with i n cells hs

  abbrev plain : List Value → Scope
  plain cells = now i (take n cells)

  top : (cells : List Value) → IsTop (plain cells)
  top cells = record { path = refl; locals = refl }

  -- what is said of the cells of the state is said of all cells
  in_front : (cells : List Value) (r : Reading) (t : TypedExpression) → FitAll first (take n cells) → Says (constant_types system) m first (take n cells) r t → Says (constant_types system) m types cells r t
  in_front cells r t fit a =
      let f = front_holds m first more (take n cells) (drop n cells) t.expression (fit_length first (take n cells) fit) a.typed in
      subst (λ cs. Says (constant_types system) m types cs r t) (take-append-drop n cells)
      (record { typed = f.typed; reads = a.reads; own = f.type ∙ a.own; valid = a.valid; type = a.type; value = a.value ∙ sym f.value; fit = a.fit; literal = a.literal })

  no_local : (cells : List Value) (hs : List Held) (x : ℕ) → held_at hs x ≡ None → local_of (here cells hs) x ≡ None
  no_local cells hs x e = local_at cells hs x ∙ ap (option_map (local_in cells)) e

  own_local : (cells : List Value) (hs : List Held) (x : ℕ) (h : Held) → held_at hs x ≡ Some h → local_of (here cells hs) x ≡ Some (local_in cells h)
  own_local cells hs x h e = local_at cells hs x ∙ ap (option_map (local_in cells)) e

  held_says : (cells : List Value) (hs : List Held) (k x : ℕ) (primed : Bool) (t : TypedExpression) (h : Held) → Stands types n hs k → FitHeld cells hs → held_at hs x ≡ Some h → meant_as primed (Some (entry_of h)) ≡ Some t
      → Says (constant_types system) m types cells (name system (elsewhere system) (here cells hs) x primed) t
  held_says cells hs k x true t h s f e q = absurd (none_some t q)
  held_says cells hs k x false t h s f e q =
      let one = one_of types n hs k x h e s in
      subst (Says (constant_types system) m types cells (name system (elsewhere system) (here cells hs) x false)) (some_same (of_cell h.cell h.ty) t q)
      (cell_says (constant_types system) m types cells h.cell h.ty (name system (elsewhere system) (here cells hs) x false) one.valid one.typed (fit_one cells hs x h e f)
      (name_of_local system (here cells hs) (elsewhere system) x false (local_in cells h) (own_local cells hs x h e)))

  abbrev IsToldAs : List Held → List Value → ℕ → Bool → TypedExpression → Type 0
  IsToldAs hs cells x primed t = Says (constant_types system) m types cells (name system (elsewhere system) (here cells hs) x primed) t

  -- each name that stands for something says what it means
  pub held_meant : (hs : List Held) (k : ℕ) (cells : List Value) → Stands types n hs k → FitAll first (take n cells) → FitHeld cells hs → AreMeant system (here cells hs) (constant_types system) m types cells (names_with base hs)
  held_meant hs k cells s fit held x primed t h = record { alone = no_instance system code alone (plain cells) (top cells) x; says = by_local (held_at hs x) refl }
    where
      by_entry : (g : Held) → held_at hs x ≡ Some g → (o : Option Meant) → slice_get (names_with base hs) x ≡ o → meant_as primed o ≡ Some t → IsToldAs hs cells x primed t
      by_entry g e None a q = absurd (none_some t q)
      by_entry g e (Some z) a q = held_says cells hs k x primed t g s held e (ap (λ y. meant_as primed (Some y)) (name_held base hs x g z e a) ∙ q)

      by_local : (o : Option Held) → held_at hs x ≡ o → IsToldAs hs cells x primed t
      by_local None e =
          let a = names_hold system code (plain cells) m (take n cells) alone (top cells) shared constants_valid refl cells_valid fit x primed t (ap (meant_as primed) (sym (name_free base hs x e)) ∙ h) in
          let r = name system (elsewhere system) (plain cells) x primed in
          subst (λ q. Says (constant_types system) m types cells q t) (sym (name_of_none system (here cells hs) (elsewhere system) x primed (no_local cells hs x e))) (in_front cells r t fit a.says)
      by_local (Some g) e = by_entry g e (slice_get (names_with base hs) x) refl h

  -- what stands for an expression says it
  pub held_said : (hs : List Held) (k : ℕ) (cells : List Value) → Stands types n hs k → Fine first types hs cells → (e : Expr) (t : TypedExpression) → flat_of (names_with base hs) e ≡ Some t
      → Says (constant_types system) m types cells (reading system (here cells hs) e) t
  held_said hs k cells s f e t h = flat_says system (here cells hs) (constant_types system) m types cells (names_with base hs) e t (held_meant hs k cells s f.fit f.held) h

  -- ---- names that are written

  part_front : (cells : List Value) (k : ℕ) → k < n → part (take n cells) k ≡ part cells k
  part_front cells k l = get_or-take n cells k nothing l

  -- a scope by its state and its locals
  abbrev made : List Value → List Local → Scope
  made values ls = record (now i values) { locals = ls }

  state_place : (hs : List Held) (next x k : ℕ) (new : Option ℕ) (ty : Ty) → Stands types n hs next → held_at hs x ≡ None → slice_get base x ≡ Some (Cell k new ty) → IsPlace system i first types hs next x k ty
  unfolding set_name
  state_place hs next x k new ty s e h =
      let a = entry system code x k new ty h in
      let typed : slice_get first k ≡ Some ty = cell_type system code x k a.kind a.type alone a.has_cells a.variable a.cell ∙ ap Some a.own in
      let low : k < n = there_below first k ty typed in
      let off = off_front types n hs next k s low in
      record {
        typed = slice_get-front first more k low ∙ typed;
        below = omega (arith, low, floor types n hs next s);
        fit = λ cells f. ap (fits ty) (sym (part_front cells k low)) ∙ fit_part first (take n cells) k ty f.fit typed;
        read = λ cells f.
            name_of_none system (here cells hs) (reading system) x false (no_local cells hs x e)
            ∙ name_in_cell system code alone (plain cells) (top cells) (reading system) x k false a.kind a.type a.no_label a.variable a.has_cells a.cell
            ∙ ap (λ t. reads t (part (take n cells) k)) a.own
            ∙ ap (reads ty) (part_front cells k low);
        set = λ cells v f.
            ap (set_found system (here cells hs) x v) (no_local cells hs x e)
            ∙ ap (λ o. record (here cells hs) { before = set_cell (state_of (take n cells)) o v }) (written_at_top system x ∙ a.cell)
            ∙ ap (λ values. made values (locals_in cells hs)) (sym (take_set_front n cells k v low))
            ∙ ap (made (take n (slice_set cells k v))) (sym (locals_off cells v k hs off));
        fine = λ cells v f g. record {
          fit = subst (FitAll first) (sym (take_set_front n cells k v low)) (fit_set first (take n cells) k ty v typed g f.fit);
          even = length-set cells k v ∙ f.even;
          held = fit_off cells v k hs off f.held;
        };
      }

  held_place : (hs : List Held) (next x : ℕ) (h : Held) → Stands types n hs next → held_at hs x ≡ Some h → IsPlace system i first types hs next x h.cell h.ty
  unfolding set_name
  held_place hs next x h s e =
      let one = one_of types n hs next x h e s in
      let low = there_below types h.cell h.ty one.typed in
      record {
        typed = one.typed;
        below = one.below;
        fit = λ cells f. fit_one cells hs x h e f.held;
        read = λ cells f. name_of_local system (here cells hs) (reading system) x false (local_in cells h) (own_local cells hs x h e);
        set = λ cells v f.
            ap (set_found system (here cells hs) x v) (own_local cells hs x h e)
            ∙ ap (made (take n cells)) (set_held types n cells v x h (omega (arith, low, f.even)) hs next e s)
            ∙ ap (λ values. made values (locals_in (slice_set cells h.cell v) hs)) (sym (take-set-le n cells h.cell v one.behind));
        fine = λ cells v f g. record {
          fit = subst (FitAll first) (sym (take-set-le n cells h.cell v one.behind)) f.fit;
          even = length-set cells h.cell v ∙ f.even;
          held = fit_set_held types n cells v x h (omega (arith, low, f.even)) hs next e s g f.held;
        };
      }

  pub place_of : (hs : List Held) (next x k : ℕ) (new : Option ℕ) (ty : Ty) → Stands types n hs next → slice_get (names_with base hs) x ≡ Some (Cell k new ty) → IsPlace system i first types hs next x k ty
  place_of hs next x k new ty s h = by_local (held_at hs x) refl
    where
      number : (g : Held) → entry_of g ≡ Cell k new ty → g.cell ≡ k
      number g q = cc

      type : (g : Held) → entry_of g ≡ Cell k new ty → g.ty ≡ ty
      type g q = cc

      by_local : (o : Option Held) → held_at hs x ≡ o → IsPlace system i first types hs next x k ty
      by_local None e = state_place hs next x k new ty s e (sym (name_free base hs x e) ∙ h)
      by_local (Some g) e =
          let q = name_held base hs x g (Cell k new ty) e h in
          subst (λ j. IsPlace system i first types hs next x j ty) (number g q) (subst (λ t. IsPlace system i first types hs next x g.cell t) (type g q) (held_place hs next x g s e))

  -- ---- a local that is declared

  -- the newest one, in the next further cell
  pub pushed : (hs : List Held) (x k : ℕ) (ty : Ty) (cells : List Value) (v : Value) → Stands types n hs k → k < length cells
      → made (take n cells) (record { name = x; ty = ty; value = v } ∷ locals_in cells hs) ≡ here (slice_set cells k v) (record { name = x; ty = ty; cell = k } ∷ hs)
  pushed hs x k ty cells v s l =
      ap (λ w. made (take n cells) (record { name = x; ty = ty; value = w } ∷ locals_in cells hs)) (sym (part_set_same cells k v l))
      ∙ ap (λ ls. made (take n cells) (record { name = x; ty = ty; value = part (slice_set cells k v) k } ∷ ls)) (sym (locals_off cells v k hs (off_behind types n hs k k s (omega arith))))
      ∙ ap (λ values. made values (locals_in (slice_set cells k v) (record { name = x; ty = ty; cell = k } ∷ hs))) (sym (take-set-le n cells k v (floor types n hs k s)))

  pub fine_pushed : (hs : List Held) (x k : ℕ) (ty : Ty) (cells : List Value) (v : Value) → Stands types n hs k → k < length cells → fits ty v ≡ true → Fine first types hs cells
      → Fine first types (record { name = x; ty = ty; cell = k } ∷ hs) (slice_set cells k v)
  fine_pushed hs x k ty cells v s l g f = record {
    fit = subst (FitAll first) (sym (take-set-le n cells k v (floor types n hs k s))) f.fit;
    even = length-set cells k v ∙ f.even;
    held = (ap (fits ty) (part_set_same cells k v l) ∙ g, fit_off cells v k hs (off_behind types n hs k k s (omega arith)) f.held);
  }

  -- a further cell of no local is given a value
  pub aside : (hs : List Held) (next k : ℕ) (cells : List Value) (v : Value) → Stands types n hs next → next ≤ k → here (slice_set cells k v) hs ≡ here cells hs
  aside hs next k cells v s l =
      ap (made (take n (slice_set cells k v))) (locals_off cells v k hs (off_behind types n hs next k s l))
      ∙ ap (λ values. made values (locals_in cells hs)) (take-set-le n cells k v (omega (arith, l, floor types n hs next s)))

  pub fine_aside : (hs : List Held) (next k : ℕ) (cells : List Value) (v : Value) → Stands types n hs next → next ≤ k → Fine first types hs cells → Fine first types hs (slice_set cells k v)
  fine_aside hs next k cells v s l f = record {
    fit = subst (FitAll first) (sym (take-set-le n cells k v (omega (arith, l, floor types n hs next s)))) f.fit;
    even = length-set cells k v ∙ f.even;
    held = fit_off cells v k hs (off_behind types n hs next k s l) f.held;
  }
