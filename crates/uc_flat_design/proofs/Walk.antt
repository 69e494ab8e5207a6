-- Init code and the code over cells that stands for it end alike.
use Rattle.std.proofs.Common.{◌≡◌, ℕ, ◌+◌, ◌<◌, ◌≤◌, List, [], ◌∷◌, ◌++◌, map, length, take, refl, sym, ap, ◌∙◌, subst, true, false, Bool, Option, Some, None, arith, append_assoc}
use Rattle.std.specs.Prelude.{if◌then◌else◌, slice_get, slice_set}
use Rattle.std.specs.Option.{option_map, option_and_then}
use Rattle.std.proofs.lemmas.List.{take_at, length-map, length-append}
use Rattle.uc_lexer.specs.declared.place.Place.{Place}
use Rattle.uc_syntax.specs.declared.expression.Expr.{Expr}
use Rattle.uc_syntax.specs.declared.place.Identifier.{Identifier}
use Rattle.uc_syntax.specs.declared.type_expression.TypeExpr.{TypeExpr}
use Rattle.uc_syntax.specs.declared.declaration.Module.{Module}
use Rattle.uc_syntax.specs.declared.statement.Arm.{Arm}
use Rattle.uc_syntax.specs.declared.statement.Target.{Target}
use Rattle.uc_syntax.specs.declared.statement.Stmt.{Stmt}
use Rattle.uc_syntax.specs.declared.statement.Stmt.TheOpen.{Stmt-F}
use Rattle.uc_syntax.specs.declared.statement.Stmt.TheOpen.Stmt-F.{Local as Declare, Skip, Block, Assert, Assume, Havoc, Assign, If, Case, For, Call, Next}
use Rattle.uc_syntax.specs.declared.statement.Stmt.TheViews.{roll-Stmt}
use Rattle.uc_syntax.specs.declared.statement.Stmt.TheFolds.{fold-Stmt, map-Stmt, fold-roll-Stmt, ind-Stmt}
use Rattle.uc_values.specs.declared.ty.Ty.{Ty}
use Rattle.uc_values.specs.declared.value.Value.{Value}
use Rattle.uc_values.specs.Values.{fits, truth_of}
use Rattle.uc_meaning.specs.declared.scope.Interp.{Interp}
use Rattle.uc_meaning.specs.declared.scope.Scope.{Scope}
use Rattle.uc_meaning.specs.Lookup.{System, module_at, module_from}
use Rattle.uc_meaning.specs.Types.{type_of_written}
use Rattle.uc_meaning.specs.Cells.{Cell, cells_of}
use Rattle.uc_meaning.specs.Expressions.{Reading, reads, value, is_true as is_true_in}
use Rattle.uc_meaning.specs.Code.{Running, Ending, Goes, Stopped, Unfit, Bodies, Execution as Run, then_run, run_each, run_block, run_form, run_statement, run_by, in_scope, keep_locals, else_block, taken, take_choice, choose, name_now, set_name, write, write_all, replaced, push_local, declare, declare_at}
use Rattle.uc_meaning.specs.Steps.{part_reading, fields_before, state_of}
use Rattle.uc_ops.specs.declared.model.Model.{Model}
use Rattle.uc_ops.specs.Typing.{part_type, type_or, Valid, AllValid}
use Rattle.uc_ops.specs.Meaning.{part}
use Rattle.uc_flat.specs.declared.expression.Expression.{Expression}
use Rattle.uc_flat.specs.declared.expression.Expression.TheVariants.{Cell as ReadCell}
use Rattle.uc_flat.specs.declared.statement.Statement.{Statement}
use Rattle.uc_flat.specs.declared.statement.Statement.TheVariants.{Assign as AssignCell, Havoc as HavocCell, Assume as AssumeThat, If as IfThat}
use Rattle.uc_flat.specs.Reading.{type_of, value_of, is_true}
use Rattle.uc_flat.specs.Running.{Placed, runs, run_all, chooses, with_choice, in_turn}
use Rattle.uc_flat.specs.Flats.{wider_types}
use Rattle.uc_flat.specs.Unrolled.{widened}
use Rattle.uc_flat.specs.Executions.{FitAll}
use Rattle.uc_flat.proofs.Forms.{value_cell, runs_assign, runs_havoc, runs_assume, runs_if}
use Rattle.uc_flat_expressions.specs.declared.typed.TypedExpression.{TypedExpression}
use Rattle.uc_flat_expressions.specs.declared.typed.Meant.{Meant}
use Rattle.uc_flat_expressions.specs.declared.typed.Meant.TheVariants.{Cell as CellOf}
use Rattle.uc_flat_expressions.specs.Types.{is_boolean}
use Rattle.uc_flat_expressions.specs.Expressions.{flat_of, all_of}
use Rattle.uc_flat_code.specs.declared.writing.Written.{Written}
use Rattle.uc_flat_code.specs.Code.{written, havocked, assume_of, havoc_of, replaced_in, assigned, joined_arms, in_order as all_in_order}
use Rattle.uc_flat_design.specs.Names.{StandsAlone, names_over_cells, types_of, constant_types}
use Rattle.uc_flat_design.specs.Constants.{SharesConstants}
use Rattle.uc_flat_code.specs.declared.made.MadeCode.{MadeCode}
use Rattle.uc_flat_code.specs.declared.made.MadeArms.{MadeArms}
use Rattle.uc_flat_code.specs.CellTypes.{cell_type_of}
use Rattle.uc_flat_code.specs.Zero.{zero_of}
use Rattle.uc_flat_code.specs.Init.{Made, Making, alone as code_alone, then_made, in_order, ended as closed_with, in_block, plainly, declared, kept, given, kept_in, each_given, through_kept, assigned_by, arm_by, arm_with, arm_made, then_arms, arms_made, else_of, joined, if_of, making_form, making_of, made_code}
use Rattle.uc_flat_design.specs.FlatInitLawLaw.{now, running, placed as placed_with, EndAlike, InitCodeLaw}
use Rattle.uc_flat_design.proofs.FlatInitLawOptions.{then_some, map_some, if_some, some_same}
use Rattle.uc_flat_design.proofs.Forms.{truth_holds, arms_in, else_in, IsWritten, is_written, is_havocked}
use Rattle.uc_flat_design.proofs.Turns.{run_append, run_none, run_one, run_is}
use Rattle.uc_flat_design.proofs.Fields.{placed, placed_fits, path_part}
use Rattle.uc_flat_design.proofs.Replacing.{Replaces, replaced_known, replaced_placed}
use Rattle.uc_flat_design.proofs.Zeros.{zero_type, cell_type_read}
use Rattle.uc_flat_design.proofs.Further.{AreCells, cells_before, cells_behind, cells_there}
use Rattle.uc_flat_design.proofs.Locals.{Held, names_with, locals_in, scope_with, Stands, Fine, none_some, part_set_same, part_set_other, later, fit_outer, keep_outer}
use Rattle.uc_flat_design.proofs.Names.{there_below, fit_length, IsPlace, held_said, place_of, pushed, fine_pushed, aside, fine_aside}

-- further cells from number k on have these values
abbrev Keeps : ℕ → List Value → List Value → Type 0
Keeps k [] cells = Unit {0}
Keeps k (v ∷ vs) cells = (part cells k ≡ v) × Keeps (k + 1) vs cells

-- a cell before them is written
keeps_set : (k : ℕ) (vs cells : List Value) (j : ℕ) (v : Value) → j < k → Keeps k vs cells → Keeps k vs (slice_set cells j v)
keeps_set k [] cells j v l h = tt
keeps_set k (w ∷ vs) cells j v l h = (part_set_other cells j k v (λ e. omega (arith, e, l)) ∙ h.0, keeps_set (k + 1) vs cells j v (omega (arith, l)) h.1)

-- the values fit the types of the sources
abbrev AreOf : List TypedExpression → List Value → Type 0
AreOf [] [] = Unit {0}
AreOf (x ∷ xs) (v ∷ vs) = (fits x.ty v ≡ true) × AreOf xs vs
AreOf [] (v ∷ vs) = ⊥
AreOf (x ∷ xs) [] = ⊥

module _ (system : System) (main : Module) (i : Interp) (m : Model) (more : List Ty) (alone : StandsAlone system main) (shared : SharesConstants system i m) (constants_valid : AllValid (constant_types system)) (cells_valid : AllValid (types_of system)) (bodies : Bodies) (others : List Value) where
  abbrev first : List Ty
  first = types_of system

  abbrev types : List Ty
  types = first ++ more

  abbrev n : ℕ
  n = length first

  abbrev base : List Meant
  base = names_over_cells system main

  abbrev here : List Value → List Held → Scope
  here cells hs = scope_with i n cells hs

  -- both are where these locals are in scope, with these cells and these choices left
  abbrev going : List Held → List Value → List Value → Running
  going hs cells left = record { scope = here cells hs; sites = []; left = left }

  abbrev at : List Value → List Value → Placed
  at cells left = placed_with others cells left

  record IsThere (hs : List Held) (r : Running) (p : Placed) : Type 0 where
    cells : List Value
    left : List Value
    fine : Fine first types hs cells
    design : r ≡ going hs cells left
    flat : p ≡ at cells left

  -- both go on from there, or neither goes on
  abbrev Ends : List Held → Ending → Option Placed → Type 0
  Ends hs (Goes r) (Some p) = IsThere hs r p
  Ends hs (Goes r) None = ⊥
  Ends hs other (Some p) = ⊥
  Ends hs other None = Unit {0}

  abbrev Alike : List Held → List Held → Run → List Statement → Type 0
  Alike hs after x flat = (cells left : List Value) → Fine first types hs cells → Ends after (x (going hs cells left)) (run_all m types flat (at cells left))

  -- What code does where locals are in scope and the next further cell has number k: behind it the locals that it declared are in scope too.
  record Given (hs : List Held) (k : ℕ) (x : Run) (a : Made) : Type 0 where
    after : List Held
    inner : List Held
    is : after ≡ inner ++ hs
    names : a.names ≡ names_with base after
    stands : Stands types n after (k + length a.further)
    alike : Alike hs after x a.code

  abbrev Gives : Run → Making → Type 0
  Gives x o = (hs : List Held) (k : ℕ) (a : Made) → Stands types n hs k → o (names_with base hs) k ≡ Some a → AreCells first types k a.further → Given hs k x a

  abbrev AllGive : List Run → List Making → Type 0
  AllGive [] [] = Unit {0}
  AllGive (x ∷ xs) (o ∷ os) = Gives x o × AllGive xs os
  AllGive [] (o ∷ os) = ⊥
  AllGive (x ∷ xs) [] = ⊥

  abbrev ArmsGive : List (Arm Run) → List (Arm Making) → Type 0
  ArmsGive [] [] = Unit {0}
  ArmsGive (a ∷ arms) (b ∷ forms) = (a.condition ≡ b.condition) × AllGive a.body b.body × ArmsGive arms forms
  ArmsGive [] (b ∷ forms) = ⊥
  ArmsGive (a ∷ arms) [] = ⊥

  abbrev ElseGives : Option (List Run) → Option (List Making) → Type 0
  ElseGives None None = Unit {0}
  ElseGives (Some xs) (Some os) = AllGive xs os
  ElseGives None (Some os) = ⊥
  ElseGives (Some xs) None = ⊥

  -- ---- one after another

  onward : (hs after : List Held) (y : Run) (ys : List Statement) → Alike hs after y ys → (e : Ending) (o : Option Placed) → Ends hs e o → Ends after (then_run e y) (option_and_then (run_all m types ys) o)
  onward hs after y ys b (Goes r) (Some p) h =
      subst (λ q. Ends after (y q) (run_all m types ys p)) (sym h.design)
      (subst (λ q. Ends after (y (going hs h.cells h.left)) (run_all m types ys q)) (sym h.flat) (b h.cells h.left h.fine))
  onward hs after y ys b (Goes r) None h = absurd h
  onward hs after y ys b Stopped (Some p) h = absurd h
  onward hs after y ys b Stopped None h = tt
  onward hs after y ys b (Unfit left) (Some p) h = absurd h
  onward hs after y ys b (Unfit left) None h = tt

  then_alike : (hs js after : List Held) (x y : Run) (xs ys : List Statement) → Alike hs js x xs → Alike js after y ys → Alike hs after (λ r. then_run (x r) y) (xs ++ ys)
  then_alike hs js after x y xs ys a b cells left f =
      subst (Ends after (then_run (x (going hs cells left)) y)) (sym (run_append m types xs ys (at cells left)))
      (onward js after y ys b (x (going hs cells left)) (run_all m types xs (at cells left)) (a cells left f))

  stays : (hs : List Held) (cells left : List Value) → Fine first types hs cells → IsThere hs (going hs cells left) (at cells left)
  stays hs cells left f = record { cells = cells; left = left; fine = f; design = refl; flat = refl }

  none_alike : (hs : List Held) → Alike hs hs (λ r. Goes r) []
  none_alike hs cells left f = subst (Ends hs (Goes (going hs cells left))) (sym (run_none m types (at cells left))) (stays hs cells left f)

  -- code that declares nothing and has no further cells
  plain_given : (hs : List Held) (k : ℕ) (x : Run) (code : List Statement) → Stands types n hs k → Alike hs hs x code → Given hs k x (code_alone (names_with base hs) code)
  plain_given hs k x code s a = record { after = hs; inner = []; is = refl; names = refl; stands = later types n hs k (k + 0) s (omega arith); alike = a }

  each_gives : (xs : List Run) (os : List Making) → AllGive xs os → Gives (run_each xs) (in_order os)
  unfolding run_each in_order
  each_gives [] [] h hs k a s e t = subst (Given hs k (run_each [])) (some_same (code_alone (names_with base hs) []) a e) (plain_given hs k (run_each []) [] s (none_alike hs))
  each_gives [] (o ∷ os) h hs k a s e t = absurd h
  each_gives (x ∷ xs) [] h hs k a s e t = absurd h
  each_gives (x ∷ xs) (o ∷ os) h hs k a s e t =
      let f = then_some (λ b. option_map (then_made b) (in_order os b.names (k + length b.further))) (o (names_with base hs) k) a e in
      let b = f.0 in
      let g = map_some (then_made b) (in_order os b.names (k + length b.further)) a f.2 in
      let c = g.0 in
      let there = subst (λ (z : Made). AreCells first types k z.further) (sym g.2) t in
      let one = h.0 hs k b s f.1 (cells_before first types k b.further c.further there) in
      let rest = each_gives xs os h.1 one.after (k + length b.further) c one.stands (subst (λ ns. in_order os ns (k + length b.further) ≡ Some c) one.names g.1) (cells_behind first types k b.further c.further there) in
      subst (Given hs k (run_each (x ∷ xs))) g.2 (record {
        after = rest.after;
        inner = rest.inner ++ one.inner;
        is = rest.is ∙ ap (λ js. rest.inner ++ js) one.is ∙ sym (append_assoc rest.inner one.inner hs);
        names = rest.names;
        stands = later types n rest.after (k + length b.further + length c.further) (k + length (b.further ++ c.further)) rest.stands (omega (arith, length-append b.further c.further));
        alike = then_alike hs one.after rest.after x (run_each xs) b.code c.code one.alike rest.alike;
      })

  -- ---- a block ends with the locals of before

  fine_outer : (inner hs : List Held) (cells : List Value) → Fine first types (inner ++ hs) cells → Fine first types hs cells
  fine_outer inner hs cells f = record { fit = f.fit; even = f.even; held = fit_outer cells inner hs f.held }

  closes : (hs inner : List Held) (before : List Value) (e : Ending) (o : Option Placed) → Ends (inner ++ hs) e o → Ends hs (then_run e (λ r. Goes (in_scope r (keep_locals (length (locals_in before hs)) r.scope)))) o
  closes hs inner before (Goes r) (Some p) h = record {
    cells = h.cells;
    left = h.left;
    fine = fine_outer inner hs h.cells h.fine;
    design =
        ap (λ (q : Running). in_scope q (keep_locals (length (locals_in before hs)) q.scope)) h.design
        ∙ ap (λ ls. record { scope = record (now i (take n h.cells)) { locals = ls }; sites = []; left = h.left }) (keep_outer h.cells before inner hs);
    flat = h.flat;
  }
  closes hs inner before (Goes r) None h = absurd h
  closes hs inner before Stopped (Some p) h = absurd h
  closes hs inner before Stopped None h = tt
  closes hs inner before (Unfit left) (Some p) h = absurd h
  closes hs inner before (Unfit left) None h = tt

  block_alike : (hs after inner : List Held) (xs : List Run) (flat : List Statement) → after ≡ inner ++ hs → Alike hs after (run_each xs) flat → Alike hs hs (run_block xs) flat
  block_alike hs after inner xs flat is a cells left f =
      closes hs inner cells (run_each xs (going hs cells left)) (run_all m types flat (at cells left))
      (subst (λ js. Ends js (run_each xs (going hs cells left)) (run_all m types flat (at cells left))) is (a cells left f))

  -- code that leaves the names as they were
  record Closed (hs : List Held) (x : Run) (a : Made) : Type 0 where
    names : a.names ≡ names_with base hs
    alike : Alike hs hs x a.code

  closed_given : (hs : List Held) (k : ℕ) (x : Run) (a : Made) → Stands types n hs k → Closed hs x a → Given hs k x a
  closed_given hs k x a s c = record { after = hs; inner = []; is = refl; names = c.names; stands = later types n hs k (k + length a.further) s (omega arith); alike = c.alike }

  block_closed : (xs : List Run) (os : List Making) → AllGive xs os → (hs : List Held) (k : ℕ) (a : Made) → Stands types n hs k → in_block os (names_with base hs) k ≡ Some a → AreCells first types k a.further → Closed hs (run_block xs) a
  block_closed xs os h hs k a s e t =
      let f = map_some (closed_with (names_with base hs)) (in_order os (names_with base hs) k) a e in
      let there = subst (λ (z : Made). AreCells first types k z.further) (sym f.2) t in
      let inside = each_gives xs os h hs k f.0 s f.1 there in
      subst (Closed hs (run_block xs)) f.2 (record { names = refl; alike = block_alike hs inside.after inside.inner xs f.0.code inside.is inside.alike })

  -- ---- statements without statements inside

  decided : (hs : List Held) (k : ℕ) → Stands types n hs k → (e : Expr) (t : TypedExpression) → flat_of (names_with base hs) e ≡ Some t → (cells : List Value) → Fine first types hs cells
      → is_true_in system (here cells hs) e ≡ is_true m types cells t.expression
  decided hs k s e t h cells f =
      truth_holds (value system (here cells hs) e) ∙ ap truth_of (held_said system main i m more alone shared constants_valid cells_valid hs k cells s f e t h).value

  assumed : (hs : List Held) (b : Bool) (r : Running) (p : Placed) → IsThere hs r p → Ends hs (if b then Goes r else Stopped) (if b then Some p else None)
  assumed hs true r p h = h
  assumed hs false r p h = tt

  assume_gives : (e : Expr) → Gives (λ r. if is_true_in system r.scope e then Goes r else Stopped) (λ names k. option_map (code_alone names) (option_and_then assume_of (flat_of names e)))
  assume_gives e hs k a s h there =
      let names = names_with base hs in
      let c = map_some (code_alone names) (option_and_then assume_of (flat_of names e)) a h in
      let f = then_some assume_of (flat_of names e) c.0 c.1 in
      let t = f.0 in
      let is = some_same (AssumeThat t.expression ∷ []) c.0 (if_some (is_boolean t.ty) (Some (AssumeThat t.expression ∷ [])) c.0 f.2).1 in
      subst (Given hs k (λ r. if is_true_in system r.scope e then Goes r else Stopped)) c.2
      (plain_given hs k (λ r. if is_true_in system r.scope e then Goes r else Stopped) c.0 s
      (λ cells left fine.
      let ran = run_one m types (AssumeThat t.expression) (at cells left) ∙ runs_assume m types t.expression (at cells left) in
      subst (λ ss. Ends hs (if is_true_in system (here cells hs) e then Goes (going hs cells left) else Stopped) (run_all m types ss (at cells left))) is
      (subst (Ends hs (if is_true_in system (here cells hs) e then Goes (going hs cells left) else Stopped)) (sym ran)
      (subst (λ b. Ends hs (if b then Goes (going hs cells left) else Stopped) (if is_true m types cells t.expression then Some (at cells left) else None)) (sym (decided hs k s e t f.1 cells fine))
      (assumed hs (is_true m types cells t.expression) (going hs cells left) (at cells left) (stays hs cells left fine))))))

  type_there : (k : ℕ) (ty : Ty) → slice_get types k ≡ Some ty → part_type types k ≡ ty
  type_there k ty h = ap type_or h

  abbrev Place_of : List Held → ℕ → ℕ → ℕ → Ty → Type 0
  Place_of hs next x k ty = IsPlace system i first types hs next x k ty

  placed_name : (hs : List Held) (next x : ℕ) (k : Written) → Stands types n hs next → IsWritten (names_with base hs) x k → Place_of hs next x k.cell k.ty
  placed_name hs next x k s w =
      subst (λ c. Place_of hs next x c k.ty) (sym w.same) (place_of system main i m more alone shared constants_valid cells_valid hs next x w.cell w.new k.ty s w.is)

  one_assign : (cells left : List Value) (k : ℕ) (e : Expression) → run_all m types (AssignCell k e ∷ []) (at cells left) ≡ Some (at (slice_set cells k (value_of m types cells e)) left)
  one_assign cells left k e = run_one m types (AssignCell k e) (at cells left) ∙ runs_assign m types k e (at cells left)

  -- the scope after a target is written
  write_one : (hs : List Held) (next : ℕ) (cells : List Value) (t : Target) (e : Expression) (x : TypedExpression) (v : Value) (k : ℕ) (ty : Ty) → Fine first types hs cells → Replaces (ReadCell k) ty t.parts x e → Place_of hs next t.name k ty
      → write system (here cells hs) t v ≡ here (slice_set cells k (placed (reads ty (part cells k)) (fields_before t.parts) v)) hs
  unfolding write
  write_one hs next cells t e x v k ty f r h =
      ap (set_name system (here cells hs) t.name)
      (ap (λ q. replaced system (here cells hs) q t.parts v) (h.read cells f) ∙ replaced_placed system (here cells hs) t.parts (reads ty (part cells k)) v r.plain)
      ∙ h.set cells (placed (reads ty (part cells k)) (fields_before t.parts) v) f

  -- both after one target
  record AreWritten (hs : List Held) (next : ℕ) (cells : List Value) (t : Target) (v : Value) (ss : List Statement) : Type 0 where
    k : ℕ
    u : Value
    below : k < next
    fine : Fine first types hs (slice_set cells k u)
    design : write system (here cells hs) t v ≡ here (slice_set cells k u) hs
    flat : (left : List Value) → run_all m types ss (at cells left) ≡ Some (at (slice_set cells k u) left)

  one_written : (hs : List Held) (next : ℕ) (cells : List Value) (t : Target) (x : TypedExpression) (v : Value) (ss : List Statement) → Stands types n hs next → Fine first types hs cells → given (names_with base hs) t x ≡ Some ss
      → value_of m types cells x.expression ≡ v → fits x.ty v ≡ true → AreWritten hs next cells t v ss
  one_written hs next cells t x v ss s f h source_is source_fits =
      let names = names_with base hs in
      let a = then_some (λ k. assigned k t.parts x) (written names plainly t.name t.is_primed) ss h in
      let k = a.0 in
      let d = map_some (λ z. AssignCell k.cell z ∷ []) (replaced_in (ReadCell k.cell) k.ty t.parts x) ss a.2 in
      let place = placed_name hs next t.name k s (is_written names t.name t.is_primed k a.1) in
      let r = replaced_known t.parts (ReadCell k.cell) d.0 k.ty x d.1 in
      let own = reads k.ty (part cells k.cell) in
      let u = placed own (fields_before t.parts) v in
      let there = place.fit cells f in
      let cell_is : value_of m types cells (ReadCell k.cell) ≡ part cells k.cell = value_cell m types cells k.cell in
      let value_is : value_of m types cells d.0 ≡ u =
      r.value m types cells (ap (fits k.ty) cell_is ∙ there)
      ∙ ap (λ y. placed (reads k.ty y) (fields_before t.parts) (value_of m types cells x.expression)) cell_is
      ∙ ap (placed own (fields_before t.parts)) source_is in
      let good : fits (part_reading own (fields_before t.parts)).type v ≡ true = ap (λ ty. fits ty v) (r.type (part cells k.cell)) ∙ source_fits in
      let whole_fits = placed_fits (fields_before t.parts) own v there (path_part k.ty (fields_before t.parts) r.path) good in
      record {
        k = k.cell;
        u = u;
        below = place.below;
        fine = place.fine cells u f whole_fits;
        design = write_one hs next cells t d.0 x v k.cell k.ty f r place;
        flat = λ left. ap (λ zs. run_all m types zs (at cells left)) (sym d.2) ∙ one_assign cells left k.cell d.0 ∙ ap (λ y. Some (at (slice_set cells k.cell y) left)) value_is;
      }

  -- ---- assignments

  abbrev assigns : List Target → List Expr → Run
  assigns ts es r = Goes (in_scope r (write_all system ts (map (value system r.scope) es) r.scope))

  one_assigned : (t : Target) (e : Expr) (x : TypedExpression) (hs : List Held) (k : ℕ) (a : Made) → Stands types n hs k → flat_of (names_with base hs) e ≡ Some x
      → option_map (code_alone (names_with base hs)) (given (names_with base hs) t x) ≡ Some a → Given hs k (assigns (t ∷ []) (e ∷ [])) a
  unfolding write_all
  one_assigned t e x hs k a s q h =
      let c = map_some (code_alone (names_with base hs)) (given (names_with base hs) t x) a h in
      subst (Given hs k (assigns (t ∷ []) (e ∷ []))) c.2
      (plain_given hs k (assigns (t ∷ []) (e ∷ [])) c.0 s
      (λ cells left f.
      let said = held_said system main i m more alone shared constants_valid cells_valid hs k cells s f e x q in
      let v = value system (here cells hs) e in
      let w = one_written hs k cells t x v c.0 s f c.1 (sym said.value) said.fit in
      subst (Ends hs (assigns (t ∷ []) (e ∷ []) (going hs cells left))) (sym (w.flat left))
      (subst (λ z. Ends hs (Goes (in_scope (going hs cells left) z)) (Some (at (slice_set cells w.k w.u) left))) (sym w.design) (stays hs (slice_set cells w.k w.u) left w.fine))))

  -- all sources are told
  abbrev AllTold : List Held → List Expr → List TypedExpression → Type 0
  AllTold hs [] [] = Unit {0}
  AllTold hs (e ∷ es) (x ∷ xs) = (flat_of (names_with base hs) e ≡ Some x) × AllTold hs es xs
  AllTold hs [] (x ∷ xs) = ⊥
  AllTold hs (e ∷ es) [] = ⊥

  all_told : (hs : List Held) (es : List Expr) (xs : List TypedExpression) → all_of (map (flat_of (names_with base hs)) es) ≡ Some xs → AllTold hs es xs
  all_told hs [] xs h = subst (AllTold hs []) (some_same [] xs h) tt
  all_told hs (e ∷ es) xs h =
      let f = then_some (λ x. option_map (λ ys. x ∷ ys) (all_of (map (flat_of (names_with base hs)) es))) (flat_of (names_with base hs) e) xs h in
      let g = map_some (λ ys. f.0 ∷ ys) (all_of (map (flat_of (names_with base hs)) es)) xs f.2 in
      subst (AllTold hs (e ∷ es)) g.2 (f.1, all_told hs es g.0 g.1)

  -- Both after the sources were kept: only further cells have other values.
  record AreKept (hs : List Held) (k : ℕ) (cells vs : List Value) (xs : List TypedExpression) (ss : List Statement) : Type 0 where
    after : List Value
    fine : Fine first types hs after
    same : here after hs ≡ here cells hs
    flat : (left : List Value) → run_all m types ss (at cells left) ≡ Some (at after left)
    kept : Keeps k vs after
    fit : AreOf xs vs
    before : (j : ℕ) → j < k → part after j ≡ part cells j

  all_kept : (hs : List Held) (next : ℕ) → Stands types n hs next → (es : List Expr) (xs : List TypedExpression) → AllTold hs es xs → (k : ℕ) → next ≤ k → AreCells first types k (map (λ x. zero_of x.ty) xs) → (cells : List Value) → Fine first types hs cells
      → AreKept hs k cells (map (value system (here cells hs)) es) xs (kept k xs)
  unfolding kept
  all_kept hs next s [] [] q k l c cells f = record { after = cells; fine = f; same = refl; flat = λ left. run_none m types (at cells left); kept = tt; fit = tt; before = λ j b. refl }
  all_kept hs next s [] (x ∷ xs) q k l c cells f = absurd q
  all_kept hs next s (e ∷ es) [] q k l c cells f = absurd q
  all_kept hs next s (e ∷ es) (x ∷ xs) q k l c cells f =
      let said = held_said system main i m more alone shared constants_valid cells_valid hs next cells s f e x q.0 in
      let v = value system (here cells hs) e in
      let then_cells = slice_set cells k v in
      let same = aside system main i m more alone shared constants_valid cells_valid hs next k cells v s l in
      let fine = fine_aside system main i m more alone shared constants_valid cells_valid hs next k cells v s l f in
      let rest = all_kept hs next s es xs q.1 (k + 1) (omega (arith, l)) c.1 then_cells fine in
      let low : k < length cells = omega (arith, there_below types k (type_of first (zero_of x.ty)) c.0, f.even) in
      record {
        after = rest.after;
        fine = rest.fine;
        same = rest.same ∙ same;
        flat = λ left.
            run_append m types (AssignCell k x.expression ∷ []) (kept (k + 1) xs) (at cells left)
            ∙ ap (option_and_then (run_all m types (kept (k + 1) xs))) (one_assign cells left k x.expression ∙ ap (λ y. Some (at (slice_set cells k y) left)) (sym said.value))
            ∙ rest.flat left;
        kept = (rest.before k (omega arith) ∙ part_set_same cells k v low, subst (λ z. Keeps (k + 1) (map (value system z) es) rest.after) same rest.kept);
        fit = (said.fit, subst (λ z. AreOf xs (map (value system z) es)) same rest.fit);
        before = λ j b. rest.before j (omega (arith, b)) ∙ part_set_other cells k j v (λ i. omega (arith, i, b));
      }

  -- targets from left to right, each with the value that is kept for it
  write_kept : (hs : List Held) (next : ℕ) → Stands types n hs next → (r : Running) (ts : List Target) (xs : List TypedExpression) (vs : List Value) (k : ℕ) (ss : List Statement) → next ≤ k → all_in_order (each_given (names_with base hs) k ts xs) ≡ Some ss → AreOf xs vs
      → (cells left : List Value) → Fine first types hs cells → Keeps k vs cells → r.sites ≡ [] → r.left ≡ left
      → Ends hs (Goes (in_scope r (write_all system ts vs (here cells hs)))) (run_all m types ss (at cells left))
  unfolding each_given write_all
  write_kept hs next s r [] [] [] k ss l h o cells left f z no_sites same_left =
      subst (λ ys. Ends hs (Goes (in_scope r (here cells hs))) (run_all m types ys (at cells left))) (some_same [] ss h)
      (subst (λ xs. Ends hs (Goes (record { scope = here cells hs; sites = xs; left = r.left })) (run_all m types [] (at cells left))) (sym no_sites)
      (subst (λ xs. Ends hs (Goes (record { scope = here cells hs; sites = []; left = xs })) (run_all m types [] (at cells left))) (sym same_left) (none_alike hs cells left f)))
  write_kept hs next s r [] [] (v ∷ vs) k ss l h o cells left f z no_sites same_left = absurd o
  write_kept hs next s r [] (x ∷ xs) vs k ss l h o cells left f z no_sites same_left = absurd (none_some ss h)
  write_kept hs next s r (t ∷ ts) [] vs k ss l h o cells left f z no_sites same_left = absurd (none_some ss h)
  write_kept hs next s r (t ∷ ts) (x ∷ xs) [] k ss l h o cells left f z no_sites same_left = absurd o
  write_kept hs next s r (t ∷ ts) (x ∷ xs) (v ∷ vs) k ss l h o cells left f z no_sites same_left =
      let names = names_with base hs in
      let a = then_some (λ ys. option_map (λ zs. ys ++ zs) (all_in_order (each_given names (k + 1) ts xs))) (given names t (kept_in k x)) ss h in
      let b = map_some (λ zs. a.0 ++ zs) (all_in_order (each_given names (k + 1) ts xs)) ss a.2 in
      let w = one_written hs next cells t (kept_in k x) v a.0 s f a.1 (value_cell m types cells k ∙ z.0) o.0 in
      let then_cells = slice_set cells w.k w.u in
      let rest = write_kept hs next s r ts xs vs (k + 1) b.0 (omega (arith, l)) b.1 o.1 then_cells left w.fine (keeps_set (k + 1) vs cells w.k w.u (omega (arith, l, w.below)) z.1) no_sites same_left in
      let ran =
      ap (λ ys. run_all m types ys (at cells left)) (sym b.2)
      ∙ run_append m types a.0 b.0 (at cells left)
      ∙ ap (option_and_then (run_all m types b.0)) (w.flat left) in
      subst (Ends hs (Goes (in_scope r (write_all system ts vs (write system (here cells hs) t v))))) (sym ran)
      (subst (λ q. Ends hs (Goes (in_scope r (write_all system ts vs q))) (run_all m types b.0 (at then_cells left))) (sym w.design) rest)

  length_kept : (xs : List TypedExpression) → length (map (λ (x : TypedExpression). zero_of x.ty) xs) ≡ length xs
  length_kept xs = length-map xs (λ (x : TypedExpression). zero_of x.ty)

  several_assigned : (ts : List Target) (es : List Expr) (xs : List TypedExpression) (hs : List Held) (k : ℕ) (a : Made) → Stands types n hs k → AllTold hs es xs
      → option_map (through_kept (names_with base hs) k xs) (all_in_order (each_given (names_with base hs) k ts xs)) ≡ Some a → AreCells first types k a.further → Given hs k (assigns ts es) a
  several_assigned ts es xs hs k a s q h there =
      let names = names_with base hs in
      let c = map_some (through_kept names k xs) (all_in_order (each_given names k ts xs)) a h in
      let cells_are = subst (λ (z : Made). AreCells first types k z.further) (sym c.2) there in
      subst (Given hs k (assigns ts es)) c.2 (record {
        after = hs;
        inner = [];
        is = refl;
        names = refl;
        stands = later types n hs k (k + length (map (λ (x : TypedExpression). zero_of x.ty) xs)) s (omega arith);
        alike = λ cells left f.
            let vs = map (value system (here cells hs)) es in
            let kept_them = all_kept hs k s es xs q k (omega arith) cells_are cells f in
            let r = going hs cells left in
            let ran = run_append m types (kept k xs) c.0 (at cells left) ∙ ap (option_and_then (run_all m types c.0)) (kept_them.flat left) in
            let rest = write_kept hs k s r ts xs vs k c.0 (omega arith) c.1 kept_them.fit kept_them.after left kept_them.fine kept_them.kept refl refl in
            subst (Ends hs (assigns ts es r)) (sym ran)
            (subst (λ z. Ends hs (Goes (in_scope r (write_all system ts vs z))) (run_all m types c.0 (at kept_them.after left))) kept_them.same rest);
      })

  assigned_gives : (ts : List Target) (es : List Expr) (xs : List TypedExpression) (hs : List Held) (k : ℕ) (a : Made) → Stands types n hs k → AllTold hs es xs → assigned_by ts xs (names_with base hs) k ≡ Some a → AreCells first types k a.further
      → Given hs k (assigns ts es) a
  unfolding assigned_by
  assigned_gives (t ∷ []) (e ∷ []) (x ∷ []) hs k a s q h there = one_assigned t e x hs k a s q.0 h
  assigned_gives (t ∷ []) (e ∷ d ∷ es) (x ∷ []) hs k a s q h there = absurd q.1
  assigned_gives (t ∷ []) [] (x ∷ []) hs k a s q h there = absurd q
  assigned_gives [] es xs hs k a s q h there = several_assigned [] es xs hs k a s q h there
  assigned_gives (t ∷ []) es [] hs k a s q h there = several_assigned (t ∷ []) es [] hs k a s q h there
  assigned_gives (t ∷ []) es (x ∷ y ∷ xs) hs k a s q h there = several_assigned (t ∷ []) es (x ∷ y ∷ xs) hs k a s q h there
  assigned_gives (t ∷ u ∷ ts) es xs hs k a s q h there = several_assigned (t ∷ u ∷ ts) es xs hs k a s q h there

  assign_gives : (ts : List Target) (es : List Expr) → Gives (assigns ts es) (λ names k. option_and_then (λ xs. assigned_by ts xs names k) (all_of (map (flat_of names) es)))
  assign_gives ts es hs k a s h there =
      let names = names_with base hs in
      let f = then_some (λ xs. assigned_by ts xs names k) (all_of (map (flat_of names) es)) a h in
      assigned_gives ts es f.0 hs k a s (all_told hs es f.0 f.1) f.2 there

  -- ---- choices

  -- the next choice is given to the cell
  takes : (hs : List Held) (b : Bool) (cells rest : List Value) (k : ℕ) (ty : Ty) (v : Value) (e : Ending) → fits ty v ≡ b → (fits ty v ≡ true → Ends hs e (Some (at (slice_set cells k v) rest)))
      → Ends hs (if b then e else Unfit (v ∷ rest)) (option_map (with_choice k (at cells (v ∷ rest))) (if b then Some (v, rest) else None))
  takes hs true cells rest k ty v e f then_ends = then_ends f
  takes hs false cells rest k ty v e f then_ends = tt

  choosing : (hs : List Held) (next : ℕ) (cells left : List Value) (k x : ℕ) (ty : Ty) → Place_of hs next x k ty → Fine first types hs cells
      → Ends hs (take_choice ty (λ v r. Goes (in_scope r (set_name system r.scope x v))) left (going hs cells left)) (chooses true ty k (at cells left))
  choosing hs next cells [] k x ty h f = tt
  choosing hs next cells (v ∷ rest) k x ty h f =
      takes hs (fits ty v) cells rest k ty v (Goes (in_scope (going hs cells rest) (set_name system (here cells hs) x v))) refl
      (λ g. subst (λ z. Ends hs (Goes (in_scope (going hs cells rest) z)) (Some (at (slice_set cells k v) rest))) (sym (h.set cells v f)) (stays hs (slice_set cells k v) rest (h.fine cells v f g)))

  abbrev havocs : Identifier → Run
  havocs x r = choose (name_now system r.scope x.name).type (λ v s. Goes (in_scope s (set_name system s.scope x.name v))) r

  havoc_gives : (x : Identifier) (primed : Bool) → Gives (havocs x) (λ names k. option_map (λ w. code_alone names (havoc_of plainly w)) (havocked names plainly x.name primed))
  havoc_gives x primed hs next a s h there =
      let names = names_with base hs in
      let c = map_some (λ w. code_alone names (havoc_of plainly w)) (havocked names plainly x.name primed) a h in
      let k = c.0 in
      let place = placed_name hs next x.name k s (is_havocked names x.name primed k c.1) in
      subst (Given hs next (havocs x)) c.2
      (plain_given hs next (havocs x) (havoc_of plainly k) s
      (λ cells left f.
      let ran =
      run_one m types (HavocCell k.cell true) (at cells left)
      ∙ runs_havoc m types k.cell true (at cells left)
      ∙ ap (λ t. chooses true t k.cell (at cells left)) (type_there k.cell k.ty place.typed) in
      let design = ap (λ t. take_choice t (λ v r. Goes (in_scope r (set_name system r.scope x.name v))) left (going hs cells left)) (ap (λ (r : Reading). r.type) (place.read cells f)) in
      subst (Ends hs (havocs x (going hs cells left))) (sym ran)
      (subst (λ q. Ends hs q (chooses true k.ty k.cell (at cells left))) (sym design) (choosing hs next cells left k.cell x.name k.ty place f))))

  -- ---- locals

  declared_gives : (type : TypeExpr) (ty : Ty) → type_of_written system main type ≡ ty → Valid ty → (xs : List Identifier) → Gives (declare system main (map (λ x. (x.name, type)) xs)) (declared ty xs)
  unfolding declare declared
  declared_gives type ty same valid [] hs k a s h there =
      subst (Given hs k (declare system main [])) (some_same (code_alone (names_with base hs) []) a h) (plain_given hs k (declare system main []) [] s (none_alike hs))
  declared_gives type ty same valid (x ∷ xs) hs k a s h there =
      let names = names_with base hs in
      let one : Made = record { code = HavocCell k true ∷ []; further = zero_of ty ∷ []; names = names } in
      let c = map_some (then_made one) (declared ty xs (slice_set names x.name (CellOf k None ty)) (k + 1)) a h in
      let cells_are = subst (λ (z : Made). AreCells first types k z.further) (sym c.2) there in
      let typed : slice_get types k ≡ Some ty = cells_are.0 ∙ ap Some (zero_type first ty) in
      let new : Held = record { name = x.name; ty = ty; cell = k } in
      let rest = declared_gives type ty same valid xs (new ∷ hs) (k + 1) c.0 (omega arith, typed, valid, s) c.1 cells_are.1 in
      let more_of : List (ℕ × TypeExpr) = map (λ (y : Identifier). (y.name, type)) xs in
      subst (Given hs k (declare system main ((x.name, type) ∷ more_of))) c.2 (record {
        after = rest.after;
        inner = rest.inner ++ new ∷ [];
        is = rest.is ∙ sym (append_assoc rest.inner (new ∷ []) hs);
        names = rest.names;
        stands = later types n rest.after (k + 1 + length c.0.further) (k + length (zero_of ty ∷ c.0.further)) rest.stands (omega arith);
        alike = λ cells left f.
            let ran =
            run_append m types (HavocCell k true ∷ []) c.0.code (at cells left)
            ∙ ap (option_and_then (run_all m types c.0.code))
            (run_one m types (HavocCell k true) (at cells left) ∙ runs_havoc m types k true (at cells left) ∙ ap (λ t. chooses true t k (at cells left)) (type_there k ty typed)) in
            subst (Ends rest.after (declare system main ((x.name, type) ∷ more_of) (going hs cells left))) (sym ran)
            (subst (λ t. Ends rest.after (take_choice t (λ v r. declare system main more_of (push_local x.name t v r)) left (going hs cells left)) (option_and_then (run_all m types c.0.code) (chooses true ty k (at cells left)))) (sym same)
            (taken_in hs k x.name ty (declare system main more_of) rest.after c.0.code s typed rest.alike cells left f));
      })
    where
      begins : (hs : List Held) (k name_of : ℕ) (ty : Ty) (go : Run) (after : List Held) (code : List Statement) → Stands types n hs k → slice_get types k ≡ Some ty → Alike (record { name = name_of; ty = ty; cell = k } ∷ hs) after go code
          → (b : Bool) (cells rest : List Value) (v : Value) → fits ty v ≡ b → Fine first types hs cells
          → Ends after (if b then go (push_local name_of ty v (going hs cells rest)) else Unfit (v ∷ rest)) (option_and_then (run_all m types code) (option_map (with_choice k (at cells (v ∷ rest))) (if b then Some (v, rest) else None)))
      begins hs k name_of ty go after code s typed a true cells rest v g f =
          let low : k < length cells = omega (arith, there_below types k ty typed, f.even) in
          subst (λ z. Ends after (go (record { scope = z; sites = []; left = rest })) (run_all m types code (at (slice_set cells k v) rest))) (sym (pushed system main i m more alone shared constants_valid cells_valid hs name_of k ty cells v s low))
          (a (slice_set cells k v) rest (fine_pushed system main i m more alone shared constants_valid cells_valid hs name_of k ty cells v s low g f))
      begins hs k name_of ty go after code s typed a false cells rest v g f = tt

      taken_in : (hs : List Held) (k name_of : ℕ) (ty : Ty) (go : Run) (after : List Held) (code : List Statement) → Stands types n hs k → slice_get types k ≡ Some ty → Alike (record { name = name_of; ty = ty; cell = k } ∷ hs) after go code
          → (cells left : List Value) → Fine first types hs cells
          → Ends after (take_choice ty (λ v r. go (push_local name_of ty v r)) left (going hs cells left)) (option_and_then (run_all m types code) (chooses true ty k (at cells left)))
      taken_in hs k name_of ty go after code s typed a cells [] f = tt
      taken_in hs k name_of ty go after code s typed a cells (v ∷ rest) f = begins hs k name_of ty go after code s typed a (fits ty v) cells rest v refl f

  main_at_top : module_at system [] ≡ Some main
  unfolding module_from
  main_at_top = ap (λ o. option_and_then (λ c. module_from system c []) o) alone.main

  local_gives : (xs : List Identifier) (type : TypeExpr) → Gives (λ r. declare_at system (module_at system r.scope.path) xs type r) (λ names k. option_and_then (λ ty. declared ty xs names k) (cell_type_of system main type))
  local_gives xs type hs k a s h there =
      let f = then_some (λ ty. declared ty xs (names_with base hs) k) (cell_type_of system main type) a h in
      let own = cell_type_read system main type f.0 f.1 in
      let g = declared_gives type f.0 own.0 own.1 xs hs k a s f.2 there in
      record {
        after = g.after;
        inner = g.inner;
        is = g.is;
        names = g.names;
        stands = g.stands;
        alike = λ cells left fine. subst (λ o. Ends g.after (declare_at system o xs type (going hs cells left)) (run_all m types a.code (at cells left))) (sym main_at_top) (g.alike cells left fine);
      }

  -- ---- conditionals

  either_runs : (hs : List Held) (b : Bool) (cells left : List Value) (x y : Run) (xs ys : List Statement) → Fine first types hs cells → Alike hs hs x xs → Alike hs hs y ys
      → Ends hs ((if b then x else y) (going hs cells left)) (in_turn (if b then map (runs m types) xs else map (runs m types) ys) (at cells left))
  either_runs hs true cells left x y xs ys f a c = subst (Ends hs (x (going hs cells left))) (sym (run_is m types xs (at cells left))) (a cells left f)
  either_runs hs false cells left x y xs ys f a c = subst (Ends hs (y (going hs cells left))) (sym (run_is m types ys (at cells left))) (c cells left f)

  abbrev branch : List (Arm Run) → Option (List Run) → Run
  branch arms otherwise r = run_block (taken system r.scope arms otherwise) r

  -- the blocks of arms run as blocks
  picked : (b : Bool) (xs : List Run) (arms : List (Arm Run)) (otherwise : Option (List Run)) (r : Running)
      → (if b then run_block xs else branch arms otherwise) r ≡ run_block (if b then xs else taken system r.scope arms otherwise) r
  picked true xs arms otherwise r = refl
  picked false xs arms otherwise r = refl

  arms_alike : (arms : List (Arm Run)) (forms : List (Arm Making)) (otherwise : Option (List Run)) (rest : List Statement) → ArmsGive arms forms → (hs : List Held) (k : ℕ) (a : MadeArms) → Stands types n hs k → arms_made (names_with base hs) k forms ≡ Some a
      → AreCells first types k a.further → Alike hs hs (run_block (else_block otherwise)) rest → Alike hs hs (branch arms otherwise) (joined_arms a.arms rest)
  unfolding taken joined_arms arms_made
  arms_alike [] [] otherwise rest h hs k a s e there z = subst (λ (y : MadeArms). Alike hs hs (run_block (else_block otherwise)) (joined_arms y.arms rest)) (some_same (record { arms = []; further = [] }) a e) z
  arms_alike [] (b ∷ forms) otherwise rest h hs k a s e there z = absurd h
  arms_alike (c ∷ arms) [] otherwise rest h hs k a s e there z = absurd h
  arms_alike (c ∷ arms) (b ∷ forms) otherwise rest h hs k a s e there z =
      let names = names_with base hs in
      let p = then_some (λ y. option_map (then_arms y) (arms_made names (k + length y.further) forms)) (arm_made names k b) a e in
      let q = then_some (arm_with names k b.body) (flat_of names b.condition) p.0 p.1 in
      let t = q.0 in
      let u = map_some (then_arms p.0) (arms_made names (k + length p.0.further) forms) a p.2 in
      let v = if_some (is_boolean t.ty) (option_map (arm_by t.expression) (in_block b.body names k)) p.0 q.2 in
      let w = map_some (arm_by t.expression) (in_block b.body names k) p.0 v.1 in
      let body = w.0 in
      let is : then_arms (arm_by t.expression body) u.0 ≡ a = ap (λ y. then_arms y u.0) w.2 ∙ u.2 in
      let behind = subst (λ (y : MadeArms). arms_made names (k + length y.further) forms ≡ Some u.0) (sym w.2) u.1 in
      let cells_are = subst (λ (y : MadeArms). AreCells first types k y.further) (sym is) there in
      let one = block_closed c.body b.body h.1 hs k body s w.1 (cells_before first types k body.further u.0.further cells_are) in
      let second = arms_alike arms forms otherwise rest h.2 hs (k + length body.further) u.0 (later types n hs k (k + length body.further) s (omega arith)) behind (cells_behind first types k body.further u.0.further cells_are) z in
      subst (λ (y : MadeArms). Alike hs hs (branch (c ∷ arms) otherwise) (joined_arms y.arms rest)) is
      (λ cells left f.
      let r = going hs cells left in
      let xs = body.code in
      let ys = joined_arms u.0.arms rest in
      let same = ap (is_true_in system (here cells hs)) h.0 ∙ decided hs k s b.condition t q.1 cells f in
      let flat_condition = is_true m types cells t.expression in
      let ran = run_one m types (IfThat t.expression xs ys) (at cells left) ∙ runs_if m types t.expression xs ys (at cells left) in
      let both = either_runs hs flat_condition cells left (run_block c.body) (branch arms otherwise) xs ys f one.alike second in
      let turned = in_turn (if flat_condition then map (runs m types) xs else map (runs m types) ys) (at cells left) in
      subst (Ends hs (branch (c ∷ arms) otherwise r)) (sym ran)
      (subst (λ d. Ends hs (run_block (if d then c.body else taken system r.scope arms otherwise) r) turned) (sym same)
      (subst (λ d. Ends hs d turned) (picked flat_condition c.body arms otherwise r) both)))

  else_closed : (otherwise : Option (List Run)) (o : Option (List Making)) → ElseGives otherwise o → (hs : List Held) (k : ℕ) (a : Made) → Stands types n hs k → else_of o (names_with base hs) k ≡ Some a → AreCells first types k a.further
      → Closed hs (run_block (else_block otherwise)) a
  unfolding in_order
  else_closed None None h hs k a s e there = block_closed [] [] tt hs k a s e there
  else_closed (Some xs) (Some os) h hs k a s e there = block_closed xs os h hs k a s e there
  else_closed None (Some os) h hs k a s e there = absurd h
  else_closed (Some xs) None h hs k a s e there = absurd h

  if_gives : (arms : List (Arm Run)) (forms : List (Arm Making)) (otherwise : Option (List Run)) (o : Option (List Making)) → ArmsGive arms forms → ElseGives otherwise o → Gives (branch arms otherwise) (if_of forms o)
  if_gives arms forms otherwise o h g hs k a s e there =
      let names = names_with base hs in
      let p = then_some (λ z. option_map (joined z) (else_of o names (k + length z.further))) (arms_made names k forms) a e in
      let b = p.0 in
      let q = map_some (joined b) (else_of o names (k + length b.further)) a p.2 in
      let c = q.0 in
      let cells_are = subst (λ (z : Made). AreCells first types k z.further) (sym q.2) there in
      let last = else_closed otherwise o g hs (k + length b.further) c (later types n hs k (k + length b.further) s (omega arith)) q.1 (cells_behind first types k b.further c.further cells_are) in
      let all = arms_alike arms forms otherwise c.code h hs k b s p.1 (cells_before first types k b.further c.further cells_are) last.alike in
      closed_given hs k (branch arms otherwise) a s (subst (Closed hs (branch arms otherwise)) q.2 (record { names = last.names; alike = all }))

  -- ---- all forms

  module _ {A D : Type 0} (d : D → A) (f : A → Making) (g : A → Run) (same : (e : D) → Gives (g (d e)) (f (d e))) where
    list_give : (es : List D) → AllGive (map g (map d es)) (map f (map d es))
    list_give [] = tt
    list_give (e ∷ es) = (same e, list_give es)

    abbrev left : Stmt-F D → Stmt-F Making
    left y = map-Stmt A Making f (map-Stmt D A d y)

    abbrev right : Stmt-F D → Stmt-F Run
    right y = map-Stmt A Run g (map-Stmt D A d y)

    if_layer : (place : Place) (arms : List (Arm D)) (o : Option (List D)) → ArmsGive (arms_in (right (If place arms o))) (arms_in (left (If place arms o))) × ElseGives (else_in (right (If place arms o))) (else_in (left (If place arms o)))
    if_layer place [] None = (tt, tt)
    if_layer place [] (Some es) = (tt, list_give es)
    if_layer place (a ∷ arms) o = ((refl, list_give a.body, (if_layer place arms o).0), (if_layer place arms o).1)

    case_layer : (place : Place) (arms : List (Arm D)) (o : Option (List D)) → ArmsGive (arms_in (right (Case place arms o))) (arms_in (left (Case place arms o))) × ElseGives (else_in (right (Case place arms o))) (else_in (left (Case place arms o)))
    case_layer place [] None = (tt, tt)
    case_layer place [] (Some es) = (tt, list_give es)
    case_layer place (a ∷ arms) o = ((refl, list_give a.body, (case_layer place arms o).0), (case_layer place arms o).1)

    block_gives : (es : List D) → Gives (run_block (map g (map d es))) (in_block (map f (map d es)))
    block_gives es hs k a s e there = closed_given hs k (run_block (map g (map d es))) a s (block_closed (map g (map d es)) (map f (map d es)) (list_give es) hs k a s e there)

    layer : (y : Stmt-F D) → Gives (run_form system bodies (right y)) (making_form (cell_type_of system main) (left y))
    layer (Declare place ids type) hs k a s e there = local_gives ids type hs k a s e there
    layer (Skip place) hs k a s e there = subst (Given hs k (λ r. Goes r)) (some_same (code_alone (names_with base hs) []) a e) (plain_given hs k (λ r. Goes r) [] s (none_alike hs))
    layer (Block place block) hs k a s e there = block_gives block hs k a s e there
    layer (Assert place label e) hs k a s q there = absurd (none_some a q)
    layer (Assume place x) hs k a s e there = assume_gives x hs k a s e there
    layer (Havoc place x primed) hs k a s e there = havoc_gives x primed hs k a s e there
    layer (Assign place targets sources) hs k a s e there = assign_gives targets sources hs k a s e there
    layer (If place arms o) hs k a s e there = if_gives _ _ _ _ (if_layer place arms o).0 (if_layer place arms o).1 hs k a s e there
    layer (Case place arms o) hs k a s e there = if_gives _ _ _ _ (case_layer place arms o).0 (case_layer place arms o).1 hs k a s e there
    layer (For place x type from to block) hs k a s e there = absurd (none_some a e)
    layer (Call place targets callee arguments) hs k a s e there = absurd (none_some a e)
    layer (Next place x) hs k a s e there = absurd (none_some a e)

  statement_gives : (s : Stmt) → Gives (run_statement system bodies s) (making_of (cell_type_of system main) s)
  unfolding run_statement making_of
  statement_gives =
      ind-Stmt (λ s. Gives (fold-Stmt Run (run_form system bodies) s) (fold-Stmt Making (making_form (cell_type_of system main)) s))
      (λ x y is.
      let F = fold-Stmt Making (making_form (cell_type_of system main)) in
      let G = fold-Stmt Run (run_form system bodies) in
      let way = layer (λ e. e.0) F G (λ e. e.1) y in
      let way' = subst (λ z. Gives (run_form system bodies (map-Stmt Stmt Run G z)) (making_form (cell_type_of system main) (map-Stmt Stmt Making F z))) is way in
      let left' = subst (Gives (run_form system bodies (map-Stmt Stmt Run G x))) (sym (fold-roll-Stmt Making (making_form (cell_type_of system main)) x)) way' in
      subst (λ X. Gives X (F (roll-Stmt x))) (sym (fold-roll-Stmt Run (run_form system bodies) x)) left')

  list_statements : (code : List Stmt) → AllGive (map (run_statement system bodies) code) (map (making_of (cell_type_of system main)) code)
  list_statements [] = tt
  list_statements (s ∷ code) = (statement_gives s, list_statements code)

  code_gives : (code : List Stmt) → Gives (run_by system bodies code) (in_order (map (making_of (cell_type_of system main)) code))
  unfolding run_by
  code_gives code = each_gives (map (run_statement system bodies) code) (map (making_of (cell_type_of system main)) code) (list_statements code)

  -- what both come to at the end
  ended : (after : List Held) (e : Ending) (o : Option Placed) → Ends after e o → EndAlike first others e o
  ended after (Goes r) (Some p) h =
      let cells_are : p.cells ≡ h.cells = ap (λ (q : Placed). q.cells) h.flat in
      record {
        state = ap (λ (q : Running). q.scope.before) h.design ∙ ap (λ cs. state_of (take n cs)) (sym cells_are);
        fit = subst (λ cs. FitAll first (take n cs)) (sym cells_are) h.fine.fit;
        left = ap (λ (q : Running). q.left) h.design ∙ sym (ap (λ (q : Placed). q.left) h.flat);
        no_sites = ap (λ (q : Running). q.sites) h.design;
        none = ap (λ (q : Placed). q.sites) h.flat;
        untaken = ap (λ (q : Placed). q.others) h.flat;
      }
  ended after (Goes r) None h = absurd h
  ended after Stopped (Some p) h = absurd h
  ended after Stopped None h = tt
  ended after (Unfit left) (Some p) h = absurd h
  ended after (Unfit left) None h = tt

-- the cells before all init code
begins_fine : (m : Model) (first : List Ty) (further : List Expression) (cells : List Value) → FitAll first cells → Fine first (wider_types first further) [] (widened m first further cells)
begins_fine m first further cells fit = record {
  fit = subst (FitAll first) (sym (take_at cells (map (value_of m first cells) further) (length first) (fit_length first cells fit))) fit;
  even = omega (
    arith,
    fit_length first cells fit,
    length-append cells (map (value_of m first cells) further),
    length-append first (map (type_of first) further),
    length-map further (value_of m first cells),
    length-map further (type_of first),
  );
  held = tt;
}

pub init_code_means : InitCodeLaw
init_code_means system main i m bodies code made others cells left alone shared constants_valid cells_valid h fit =
    let first = types_of system in
    let n = length first in
    let further = made.further in
    let start = widened m first further cells in
    let count : length (cells_of system) ≡ n = sym (length-map (cells_of system) (λ (c : Cell). c.type)) in
    let walked = map_some made_code (in_order (map (making_of (cell_type_of system main)) code) (names_over_cells system main) (length (cells_of system))) made h in
    let further_is : walked.0.further ≡ further = ap (λ (z : MadeCode). z.further) walked.2 in
    let cells_are = subst (λ es. AreCells first (wider_types first further) (length (cells_of system)) es) (sym further_is) (subst (λ k. AreCells first (wider_types first further) k further) (sym count) (cells_there first first further)) in
    let given = code_gives system main i m (map (type_of first) further) alone shared constants_valid cells_valid bodies others code [] (length (cells_of system)) walked.0 (omega (arith, count)) walked.1 cells_are in
    let alike = given.alike start left (begins_fine m first further cells fit) in
    let front : take n start ≡ cells = take_at cells (map (value_of m first cells) further) n (fit_length first cells fit) in
    subst (λ cs. EndAlike first others (run_by system bodies code (running i cs left)) (run_all m (wider_types first further) made.code (placed_with others start left))) front
    (subst (λ (z : MadeCode). EndAlike first others (run_by system bodies code (running i (take n start) left)) (run_all m (wider_types first further) z.code (placed_with others start left))) walked.2
    (ended system main i m (map (type_of first) further) alone shared constants_valid cells_valid bodies others given.after (run_by system bodies code (running i (take n start) left)) (run_all m (wider_types first further) walked.0.code (placed_with others start left)) alike))
