-- What an answer over cells says of the place of a part.
use Rattle.std.proofs.Common.{◌≡◌, ℕ, zero, suc, ◌+◌, ◌-◌, ◌<◌, List, length, map, take, drop, get_or, Bool, true, false, refl, sym, ap, ◌∙◌, arith, Option, Some, None}
use Rattle.std.specs.Prelude.{if◌then◌else◌, [], ◌∷◌}
use Rattle.std.specs.Option.{is_some, option_and_then}
use Rattle.uc_lexer.specs.declared.place.Place.{Place}
use Rattle.uc_syntax.specs.declared.expression.Expr.{Expr}
use Rattle.uc_flat.specs.declared.flat.Formula.{Formula}
use Rattle.uc_flat_expressions.specs.declared.typed.TypedExpression.{TypedExpression}
use Rattle.uc_flat_expressions.specs.declared.typed.Meant.{Meant}
use Rattle.uc_flat_expressions.specs.Types.{is_boolean}
use Rattle.uc_flat_expressions.specs.Expressions.{flat_of}
use Rattle.uc_flat_design.specs.Design.{condition_of}
use Rattle.std.specs.List.{list_all}
use Rattle.uc_syntax.specs.declared.statement.Stmt.{Stmt}
use Rattle.uc_syntax.specs.declared.declaration.Module.{Module}
use Rattle.uc_meaning.specs.Lookup.{System, or_else, first_some}
use Rattle.uc_meaning.specs.Cells.{cells_of}
use Rattle.uc_flat.specs.declared.statement.Statement.{Statement}
use Rattle.uc_flat_code.specs.declared.writing.Writing.{Writing}
use Rattle.uc_flat_code.specs.Code.{code_of}
use Rattle.uc_flat_design.specs.Names.{StandsAlone}
use Rattle.uc_flat_design.specs.Design.{is_built}
use Rattle.uc_flat_making.specs.declared.cells.OwnCell.{OwnCell}
use Rattle.uc_flat_making.specs.Cells.{own_cells}
use Rattle.uc_flat_making.proofs.Declared.{cells_full}
use Rattle.uc_flat_making.specs.Made.{full}
use Rattle.uc_flat_making.proofs.Answered.{stands_alone, one_item}
use Rattle.uc_runnable.specs.Unfit.{begins_at, unless_there, unfit_statement, unfit_condition}

pub there : {A : Type 0} (o : Option A) (x : A) → o ≡ Some x → true ≡ is_some o
there o x e = sym (ap is_some e)

pub not_there : {A : Type 0} (o : Option A) → o ≡ None → false ≡ is_some o
not_there o e = sym (ap is_some e)

pub no_formula : (names : List Meant) (place : Place) (e : Expr) → flat_of names e ≡ None → Some place ≡ unfit_condition names place e
no_formula names place e h = sym (ap (λ o. unless_there place (option_and_then (condition_of 1 0) o)) h)

abbrev formula_of : TypedExpression → Formula
formula_of t = record { path = []; decl = 0; copies = 1; condition = t.expression }

truth_by : (place : Place) (t : TypedExpression) (b : Bool) → b ≡ is_boolean t.ty → b ≡ true → None ≡ unless_there place (condition_of 1 0 t)
truth_by place t b is holds = ap (λ c. unless_there place (if c then Some (formula_of t ∷ []) else None)) (sym (sym is ∙ holds))

pub truth_formula : (names : List Meant) (place : Place) (e : Expr) (t : TypedExpression) (b : Bool) → flat_of names e ≡ Some t → b ≡ is_boolean t.ty → b ≡ true → None ≡ unfit_condition names place e
truth_formula names place e t b h is holds = truth_by place t b is holds ∙ sym (ap (λ o. unless_there place (option_and_then (condition_of 1 0) o)) h)

other_by : (place : Place) (t : TypedExpression) (b : Bool) → b ≡ is_boolean t.ty → b ≡ false → Some place ≡ unless_there place (condition_of 1 0 t)
other_by place t b is fails = ap (λ c. unless_there place (if c then Some (formula_of t ∷ []) else None)) (sym (sym is ∙ fails))

pub other_formula : (names : List Meant) (place : Place) (e : Expr) (t : TypedExpression) (b : Bool) → flat_of names e ≡ Some t → b ≡ is_boolean t.ty → b ≡ false → Some place ≡ unfit_condition names place e
other_formula names place e t b h is fails = other_by place t b is fails ∙ sym (ap (λ o. unless_there place (option_and_then (condition_of 1 0) o)) h)

-- ---- statements of a block

none_first : (names : List Meant) (w : Writing) (x : Stmt) (xs : List Stmt) (o : Option (List Statement)) → code_of names w (x ∷ []) ≡ o → is_some (code_of names w (x ∷ [])) ≡ true
    → first_some (unfit_statement names w) xs ≡ first_some (unfit_statement names w) (x ∷ xs)
unfolding first_some
none_first names w x xs (Some code) e h = sym (ap (λ p. or_else p (first_some (unfit_statement names w) xs)) (ap (unless_there (begins_at x)) e))
none_first names w x xs None e h = absurd (differs (sym (ap is_some e) ∙ h))
  where
    differs : false ≡ true → ⊥
    differs f = cc

next_step : (names : List Meant) (w : Writing) (xs : List Stmt) (k n : ℕ) → k < length xs → n ≡ 1 → is_some (code_of names w (take n (drop k xs))) ≡ true
    → first_some (unfit_statement names w) (drop (suc k) xs) ≡ first_some (unfit_statement names w) (drop k xs)
unfolding first_some
next_step names w [] k n l one code = absurd (omega (arith, l))
next_step names w (x ∷ xs) zero n l one code =
    none_first names w x xs (code_of names w (x ∷ [])) refl (ap (λ m. is_some (code_of names w (take m (x ∷ xs)))) (sym one) ∙ code)
next_step names w (x ∷ xs) (suc k) n l one code = next_step names w xs k n (omega (arith, l)) one code

pub block_turn : (names : List Meant) (w : Writing) (xs : List Stmt) (k : ℕ) (b : Bool) → k < length xs → b ≡ is_some (code_of names w (take (k + 1 - k) (drop k xs))) → b ≡ true
    → first_some (unfit_statement names w) (drop k xs) ≡ first_some (unfit_statement names w) xs → first_some (unfit_statement names w) (drop (k + 1) xs) ≡ first_some (unfit_statement names w) xs
block_turn names w xs k b l is holds so_far =
    let e : k + 1 ≡ suc k = omega arith in
    ap (λ m. first_some (unfit_statement names w) (drop m xs)) e ∙ next_step names w xs k (k + 1 - k) l (omega arith) (sym is ∙ holds) ∙ so_far

-- the one module of a design
pub alone : (system : System) (modules : List Module) (code : Module) → modules ≡ system.modules → length modules ≡ 1 → code ≡ get_or modules 0 code → system.main ≡ 0 → list_all is_built code.decls ≡ true → StandsAlone system code
alone system modules code e one is first built = stands_alone system code (sym e ∙ one_item modules code one is) first built

pub count_is : (system : System) (code : Module) (cells : List OwnCell) (count : ℕ) → StandsAlone system code → count ≡ length cells → cells ≡ own_cells system code → count ≡ length (cells_of system)
count_is system code cells count a c is =
    c ∙ ap length is ∙ sym (ap length (cells_full system code a) ∙ map_length (own_cells system code))
  where
    map_length : (cs : List OwnCell) → length (map full cs) ≡ length cs
    map_length [] = refl
    map_length (d ∷ ds) = ap (λ n. suc n) (map_length ds)
