-- The steps of making a design over cells answer whether there is one.
use Rattle.std.proofs.Common.{◌≡◌, ℕ, zero, suc, List, [], ◌∷◌, map, length, refl, sym, ap, ◌∙◌, subst, Option, Some, None, true, false, get_or, slice_get, arith}
use Rattle.std.specs.Prelude.{Bool as Truth, nat_eq, ◌&&◌, ◌++◌, if◌then◌else◌, Result, Ok, Err}
use Rattle.std.specs.Option.{option_map, option_and_then, is_some}
use Rattle.std.specs.List.{list_all, filter_map}
use Rattle.std.proofs.Math.Dec.{eqb-suc-zero}
use Rattle.std.proofs.lemmas.Option.{none-some, same_Some}
use Rattle.uc_syntax.specs.declared.declaration.Decl.{Decl}
use Rattle.uc_syntax.specs.declared.declaration.Decl.TheVariants.{Instance}
use Rattle.uc_syntax.specs.declared.declaration.Module.{Module}
use Rattle.uc_values.specs.declared.ty.Ty.{Ty}
use Rattle.uc_meaning.specs.Lookup.{System, instance_in, init_of, next_of}
use Rattle.uc_meaning.specs.Cells.{Cell, cells_of}
use Rattle.uc_flat.specs.declared.flat.Flat.{Flat}
use Rattle.uc_flat.specs.declared.flat.Constant.{Constant}
use Rattle.uc_flat.specs.declared.flat.Formula.{Formula}
use Rattle.uc_flat.specs.declared.statement.Statement.{Statement}
use Rattle.uc_flat_code.specs.Once.{written_by}
use Rattle.uc_flat_order.specs.Arranged.{block_arranged}
use Rattle.uc_flat_expressions.specs.declared.typed.Meant.{Meant}
use Rattle.uc_flat_expressions.specs.declared.typed.FlatError.{FlatError}
use Rattle.uc_flat_expressions.specs.declared.typed.FlatError.TheVariants.{NoMemory, NotBuilt}
use Rattle.uc_flat_expressions.specs.Answers.{IsAnswer}
use Rattle.uc_flat_code.specs.Code.{code_of}
use Rattle.uc_flat_code.specs.CellTypes.{Types, is_cell_type, cell_type_of}
use Rattle.uc_flat_code.specs.Init.{init_code}
use Rattle.uc_flat_code.specs.declared.made.MadeCode.{MadeCode}
use Rattle.uc_flat_design.specs.Names.{StandsAlone, names_over_cells, types_of, names_of_constants, constant_types, flat_constants}
use Rattle.uc_flat_design.proofs.Cells.{stands_alone as alone_in_use}
use Rattle.uc_flat_design.specs.Next.{primed_behind, names_between}
use Rattle.uc_flat_design.specs.Design.{is_built, invariant_in, axiom_in, formulas_from, IsFlatOf}
use Rattle.uc_flat_making.specs.declared.cells.OwnCell.{OwnCell}
use Rattle.uc_flat_making.specs.declared.parts.Conditions.{Conditions}
use Rattle.uc_flat_making.specs.Made.{IsMade, full, all_conditions, flat_over, next_once, made_over, made_with, made_typed, made, made_only, made_whole}

-- ---- what there is where something came of it

if_some : {X : Type 0} (b : Truth) (o : Option X) (y : X) → (if b then o else None) ≡ Some y → (b ≡ true) × (o ≡ Some y)
if_some true o y h = (refl, h)
if_some false o y h = absurd (none-some y h)

then_parts : {X Y : Type 0} (f : X → Option Y) (o : Option X) (y : Y) → option_and_then f o ≡ Some y → (x : X) × (o ≡ Some x) × (f x ≡ Some y)
then_parts f None y h = absurd (none-some y h)
then_parts f (Some x) y h = (x, refl, h)

map_parts : {X Y : Type 0} (f : X → Y) (o : Option X) (y : Y) → option_map f o ≡ Some y → (x : X) × (o ≡ Some x) × (f x ≡ y)
map_parts f None y h = absurd (none-some y h)
map_parts f (Some x) y h = (x, refl, same_Some (f x) y h)

some_of : {X : Type 0} (o : Option X) → is_some o ≡ true → (x : X) × (o ≡ Some x)
some_of (Some x) h = (x, refl)
some_of None h = absurd cc

-- ---- a module that stands alone

second_true : (a b : Truth) → a && b ≡ true → b ≡ true
second_true true b h = h
second_true false b h = absurd cc

no_instances : (decls : List Decl) → list_all is_built decls ≡ true → filter_map instance_in decls ≡ []
no_instances [] h = refl
no_instances (Instance p i m bs ∷ decls) h = absurd cc
no_instances (other ∷ decls) h = no_instances decls (second_true (is_built other) (list_all is_built decls) h)

pub stands_alone : (system : System) (code : Module) → system.modules ≡ code ∷ [] → system.main ≡ 0 → list_all is_built code.decls ≡ true → StandsAlone system code
stands_alone system code only first built = alone_in_use system code only first (no_instances code.decls built)

-- ---- the design over cells, where there is one

-- axioms with invariants behind them
abbrev joined : List Formula → List Formula → Conditions
joined axioms invariants = record { formulas = axioms ++ invariants; axioms = length axioms }

made_is : (system : System) (code : Module) (f : Flat) → system.modules ≡ code ∷ [] → system.main ≡ 0 → list_all is_built code.decls ≡ true → list_all is_cell_type (types_of system) ≡ true
    → list_all is_cell_type (constant_types system) ≡ true → made_over (cell_type_of system code) (names_over_cells system code) (cells_of system) (flat_constants system) code ≡ Some f → IsFlatOf system code f
made_is system code f only first built typed constants h =
    let names = names_over_cells system code in
    let cells = cells_of system in
    let over = flat_over cells (flat_constants system) in
    let p = then_parts (λ init. option_and_then (λ next. option_map (over init next) (all_conditions names code.decls)) (next_once names cells code)) (init_code (cell_type_of system code) names (length cells) (init_of code)) f h in
    let q = then_parts (λ next. option_map (over p.0 next) (all_conditions names code.decls)) (next_once names cells code) f p.2 in
    let r = map_parts (over p.0 q.0) (all_conditions names code.decls) f q.2 in
    let a = then_parts (λ axioms. option_map (joined axioms) (formulas_from (invariant_in names) 0 code.decls)) (formulas_from (axiom_in (names_of_constants system code)) 0 code.decls) r.0 r.1 in
    let b = map_parts (joined a.0) (formulas_from (invariant_in names) 0 code.decls) r.0 a.2 in
    let next_names = names_between (length cells) names in
    let order = block_arranged next_names (length cells) (next_of code) in
    let t = if_some (is_some (written_by next_names (length cells) order [])) (code_of next_names (primed_behind (length cells)) order) q.0 q.1 in
    let u = some_of (written_by next_names (length cells) order []) t.0 in
    record {
      only = only;
      first = first;
      declarations = built;
      types = typed;
      constants = constants;
      init = p.0;
      next = q.0;
      after = u.0;
      axioms = a.0;
      formulas = b.0;
      init_is = p.1;
      next_is = t.1;
      once = u.1;
      axioms_are = a.1;
      formulas_are = b.1;
      is = sym r.2 ∙ ap (over p.0 q.0) (sym b.2);
    }

made_some : (system : System) (code : Module) (f : Flat) → IsFlatOf system code f → (g : Flat) × (made_over (cell_type_of system code) (names_over_cells system code) (cells_of system) (flat_constants system) code ≡ Some g)
made_some system code f is =
    let names = names_over_cells system code in
    let cells = cells_of system in
    let over = flat_over cells (flat_constants system) in
    let conditions : all_conditions names code.decls ≡ Some (joined is.axioms is.formulas) =
    ap (option_and_then (λ axioms. option_map (joined axioms) (formulas_from (invariant_in names) 0 code.decls))) is.axioms_are ∙ ap (option_map (joined is.axioms)) is.formulas_are in (
      over is.init is.next (joined is.axioms is.formulas),
      ap (option_and_then (λ init. option_and_then (λ next. option_map (over init next) (all_conditions names code.decls)) (next_once names cells code))) is.init_is
          ∙ ap (option_and_then (λ next. option_map (over is.init next) (all_conditions names code.decls)))
          (ap (λ o. if is_some o then code_of (names_between (length cells) names) (primed_behind (length cells)) (block_arranged (names_between (length cells) names) (length cells) (next_of code)) else None) is.once ∙ is.next_is)
          ∙ ap (option_map (over is.init is.next)) conditions,
    )

-- the design has its one module
made_only_some : (system : System) (modules : List Module) (f : Flat) → made_only system modules ≡ Some f → (code : Module) × (modules ≡ code ∷ []) × (made system code ≡ Some f)
made_only_some system [] f h = absurd (none-some f h)
made_only_some system (code ∷ []) f h = (code, refl, h)
made_only_some system (code ∷ (other ∷ rest)) f h = absurd (none-some f h)

zero_is : (n : ℕ) → nat_eq n 0 ≡ true → n ≡ 0
zero_is zero h = refl
zero_is (suc n) h = let e : true ≡ false = sym h ∙ eqb-suc-zero n in absurd cc

is_whole : (system : System) (code : Module) (f : Flat) → IsFlatOf system code f → (g : Flat) × (made_whole system ≡ Some g)
is_whole system code f is =
    let m = made_some system code f is in (
      m.0,
      ap (λ k. if nat_eq k 0 then made_only system system.modules else None) is.first
          ∙ ap (made_only system) is.only
          ∙ ap (λ b. if b then made_typed system code else None) is.declarations
          ∙ ap (λ b. if b then made_with system code else None) is.types
          ∙ ap (λ b. if b then made_over (cell_type_of system code) (names_over_cells system code) (cells_of system) (flat_constants system) code else None) is.constants
          ∙ m.1,
    )

pub whole_answer : (system : System) (r : Result Flat FlatError) → IsAnswer (made_whole system) r → IsMade system r
whole_answer system (Err NoMemory) h = tt
whole_answer system (Ok f) h =
    let a = if_some (nat_eq system.main 0) (made_only system system.modules) f h in
    let b = made_only_some system system.modules f a.1 in
    let c = if_some (list_all is_built (b.0).decls) (made_typed system b.0) f b.2 in
    let d = if_some (list_all is_cell_type (types_of system)) (made_with system b.0) f c.1 in
    let e = if_some (list_all is_cell_type (constant_types system)) (made_over (cell_type_of system b.0) (names_over_cells system b.0) (cells_of system) (flat_constants system) b.0) f d.1 in
    (b.0, made_is system b.0 f b.1 (zero_is system.main a.0) c.0 d.0 e.0 e.1)
whole_answer system (Err NotBuilt) h = λ code f is. let w = is_whole system code f is in none-some w.0 (sym h ∙ w.1)

-- ---- the steps of the answer

pub not_first : (system : System) (n : ℕ) → n ≡ system.main → (n ≡ 0 → ⊥) → made_whole system ≡ None
not_first system n e h = by system.main (λ z. h (e ∙ z))
  where
    by : (k : ℕ) → (k ≡ 0 → ⊥) → (if nat_eq k 0 then made_only system system.modules else None) ≡ None
    by zero g = absurd (g refl)
    by (suc k) g = ap (λ b. if b then made_only system system.modules else None) (eqb-suc-zero k)

not_single : (system : System) (modules : List Module) → (length modules ≡ 1 → ⊥) → made_only system modules ≡ None
not_single system [] h = refl
not_single system (code ∷ []) h = absurd (h refl)
not_single system (code ∷ (other ∷ rest)) h = refl

pub not_one : (system : System) (modules : List Module) → modules ≡ system.modules → system.main ≡ 0 → (length modules ≡ 1 → ⊥) → made_whole system ≡ None
not_one system modules e first h =
    ap (λ k. if nat_eq k 0 then made_only system system.modules else None) first ∙ not_single system system.modules (λ l. h (ap length e ∙ l))

pub of_one : (system : System) (code : Module) (r : Result Flat FlatError) → system.modules ≡ code ∷ [] → system.main ≡ 0 → IsAnswer (made system code) r → IsAnswer (made_whole system) r
of_one system code r only first h =
    subst (λ o. IsAnswer o r) (sym (ap (λ k. if nat_eq k 0 then made_only system system.modules else None) first ∙ ap (made_only system) only)) h

-- the first of one
pub one_item : (xs : List Module) (x : Module) → length xs ≡ 1 → x ≡ get_or xs 0 x → xs ≡ x ∷ []
one_item [] x h e = absurd (omega (arith, h))
one_item (y ∷ []) x h e = ap (λ z. z ∷ []) (sym e)
one_item (y ∷ (z ∷ zs)) x h e = absurd (omega (arith, h))

pub over_answer : (types : Types) (names other : List Meant) (cells : List Cell) (own : List OwnCell) (code : Module) (r : Result Flat FlatError) → names ≡ other → cells ≡ map full own
    → IsAnswer (made_over types names (map full own) [] code) r → IsAnswer (made_over types other cells [] code) r
over_answer types names other cells own code r e f h = subst (λ cs. IsAnswer (made_over types other cs [] code) r) (sym f) (subst (λ ns. IsAnswer (made_over types ns (map full own) [] code) r) e h)

-- ---- the constants are added last

abbrev with_those : List Constant → Flat → Flat
with_those constants f = record f { constants = constants }

added_over : (cells : List Cell) (constants : List Constant) (init : MadeCode) (next : List Statement) (o : Option Conditions) → option_map (with_those constants) (option_map (flat_over cells [] init next) o) ≡ option_map (flat_over cells constants init next) o
added_over cells constants init next None = refl
added_over cells constants init next (Some conditions) = refl

added_next : (cells : List Cell) (constants : List Constant) (init : MadeCode) (conditions : Option Conditions) (o : Option (List Statement)) → option_map (with_those constants) (option_and_then (λ next. option_map (flat_over cells [] init next) conditions) o)
    ≡ option_and_then (λ next. option_map (flat_over cells constants init next) conditions) o
added_next cells constants init conditions None = refl
added_next cells constants init conditions (Some next) = added_over cells constants init next conditions

added_init : (cells : List Cell) (constants : List Constant) (conditions : Option Conditions) (n : Option (List Statement)) (o : Option MadeCode)
    → option_map (with_those constants) (option_and_then (λ init. option_and_then (λ next. option_map (flat_over cells [] init next) conditions) n) o)
    ≡ option_and_then (λ init. option_and_then (λ next. option_map (flat_over cells constants init next) conditions) n) o
added_init cells constants conditions n None = refl
added_init cells constants conditions n (Some init) = added_next cells constants init conditions n

added : (types : Types) (names : List Meant) (cells : List Cell) (constants : List Constant) (code : Module) → option_map (with_those constants) (made_over types names cells [] code) ≡ made_over types names cells constants code
added types names cells constants code = added_init cells constants (all_conditions names code.decls) (next_once names cells code) (init_code types names (length cells) (init_of code))

-- the same, where the types of the constants are built
typed_with : (system : System) (code : Module) (b : Truth) → b ≡ list_all is_cell_type (constant_types system) → b ≡ true → made_with system code ≡ made_over (cell_type_of system code) (names_over_cells system code) (cells_of system) (flat_constants system) code
typed_with system code b is holds = ap (λ c. if c then made_over (cell_type_of system code) (names_over_cells system code) (cells_of system) (flat_constants system) code else None) (sym is ∙ holds)

pub some_added : (system : System) (code : Module) (types : List Ty) (b : Truth) (f g : Flat) → types ≡ constant_types system → b ≡ list_all is_cell_type types → b ≡ true
    → made_over (cell_type_of system code) (names_over_cells system code) (cells_of system) [] code ≡ Some f → g ≡ record f { constants = flat_constants system } → made_with system code ≡ Some g
some_added system code types b f g are is holds some whole =
    typed_with system code b (is ∙ ap (list_all is_cell_type) are) holds ∙ sym (added (cell_type_of system code) (names_over_cells system code) (cells_of system) (flat_constants system) code) ∙ ap (option_map (with_those (flat_constants system))) some ∙ ap Some (sym whole)
