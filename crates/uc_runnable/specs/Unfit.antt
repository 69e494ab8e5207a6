-- Where a module that does not run is at fault: its first declaration, or statement of a block, that has no form over cells.
use Rattle.std.specs.Prelude.{◌≡◌, ℕ, ◌+◌, nat_eq, if◌then◌else◌, List, [], ◌∷◌, map, length, Option, Some, None}
use Rattle.std.specs.Option.{option_and_then}
use Rattle.std.specs.List.{list_all}
use Rattle.uc_lexer.specs.declared.place.Place.{Place}
use Rattle.uc_syntax.specs.declared.type_expression.TypeExpr.{TypeExpr}
use Rattle.uc_syntax.specs.declared.expression.Expr.{Expr}
use Rattle.uc_syntax.specs.declared.statement.Stmt.{Stmt}
use Rattle.uc_syntax.specs.declared.statement.Stmt.TheOpen.{Stmt-F}
use Rattle.uc_syntax.specs.declared.statement.Stmt.TheOpen.Stmt-F.{Local, Skip, Block, Assert, Assume, Havoc, Assign, If, Case, For, Call, Next as NextStatement}
use Rattle.uc_syntax.specs.declared.statement.Stmt.TheFolds.{fold-Stmt}
use Rattle.uc_syntax.specs.declared.declaration.Decl.{Decl}
use Rattle.uc_syntax.specs.declared.declaration.Decl.TheVariants.{OpaqueType, TypeAlias, Variables, Init, Next, Invariant, Axiom}
use Rattle.uc_syntax.specs.declared.declaration.Module.{Module}
use Rattle.uc_meaning.specs.Lookup.{System, or_else, first_some}
use Rattle.uc_meaning.specs.Types.{type_of_written}
use Rattle.uc_meaning.specs.Cells.{cells_of}
use Rattle.uc_flat_expressions.specs.declared.typed.Meant.{Meant}
use Rattle.uc_flat_expressions.specs.Expressions.{flat_of}
use Rattle.uc_flat_code.specs.declared.writing.Writing.{Writing}
use Rattle.uc_flat_code.specs.Code.{code_of}
use Rattle.uc_flat_order.specs.Arranged.{code_arranged}
use Rattle.uc_flat_design.specs.Names.{names_over_cells, without_cell}
use Rattle.uc_flat_code.specs.CellTypes.{Types, is_cell_type, cell_type_of}
use Rattle.uc_flat_code.specs.Init.{Made, making_of}
use Rattle.uc_flat_design.specs.Next.{primed_behind, names_between}
use Rattle.uc_flat_design.specs.Design.{is_built, condition_of}

-- the place of a part, where nothing came of it
abbrev pub unless_there : {A : Type 0} → Place → Option A → Option Place
unless_there place None = Some place
unless_there place (Some x) = None

-- ---- statements

-- the place where a statement begins
abbrev pub place_in : Stmt-F Place → Place
place_in (Local p xs type) = p
place_in (Skip p) = p
place_in (Block p block) = p
place_in (Assert p label e) = p
place_in (Assume p e) = p
place_in (Havoc p x primed) = p
place_in (Assign p targets sources) = p
place_in (If p arms otherwise) = p
place_in (Case p arms otherwise) = p
place_in (For p x type from to block) = p
place_in (Call p targets f arguments) = p
place_in (NextStatement p i) = p

unfoldable pub begins_at : Stmt → Place
begins_at = fold-Stmt Place place_in

abbrev pub unfit_statement : List Meant → Writing → Stmt → Option Place
unfit_statement names w s = unless_there (begins_at s) (code_of names w (s ∷ []))

-- the first statement of a block that has no code over cells
abbrev pub unfit_block : List Meant → Writing → List Stmt → Option Place
unfit_block names w block = first_some (unfit_statement names w) block

-- the same of a next block; then the block itself, where it, arranged, writes a part of a cell on a way after it was written there, or read in the new state
abbrev pub unfit_next : List Meant → Writing → Place → List Stmt → Option Place
unfit_next names w place block = or_else (unfit_block names w block) (unless_there place (code_arranged names w block))

-- the place of a statement that gives nothing, or one behind what it gives
abbrev pub or_behind : Place → (Made → Option Place) → Option Made → Option Place
or_behind place rest None = Some place
or_behind place rest (Some made) = rest made

-- the first statement of an init block that has no code over cells, where names stand for the locals that are declared before it; the next further cell has number n
unfoldable pub unfit_init : Types → List Meant → ℕ → List Stmt → Option Place
unfit_init types names n [] = None
unfit_init types names n (s ∷ block) = or_behind (begins_at s) (λ made. unfit_init types made.names (n + length made.further) block) (making_of types s names n)

-- what names stand for behind a statement, and the number of the next further cell there; None where it gives nothing
abbrev pub IsBehind : Option Made → List Meant → ℕ → Option ℕ → Type 0
IsBehind given names n None = given ≡ None
IsBehind given names n (Some k) = (made : Made) × (given ≡ Some made) × (made.names ≡ names) × (n + length made.further ≡ k)

-- ---- declarations

abbrev pub unfit_type : System → Module → Place → TypeExpr → Option Place
unfit_type system m place type = if is_cell_type (type_of_written system m type) then None else Some place

abbrev pub unfit_condition : List Meant → Place → Expr → Option Place
unfit_condition names place e = unless_there place (option_and_then (condition_of 1 0) (flat_of names e))

-- A type without a definition or one that is not finite, a block with a statement that has no code, an invariant that is no truth value over cells, or an axiom that is none over constants.
abbrev pub unfit : System → Module → List Meant → ℕ → Decl → Option Place
unfit system m names count (OpaqueType place i) = Some place
unfit system m names count (TypeAlias place i type) = unfit_type system m place type
unfit system m names count (Variables place kind is type) = unfit_type system m place type
unfit system m names count (Init place block) = unfit_init (cell_type_of system m) names count block
unfit system m names count (Next place block) = unfit_next (names_between count names) (primed_behind count) place block
unfit system m names count (Invariant place i e) = unfit_condition names place e
unfit system m names count (Axiom place i e) = unfit_condition (map without_cell names) place e
unfit system m names count other = None

abbrev pub unfit_in : System → Module → Option Place
unfit_in system m = first_some (unfit system m (names_over_cells system m) (length (cells_of system))) m.decls

abbrev pub unfit_only : System → List Module → Option Place
unfit_only system (m ∷ []) = if list_all is_built m.decls then unfit_in system m else None
unfit_only system other = None

-- where the one module of a design is at fault, if there
abbrev pub unfit_of : System → Option Place
unfit_of system = if nat_eq system.main 0 then unfit_only system system.modules else None
