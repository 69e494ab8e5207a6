-- The types that a design writes, and the enums in them, in the order of the text.
use Rattle.std.specs.Prelude.{ℕ, List, [], ◌∷◌, ◌++◌, map, Option, Some, None}
use Rattle.std.specs.List.{flat_map}
use Rattle.uc_lexer.specs.declared.place.Place.{Place}
use Rattle.uc_syntax.specs.declared.type_expression.Parameter.{Parameter}
use Rattle.uc_syntax.specs.declared.type_expression.TypeExpr.{TypeExpr}
use Rattle.uc_syntax.specs.declared.type_expression.TypeExpr.TheOpen.{TypeExpr-F}
use Rattle.uc_syntax.specs.declared.type_expression.TypeExpr.TheOpen.TypeExpr-F.{Enumeration, Record, Array}
use Rattle.uc_syntax.specs.declared.type_expression.TypeExpr.TheFolds.{fold-TypeExpr}
use Rattle.uc_syntax.specs.declared.statement.Stmt.{Stmt}
use Rattle.uc_syntax.specs.declared.statement.Arm.{Arm}
use Rattle.uc_syntax.specs.declared.statement.Stmt.TheOpen.{Stmt-F}
use Rattle.uc_syntax.specs.declared.statement.Stmt.TheOpen.Stmt-F.{Local, Block, For}
use Rattle.uc_syntax.specs.declared.statement.Stmt.TheOpen.Stmt-F.{If as Choice, Case as Cases}
use Rattle.uc_syntax.specs.declared.statement.Stmt.TheFolds.{fold-Stmt}
use Rattle.uc_syntax.specs.declared.declaration.Decl.{Decl}
use Rattle.uc_syntax.specs.declared.declaration.Decl.TheVariants.{TypeAlias, Variables, Function, Define, Procedure, Init, Next}
use Rattle.uc_syntax.specs.declared.declaration.Module.{Module}

-- the types in the arms of a conditional: those of each block, arm by arm
abbrev pub types_in_arms : List (Arm (List TypeExpr)) → List TypeExpr
types_in_arms arms = flat_map (λ a. flat_map (λ ts. ts) a.body) arms

abbrev pub types_in_else : Option (List (List TypeExpr)) → List TypeExpr
types_in_else None = []
types_in_else (Some block) = flat_map (λ ts. ts) block

abbrev pub types_in_option : Option TypeExpr → List TypeExpr
types_in_option None = []
types_in_option (Some type) = type ∷ []

-- the types that a statement writes: those of locals and of loop variables, also inside its blocks
abbrev pub types_in_form : Stmt-F (List TypeExpr) → List TypeExpr
types_in_form (Local place names type) = type ∷ []
types_in_form (Block place block) = flat_map (λ ts. ts) block
types_in_form (Choice place arms otherwise) = types_in_arms arms ++ types_in_else otherwise
types_in_form (Cases place arms otherwise) = types_in_arms arms ++ types_in_else otherwise
types_in_form (For place i type from to block) = types_in_option type ++ flat_map (λ ts. ts) block
types_in_form other = []

abbrev pub types_in_block : List Stmt → List TypeExpr
types_in_block block = flat_map (fold-Stmt (List TypeExpr) types_in_form) block

abbrev pub types_of_parameters : List (Parameter TypeExpr) → List TypeExpr
types_of_parameters ps = map (λ p. p.ty) ps

-- the types that a declaration writes, also inside its blocks
abbrev pub types_in : Decl → List TypeExpr
types_in (TypeAlias place i type) = type ∷ []
types_in (Variables place kind names type) = type ∷ []
types_in (Function place i ps type) = types_of_parameters ps ++ type ∷ []
types_in (Define place i ps type body) = types_of_parameters ps ++ type ∷ []
types_in (Procedure place p) = types_of_parameters p.parameters ++ (types_of_parameters p.results ++ types_in_block p.body)
types_in (Init place block) = types_in_block block
types_in (Next place block) = types_in_block block
types_in other = []

abbrev pub types_of_module : Module → List TypeExpr
types_of_module m = flat_map types_in m.decls

-- An enum as it is written: the place of its word `enum`, and its labels.
pub record Written : Type 0 where
  pub place : Place
  pub labels : List ℕ

-- the enums in a written type, also inside records and arrays
abbrev pub enums_form : TypeExpr-F (List Written) → List Written
enums_form (Enumeration place labels) = record { place = place; labels = map (λ l. l.name) labels } ∷ []
enums_form (Record place ps) = flat_map (λ p. p.ty) ps
enums_form (Array place index element) = index ++ element
enums_form other = []

unfoldable pub enums_in : TypeExpr → List Written
enums_in = fold-TypeExpr (List Written) enums_form

abbrev pub enums_of_module : Module → List Written
enums_of_module m = flat_map enums_in (types_of_module m)

-- every enum of a design: an enum's number is its place in this list
unfoldable pub enums_of : List Module → List Written
enums_of modules = flat_map enums_of_module modules

-- the labels of every enum of a design, by the enum's number
abbrev pub labels_of : List Module → List (List ℕ)
labels_of modules = map (λ e. e.labels) (enums_of modules)
