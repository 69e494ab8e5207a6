-- What is asked of the declarations of a design that runs today, beside that it keeps the static rules and that there is a design over cells for it.
use Rattle.std.specs.Prelude.{Bool, true, false, ◌&&◌}
use Rattle.std.specs.List.{list_all}
use Rattle.uc_syntax.specs.declared.type_expression.TypeExpr.{TypeExpr}
use Rattle.uc_syntax.specs.declared.type_expression.TypeExpr.TheOpen.{TypeExpr-F}
use Rattle.uc_syntax.specs.declared.type_expression.TypeExpr.TheOpen.TypeExpr-F.{Record, Array}
use Rattle.uc_syntax.specs.declared.type_expression.TypeExpr.TheFolds.{fold-TypeExpr}
use Rattle.uc_syntax.specs.declared.declaration.Decl.{Decl}
use Rattle.uc_syntax.specs.declared.declaration.Decl.TheVariants.{TypeAlias, TypeImport, Variables, Init, Next, Invariant, Axiom, Control}
use Rattle.uc_syntax.specs.declared.declaration.Module.{Module}
use Rattle.uc_meaning.specs.Fragment.{at_most_one, is_control}
use Rattle.uc_runnable.specs.Commands.{runs}

-- no array stands in a written type
abbrev pub spares_arrays_form : TypeExpr-F Bool → Bool
spares_arrays_form (Record place fields) = list_all (λ p. p.ty) fields
spares_arrays_form (Array place index element) = false
spares_arrays_form other = true

unfoldable pub spares_arrays : TypeExpr → Bool
spares_arrays = fold-TypeExpr Bool spares_arrays_form

-- an alias of a type without arrays, an import of types, a declaration of variables, inputs, outputs or constants, a block, an invariant, an axiom, or a control block whose commands all run
abbrev pub is_plain_decl : Decl → Bool
is_plain_decl (TypeAlias place i type) = spares_arrays type
is_plain_decl (TypeImport place m) = true
is_plain_decl (Variables place kind is type) = true
is_plain_decl (Init place block) = true
is_plain_decl (Next place block) = true
is_plain_decl (Invariant place i e) = true
is_plain_decl (Axiom place name e) = true
is_plain_decl (Control place commands) = list_all runs commands
is_plain_decl other = false

-- All declarations are such, and there is at most one control block.
abbrev pub is_plain : Module → Bool
is_plain m = list_all is_plain_decl m.decls && at_most_one is_control m.decls
