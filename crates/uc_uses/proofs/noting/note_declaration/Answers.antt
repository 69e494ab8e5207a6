use Rattle.std.proofs.Common.{◌≡◌, ℕ, Bool, List, [], refl, ap, sym, ◌∙◌}
use Rattle.uc_syntax.specs.declared.place.Identifier.{Identifier}
use Rattle.uc_lexer.specs.declared.place.Place.{Place}
use Rattle.uc_syntax.specs.declared.expression.Expr.{Expr}
use Rattle.uc_syntax.specs.declared.type_expression.TypeExpr.{TypeExpr}
use Rattle.uc_syntax.specs.declared.type_expression.Parameter.{Parameter}
use Rattle.uc_syntax.specs.declared.declaration.Binding.{Binding}
use Rattle.uc_syntax.specs.declared.declaration.Procedure.{Procedure as ProcedureParts}
use Rattle.uc_syntax.specs.declared.declaration.Decl.{Decl}
use Rattle.uc_syntax.specs.declared.declaration.Decl.TheVariants.{Define, Procedure, Instance}
use Rattle.uc_rules.specs.Faults.{first_of}
use Rattle.uc_uses.specs.declared.tree.InstanceTree.{InstanceTree}
use Rattle.uc_uses.specs.declared.table.UseTable.{UseTable}
use Rattle.uc_uses.specs.Noted.{noted}
use Rattle.uc_uses.proofs.Told.{told_nothing}
use Rattle.uc_uses.proofs.noting.note_declaration.Goals as goal

none_noted : (t : InstanceTree) (u : UseTable) (flags : List Bool) (k : ℕ) (d : Decl) →
    ((place : Place) (i : Identifier) (ps : List (Parameter TypeExpr)) (type : TypeExpr) (body : Expr) → d ≡ Define place i ps type body → ⊥) → ((place : Place) (p : ProcedureParts) → d ≡ Procedure place p → ⊥) →
    ((place : Place) (i n : Identifier) (bs : List Binding) → d ≡ Instance place i n bs → ⊥) → noted t u flags k d ≡ []
none_noted t u flags k (Define place i ps type body) no_define no_procedure no_instance = absurd (no_define place i ps type body refl)
none_noted t u flags k (Procedure place p) no_define no_procedure no_instance = absurd (no_procedure place p refl)
none_noted t u flags k (Instance place i n bs) no_define no_procedure no_instance = absurd (no_instance place i n bs refl)
none_noted t u flags k other no_define no_procedure no_instance = refl

pub returns-in_default : goal.returns-in_default
returns-in_default c =
    told_nothing c.args.first.now
    ∙ ap (first_of c.args.first.now)
    (sym (none_noted c.args.root.now.tree c.args.root.now.table c.args.flags.now c.args.node c.args.declaration.now (λ place i ps type body e. c.in_default.not-Define place i ps type body e) (λ place p e. c.in_default.not-Procedure place p e)
    (λ place i n bs e. c.in_default.not-Instance place i n bs e)))
