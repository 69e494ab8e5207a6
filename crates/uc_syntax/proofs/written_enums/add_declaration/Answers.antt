use Rattle.std.proofs.Common.{ℕ, List, ◌++◌, ◌∙◌, refl, sym}
use Rattle.std.specs.List.{flat_map}
use Rattle.uc_syntax.specs.declared.type_expression.Parameter.{Parameter}
use Rattle.uc_syntax.specs.declared.type_expression.TypeExpr.{TypeExpr}
use Rattle.uc_syntax.specs.declared.statement.Stmt.{Stmt}
use Rattle.uc_syntax.specs.Labels.{type_labels, stmt_labels, decl_labels}
use Rattle.uc_syntax.proofs.Added.{adds_two, adds_three, adds_nothing}
use Rattle.uc_syntax.proofs.Labels.{labels_function, labels_define, labels_procedure, labels_none}
use Rattle.uc_syntax.proofs.written_enums.add_declaration.Goals as goal

abbrev in_parameters : List (Parameter TypeExpr) → List (List ℕ)
in_parameters ps = flat_map (λ p. type_labels p.ty) ps

abbrev in_block : List Stmt → List (List ℕ)
in_block block = flat_map stmt_labels block

pub returns-in_ok-add_type-in-Function : goal.returns-in_ok-add_type-in-Function
returns-in_ok-add_type-in-Function c =
    adds_two decl_labels _ _ _ c.in-Function.is _ _ _ _
    (labels_function _ _ _ _ ∙ (λ k. in_parameters (sym c.as_slice.ensures k) ++ type_labels c.in-Function.ty))
    c.in_ok-add_parameters-in-Function.ensures c.in_ok-add_type-in-Function.ensures

pub returns-in_ok-add_type-in-Define : goal.returns-in_ok-add_type-in-Define
returns-in_ok-add_type-in-Define c =
    adds_two decl_labels _ _ _ c.in-Define.is _ _ _ _
    (labels_define _ _ _ _ _ ∙ (λ k. in_parameters (sym c.as_slice-in-Define.ensures k) ++ type_labels c.in-Define.ty))
    c.in_ok-add_parameters-in-Define.ensures c.in_ok-add_type-in-Define.ensures

pub returns-in_ok-add_block-in-Procedure : goal.returns-in_ok-add_block-in-Procedure
returns-in_ok-add_block-in-Procedure c =
    adds_three decl_labels _ _ _ c.in-Procedure.is _ _ _ _ _ _
    (labels_procedure _ _
    ∙ (λ k. in_parameters (sym c.as_slice-in-Procedure.ensures k)
    ++ (in_parameters (sym c.as_slice-in-Procedure-2.ensures k) ++ in_block (sym c.as_slice-in-Procedure-3.ensures k))))
    c.in_ok-add_parameters-in-Procedure.ensures c.in_ok-add_parameters-in-Procedure-2.ensures c.in_ok-add_block-in-Procedure.ensures

pub returns-in_default : goal.returns-in_default
returns-in_default c =
    let n = c.in_default in
    adds_nothing decl_labels _ _ _ refl
    (labels_none _ n.not-TypeAlias n.not-Variables n.not-Function n.not-Define n.not-Procedure n.not-Init n.not-Next)
