use Rattle.std.proofs.Common.{◌≡◌, List, ◌++◌, ◌∙◌, sym, ap}
use Rattle.std.specs.List.{flat_map}
use Rattle.uc_syntax.specs.declared.type_expression.Parameter.{Parameter}
use Rattle.uc_syntax.specs.declared.type_expression.TypeExpr.{TypeExpr}
use Rattle.uc_syntax.specs.declared.statement.Stmt.{Stmt}
use Rattle.uc_syntax.specs.WrittenTypes.{types_in, types_in_block, types_of_parameters}
use Rattle.uc_syntax.proofs.Added.{adds_one, adds_three}
use Rattle.uc_type_names.specs.Lent.{types_by}
use Rattle.uc_type_names.proofs.Forms.{block_in}
use Rattle.uc_type_names.proofs.written.add_declaration.Goals as goal

in_block : (block shown : List Stmt) → shown ≡ block → types_in_block block ≡ flat_map types_by shown
in_block block shown is = block_in block ∙ ap (flat_map types_by) (sym is)

pub returns-in_ok-add_block-in-Procedure : goal.returns-in_ok-add_block-in-Procedure
returns-in_ok-add_block-in-Procedure c =
    adds_three types_in _ _ _ c.in-Procedure.is _ _ _ _ _ _
    (λ k. types_of_parameters (sym c.as_slice-in-Procedure.ensures k)
    ++ (types_of_parameters (sym c.as_slice-in-Procedure-2.ensures k) ++ in_block _ _ c.as_slice-in-Procedure-3.ensures k))
    c.in_ok-add_parameters-in-Procedure.ensures c.in_ok-add_parameters-in-Procedure-2.ensures c.in_ok-add_block-in-Procedure.ensures

pub returns-in_ok-add_block-in-Init : goal.returns-in_ok-add_block-in-Init
returns-in_ok-add_block-in-Init c =
    adds_one types_in _ _ _ c.in-Init.is _ _ (in_block _ _ c.as_slice-in-Init.ensures) c.in_ok-add_block-in-Init.ensures

pub returns-in_ok-add_block-in-Next : goal.returns-in_ok-add_block-in-Next
returns-in_ok-add_block-in-Next c =
    adds_one types_in _ _ _ c.in-Next.is _ _ (in_block _ _ c.as_slice-in-Next.ensures) c.in_ok-add_block-in-Next.ensures
