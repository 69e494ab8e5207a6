use Rattle.std.proofs.Common.{[], ◌∷◌, ◌++◌, ◌∙◌, sym, ap, refl}
use Rattle.std.specs.List.{flat_map}
use Rattle.uc_syntax.specs.WrittenTypes.{types_in, types_of_parameters}
use Rattle.uc_type_reader.specs.Mentioned.{types_written}
use Rattle.uc_type_reader.proofs.Gained.{gains_one, gains_two, gains_three, on_ok}
use Rattle.uc_type_reader.proofs.Written.{block_of}
use Rattle.uc_type_reader.proofs.mentioned.add_declaration.Goals as goal

pub returns-in-TypeAlias : goal.returns-in-TypeAlias
returns-in-TypeAlias c = on_ok c.add_type.result (gains_one types_in _ _ c.in-TypeAlias.is _ _ _ refl) c.add_type.ensures

pub returns-in-Variables : goal.returns-in-Variables
returns-in-Variables c = on_ok c.add_type-in-Variables.result (gains_one types_in _ _ c.in-Variables.is _ _ _ refl) c.add_type-in-Variables.ensures

pub returns-in_ok-add_parameters-in-Function : goal.returns-in_ok-add_parameters-in-Function
returns-in_ok-add_parameters-in-Function c =
    on_ok c.add_type-in-Function.result
    (gains_two types_in _ _ c.in-Function.is _ _ _ _ _ (ap (λ ps. types_of_parameters ps ++ c.in-Function.ty ∷ []) (sym c.as_slice.ensures)) c.in_ok-add_parameters-in-Function.ensures) c.add_type-in-Function.ensures

pub returns-in_ok-add_parameters-in-Define : goal.returns-in_ok-add_parameters-in-Define
returns-in_ok-add_parameters-in-Define c =
    on_ok c.add_type-in-Define.result
    (gains_two types_in _ _ c.in-Define.is _ _ _ _ _ (ap (λ ps. types_of_parameters ps ++ c.in-Define.ty ∷ []) (sym c.as_slice-in-Define.ensures)) c.in_ok-add_parameters-in-Define.ensures) c.add_type-in-Define.ensures

pub returns-in_ok-add_parameters-in-Procedure-2 : goal.returns-in_ok-add_parameters-in-Procedure-2
returns-in_ok-add_parameters-in-Procedure-2 c =
    on_ok c.add_block.result
    (gains_three types_in _ _ c.in-Procedure.is _ _ _ _ _ _ _
    (λ k. types_of_parameters (sym c.as_slice-in-Procedure.ensures k)
    ++ (types_of_parameters (sym c.as_slice-in-Procedure-2.ensures k) ++ (block_of c.in-Procedure.procedure.body ∙ ap (flat_map types_written) (sym c.as_slice-in-Procedure-3.ensures)) k))
    c.in_ok-add_parameters-in-Procedure.ensures c.in_ok-add_parameters-in-Procedure-2.ensures) c.add_block.ensures

pub returns-in-Init : goal.returns-in-Init
returns-in-Init c =
    on_ok c.add_block-in-Init.result (gains_one types_in _ _ c.in-Init.is _ _ _ (block_of c.in-Init.block ∙ ap (flat_map types_written) (sym c.as_slice-in-Init.ensures))) c.add_block-in-Init.ensures

pub returns-in-Next : goal.returns-in-Next
returns-in-Next c =
    on_ok c.add_block-in-Next.result (gains_one types_in _ _ c.in-Next.is _ _ _ (block_of c.in-Next.block ∙ ap (flat_map types_written) (sym c.as_slice-in-Next.ensures))) c.add_block-in-Next.ensures
