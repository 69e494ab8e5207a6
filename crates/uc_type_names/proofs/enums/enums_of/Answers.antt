use Rattle.std.proofs.Common.{◌++◌, ◌∙◌, ap}
use Rattle.std.specs.List.{flat_map}
use Rattle.uc_syntax.specs.WrittenTypes.{enums_in, types_in}
use Rattle.uc_syntax.proofs.Added.{added_more}
use Rattle.uc_type_names.specs.Lent.{meant, enums_in_types}
use Rattle.uc_type_names.proofs.EnumForms.{meant_none, lent_enums}
use Rattle.uc_type_names.proofs.enums.enums_of.Goals as goal

pub loop-declaration-init : goal.loop-declaration-init
loop-declaration-init c = record { is = ap meant c.new-enums.ensures ∙ meant_none }

pub loop-declaration-preserved : goal.loop-declaration-preserved
loop-declaration-preserved c =
    added_more (λ d. flat_map enums_in (types_in d)) _ _ _ _ _ c.declaration-item.result c.loop-declaration.invariant c.loop-declaration-test.true c.declaration-item.is
    (c.in_ok-add_types.ensures
    ∙ ap (λ es. meant c.loop-declaration.enums ++ es) (ap enums_in_types c.as_slice.ensures ∙ lent_enums c.in_ok-types.types ∙ ap (flat_map enums_in) c.in_ok-types.ensures))
