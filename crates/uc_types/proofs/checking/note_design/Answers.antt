use Rattle.std.proofs.Common.{◌∙◌}
use Rattle.uc_lookup.specs.Parts.{system_in}
use Rattle.uc_types.proofs.Checked.{design_of_parts, modules_are, on_ok}
use Rattle.uc_types.proofs.checking.note_design.Goals as goal

pub note_modules-noted-requires : goal.note_modules-noted-requires
note_modules-noted-requires c =
    modules_are c.args.design.now c.args.main c.as_slice-modules.result.now (system_in c.of.result) c.in_ok-types.types (c.as_slice-modules.ensures ∙ c.modules.ensures.value) c.of.ensures c.in_ok-types.ensures

pub returns : goal.returns
returns c =
    on_ok c.note_modules-noted.result
    (design_of_parts c.args.design.now c.args.main c.as_slice-modules.result.now (system_in c.of.result) c.in_ok-types.types c.args.first.now c.note_repeated_modules.new.first c.note_modules-noted.new.first
    (c.as_slice-modules.ensures ∙ c.modules.ensures.value) c.of.ensures c.in_ok-types.ensures c.in_ok-note_repeated_modules.ensures) c.note_modules-noted.ensures
