use Rattle.std.proofs.Common.{ap, ◌∙◌}
use Rattle.std.specs.List.{flat_map}
use Rattle.uc_meaning.specs.Lookup.{system_of}
use Rattle.uc_type_reader.specs.Places.{written_enums, opaques_in, declaration_count}
use Rattle.uc_type_reader.proofs.Listed.{all_opaques}
use Rattle.uc_type_reader.proofs.tables.Tables.of.Goals as goal

pub invariant_of-result : goal.invariant_of-result
invariant_of-result c =
    let modules = c.as_slice.ensures ∙ c.modules.ensures.value in
    let listed = c.in_ok-lists.ensures in
    record {
      enums_listed = listed.enums_written ∙ ap written_enums modules;
      opaques_listed = listed.opaques_declared ∙ ap (flat_map opaques_in) modules ∙ all_opaques (system_of c.args.design c.args.main);
      declarations_counted = listed.declarations_there ∙ ap declaration_count modules;
    }
