use Rattle.std.proofs.Common.{ap, ◌∙◌}
use Rattle.std.specs.List.{flat_map}
use Rattle.uc_meaning.specs.Lookup.{System}
use Rattle.uc_names.specs.Senses.{module_in}
use Rattle.uc_rules.specs.Declarations.{declaration_faults, naming_faults}
use Rattle.uc_rules.specs.Faults.{first_of}
use Rattle.uc_names.proofs.Forms.{module_found}
use Rattle.uc_types.proofs.Checked.{on_ok}
use Rattle.uc_types.proofs.OneModule.{module_of_parts, reads_known}
use Rattle.uc_types.proofs.modules.note_module.Goals as goal

pub of-home-requires : goal.of-home-requires
of-home-requires c =
    reads_known c.args.types.now c.homes-homes.result.now (module_in c.args.types.now.modules c.args.number) (module_in c.homes-homes.result.now.modules c.args.number) c.in_ok-reading.reading
    c.homes-homes.ensures (ap (λ (s : System). module_in s.modules c.args.number) c.homes-homes.ensures) c.in_ok-reading.ensures

pub returns : goal.returns
returns c =
    on_ok c.note_declarations.result
    (λ noted. module_of_parts c.args.types.now c.args.whole.now (module_in c.args.types.now.modules c.args.number) c.of-home.result c.args.first.now c.note_names.new.first c.note_cycles.new.first c.note_declarations.new.first
    (module_found c.args.types.now.modules c.args.number c.args.whole.now c.requires.there) c.of-home.ensures
    (c.in_ok-note_names.ensures ∙ ap (λ (s : System). first_of c.args.first.now (naming_faults s (module_in s.modules c.args.number))) (c.design.ensures ∙ c.homes-homes.ensures))
    (c.note_cycles.ensures c.args.types.now c.requires.cycles)
    (noted ∙ ap (λ ds. first_of c.note_cycles.new.first (flat_map (declaration_faults c.of-home.result.system c.of-home.result.home) ds)) c.as_slice.ensures))
    c.note_declarations.ensures
