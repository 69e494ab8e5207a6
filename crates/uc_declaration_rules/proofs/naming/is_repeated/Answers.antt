use Rattle.std.proofs.Common.{ap, ◌∙◌}
use Rattle.std.specs.List.{find}
use Rattle.uc_lookup.specs.Parts.{system_in}
use Rattle.uc_names.specs.Senses.{entry_meant}
use Rattle.uc_rules.specs.Names.{is_bit_function, is_entry, is_taken}
use Rattle.uc_declaration_rules.proofs.Parts.{is_bit, or_first, or_second}
use Rattle.uc_declaration_rules.proofs.naming.is_repeated.Goals as goal

pub returns-then-is_bit_function : goal.returns-then-is_bit_function
returns-then-is_bit_function c = λ es held.
    or_first c.is_bit_function.result (is_bit_function c.args.design.now c.args.entry.identifier.name) (is_taken (entry_meant c.args.design.now.modules c.args.entry) (find (is_entry c.args.entry.identifier.name) es))
    (is_bit c.args.design.now (system_in c.system.result) c.args.entry.identifier.name c.is_bit_function.result c.system.ensures c.is_bit_function.ensures) c.if-is_bit_function.true

pub returns : goal.returns
returns c = λ es held.
    or_second c.is_bit_function.result (is_bit_function c.args.design.now c.args.entry.identifier.name) (is_taken (entry_meant c.args.design.now.modules c.args.entry) (find (is_entry c.args.entry.identifier.name) es)) c.is_taken.result
    (is_bit c.args.design.now (system_in c.system.result) c.args.entry.identifier.name c.is_bit_function.result c.system.ensures c.is_bit_function.ensures) c.if-is_bit_function.false
    (c.is_taken.ensures c.args.design.now.modules ∙ ap (is_taken (entry_meant c.args.design.now.modules c.args.entry)) (c.first.ensures c.args.design.now.modules es held))
