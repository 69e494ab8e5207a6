use Rattle.std.proofs.Common.{sym}
use Rattle.uc_names.specs.Senses.{module_in}
use Rattle.uc_names.proofs.Forms.{module_found, module_missing}
use Rattle.uc_declaration_rules.proofs.Parts.{blocks_of_parts, no_blocks}
use Rattle.uc_declaration_rules.proofs.naming.note_blocks.Goals as goal

pub returns-in-None : goal.returns-in-None
returns-in-None c = no_blocks (module_in c.args.design.now.modules c.args.home) c.args.first.now (module_missing c.args.design.now.modules c.args.home (sym c.in-None.ensures))

pub returns-in-Some : goal.returns-in-Some
returns-in-Some c =
    blocks_of_parts c.in-Some.whole.now (module_in c.args.design.now.modules c.args.home) c.args.first.now c.note_repeated_block.new.first c.note_repeated_block-in-Some.new.first c.note_repeated_block-in-Some-2.new.first
    (module_found c.args.design.now.modules c.args.home c.in-Some.whole.now (sym c.in-Some.ensures)) c.note_repeated_block.ensures c.note_repeated_block-in-Some.ensures c.note_repeated_block-in-Some-2.ensures
