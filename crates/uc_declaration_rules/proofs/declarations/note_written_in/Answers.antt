use Rattle.uc_declaration_rules.proofs.declarations.note_written_in.Goals as goal

pub returns : goal.returns
returns c = c.in_ok-note_type.ensures.faults
