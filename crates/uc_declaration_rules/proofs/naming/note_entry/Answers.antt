use Rattle.std.proofs.Common.{ap, ◌∙◌}
use Rattle.uc_rules.specs.declared.rule.Rule.TheVariants.{DuplicateName}
use Rattle.uc_rules.specs.Faults.{breaks_where, first_of}
use Rattle.uc_declaration_rules.proofs.naming.note_entry.Goals as goal

pub returns-clause-faults : goal.returns-clause-faults
returns-clause-faults c = λ es held. c.note_where.ensures ∙ ap (λ b. first_of c.args.first.now (breaks_where b DuplicateName c.args.entry.identifier.place)) (c.is_repeated-is_repeated.ensures es held)
