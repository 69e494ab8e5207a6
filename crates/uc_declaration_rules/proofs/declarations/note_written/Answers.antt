use Rattle.std.proofs.Common.{ap, ◌∙◌}
use Rattle.uc_rules.specs.Expressions.{Context}
use Rattle.uc_rules.specs.Faults.{first_of}
use Rattle.uc_rules.specs.Types.{type_faults}
use Rattle.uc_declaration_rules.proofs.Forms.{on_ok}
use Rattle.uc_declaration_rules.proofs.declarations.note_written.Goals as goal

pub returns : goal.returns
returns c = on_ok c.note_written_in.result (λ noted. noted ∙ ap (λ (q : Context). first_of c.args.first.now (type_faults q.system q.home c.args.ty.now)) c.scope-scope.ensures) c.note_written_in.ensures
