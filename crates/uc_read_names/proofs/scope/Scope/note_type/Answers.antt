use Rattle.std.proofs.Common.{ap, ◌∙◌}
use Rattle.uc_rules.specs.Expressions.{Context}
use Rattle.uc_rules.specs.Faults.{first_of}
use Rattle.uc_rules.specs.Types.{type_faults, type_of}
use Rattle.uc_read_names.proofs.scope.Scope.note_type.Goals as goal

pub returns-clause-ty : goal.returns-clause-ty
returns-clause-ty c = c.in_ok-found.ensures.ty ∙ ap (λ (q : Context). type_of q.system q.home c.args.ty.now) c.self.view_is

pub returns-clause-faults : goal.returns-clause-faults
returns-clause-faults c = c.in_ok-found.ensures.faults ∙ ap (λ (q : Context). first_of c.args.first.now (type_faults q.system q.home c.args.ty.now)) c.self.view_is
