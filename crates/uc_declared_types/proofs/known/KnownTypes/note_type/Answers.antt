use Rattle.std.proofs.Common.{◌≡◌, ap, ◌∙◌}
use Rattle.uc_meaning.specs.Lookup.{System}
use Rattle.uc_rules.specs.Faults.{first_of}
use Rattle.uc_rules.specs.Types.{type_faults, type_of}
use Rattle.uc_names.specs.Senses.{module_in}
use Rattle.uc_declared_types.specs.Aliases.{read_to_end}
use Rattle.uc_declared_types.proofs.Fixed.{same_faults, same_type}
use Rattle.uc_declared_types.proofs.known.KnownTypes.note_type.Goals as goal

pub returns-clause-ty : goal.returns-clause-ty
returns-clause-ty c =
    same_type c.self.inside.homes c.self.inside.aliases (module_in c.self.inside.homes.modules c.args.home) c.args.ty.now c.in_ok-found.found c.self.invariant.aliases_known c.in_ok-found.ensures.ty
    ∙ ap (λ (s : System). type_of s (module_in s.modules c.args.home) c.args.ty.now) c.self.view_is

pub returns-clause-faults : goal.returns-clause-faults
returns-clause-faults c =
    same_faults c.self.inside.homes c.self.inside.aliases (module_in c.self.inside.homes.modules c.args.home) c.args.ty.now c.args.first.now c.note_type.new.first c.self.invariant.aliases_known c.in_ok-found.ensures.faults
    ∙ ap (λ (s : System). first_of c.args.first.now (type_faults s (module_in s.modules c.args.home) c.args.ty.now)) c.self.view_is
