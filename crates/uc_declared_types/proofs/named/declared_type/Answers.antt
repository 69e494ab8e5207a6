use Rattle.std.proofs.Common.{◌≡◌, Some, ap, sym, ◌∙◌}
use Rattle.uc_values.specs.declared.ty.Ty.TheVariants.{Un as open_type}
use Rattle.uc_rules.specs.Outcomes.{type_in}
use Rattle.uc_rules.specs.Types.{entry_type}
use Rattle.uc_names.specs.Senses.{module_in}
use Rattle.uc_declared_types.specs.Aliases.{entry_of}
use Rattle.uc_declared_types.proofs.Entries.{known_alias, opaque_is}
use Rattle.uc_declared_types.proofs.Sides.{same_related}
use Rattle.uc_declared_types.proofs.named.declared_type.Goals as goal

pub returns-in_ok-ty-in-Some : goal.returns-in_ok-ty-in-Some
returns-in_ok-ty-in-Some c = λ side alias h. known_alias side c.args.homes.now c.args.aliases.now alias c.args.name c.args.declared _ c.in_ok-ty-in-Some.ty h c.in-Some.ensures c.in_ok-ty-in-Some.ensures

pub returns-in_ok-number-in-None : goal.returns-in_ok-number-in-None
returns-in_ok-number-in-None c =
    λ side alias h. same_related side _ _
    (ap (λ n. Some (open_type n)) (c.in_ok-number-in-None.ensures ∙ c.opaque_number.ensures)
    ∙ sym (ap (λ e. type_in (entry_type c.args.homes.now alias c.args.name (module_in c.args.homes.now.modules c.args.declared.home) e)) (opaque_is (entry_of c.args.homes.now c.args.declared) c.in-None.ensures)))
