use Rattle.std.proofs.Common.{◌≡◌, ap, ◌∙◌}
use Rattle.uc_values.specs.declared.ty.Ty.TheVariants.{Enum as enum_type}
use Rattle.uc_meaning.specs.Lookup.{System}
use Rattle.uc_rules.specs.Expressions.{enum_of}
use Rattle.uc_declared_types.proofs.Labelled.{count_is}
use Rattle.uc_declared_types.proofs.known.KnownTypes.enum_type.Goals as goal

pub returns : goal.returns
returns c =
    (λ k. enum_type (c.in_ok-number.ensures k) ((c.in_ok-count.ensures ∙ c.number_at.ensures ∙ count_is c.self.inside.homes.modules c.self.inside.counts c.args.number c.self.invariant.labels_counted) k))
    ∙ ap (λ (s : System). enum_of s c.args.number) c.self.view_is
