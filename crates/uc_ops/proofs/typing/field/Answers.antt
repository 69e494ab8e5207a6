use Rattle.std.proofs.Common.{rules}
use Rattle.std.proofs.lemmas.Option.{slice_get-map}
use Rattle.uc_values.specs.declared.ty.Ty.TheViews.{the_lemmas}
use Rattle.uc_ops.proofs.typing.field.Goals as goal

pub returns-in-Some : goal.returns-in-Some
returns-in-Some c = search (rules, slice_get-map, the_lemmas)

pub returns-in-None : goal.returns-in-None
returns-in-None c = search (rules, slice_get-map, the_lemmas)
