use Rattle.std.proofs.Common.{rules, slice_get, ap, ◌∙◌, sym}
use Rattle.std.proofs.lemmas.Option.{slice_get-map}
use Rattle.uc_ops.specs.Typing.{type_at}
use Rattle.uc_ops.proofs.Typed.{type-of_part}
use Rattle.uc_ops.proofs.typing.part_type.Goals as goal

pub returns-in-Some-at : goal.returns-in-Some-at
returns-in-Some-at c =
    sym (type-of_part c.args.nodes.now c.args.parts.now c.args.place c.in-Some.part.now c.in-Some-at.node.now (sym c.in-Some.ensures)
    (ap (slice_get c.args.nodes.now) (sym c.index.ensures) ∙ sym c.in-Some-at.ensures))

pub returns-in-None-at : goal.returns-in-None-at
unfolding type_at
returns-in-None-at c = search (rules, slice_get-map)

pub returns-in-None : goal.returns-in-None
unfolding type_at
returns-in-None c = search (rules, slice_get-map)
