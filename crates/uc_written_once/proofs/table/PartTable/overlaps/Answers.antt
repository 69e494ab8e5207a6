use Rattle.std.proofs.Common.{nat_eq, ap, ◌∙◌}
use Rattle.std.specs.Cmp.Lexicographic.{pointwise}
use Rattle.uc_meaning.specs.Steps.{is_prefix}
use Rattle.uc_written_once.specs.Places.{any_front, is_known}
use Rattle.uc_written_once.proofs.Overlaps.{overlaps_found, overlaps_last}
use Rattle.uc_written_once.proofs.table.PartTable.overlaps.Goals as goal

pub returns-then-is_front_known : goal.returns-then-is_front_known
returns-then-is_front_known c =
    overlaps_found c.self.inside.wholes c.self.inside.fronts c.self.inside.parts.items c.args.self.now c.args.part.now c.self.invariant.0 c.self.invariant.1 c.self.view_is _
    (c.is_front_known.ensures ∙ ap (λ ps. is_known is_prefix c.self.inside.fronts ps c.args.part.now) c.as_slice-parts.ensures.value) c.if-is_front_known.true

pub returns : goal.returns
returns c =
    overlaps_last c.self.inside.wholes c.self.inside.fronts c.self.inside.parts.items c.args.self.now c.args.part.now c.self.invariant.0 c.self.invariant.1 c.self.view_is _ _
    (c.is_front_known.ensures ∙ ap (λ ps. is_known is_prefix c.self.inside.fronts ps c.args.part.now) c.as_slice-parts.ensures.value) c.if-is_front_known.false
    (c.has_known_front.ensures ∙ ap (λ ps. any_front (is_known (pointwise nat_eq) c.self.inside.wholes ps) c.args.part.now) c.as_slice-parts.ensures.value)
