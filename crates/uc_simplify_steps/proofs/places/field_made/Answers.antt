use Rattle.std.proofs.Common.{sym}
use Rattle.uc_simplify_steps.proofs.Made.{field_known}
use Rattle.uc_simplify_steps.proofs.places.field_made.Goals as goal

pub returns-in-Some-part_at : goal.returns-in-Some-part_at
returns-in-Some-part_at c =
    field_known c.args.terms.now c.args.place c.args.a c.in-Some-part_at.part c.in-Some.field-0-0.now c.in-Some.parts.now c.in-Some.ensures (sym c.in-Some-part_at.ensures)
