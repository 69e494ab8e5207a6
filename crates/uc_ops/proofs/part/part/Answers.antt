use Rattle.std.proofs.Common.{sym, ap, ◌∙◌, Some, None}
use Rattle.uc_ops.specs.Meaning.{part}
use Rattle.uc_ops.proofs.Parts.{part_by_option}
use Rattle.uc_ops.proofs.part.part.Goals as goal

pub returns-in-Some : goal.returns-in-Some
returns-in-Some c =
    c.item.ensures ∙ ap (part c.args.given.now) c.index.ensures ∙ sym (part_by_option c.args.given.now c.args.parts.now c.args.place (Some c.in-Some.part.now) (sym c.in-Some.ensures))

pub returns-in-None : goal.returns-in-None
returns-in-None c = c.requires ∙ sym (part_by_option c.args.given.now c.args.parts.now c.args.place None (sym c.in-None.ensures))
