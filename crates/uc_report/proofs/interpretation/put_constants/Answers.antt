use Rattle.std.proofs.Common.{[], ap, ◌∙◌, arith}
use Rattle.std.specs.Option.{option_map_or}
use Rattle.uc_report.specs.Described.{described, name_of}
use Rattle.uc_report.proofs.Constants.{constants_end}
use Rattle.uc_report.proofs.interpretation.put_constants.Goals as goal

pub returns : goal.returns
returns c =
    constants_end (described c.args.d.now) c.name_or_none-main.result.now c.args.tables.now.constants.now c.args.values.now c.loop-place.place c.args.out.now.items c.loop-place.out.items c.requires.constants
    (c.name_or_none-main.ensures ∙ ap (λ o. option_map_or (name_of (described c.args.d.now)) o []) c.main_name.ensures)
    (omega (arith, c.loop-place-test.false, c.min-count.ensures)) c.loop-place.invariant
