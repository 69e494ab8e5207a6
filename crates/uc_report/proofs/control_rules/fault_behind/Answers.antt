use Rattle.std.proofs.Common.{sym, ◌∙◌}
use Rattle.std.specs.List.{flat_map}
use Rattle.uc_meaning.specs.Lines.{commands_in}
use Rattle.uc_report.specs.Described.{described}
use Rattle.uc_report.proofs.ControlForms.{walk_goes_on, walk_finds, walk_ends, checked_turn}
use Rattle.uc_report.proofs.control_rules.fault_behind.Goals as goal

pub loop-place-preserved : goal.loop-place-preserved
loop-place-preserved c = (
  walk_goes_on (described c.args.d.now) (flat_map commands_in c.args.others.now) c.args.commands.now c.loop-place.place _ c.command_fault-found.result c.loop-place-test.true c.index-commands-place.is
      c.loop-place.invariant.0 c.command_fault-found.ensures (sym c.is_some.ensures ∙ c.if-is_some.false),
  c.is_checked-checked.ensures
      ∙ checked_turn (flat_map commands_in c.args.others.now) c.args.commands.now c.loop-place.place _ c.loop-place.checked c.loop-place-test.true c.index-commands-place-in-loop-place.is c.loop-place.invariant.1,
)

pub returns-then-is_some : goal.returns-then-is_some
returns-then-is_some c =
    walk_finds (described c.args.d.now) (flat_map commands_in c.args.others.now) c.args.commands.now c.loop-place.place _ c.command_fault-found.result c.loop-place-test.true c.index-commands-place.is
    c.loop-place.invariant.0 c.command_fault-found.ensures (sym c.is_some.ensures ∙ c.if-is_some.true)

pub returns : goal.returns
returns c = walk_ends (described c.args.d.now) (flat_map commands_in c.args.others.now) c.args.commands.now c.loop-place.place c.loop-place-test.false c.loop-place.invariant.0
