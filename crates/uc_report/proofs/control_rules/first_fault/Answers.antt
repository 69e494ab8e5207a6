use Rattle.std.proofs.Common.{sym, ◌∙◌}
use Rattle.uc_report.specs.Described.{described}
use Rattle.uc_report.proofs.ControlForms.{decls_go_on, decls_find, decls_end, checked_decls}
use Rattle.uc_report.proofs.control_rules.first_fault.Goals as goal

pub loop-place-preserved : goal.loop-place-preserved
loop-place-preserved c = (
  decls_go_on (described c.args.d.now) c.args.decls.now c.loop-place.place _ c.commands_in-commands.result.now c.fault_behind-found.result c.loop-place-test.true c.index-decls-place.is
      c.commands_in-commands.ensures c.loop-place.invariant.0 c.fault_behind-found.ensures (sym c.is_some.ensures ∙ c.if-is_some.false),
  c.has_check-checked.ensures
      ∙ checked_decls c.args.decls.now c.loop-place.place _ c.commands_in-commands.result.now c.loop-place.checked c.loop-place-test.true c.index-decls-place.is c.commands_in-commands.ensures
      c.loop-place.invariant.1,
)

pub returns-then-is_some : goal.returns-then-is_some
returns-then-is_some c =
    decls_find (described c.args.d.now) c.args.decls.now c.loop-place.place _ c.commands_in-commands.result.now c.fault_behind-found.result c.loop-place-test.true c.index-decls-place.is
    c.commands_in-commands.ensures c.loop-place.invariant.0 c.fault_behind-found.ensures (sym c.is_some.ensures ∙ c.if-is_some.true)

pub returns : goal.returns
returns c = decls_end (described c.args.d.now) c.args.decls.now c.loop-place.place c.loop-place-test.false c.loop-place.invariant.0
