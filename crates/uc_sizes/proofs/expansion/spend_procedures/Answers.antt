use Rattle.std.proofs.Common.{◌≡◌, [], refl, ap, ◌∙◌, sym}
use Rattle.uc_lookup.specs.Parts.{system_in}
use Rattle.uc_order_rules.specs.Sizes.{procedure_size}
use Rattle.uc_sizes.proofs.Codes.{sizes_are}
use Rattle.uc_sizes.proofs.Spending.{memory_out, sizes_of, spends_none, spends_same, spends_stop, spends_two, spent_begin, spent_end, spent_more, spent_stop, stop_out}
use Rattle.uc_sizes.proofs.expansion.spend_procedures.Goals as goal

pub loop-declaration-init : goal.loop-declaration-init
loop-declaration-init c = spent_begin _ _ _

pub loop-declaration-preserved : goal.loop-declaration-preserved
loop-declaration-preserved c =
    spent_more (procedure_size (system_in c.args.system.now)) c.args.declarations.now _ _ _ _ c.declaration-item.result _ _ c.loop-declaration.invariant c.loop-declaration-test.true c.declaration-item.is
    c.in_ok-spend_procedure.ensures

pub returns-in_err-spend_procedure : goal.returns-in_err-spend_procedure
returns-in_err-spend_procedure c =
    stop_out _ _ _ _ _ c.from_residual.ensures.1
    (spends_same _ _ _ (sizes_of (procedure_size (system_in c.args.system.now)) c.args.declarations.now) _
    (spent_stop (procedure_size (system_in c.args.system.now)) c.args.declarations.now _ _ _ _ _ c.declaration-item.result _ _ c.loop-declaration.invariant c.loop-declaration-test.true c.declaration-item.is
    c.in_err-spend_procedure.ensures)
    (sym (sizes_are (procedure_size (system_in c.args.system.now)) c.args.declarations.now)))

pub returns : goal.returns
returns c =
    spends_same _ _ _ (sizes_of (procedure_size (system_in c.args.system.now)) c.args.declarations.now) _ (spent_end (procedure_size (system_in c.args.system.now)) c.args.declarations.now _ _ _ c.loop-declaration.invariant c.loop-declaration-test.false) (sym (sizes_are (procedure_size (system_in c.args.system.now)) c.args.declarations.now))
