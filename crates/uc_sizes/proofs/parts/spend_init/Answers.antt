use Rattle.std.proofs.Common.{◌≡◌, [], refl, ap, ◌∙◌, sym}
use Rattle.uc_lookup.specs.Parts.{system_in}
use Rattle.uc_meaning.specs.Lookup.{init_in}
use Rattle.uc_order_rules.specs.Sizes.{code_size}
use Rattle.uc_sizes.proofs.Expanding.{init_is}
use Rattle.uc_sizes.proofs.Spending.{memory_out, sizes_of, spends_none, spends_same, spends_stop, spends_two, spent_begin, spent_end, spent_more, spent_stop, stop_out}
use Rattle.uc_sizes.proofs.parts.spend_init.Goals as goal

pub loop-declaration-init : goal.loop-declaration-init
loop-declaration-init c = spent_begin _ _ _

pub loop-declaration-preserved : goal.loop-declaration-preserved
loop-declaration-preserved c =
    spent_more (λ d. code_size (system_in c.args.system.now) c.args.path.now (init_in d)) c.as_slice-declaration-items.result.now _ _ _ _ c.declaration-item.result _ _ c.loop-declaration.invariant c.loop-declaration-test.true c.declaration-item.is
    (spends_same _ _ _ _ _ c.in_ok-spend_code.ensures (ap (code_size (system_in c.args.system.now) c.args.path.now) (sym c.init_in.ensures)))

pub returns-in_err-spend_code : goal.returns-in_err-spend_code
returns-in_err-spend_code c =
    stop_out _ _ _ _ _ c.from_residual.ensures.1
    (spends_same _ _ _ (sizes_of (λ d. code_size (system_in c.args.system.now) c.args.path.now (init_in d)) c.as_slice-declaration-items.result.now) _
    (spent_stop (λ d. code_size (system_in c.args.system.now) c.args.path.now (init_in d)) c.as_slice-declaration-items.result.now _ _ _ _ _ c.declaration-item.result _ _ c.loop-declaration.invariant c.loop-declaration-test.true c.declaration-item.is
    (spends_same _ _ _ _ _ c.in_err-spend_code.ensures (ap (code_size (system_in c.args.system.now) c.args.path.now) (sym c.init_in.ensures))))
    (init_is (system_in c.args.system.now) c.args.path.now c.args.code.now c.as_slice-declaration-items.result.now c.as_slice-declaration-items.ensures))

pub returns : goal.returns
returns c =
    spends_same _ _ _ (sizes_of (λ d. code_size (system_in c.args.system.now) c.args.path.now (init_in d)) c.as_slice-declaration-items.result.now) _ (spent_end (λ d. code_size (system_in c.args.system.now) c.args.path.now (init_in d)) c.as_slice-declaration-items.result.now _ _ _ c.loop-declaration.invariant c.loop-declaration-test.false) (init_is (system_in c.args.system.now) c.args.path.now c.args.code.now c.as_slice-declaration-items.result.now c.as_slice-declaration-items.ensures)
