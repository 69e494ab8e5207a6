use Rattle.std.proofs.Common.{◌≡◌, [], refl, ap, ◌∙◌, sym}
use Rattle.uc_lookup.specs.Parts.{system_in}
use Rattle.uc_meaning.specs.Lookup.{axiom_in}
use Rattle.uc_meaning.specs.Cells.{as_list}
use Rattle.uc_sizes.specs.Expanding.{expression_sizes}
use Rattle.uc_sizes.proofs.Expanding.{axioms_are}
use Rattle.uc_sizes.proofs.Spending.{memory_out, sizes_of, spends_none, spends_same, spends_stop, spends_two, spent_begin, spent_end, spent_more, spent_stop, stop_out}
use Rattle.uc_sizes.proofs.axioms.spend_axiom_list.Goals as goal

pub loop-declaration-init : goal.loop-declaration-init
loop-declaration-init c = spent_begin _ _ _

pub loop-declaration-preserved : goal.loop-declaration-preserved
loop-declaration-preserved c =
    spent_more (λ d. expression_sizes (system_in c.args.system.now) c.args.path.now (as_list (axiom_in d))) c.args.declarations.now _ _ _ _ c.declaration-item.result _ _ c.loop-declaration.invariant c.loop-declaration-test.true c.declaration-item.is
    (spends_same _ _ _ _ _ c.in_ok-spend_expression.ensures (ap (λ o. expression_sizes (system_in c.args.system.now) c.args.path.now (as_list o)) (sym c.axiom_in.ensures)))

pub returns-in_err-spend_expression : goal.returns-in_err-spend_expression
returns-in_err-spend_expression c =
    stop_out _ _ _ _ _ c.from_residual.ensures.1
    (spends_same _ _ _ (sizes_of (λ d. expression_sizes (system_in c.args.system.now) c.args.path.now (as_list (axiom_in d))) c.args.declarations.now) _
    (spent_stop (λ d. expression_sizes (system_in c.args.system.now) c.args.path.now (as_list (axiom_in d))) c.args.declarations.now _ _ _ _ _ c.declaration-item.result _ _ c.loop-declaration.invariant c.loop-declaration-test.true c.declaration-item.is
    (spends_same _ _ _ _ _ c.in_err-spend_expression.ensures (ap (λ o. expression_sizes (system_in c.args.system.now) c.args.path.now (as_list o)) (sym c.axiom_in.ensures))))
    (sym (axioms_are (system_in c.args.system.now) c.args.path.now c.args.declarations.now)))

pub returns : goal.returns
returns c =
    spends_same _ _ _ (sizes_of (λ d. expression_sizes (system_in c.args.system.now) c.args.path.now (as_list (axiom_in d))) c.args.declarations.now) _ (spent_end (λ d. expression_sizes (system_in c.args.system.now) c.args.path.now (as_list (axiom_in d))) c.args.declarations.now _ _ _ c.loop-declaration.invariant c.loop-declaration-test.false) (sym (axioms_are (system_in c.args.system.now) c.args.path.now c.args.declarations.now))
