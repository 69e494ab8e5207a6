use Rattle.std.proofs.Common.{◌≡◌, true, false, rules}
use Rattle.uc_lookup.specs.Parts.{system_in}
use Rattle.uc_sizes.proofs.Spending.{memory_out, spends_none, spends_same}
use Rattle.uc_sizes.proofs.Finding.{not_used, used_at, without_axioms}
use Rattle.uc_sizes.proofs.axioms.spend_axioms_of.Goals as goal

pub returns-then-not-has_axioms : goal.returns-then-not-has_axioms
returns-then-not-has_axioms c =
    let away : c.has_axioms.result ≡ false = search rules in
    spends_none _ _ (without_axioms (system_in c.args.system.now) c.args.code.now c.as_slice.result.now c.has_axioms.result c.has_axioms.ensures away c.as_slice.ensures)

pub returns-in_err-used : goal.returns-in_err-used
returns-in_err-used c = memory_out _ _ _ _ c.from_residual.ensures.1

pub returns-then-not-used : goal.returns-then-not-used
returns-then-not-used c =
    let away : c.in_ok-used.used ≡ false = search rules in
    spends_none _ _ (not_used (system_in c.args.system.now) c.args.code.now c.in_ok-used.used c.in_ok-used.ensures away)

pub returns-in_err-path : goal.returns-in_err-path
returns-in_err-path c = memory_out _ _ _ _ c.from_residual-in_err-path.ensures.1

pub returns : goal.returns
returns c =
    let some : c.in_ok-used.used ≡ true = search rules in
    spends_same _ _ _ _ _ c.spend_axiom_list.ensures
    (used_at (system_in c.args.system.now) c.args.code.now c.in_ok-used.used c.in_ok-path.path c.as_slice-2.result.now c.as_slice-3.result.now c.in_ok-used.ensures some c.in_ok-path.ensures c.as_slice-2.ensures c.as_slice-3.ensures)
