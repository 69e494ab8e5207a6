use Rattle.std.proofs.Common.{◌≡◌, [], Some, ap, length, sym, subst, ◌∙◌, arith}
use Rattle.std.specs.Prelude.{if◌then◌else◌, slice_get}
use Rattle.std.proofs.lemmas.Option.{slice_get-get_or}
use Rattle.uc_meaning.specs.Lookup.{System}
use Rattle.uc_rules.specs.Faults.{first_of}
use Rattle.uc_order_rules.specs.Roots.{rooted}
use Rattle.uc_order_rules.specs.Uses.{use_cycles}
use Rattle.uc_order_rules.specs.Order.{cycles_in, roots}
use Rattle.uc_uses.specs.Modules.{KnowsModules}
use Rattle.uc_uses.proofs.Told.{root_at, root_length, told_begin, told_end, told_more}
use Rattle.uc_uses.proofs.cycles.note_use_cycles.Goals as goal

pub loop-number-init : goal.loop-number-init
loop-number-init c = λ known. told_begin cycles_in (roots c.args.design.now) c.args.first.now

pub loop-number-preserved : goal.loop-number-preserved
loop-number-preserved c = λ known.
    let s = c.args.design.now in
    let k = c.loop-number.number in
    let m = c.root-item.result in
    let modules : c.system-system.result.modules.now ≡ s.modules = ap (λ (x : System). x.modules) c.system-system.ensures in
    let size : length c.system-system.result.modules.now ≡ length s.modules = ap length modules in
    let many : length (roots s) ≡ length s.modules = root_length s in
    let at : slice_get s.modules k ≡ Some m = ap (λ ms. slice_get ms k) (sym modules) ∙ slice_get-get_or c.system-system.result.modules.now k m c.loop-number-test.true ∙ ap (λ x. Some x) (sym c.root-item.is) in
    told_more cycles_in (roots s) c.args.first.now k (rooted s k, m) c.loop-number.first c.note_judged.new.first (omega (arith, size, many, c.loop-number-test.true)) (c.loop-number.invariant known)
    (c.in_ok-note_judged.ensures s k (subst (λ ms. KnowsModules ms c.in_ok-modules.modules) modules c.in_ok-modules.ensures) at known
    ∙ ap (λ b. first_of c.loop-number.first (if b then use_cycles (rooted s k) else [])) (c.flag_at.ensures ∙ c.in_ok-judged.ensures k m at)
    ∙ ap (λ r. first_of c.loop-number.first (cycles_in r)) (sym (root_at s k m (rooted s k, m) at)))

pub returns : goal.returns
returns c = λ known.
    let s = c.args.design.now in
    let size : length c.system-system.result.modules.now ≡ length s.modules = ap (λ (x : System). length x.modules) c.system-system.ensures in
    let many : length (roots s) ≡ length s.modules = root_length s in
    told_end cycles_in (roots s) c.args.first.now c.loop-number.number c.loop-number.first (omega (arith, size, many, c.loop-number-test.false)) (c.loop-number.invariant known)
