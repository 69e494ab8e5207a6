use Rattle.std.proofs.Common.{◌≡◌, Some, ap, length, sym, subst, ◌∙◌, arith}
use Rattle.std.specs.Prelude.{◌&&◌, slice_get}
use Rattle.std.proofs.lemmas.Option.{slice_get-get_or}
use Rattle.uc_meaning.specs.Lookup.{System}
use Rattle.uc_order_rules.specs.Roots.{rooted}
use Rattle.uc_order_rules.specs.Uses.{has_long_chain}
use Rattle.uc_order_rules.specs.Order.{has_long_uses, roots}
use Rattle.uc_uses.specs.Modules.{KnowsModules}
use Rattle.uc_uses.proofs.Told.{any_hit, any_more, any_none, root_at, root_length}
use Rattle.uc_uses.proofs.chains.has_long_uses.Goals as goal

pub returns-then-branch : goal.returns-then-branch
returns-then-branch c = λ known.
    let s = c.args.design.now in
    let k = c.loop-number.number in
    let m = c.root-item.result in
    let modules : c.system-system.result.modules.now ≡ s.modules = ap (λ (x : System). x.modules) c.system-system.ensures in
    let size : length c.system-system.result.modules.now ≡ length s.modules = ap length modules in
    let many : length (roots s) ≡ length s.modules = root_length s in
    let at : slice_get s.modules k ≡ Some m = ap (λ ms. slice_get ms k) (sym modules) ∙ slice_get-get_or c.system-system.result.modules.now k m c.loop-number-test.true ∙ ap (λ x. Some x) (sym c.root-item.is) in
    any_hit has_long_uses (roots s) k (rooted s k, m) (omega (arith, size, many, c.loop-number-test.true))
    (ap has_long_uses (root_at s k m (rooted s k, m) at)
    ∙ sym (c.in_ok-is_long_root.ensures s k (subst (λ ms. KnowsModules ms c.in_ok-modules.modules) modules c.in_ok-modules.ensures) at known ∙ ap (λ b. b && has_long_chain (rooted s k)) (c.flag_at.ensures ∙ c.in_ok-judged.ensures k m at))
    ∙ c.if-branch.true)

pub loop-number-preserved : goal.loop-number-preserved
loop-number-preserved c = λ known.
    let s = c.args.design.now in
    let k = c.loop-number.number in
    let m = c.root-item.result in
    let modules : c.system-system.result.modules.now ≡ s.modules = ap (λ (x : System). x.modules) c.system-system.ensures in
    let size : length c.system-system.result.modules.now ≡ length s.modules = ap length modules in
    let many : length (roots s) ≡ length s.modules = root_length s in
    let at : slice_get s.modules k ≡ Some m = ap (λ ms. slice_get ms k) (sym modules) ∙ slice_get-get_or c.system-system.result.modules.now k m c.loop-number-test.true ∙ ap (λ x. Some x) (sym c.root-item.is) in
    any_more has_long_uses (roots s) k (rooted s k, m) (omega (arith, size, many, c.loop-number-test.true)) (c.loop-number.invariant known)
    (ap has_long_uses (root_at s k m (rooted s k, m) at)
    ∙ sym (c.in_ok-is_long_root.ensures s k (subst (λ ms. KnowsModules ms c.in_ok-modules.modules) modules c.in_ok-modules.ensures) at known ∙ ap (λ b. b && has_long_chain (rooted s k)) (c.flag_at.ensures ∙ c.in_ok-judged.ensures k m at))
    ∙ c.if-branch.false)

pub returns : goal.returns
returns c = λ known.
    let s = c.args.design.now in
    let size : length c.system-system.result.modules.now ≡ length s.modules = ap (λ (x : System). length x.modules) c.system-system.ensures in
    let many : length (roots s) ≡ length s.modules = root_length s in
    any_none has_long_uses (roots s) c.loop-number.number (omega (arith, size, many, c.loop-number-test.false)) (c.loop-number.invariant known)
