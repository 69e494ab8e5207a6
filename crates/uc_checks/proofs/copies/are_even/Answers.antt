use Rattle.std.proofs.Common.{◌≡◌, ◌+◌, List, length, refl, arith}
use Rattle.uc_meaning.specs.Runs.{Position}
use Rattle.uc_checks.specs.Tellings.{Nothing}
use Rattle.uc_checks.proofs.Told.{all_decided, pass_begin, pass_end, pass_more}
use Rattle.uc_checks.proofs.copies.are_even.Goals as goal

pub loop-copy-init : goal.loop-copy-init
loop-copy-init c = pass_begin (λ (run : List Position). Nothing) (λ (run : List Position). length run ≡ c.args.steps + 1) c.args.copies.now

pub loop-copy-preserved : goal.loop-copy-preserved
loop-copy-preserved c =
    pass_more (λ (run : List Position). Nothing) (λ (run : List Position). length run ≡ c.args.steps + 1) c.args.copies.now c.loop-copy.copy-index c.loop-copy.invariant c.copy-item.result c.copy-item.result c.loop-copy-test.true c.copy-item.is refl
    (omega arith)

pub returns : goal.returns
returns c = all_decided (pass_end (λ (run : List Position). Nothing) (λ (run : List Position). length run ≡ c.args.steps + 1) c.args.copies.now c.loop-copy.copy-index c.loop-copy.invariant c.loop-copy-test.false)
