use Rattle.std.proofs.Common.{◌++◌, map, ap, ◌∙◌}
use Rattle.std.specs.List.{list_any}
use Rattle.uc_module_writes.proofs.Growing.{grown_end, grown_begin, grown_more}
use Rattle.uc_module_writes.proofs.sets.PairSet.add_cross.Goals as goal

pub loop-part-init : goal.loop-part-init
loop-part-init c = grown_begin (λ p. map (λ q. (p, q)) c.args.later.now) c.args.earlier.now c.args.self.now

pub loop-part-preserved : goal.loop-part-preserved
loop-part-preserved c =
    grown_more (λ p. map (λ q. (p, q)) c.args.later.now) c.args.earlier.now c.args.self.now _ _ _ c.part-item.result _ c.loop-part.invariant c.loop-part-test.true c.part-item.is
    (λ test. c.in_ok-add_row.ensures test ∙ ap (λ p. list_any test (c.loop-part.self ++ map (λ q. (p, q)) c.args.later.now)) c.as_slice.ensures)

pub returns : goal.returns
returns c = grown_end (λ p. map (λ q. (p, q)) c.args.later.now) c.args.earlier.now c.args.self.now _ _ c.loop-part.invariant c.loop-part-test.false
