use Rattle.std.proofs.Common.{refl}
use Rattle.uc_written_once.specs.Walks.{one_name}
use Rattle.uc_written_once.proofs.WrittenOnceTurns.{each_begin, each_end, each_more}
use Rattle.uc_written_once.proofs.noting.note_names.Goals as goal

pub loop-identifier-init : goal.loop-identifier-init
loop-identifier-init c = each_begin (λ i. one_name c.args.place i.name) _ _ _ _

pub loop-identifier-preserved : goal.loop-identifier-preserved
loop-identifier-preserved c =
    each_more (λ i. one_name c.args.place i.name) _ _ _ _ _ _ _ _ _ _ (record { place = record { file = 0; line = 0; col = 0 }; name = 0 }) c.loop-identifier.invariant c.loop-identifier-test.true refl c.in_ok-note_name.ensures

pub returns : goal.returns
returns c = each_end (λ i. one_name c.args.place i.name) _ _ _ _ _ _ _ c.loop-identifier.invariant c.loop-identifier-test.false
