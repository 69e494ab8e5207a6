use Rattle.uc_flat_laws.proofs.Sound.{sound_holds, own_types_hold, valid_constants_hold}
use Rattle.uc_judge.proofs.Lined.{links_judged}
use Rattle.uc_judge.proofs.judging.judge_links.Goals as goal

pub judge_linked-requires-clause-sound : goal.judge_linked-requires-clause-sound
judge_linked-requires-clause-sound g c = sound_holds c.args.d.now c.flat-f.ensures.code c.flat-f.result.now c.flat-f.ensures.is_flat

pub judge_linked-requires-clause-own : goal.judge_linked-requires-clause-own
judge_linked-requires-clause-own g c = own_types_hold c.args.d.now c.flat-f.ensures.code c.flat-f.result.now c.flat-f.ensures.is_flat

pub judge_linked-requires-clause-valid : goal.judge_linked-requires-clause-valid
judge_linked-requires-clause-valid g c = valid_constants_hold c.args.d.now c.flat-f.ensures.code c.flat-f.result.now c.flat-f.ensures.is_flat

pub returns-clause-judged : goal.returns-clause-judged
returns-clause-judged g c = links_judged c.args.d.now c.flat-f.result.now c.args.number c.args.budget _ _ c.args.depth _ _ c.flat-f.ensures c.in_ok-judged.ensures.judged c.in_ok-lines.ensures
