use Rattle.uc_flat_laws.proofs.Sound.{sound_holds, own_types_hold, valid_constants_hold}
use Rattle.uc_judge.proofs.Lined.{runs_judged}
use Rattle.uc_judge.proofs.judging.judge_runs.Goals as goal

pub judge_flat-requires-clause-sound : goal.judge_flat-requires-clause-sound
judge_flat-requires-clause-sound g c = sound_holds c.args.d.now c.flat-f.ensures.code c.flat-f.result.now c.flat-f.ensures.is_flat

pub judge_flat-requires-clause-own : goal.judge_flat-requires-clause-own
judge_flat-requires-clause-own g c = own_types_hold c.args.d.now c.flat-f.ensures.code c.flat-f.result.now c.flat-f.ensures.is_flat

pub judge_flat-requires-clause-valid : goal.judge_flat-requires-clause-valid
judge_flat-requires-clause-valid g c = valid_constants_hold c.args.d.now c.flat-f.ensures.code c.flat-f.result.now c.flat-f.ensures.is_flat

pub returns-clause-judged : goal.returns-clause-judged
returns-clause-judged g c = runs_judged c.args.d.now c.flat-f.result.now c.args.number c.args.moment c.args.budget _ _ c.args.depth _ _ c.flat-f.ensures c.requires.start c.in_ok-judged.ensures.judged c.in_ok-lines.ensures
