use Rattle.uc_flat_lines_rows.proofs.Sound.{sound_as}
use Rattle.uc_flat_lines_rows.proofs.OwnTypes.{own_as, valid_as}
use Rattle.uc_flat_lines_rows.proofs.judging.judged.Goals as goal

pub judge_flat-requires-clause-sound : goal.judge_flat-requires-clause-sound
judge_flat-requires-clause-sound c = sound_as _ c.in_ok-design.ensures

pub judge_flat-requires-clause-own : goal.judge_flat-requires-clause-own
judge_flat-requires-clause-own c = own_as _ c.in_ok-design.ensures

pub judge_flat-requires-clause-valid : goal.judge_flat-requires-clause-valid
judge_flat-requires-clause-valid c = valid_as _ c.in_ok-design.ensures
