use Rattle.std.proofs.Common.{arith, ◌≡◌, get_or, []}
use Rattle.std.proofs.lemmas.Grind.{common_steps}
use Rattle.uc_learner.proofs.Walking.{clause_read}
use Rattle.uc_learner.proofs.Learning.{walked_start_by, walked_end_by}
use Rattle.uc_learner.proofs.state.State.analyze.Goals as goal

pub loop-at-init : goal.loop-at-init
loop-at-init c =
    let same : c.as_slice.result.now ≡ get_or c.args.self.now.clauses.items c.args.conflict [] =
    clause_read c.args.self.now c.args.conflict _ _ c.requires.inside c.index.ensures c.as_slice.ensures in
    record {
      inside = grind (arith, common_steps);
      walked =
          walked_start_by _ _ _ _ c.in_ok-hints.hints.items _ _ _ c.requires.sound c.requires.inside c.requires.conflict (grind (arith, common_steps)) (grind (arith, common_steps)) same c.mark.ensures.all
          c.new.ensures.items c.in_ok-hints.ensures.items;
    }

pub returns : goal.returns
returns c = walked_end_by _ _ _ c.loop-at.analysis.hints.items _ _ _ c.requires.sound (omega arith) c.reverse.ensures.items c.loop-at.invariant.walked
