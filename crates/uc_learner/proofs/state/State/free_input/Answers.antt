use Rattle.std.proofs.Common.{arith, sym, ◌∙◌, length, ◌≡◌, ◌<◌, true, false, get_or}
use Rattle.std.proofs.lemmas.Grind.{common_steps}
use Rattle.uc_learner.proofs.Learning.{length-values}
use Rattle.uc_learner.proofs.Progress.{chosen_more, not_both}
use Rattle.uc_learner.proofs.state.State.free_input.Goals as goal
use Rattle.uc_learner.proofs.state.State.free_input.Goals.{else-index-via-then-index+else-is_none, else-index-via-else-index}

pub index-requires-then-index : goal.index-requires-then-index
index-requires-then-index c = let e : length c.args.self.now.values.items ≡ length c.args.self.now.inputs.items = length-values c.args.self.now c.requires in grind (arith, common_steps)

pub loop-input-preserved : goal.loop-input-preserved
loop-input-preserved c =
    let e : length c.args.self.now.values.items ≡ length c.args.self.now.inputs.items = length-values c.args.self.now c.requires in
    let inside : c.loop-input.input < length c.args.self.now.inputs.items = grind (arith, common_steps) in
    chosen_more c.args.self.now c.loop-input.input c.loop-input.invariant
    (λ is unset. elim c.else-index.branch [
      | else-index-via-then-index+else-is_none w ↦ not_both c.args.self.now.values.items c.loop-input.input w.index-then-index.result.now w.is_none.result w.index-then-index.ensures w.is_none.ensures w.if-is_none.false (omega (arith, e, inside)) unset
      | else-index-via-else-index w ↦ (let f : get_or c.args.self.now.inputs.items c.loop-input.input false ≡ false = (let r : c.index.result.now ≡ false = w.if-index.false in cc) in let g : true ≡ false = sym is ∙ f in cc)
    ])
