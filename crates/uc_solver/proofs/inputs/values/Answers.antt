use Rattle.std.proofs.Common.{◌≡◌, ◌<◌, ◌+◌, sym, ap, ◌∙◌, subst, arith, length}
use Rattle.std.proofs.lemmas.List.{length_push}
use Rattle.uc_terms.proofs.Grown.{type-node}
use Rattle.uc_solver.specs.Inputs.{bits_value, word_at}
use Rattle.uc_solver.proofs.Setting.{values_next}
use Rattle.uc_solver.proofs.inputs.values.Goals as goal

pub loop-place-preserved : goal.loop-place-preserved
loop-place-preserved c = record {
  long = ap length c.in_ok-push.ensures.items ∙ length_push c.loop-place.values.items c.bits_value.result ∙ ap (λ n. n + 1) c.loop-place.invariant.long;
  same = values_next c.args.terms.now c.args.words.now c.loop-place.place c.loop-place.values.items c.push.new.self.items c.bits_value.result c.loop-place.invariant.long c.in_ok-push.ensures.items
      (c.bits_value.ensures ∙ ap (λ ty. bits_value ty (word_at c.args.words.now c.loop-place.place)) (sym (type-node c.args.terms.now c.loop-place.place c.node.result.now c.node.ensures.node))) c.loop-place.invariant.same;
}
