use Rattle.std.proofs.Common.{arith, sym, map}
use Rattle.std.proofs.lemmas.List.{length-map}
use Rattle.uc_values.specs.Values.{truth_of}
use Rattle.uc_ops.specs.Meaning.{part}
use Rattle.uc_ops.proofs.Parts.{list_any-false}
use Rattle.uc_ops.proofs.truth.any_true.Goals as goal

pub returns : goal.returns
returns c =
    sym (list_any-false truth_of (map (part c.args.given.now) c.args.parts.now)
    (λ k h. c.loop-place.invariant k (omega (arith, h, length-map c.args.parts.now (part c.args.given.now)))))
