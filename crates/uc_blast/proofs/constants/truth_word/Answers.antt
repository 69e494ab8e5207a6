use Rattle.uc_circuit.proofs.Pushing.{if_ok-weaker}
use Rattle.uc_blast.proofs.Plain.{truth-stands}
use Rattle.uc_blast.proofs.constants.truth_word.Goals as goal

pub returns : goal.returns
returns c = if_ok-weaker _ _ _ (λ r e. truth-stands c.args.truth r e) c.from_slice.ensures
