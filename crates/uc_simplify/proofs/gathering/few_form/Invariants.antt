use Rattle.std.proofs.Common.{take}
use Rattle.uc_simplify.specs.Forms.{IsForm, numbers_at}
use Rattle.uc_simplify.proofs.gathering.few_form.Given as goal

abbrev pub invariant-loop-part : goal.invariant-loop-part
invariant-loop-part l = IsForm l.terms l.parts l.form (λ m. numbers_at m l.terms (take l.part-index l.parts))
