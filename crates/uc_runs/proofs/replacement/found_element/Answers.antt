use Rattle.std.proofs.Common.{◌∙◌, ap, sym}
use Rattle.uc_values.specs.Arrays.{at}
use Rattle.uc_meaning.specs.Expressions.{element_type, reads}
use Rattle.uc_runs.proofs.Held.{given}
use Rattle.uc_runs.proofs.replacement.found_element.Goals as goal

pub returns-clause-index : goal.returns-clause-index
returns-clause-index c = c.in_ok-index.ensures.0 ∙ ap (λ r. r.value) c.in_ok-value.ensures.value

pub returns-clause-element : goal.returns-clause-element
returns-clause-element c =
    given _ _ _ c.in_ok-index.ensures.1 c.element-inner.ensures ∙ ap (λ i. reads (element_type c.args.whole.now.ty) (at c.args.whole.now.value i)) (sym c.in_ok-index.ensures.0)
