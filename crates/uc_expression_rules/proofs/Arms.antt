-- What is found of an arm of a conditional, after what follows it.
use Rattle.std.proofs.Common.{◌≡◌, ◌++◌, Option, ap, ◌∙◌, sym, subst, append_assoc}
use Rattle.uc_values.specs.declared.ty.Ty.{Ty}
use Rattle.uc_rules.specs.declared.fault.Fault.{Fault}
use Rattle.uc_rules.specs.Faults.{first_of}
use Rattle.uc_rules.specs.Outcomes.{faults_in, type_in}
use Rattle.uc_rules.specs.Rows.{condition, same_outcome}
use Rattle.uc_rules.specs.Expressions.{Own, kept_where}
use Rattle.uc_rules.proofs.Chains.{first_of_append}
use Rattle.uc_rules.proofs.Swaps.{any_order}
use Rattle.uc_expression_rules.specs.declared.branches.JudgedBranch.{JudgedBranch}
use Rattle.uc_expression_rules.specs.Judging.{FindsOutcome, FindsOwn, own_of_branch}

pub arm_found : (b : JudgedBranch) (own : Own) (old at mid new : Option Fault) (rest kept t v : Option Ty) →
    FindsOwn old at rest own → FindsOutcome at mid kept b.begin (condition b.condition) → FindsOutcome mid new t b.place (same_outcome b.value rest) → kept_where kept t ≡ v →
    FindsOwn old new v (own_of_branch b own)
arm_found b own old at mid new rest kept t v before first second is =
    let asked = faults_in b.begin (condition b.condition) in
    let joined = faults_in b.place (same_outcome b.value own.type) in
    let last = subst (λ r. FindsOutcome mid new t b.place (same_outcome b.value r)) before.type second in record {
      type = sym is ∙ ap (λ k. kept_where k t) first.type ∙ ap (kept_where (type_in (condition b.condition))) last.type;
      found =
          last.found
          ∙ ap (λ o. first_of o joined) (first.found ∙ ap (λ o. first_of o asked) before.found)
          ∙ sym (first_of_append (first_of old own.faults) asked joined)
          ∙ any_order old own.faults (asked ++ joined)
          ∙ sym (first_of_append old (asked ++ joined) own.faults)
          ∙ ap (first_of old) (append_assoc asked joined own.faults);
    }
