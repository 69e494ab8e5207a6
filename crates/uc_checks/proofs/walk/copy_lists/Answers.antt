use Rattle.std.proofs.Common.{◌≡◌, ◌∷◌, subst, rules}
use Rattle.std.specs.Prelude.{Bool, Option}
use Rattle.std.specs.Option.{option_copied}
use Rattle.uc_meaning.specs.Cells.{IsState}
use Rattle.uc_checks.specs.Walks.{Begins}
use Rattle.uc_checks.specs.Answers.{IsAnswer}
use Rattle.uc_checks.proofs.Walking.{no_positions, no_positions_told, copy_no, copy_no_told, copy_told, copy_on, copy_on_told}
use Rattle.uc_checks.proofs.walk.copy_lists.Goals as goal

pub returns-in_default-clause-value : goal.returns-in_default-clause-value
returns-in_default-clause-value c = no_positions c.args.walk.now.beginning c.args.walk.now.layout.now c.args.walk.now.interp.now (option_copied c.args.walk.now.site) c.args.copy.now c.in_default.ensures.cases

pub returns-in_default-clause-wide : goal.returns-in_default-clause-wide
returns-in_default-clause-wide c = no_positions_told c.args.walk.now.beginning c.args.walk.now.layout.now c.args.walk.now.interp.now c.args.copy.now c.in_default.ensures.cases

pub returns-in_err-listed-clause-wide : goal.returns-in_err-listed-clause-wide
returns-in_err-listed-clause-wide c =
    let split : c.args.copy.now ≡ c.in-Some.first.now ∷ c.in-Some.rest.now = search rules in
    let told = copy_told c.args.walk.now.beginning c.args.walk.now.layout.now c.args.walk.now.interp.now (option_copied c.args.walk.now.site) c.args.copy.now c.in-Some.first.now c.in-Some.rest.now split (Option Bool) (Option Bool) c.in_err-listed.field-0.0 c.in_err-listed.ensures.wide in
    search (rules, told)

pub returns-in-Some-listed-clause-value : goal.returns-in-Some-listed-clause-value
returns-in-Some-listed-clause-value c =
    let split : c.args.copy.now ≡ c.in-Some.first.now ∷ c.in-Some.rest.now = search rules in
    let begun = subst (IsAnswer (λ sites. IsState c.args.walk.now.layout.now c.in-Some.first.now.0 × Begins c.args.walk.now.beginning c.args.walk.now.layout.now c.args.walk.now.interp.now c.in-Some.first.now sites) (option_copied c.args.walk.now.site)) c.in-Some-listed.is c.in_ok-listed.ensures.value in
    copy_on c.args.walk.now.beginning c.args.walk.now.layout.now c.args.walk.now.interp.now (option_copied c.args.walk.now.site) c.args.copy.now c.in-Some.first.now c.in-Some.rest.now split c.in-Some-listed.listed begun c.steps_list.result c.steps_list.ensures.value

pub returns-in-Some-listed-clause-wide : goal.returns-in-Some-listed-clause-wide
returns-in-Some-listed-clause-wide c =
    let split : c.args.copy.now ≡ c.in-Some.first.now ∷ c.in-Some.rest.now = search rules in
    let begun = subst (IsAnswer (λ sites. IsState c.args.walk.now.layout.now c.in-Some.first.now.0 × Begins c.args.walk.now.beginning c.args.walk.now.layout.now c.args.walk.now.interp.now c.in-Some.first.now sites) (option_copied c.args.walk.now.site)) c.in-Some-listed.is c.in_ok-listed.ensures.value in
    copy_on_told c.args.walk.now.beginning c.args.walk.now.layout.now c.args.walk.now.interp.now (option_copied c.args.walk.now.site) c.args.copy.now c.in-Some.first.now c.in-Some.rest.now split c.in-Some-listed.listed begun c.steps_list.result c.in_ok-listed.ensures.wide c.steps_list.ensures.wide

pub returns-in-None-clause-value : goal.returns-in-None-clause-value
returns-in-None-clause-value c =
    let split : c.args.copy.now ≡ c.in-Some.first.now ∷ c.in-Some.rest.now = search rules in
    copy_no c.args.walk.now.beginning c.args.walk.now.layout.now c.args.walk.now.interp.now (option_copied c.args.walk.now.site) c.args.copy.now c.in-Some.first.now c.in-Some.rest.now split
    (subst (IsAnswer (λ sites. IsState c.args.walk.now.layout.now c.in-Some.first.now.0 × Begins c.args.walk.now.beginning c.args.walk.now.layout.now c.args.walk.now.interp.now c.in-Some.first.now sites) (option_copied c.args.walk.now.site)) c.in-None.is c.in_ok-listed.ensures.value)

pub returns-in-None-clause-wide : goal.returns-in-None-clause-wide
returns-in-None-clause-wide c =
    let split : c.args.copy.now ≡ c.in-Some.first.now ∷ c.in-Some.rest.now = search rules in
    copy_no_told c.args.walk.now.beginning c.args.walk.now.layout.now c.args.walk.now.interp.now (option_copied c.args.walk.now.site) c.args.copy.now c.in-Some.first.now c.in-Some.rest.now split c.in_ok-listed.ensures.wide
    (subst (IsAnswer (λ sites. IsState c.args.walk.now.layout.now c.in-Some.first.now.0 × Begins c.args.walk.now.beginning c.args.walk.now.layout.now c.args.walk.now.interp.now c.in-Some.first.now sites) (option_copied c.args.walk.now.site)) c.in-None.is c.in_ok-listed.ensures.value)
