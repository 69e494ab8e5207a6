use Rattle.std.proofs.Common.{◌≡◌, ◌∷◌, rules}
use Rattle.uc_syntax.specs.declared.place.Identifier.{Identifier}
use Rattle.uc_evaluator.proofs.Told.{gives_as}
use Rattle.uc_runs.specs.Runs.{ending_of}
use Rattle.uc_runs.proofs.RunFormsChoices.{declares_all, declares_first, declares_goes, declares_ends}
use Rattle.uc_runs.proofs.choosing.+declare_names.Goals as goal

pub returns-in_default : goal.returns-in_default
returns-in_default t c = declares_all c.args.layout.now c.args.code.now (λ (j : Identifier). (j.name, c.args.ty.now)) c.args.choices.now c.args.names.now c.args.run c.in_default.ensures.cases

pub returns-in-Goes : goal.returns-in-Goes
returns-in-Goes t c =
    let split : c.args.names.now ≡ c.in-Some.first.now ∷ c.in-Some.rest.now = search rules in
    gives_as (ending_of c.args.choices.now) _ _ c.declare_names.result (declares_goes c.args.layout.now c.args.code.now (λ (j : Identifier). (j.name, c.args.ty.now)) c.args.choices.now c.in-Some.rest.now c.in_ok-end.end c.in-Goes.next c.in-Goes.is (declares_first c.args.layout.now c.args.code.now (λ (j : Identifier). (j.name, c.args.ty.now)) c.args.choices.now c.args.names.now c.in-Some.first.now c.in-Some.rest.now split c.args.run c.in_ok-end.end c.in_ok-end.ensures)) c.declare_names.ensures

pub returns-in-Stopped : goal.returns-in-Stopped
returns-in-Stopped t c =
    let split : c.args.names.now ≡ c.in-Some.first.now ∷ c.in-Some.rest.now = search rules in
    declares_ends c.args.layout.now c.args.code.now (λ (j : Identifier). (j.name, c.args.ty.now)) c.args.choices.now c.in-Some.rest.now c.in_ok-end.end _ c.in-Stopped.is (declares_first c.args.layout.now c.args.code.now (λ (j : Identifier). (j.name, c.args.ty.now)) c.args.choices.now c.args.names.now c.in-Some.first.now c.in-Some.rest.now split c.args.run c.in_ok-end.end c.in_ok-end.ensures)

pub returns-in-BadChoice : goal.returns-in-BadChoice
returns-in-BadChoice t c =
    let split : c.args.names.now ≡ c.in-Some.first.now ∷ c.in-Some.rest.now = search rules in
    declares_ends c.args.layout.now c.args.code.now (λ (j : Identifier). (j.name, c.args.ty.now)) c.args.choices.now c.in-Some.rest.now c.in_ok-end.end _ c.in-BadChoice.is (declares_first c.args.layout.now c.args.code.now (λ (j : Identifier). (j.name, c.args.ty.now)) c.args.choices.now c.args.names.now c.in-Some.first.now c.in-Some.rest.now split c.args.run c.in_ok-end.end c.in_ok-end.ensures)
