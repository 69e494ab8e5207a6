use Rattle.std.proofs.Common.{◌≡◌, ◌∷◌, ◌∙◌, rules}
use Rattle.uc_meaning.specs.Runs.{ensures_in}
use Rattle.uc_executions.proofs.Numbered.{no_clause, at_first, at_later, at_others}
use Rattle.uc_executions.proofs.ensured.+ensures_at.Goals as goal

pub returns-in_default : goal.returns-in_default
returns-in_default t c = no_clause ensures_in c.args.clauses.now c.args.place c.in_default.ensures.cases

pub returns-then-place-eq0 : goal.returns-then-place-eq0
returns-then-place-eq0 t c =
    let split : c.args.clauses.now ≡ c.in-Some.first.now ∷ c.in-Some.rest.now = search rules in
    at_first ensures_in c.args.clauses.now c.in-Some.first.now c.in-Some.rest.now c.in-Some-ensures_in.formula.now c.args.place split c.in-Some-ensures_in.ensures c.if-place-eq0.true

pub returns-else-place-eq0 : goal.returns-else-place-eq0
returns-else-place-eq0 t c =
    let split : c.args.clauses.now ≡ c.in-Some.first.now ∷ c.in-Some.rest.now = search rules in
    c.ensures_at.ensures ∙ at_later ensures_in c.args.clauses.now c.in-Some.first.now c.in-Some.rest.now c.in-Some-ensures_in.formula.now c.args.place split c.in-Some-ensures_in.ensures c.if-place-eq0.false

pub returns-in-None : goal.returns-in-None
returns-in-None t c =
    let split : c.args.clauses.now ≡ c.in-Some.first.now ∷ c.in-Some.rest.now = search rules in
    c.ensures_at-in-None.ensures ∙ at_others ensures_in c.args.clauses.now c.in-Some.first.now c.in-Some.rest.now c.args.place split c.in-None.ensures
