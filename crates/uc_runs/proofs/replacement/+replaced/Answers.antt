use Rattle.std.proofs.Common.{◌≡◌, ◌∙◌, ◌∷◌, ap, sym, rules}
use Rattle.uc_values.specs.declared.value.Value.{Value}
use Rattle.uc_values.specs.Values.{with_field}
use Rattle.uc_values.specs.Arrays.{store}
use Rattle.uc_meaning.specs.Expressions.{fields_of, field_number}
use Rattle.uc_meaning.specs.Overflow.{met}
use Rattle.uc_meaning.specs.Code.{replaced}
use Rattle.uc_operators.specs.Overflows.{first_wide}
use Rattle.uc_readings.specs.Scopes.{scope_in}
use Rattle.uc_readings.specs.declared.said.Said.{Said}
use Rattle.uc_readings.specs.Readings.{reading_of}
use Rattle.std.specs.Prelude.{Err}
use Rattle.uc_evaluator.proofs.Told.{told_first, told_as, told_second, none_both}
use Rattle.uc_runs.specs.Targets.{parts_met}
use Rattle.uc_runs.proofs.Replacing.{none_left, no_parts, no_parts_met, field_replaced, field_met, element_replaced, element_met}
use Rattle.uc_runs.proofs.Held.{given, none_wide, told_held}
use Rattle.uc_runs.proofs.replacement.+replaced.Goals as goal

pub returns-in_default : goal.returns-in_default
returns-in_default t c =
    let none = none_left c.args.parts.now c.in_default.ensures.cases in
    record {
      value = no_parts c.args.layout.now (scope_in c.args.scope.now) c.args.parts.now (reading_of c.args.whole) c.args.new none;
      wide = ap first_wide (sym (no_parts_met c.args.layout.now (scope_in c.args.scope.now) c.args.parts.now none));
    }

-- behind a field
pub returns-in_err-outer-in-Field-clause-wide : goal.returns-in_err-outer-in-Field-clause-wide
returns-in_err-outer-in-Field-clause-wide t c =
    let split : c.args.parts.now ≡ c.in-Some.first.now ∷ c.in-Some.rest.now = search rules in
    let told = told_as Value Value _ _ _
    (field_met c.args.layout.now (scope_in c.args.scope.now) c.args.parts.now c.in-Some.first.now c.in-Some.rest.now split c.in-Field.field-0 c.in-Field.name c.in-Field.is)
    (told_held Value Value _ _ _ c.in_err-outer-in-Field.ensures c.replaced-part.ensures.wide) in
    search (rules, told)

pub returns-in_ok-outer-in-Field-clause-value : goal.returns-in_ok-outer-in-Field-clause-value
returns-in_ok-outer-in-Field-clause-value t c =
    let split : c.args.parts.now ≡ c.in-Some.first.now ∷ c.in-Some.rest.now = search rules in
    let first = c.in_ok-whole-in-Field.ensures in
    let second = c.in_ok-outer-in-Field.ensures in
    let whole = second.0 ∙ ap (λ p. p.0) first.0 in
    c.changed.ensures
    ∙ ap (λ (w : Said). with_field w.value (field_number (fields_of w.ty) c.in-Field.name.name) c.in_ok-outer-in-Field.part) whole
    ∙ field_replaced c.args.layout.now (scope_in c.args.scope.now) c.args.parts.now c.in-Some.first.now c.in-Some.rest.now split c.in-Field.field-0 c.in-Field.name c.in-Field.is (reading_of c.args.whole) _ _ c.args.new
    (given _ _ _ first.1 c.field-inner.ensures) (given _ _ _ second.1 c.replaced-part.ensures.value ∙ ap (replaced c.args.layout.now (scope_in c.args.scope.now) _ c.in-Some.rest.now) (ap (λ p. p.1) first.0))

pub returns-in_ok-outer-in-Field-clause-wide : goal.returns-in_ok-outer-in-Field-clause-wide
returns-in_ok-outer-in-Field-clause-wide t c =
    let split : c.args.parts.now ≡ c.in-Some.first.now ∷ c.in-Some.rest.now = search rules in
    ap first_wide (sym (field_met c.args.layout.now (scope_in c.args.scope.now) c.args.parts.now c.in-Some.first.now c.in-Some.rest.now split c.in-Field.field-0 c.in-Field.name c.in-Field.is))
    ∙ none_wide _ _ _ c.in_ok-outer-in-Field.ensures.1 c.replaced-part.ensures.wide

-- behind an index
pub returns-in_err-whole-in-Element-clause-wide : goal.returns-in_err-whole-in-Element-clause-wide
returns-in_err-whole-in-Element-clause-wide t c =
    let split : c.args.parts.now ≡ c.in-Some.first.now ∷ c.in-Some.rest.now = search rules in
    let told = told_as Value Value _ _ _
    (element_met c.args.layout.now (scope_in c.args.scope.now) c.args.parts.now c.in-Some.first.now c.in-Some.rest.now split c.in-Element.field-0 c.in-Element.index c.in-Element.is)
    (told_first (Value × Said) Value (met c.args.layout.now (scope_in c.args.scope.now) c.in-Element.index) (parts_met c.args.layout.now (scope_in c.args.scope.now) c.in-Some.rest.now) _ (told_held (Value × Said) (Value × Said) _ _ _ c.in_err-whole-in-Element.ensures c.found_element-found.ensures.wide)) in
    search (rules, told)

pub returns-in_err-outer-in-Element-clause-wide : goal.returns-in_err-outer-in-Element-clause-wide
returns-in_err-outer-in-Element-clause-wide t c =
    let split : c.args.parts.now ≡ c.in-Some.first.now ∷ c.in-Some.rest.now = search rules in
    let told = told_as Value Value _ _ _
    (element_met c.args.layout.now (scope_in c.args.scope.now) c.args.parts.now c.in-Some.first.now c.in-Some.rest.now split c.in-Element.field-0 c.in-Element.index c.in-Element.is)
    (told_second {A = Value} (met c.args.layout.now (scope_in c.args.scope.now) c.in-Element.index) (parts_met c.args.layout.now (scope_in c.args.scope.now) c.in-Some.rest.now) (Err _) (none_wide _ _ _ c.in_ok-whole-in-Element.ensures.1 c.found_element-found.ensures.wide)
    (told_held Value Value _ _ _ c.in_err-outer-in-Element.ensures c.replaced-part-in-Element.ensures.wide)) in
    search (rules, told)

pub returns-in_ok-value-in-Element-clause-value : goal.returns-in_ok-value-in-Element-clause-value
returns-in_ok-value-in-Element-clause-value t c =
    let split : c.args.parts.now ≡ c.in-Some.first.now ∷ c.in-Some.rest.now = search rules in
    let first = c.in_ok-whole-in-Element.ensures in
    let second = c.in_ok-outer-in-Element.ensures in
    let whole = ap (λ p. p.0) second.0 ∙ ap (λ p. p.0) first.0 in
    let index = ap (λ p. p.1) second.0 in
    c.in_ok-value-in-Element.ensures
    ∙ (λ i. store (whole i).value (index i) c.in_ok-outer-in-Element.part)
    ∙ element_replaced c.args.layout.now (scope_in c.args.scope.now) c.args.parts.now c.in-Some.first.now c.in-Some.rest.now split c.in-Element.field-0 c.in-Element.index c.in-Element.is (reading_of c.args.whole) _ _ _ c.args.new
    (given _ _ _ first.1 c.found_element-found.ensures.index) (given _ _ _ first.1 c.found_element-found.ensures.element)
    (given _ _ _ second.1 c.replaced-part-in-Element.ensures.value ∙ ap (replaced c.args.layout.now (scope_in c.args.scope.now) _ c.in-Some.rest.now) (ap (λ p. p.1) first.0))

pub returns-in_ok-value-in-Element-clause-wide : goal.returns-in_ok-value-in-Element-clause-wide
returns-in_ok-value-in-Element-clause-wide t c =
    let split : c.args.parts.now ≡ c.in-Some.first.now ∷ c.in-Some.rest.now = search rules in
    ap first_wide (sym (element_met c.args.layout.now (scope_in c.args.scope.now) c.args.parts.now c.in-Some.first.now c.in-Some.rest.now split c.in-Element.field-0 c.in-Element.index c.in-Element.is))
    ∙ none_both (met c.args.layout.now (scope_in c.args.scope.now) c.in-Element.index) (parts_met c.args.layout.now (scope_in c.args.scope.now) c.in-Some.rest.now) (none_wide _ _ _ c.in_ok-whole-in-Element.ensures.1 c.found_element-found.ensures.wide)
    (none_wide _ _ _ c.in_ok-outer-in-Element.ensures.1 c.replaced-part-in-Element.ensures.wide)
