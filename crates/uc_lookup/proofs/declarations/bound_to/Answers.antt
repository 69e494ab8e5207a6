use Rattle.std.proofs.Common.{ap, ◌∙◌, sym}
use Rattle.std.specs.Option.{option_copied}
use Rattle.uc_meaning.specs.Lookup.{first_some, some_if, is_named}
use Rattle.uc_lookup.proofs.Found.{first_found, first_more, first_end}
use Rattle.uc_lookup.proofs.declarations.bound_to.Goals as goal

pub returns-in-Some : goal.returns-in-Some
returns-in-Some c =
    first_found (λ b. some_if (is_named c.args.name b.identifier) b.expression) c.args.bindings.now c.loop-binding.binding-index c.binding-item.result c.binding-item.result (c.in-Some.found.now) (first_some (λ b. some_if (is_named c.args.name b.identifier) b.expression) c.args.bindings.now)
    c.loop-binding-test.true c.binding-item.is (sym c.bound_in.ensures ∙ ap option_copied c.in-Some.is) c.loop-binding.invariant

pub loop-binding-preserved : goal.loop-binding-preserved
loop-binding-preserved c =
    first_more (λ b. some_if (is_named c.args.name b.identifier) b.expression) c.args.bindings.now c.loop-binding.binding-index c.binding-item.result c.binding-item.result (first_some (λ b. some_if (is_named c.args.name b.identifier) b.expression) c.args.bindings.now)
    c.loop-binding-test.true c.binding-item.is (sym c.bound_in.ensures ∙ ap option_copied c.in_default.is) c.loop-binding.invariant

pub returns : goal.returns
returns c = first_end (λ b. some_if (is_named c.args.name b.identifier) b.expression) c.args.bindings.now c.loop-binding.binding-index (first_some (λ b. some_if (is_named c.args.name b.identifier) b.expression) c.args.bindings.now) c.loop-binding-test.false c.loop-binding.invariant
