use Rattle.std.proofs.Common.{◌≡◌, ◌≤◌, length, Bool, true, false, ap, ◌∙◌, sym, rules, arith}
use Rattle.std.specs.Prelude.{is_some}
use Rattle.std.specs.Option.{option_and_then}
use Rattle.uc_meaning.specs.Lookup.{module_at, instance_of}
use Rattle.uc_lookup.specs.Parts.{system_in}
use Rattle.uc_readings.specs.Scopes.{scope_in}
use Rattle.uc_readings.proofs.Arriving.{moves, stops_at_field, stops_at_copy, stops_at_other, stops_at_end}
use Rattle.uc_readings.proofs.way.reached.Goals as goal

pub returns-then-not-is_instance-clause-is : goal.returns-then-not-is_instance-clause-is
returns-then-not-is_instance-clause-is c =
    let here : c.is_instance.result ≡ false = search rules in
    stops_at_field (system_in c.args.system.now) (scope_in c.args.scope.now) c.loop-used.path c.loop-used.is_inside c.loop-used.here c.args.is_primed c.args.selections.now c.loop-used.used _ c.loop-used.invariant
    c.index-selections-used.result c.in-Field.field-0 c.in-Field.inner c.loop-used-test.true c.index-selections-used.is c.in-Field.is
    (ap (λ p. is_some (option_and_then (λ m. instance_of m c.loop-used.here) (module_at (system_in c.args.system.now) p))) (sym c.as_slice.ensures) ∙ (sym c.is_instance.ensures ∙ here))

pub returns-in-Copy-clause-is : goal.returns-in-Copy-clause-is
returns-in-Copy-clause-is c =
    stops_at_copy (system_in c.args.system.now) (scope_in c.args.scope.now) c.loop-used.path c.loop-used.is_inside c.loop-used.here c.args.is_primed c.args.selections.now c.loop-used.used _ c.loop-used.invariant
    c.index-selections-used.result c.in-Copy.field-0 c.in-Copy.number c.loop-used-test.true c.index-selections-used.is c.in-Copy.is

pub returns-in_default : goal.returns-in_default
returns-in_default c = record {
  within = omega (arith, c.loop-used-test.true);
  is = stops_at_other (system_in c.args.system.now) (scope_in c.args.scope.now) c.loop-used.path c.loop-used.is_inside c.loop-used.here c.args.is_primed c.args.selections.now c.loop-used.used _ c.loop-used.invariant
      c.index-selections-used.result c.loop-used-test.true c.index-selections-used.is c.in_default.not-Field c.in_default.not-Copy;
}

pub loop-used-preserved : goal.loop-used-preserved
loop-used-preserved c =
    let here : c.is_instance.result ≡ true = search rules in
    moves (system_in c.args.system.now) (scope_in c.args.scope.now) c.loop-used.path c.loop-used.is_inside c.loop-used.here c.args.is_primed c.args.selections.now c.loop-used.used _ c.loop-used.invariant
    c.index-selections-used.result c.in-Field.field-0 c.in-Field.inner c.push.new.self c.loop-used-test.true c.index-selections-used.is c.in-Field.is
    (ap (λ p. is_some (option_and_then (λ m. instance_of m c.loop-used.here) (module_at (system_in c.args.system.now) p))) (sym c.as_slice.ensures) ∙ (sym c.is_instance.ensures ∙ here))
    c.in_ok-push-in-Field.ensures.ok

pub returns-clause-is : goal.returns-clause-is
returns-clause-is c =
    stops_at_end (system_in c.args.system.now) (scope_in c.args.scope.now) c.loop-used.path c.loop-used.is_inside c.loop-used.here c.args.is_primed c.args.selections.now c.loop-used.used _ c.loop-used.invariant
    c.loop-used-test.false
