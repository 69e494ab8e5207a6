use Rattle.std.proofs.Common.{◌≡◌, suc, ◌-◌, true, false, None, sym, ◌∙◌, arith}
use Rattle.std.specs.Option.{is_some}
use Rattle.uc_lookup.specs.Parts.{instance_parts, system_in}
use Rattle.uc_sizes.proofs.Finding.{inside_lost, inside_none, none_end, none_found, none_more, place_away, place_here, place_none}
use Rattle.uc_sizes.proofs.axioms.+find_from.Goals as goal

pub find_from-returns-then-depth-eq0 : goal.find_from-returns-then-depth-eq0
find_from-returns-then-depth-eq0 t c here at = place_none c.args.name c.args.depth (system_in c.args.system.now) here c.if-depth-eq0.true

pub find_from-returns-then-code-name : goal.find_from-returns-then-code-name
find_from-returns-then-code-name t c here at =
    let some : c.args.depth ≡ suc (c.args.depth - 1) = omega (arith, c.if-depth-eq0.false) in
    place_here c.args.name c.args.depth (c.args.depth - 1) (system_in c.args.system.now) c.args.path.now c.args.code.now here c.in_ok-path.path some at c.if-code-name.true c.in_ok-path.ensures

pub find_from-returns-then-is_some : goal.find_from-returns-then-is_some
find_from-returns-then-is_some t c here at =
    let some : c.args.depth ≡ suc (c.args.depth - 1) = omega (arith, c.if-depth-eq0.false) in
    let hit : is_some c.in_ok-found.found ≡ true = sym c.is_some.ensures ∙ c.if-is_some.true in
    place_away c.args.name c.args.depth (c.args.depth - 1) (system_in c.args.system.now) c.args.path.now c.args.code.now here c.as_slice-declaration-items.result.now c.in_ok-found.found some at c.if-code-name.false c.as_slice-declaration-items.ensures
    (none_found c.args.name (c.args.depth - 1) (system_in c.args.system.now) here c.as_slice-declaration-items.result.now _ c.declaration-item.result _ c.in_ok-found.found (c.loop-declaration.invariant here at) c.loop-declaration-test.true c.declaration-item.is (c.in_ok-found.ensures here at.path) hit)

pub find_from-loop-declaration-preserved : goal.find_from-loop-declaration-preserved
find_from-loop-declaration-preserved t c here at =
    let away : is_some c.in_ok-found.found ≡ false = sym c.is_some.ensures ∙ c.if-is_some.false in
    none_more c.args.name (c.args.depth - 1) (system_in c.args.system.now) here c.as_slice-declaration-items.result.now _ c.declaration-item.result _ c.in_ok-found.found (c.loop-declaration.invariant here at) c.loop-declaration-test.true c.declaration-item.is (c.in_ok-found.ensures here at.path) away

pub find_from-returns : goal.find_from-returns
find_from-returns t c here at =
    let some : c.args.depth ≡ suc (c.args.depth - 1) = omega (arith, c.if-depth-eq0.false) in
    place_away c.args.name c.args.depth (c.args.depth - 1) (system_in c.args.system.now) c.args.path.now c.args.code.now here c.as_slice-declaration-items.result.now None some at c.if-code-name.false c.as_slice-declaration-items.ensures
    (none_end c.args.name (c.args.depth - 1) (system_in c.args.system.now) here c.as_slice-declaration-items.result.now _ (c.loop-declaration.invariant here at) c.loop-declaration-test.false)

pub find_inside-returns-in-None-module_named : goal.find_inside-returns-in-None-module_named
find_inside-returns-in-None-module_named t c here at = inside_lost c.args.name c.args.depth (system_in c.args.system.now) here c.args.declaration.now (instance_parts c.in-Some.instance) c.in-Some.ensures c.in-None-module_named.ensures

pub find_inside-returns-in-None : goal.find_inside-returns-in-None
find_inside-returns-in-None t c here at = inside_none c.args.name c.args.depth (system_in c.args.system.now) here c.args.declaration.now c.in-None.ensures
