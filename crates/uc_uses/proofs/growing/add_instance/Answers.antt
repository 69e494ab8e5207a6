use Rattle.std.proofs.Common.{◌≡◌, true, false, Option, Some, None, refl, sym, ◌∙◌}
use Rattle.std.specs.Prelude.{is_some}
use Rattle.uc_lookup.specs.Parts.{instance_parts}
use Rattle.uc_uses.proofs.Adding.{adds_known, adds_missing, adds_node}
use Rattle.uc_uses.proofs.growing.add_instance.Goals as goal

some_of : {A : Type 0} (o : Option A) → is_some o ≡ true → (x : A) × (o ≡ Some x)
some_of None h = cc
some_of (Some x) h = (x, refl)

none_of : {A : Type 0} (o : Option A) → is_some o ≡ false → o ≡ None
none_of None h = refl
none_of (Some x) h = cc

pub returns-then-is_some : goal.returns-then-is_some
returns-then-is_some c = λ before ds d is a.
    let known = some_of c.get.result (sym c.if-is_some.ensures) in
    adds_known c.args.modules.now c.args.node before ds d (instance_parts c.args.instance) c.args.found.now c.args.nodes.now known.0 is (sym c.get.ensures ∙ known.1) a

pub returns-in_ok-enter-in-None : goal.returns-in_ok-enter-in-None
returns-in_ok-enter-in-None c = λ before ds d is a.
    adds_missing c.args.modules.now c.args.node before ds d (instance_parts c.args.instance) c.args.found.now c.enter.new.self c.args.nodes.now is
    (sym c.get.ensures ∙ none_of c.get.result (sym c.if-is_some.ensures)) c.in_ok-enter-in-None.ensures (sym c.in-None.ensures) a

pub returns-in_ok-enter-in-Some : goal.returns-in_ok-enter-in-Some
returns-in_ok-enter-in-Some c = λ before ds d is a.
    adds_node c.args.modules.now c.args.node before ds d (instance_parts c.args.instance) c.args.found.now c.enter-in-Some.new.self c.args.nodes.now c.push.new.self _ c.len-number.result is
    (sym c.get.ensures ∙ none_of c.get.result (sym c.if-is_some.ensures)) c.in_ok-enter-in-Some.ensures c.len-number.ensures c.in_ok-push-in-Some.ensures.ok (sym c.in-Some.ensures) refl refl a
