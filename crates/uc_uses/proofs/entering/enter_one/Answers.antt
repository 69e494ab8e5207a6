use Rattle.std.proofs.Common.{◌≡◌, true, false, Option, Some, None, refl, sym, ◌∙◌}
use Rattle.std.specs.Prelude.{is_some}
use Rattle.uc_uses.proofs.Entered.{enters_known, enters_new}
use Rattle.uc_uses.proofs.entering.enter_one.Goals as goal

some_of : {A : Type 0} (o : Option A) → is_some o ≡ true → (x : A) × (o ≡ Some x)
some_of None h = cc
some_of (Some x) h = (x, refl)

none_of : {A : Type 0} (o : Option A) → is_some o ≡ false → o ≡ None
none_of None h = refl
none_of (Some x) h = cc

pub returns-then-is_some : goal.returns-then-is_some
returns-then-is_some c = λ before expect h.
    let known = some_of c.get.result (sym c.if-is_some.ensures) in
    enters_known c.args.kind c.args.node before expect c.args.table.now c.args.uses.now c.args.entry known.0 (sym c.get.ensures ∙ known.1) h

pub returns : goal.returns
returns c = λ before expect h.
    enters_new c.args.kind c.args.node before expect c.args.table.now c.enter.new.self c.args.uses.now c.push.new.self c.args.entry _ c.len-number.result
    (sym c.get.ensures ∙ none_of c.get.result (sym c.if-is_some.ensures)) c.in_ok-enter.ensures c.len-number.ensures c.in_ok-push.ensures.ok refl refl h
