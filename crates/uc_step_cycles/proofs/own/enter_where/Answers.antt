use Rattle.std.proofs.Common.{◌≡◌, true, false, Option, Some, None, refl, sym, ◌∙◌}
use Rattle.std.specs.Prelude.{is_some}
use Rattle.uc_step_cycles.proofs.Entered.{enters_known, enters_new, enters_not}
use Rattle.uc_step_cycles.proofs.own.enter_where.Goals as goal

some_of : {A : Type 0} (o : Option A) → is_some o ≡ true → (x : A) × (o ≡ Some x)
some_of None h = cc
some_of (Some x) h = (x, refl)

none_of : {A : Type 0} (o : Option A) → is_some o ≡ false → o ≡ None
none_of None h = refl
none_of (Some x) h = cc

pub returns-then-not-is_cell : goal.returns-then-not-is_cell
returns-then-not-is_cell c = λ before expect h. enters_not c.args.cell.node before expect c.args.own.now c.args.cells.now c.args.cell.name c.args.is_cell c.if-not-is_cell.true h

pub returns-then-is_some : goal.returns-then-is_some
returns-then-is_some c = λ before expect h.
    let known = some_of c.get.result (sym c.if-is_some.ensures) in
    enters_known c.args.cell.node before expect c.args.own.now c.args.cells.now c.args.cell.name known.0 c.args.is_cell c.if-not-is_cell.false (sym c.get.ensures ∙ known.1) h

pub returns : goal.returns
returns c = λ before expect h.
    enters_new c.args.cell.node before expect c.args.own.now c.enter.new.self c.args.cells.now c.push.new.self c.args.cell.name c.len-number.result c.args.is_cell c.if-not-is_cell.false
    (sym c.get.ensures ∙ none_of c.get.result (sym c.if-is_some.ensures)) c.in_ok-enter.ensures c.len-number.ensures c.in_ok-push.ensures.ok h
