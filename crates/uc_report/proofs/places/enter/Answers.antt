use Rattle.std.proofs.Common.{refl, arith}
use Rattle.uc_report.proofs.Entered.{entered_set, entered_elsewhere, never}
use Rattle.uc_report.proofs.places.enter.Goals as goal

pub returns-then-not-is_empty : goal.returns-then-not-is_empty
returns-then-not-is_empty c = entered_elsewhere c.args.place c.args.cell.now c.args.places.now.items c.args.places.now.items (λ e. never (c.if-not-is_empty.ensures.1 e)) refl

pub returns-then-name-len : goal.returns-then-name-len
returns-then-name-len c =
    entered_set c.args.place c.args.cell.now.name c.args.cell.now c.args.places.now.items _ refl (c.if-not-is_empty.ensures.0 refl) (omega (arith, c.if-name-len.true, c.len.ensures)) refl
