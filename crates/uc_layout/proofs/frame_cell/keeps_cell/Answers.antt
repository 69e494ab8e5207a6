use Rattle.std.proofs.Common.{◌≡◌, true, false, refl, ◌∙◌, sym, rules}
use Rattle.uc_layout.specs.Kept.{lent}
use Rattle.uc_layout.proofs.Touching.{input_keeps, cell_answer}
use Rattle.uc_layout.proofs.frame_cell.keeps_cell.Goals as goal

pub returns-then-is_input : goal.returns-then-is_input
returns-then-is_input c =
    let is : c.is_input.result ≡ true = search rules in
    λ k written same. (λ _. input_keeps c.args.kind c.args.ty.now k written c.args.old.now c.args.new.now (sym c.is_input.ensures ∙ is), λ _. refl)

pub returns : goal.returns
returns c =
    let other : c.is_input.result ≡ false = search rules in
    cell_answer c.args.kind c.args.ty.now c.args.old.now c.args.new.now (lent c.args.inside.now) (sym c.is_input.ensures ∙ other) c.keeps_parts.result c.keeps_parts.ensures
