use Rattle.std.proofs.Common.{sym, ap, ◌∙◌, ◌||◌}
use Rattle.uc_values.specs.Values.{indices, lists}
use Rattle.uc_ops.proofs.Differing.{lists-append}
use Rattle.uc_ops.proofs.difference.either_lists.Goals as goal

pub returns-then-lists : goal.returns-then-lists
returns-then-lists c =
    c.if-lists.true ∙ sym (lists-append (indices c.args.rows.now) (indices c.args.others.now) c.args.index.now
    ∙ ap (λ b. b || lists (indices c.args.others.now) c.args.index.now) (sym c.lists.ensures ∙ c.if-lists.true))

pub returns-else-lists : goal.returns-else-lists
returns-else-lists c =
    sym (lists-append (indices c.args.rows.now) (indices c.args.others.now) c.args.index.now
    ∙ ap (λ b. b || lists (indices c.args.others.now) c.args.index.now) (sym c.lists.ensures ∙ c.if-lists.false) ∙ sym c.lists-else-lists.ensures)
