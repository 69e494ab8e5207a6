use Rattle.std.proofs.Common.{[], ap, sym, ◌∙◌}
use Rattle.std.specs.Prelude.{if◌then◌else◌}
use Rattle.uc_rules.specs.Faults.{first_of}
use Rattle.uc_order_rules.specs.Roots.{rooted}
use Rattle.uc_order_rules.specs.Uses.{use_cycles}
use Rattle.uc_uses.proofs.Told.{told_nothing}
use Rattle.uc_uses.proofs.cycles.note_judged.Goals as goal

pub returns-then-not-is_judged : goal.returns-then-not-is_judged
returns-then-not-is_judged c = λ s k knows at known.
    told_nothing c.args.first.now ∙ ap (λ b. first_of c.args.first.now (if b then use_cycles (rooted s k) else [])) (sym c.if-not-is_judged.true)
