use Rattle.std.proofs.Common.{[], ap, sym, ◌∙◌}
use Rattle.std.specs.Prelude.{if◌then◌else◌}
use Rattle.uc_rules.specs.Faults.{first_of}
use Rattle.uc_order_rules.specs.Roots.{rooted}
use Rattle.uc_order_rules.specs.Dependence.{cyclic_steps}
use Rattle.uc_uses.proofs.Told.{told_nothing}
use Rattle.uc_step_cycles.proofs.cycles.note_judged.Goals as goal

pub returns-then-not-judges : goal.returns-then-not-judges
returns-then-not-judges c = λ s k knows at known has judged.
    told_nothing c.args.first.now ∙ ap (λ b. first_of c.args.first.now (if b then cyclic_steps (rooted s k) else [])) (sym c.if-not-judges.true ∙ judged)

pub returns : goal.returns
returns c = λ s k knows at known has judged.
    c.in_ok-note_root.ensures s k knows at known has (sym judged ∙ c.if-not-judges.false)
    ∙ ap (λ b. first_of c.args.first.now (if b then cyclic_steps (rooted s k) else [])) (sym c.if-not-judges.false ∙ judged)
