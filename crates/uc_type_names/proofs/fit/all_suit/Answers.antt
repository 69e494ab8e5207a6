use Rattle.std.proofs.Common.{◌∙◌, sym, ap, drop, ◌+◌}
use Rattle.std.specs.Prelude.{◌&&◌}
use Rattle.uc_rules.specs.Rows.{all_suit}
use Rattle.uc_type_names.proofs.Calls.{suit_turn, suit_past}
use Rattle.uc_type_names.proofs.fit.all_suit.Goals as goal

pub returns-then-not-suits : goal.returns-then-not-suits
returns-then-not-suits c =
    sym (ap (λ b. b && all_suit (drop (c.loop-k.k + 1) c.args.asked.now) (drop (c.loop-k.k + 1) c.args.values.now)) c.if-not-suits.true)
    ∙ sym (suit_turn c.args.asked.now c.args.values.now c.loop-k.k c.index-asked-k.result c.in-Some.ty.now c.suits.result c.loop-k-test.true c.index-asked-k.is (sym c.in-Some.ensures) c.suits.ensures)
    ∙ c.loop-k.invariant

pub returns-in-None : goal.returns-in-None
returns-in-None c = sym (suit_past c.args.asked.now c.args.values.now c.loop-k.k (sym c.in-None.ensures)) ∙ c.loop-k.invariant

pub loop-k-preserved : goal.loop-k-preserved
loop-k-preserved c =
    sym (ap (λ b. b && all_suit (drop (c.loop-k.k + 1) c.args.asked.now) (drop (c.loop-k.k + 1) c.args.values.now)) c.if-not-suits.false)
    ∙ sym (suit_turn c.args.asked.now c.args.values.now c.loop-k.k c.index-asked-k.result c.in-Some.ty.now c.suits.result c.loop-k-test.true c.index-asked-k.is (sym c.in-Some.ensures) c.suits.ensures)
    ∙ c.loop-k.invariant
