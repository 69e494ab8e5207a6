use Rattle.std.proofs.Common.{◌≡◌, ◌++◌, ◌∙◌, true, sym, ap, rules}
use Rattle.uc_lower.specs.Walk.{paired}
use Rattle.uc_lower.proofs.Marking.{symbol_at, symbol_step}
use Rattle.uc_lower.proofs.lowering.low_at.Goals as goal

pub returns-then-symbol-clause-step : goal.returns-then-symbol-clause-step
returns-then-symbol-clause-step c =
    let m : c.args.marked ≡ true = search rules in
    symbol_step c.args.terms.now c.stand_ins.new.terms c.args.lowered.now c.args.marked c.args.place c.from_vec.result c.in_ok-symbols.symbols.items c.term_at-t.result c.args.next.now c.stand_ins.new.next c.args.pairs.now.items c.pair.new.pairs.items c.args.conditions.now.items
    c.stand_ins.new.conditions.items m c.term_at-t.ensures (symbol_at c.args.terms.now c.term_at-t.result c.op.result.now c.op.ensures.op (sym c.symbol.ensures ∙ c.if-symbol.true)) c.in_ok-symbols.ensures.stands c.from_vec.ensures
    (c.in_ok-pair.ensures ∙ ap (λ us. c.args.pairs.now.items ++ paired c.term_at-t.result us) c.as_slice.ensures.value)
