use Rattle.std.proofs.Common.{◌≡◌, sym, ap, ◌∙◌, subst, arith, true, rules}
use Rattle.uc_solver.proofs.Giving.{gives}
use Rattle.uc_solver.proofs.symbols.give.Goals as goal

pub returns-in_ok-put-in-Symbol : goal.returns-in_ok-put-in-Symbol
returns-in_ok-put-in-Symbol c =
    let marked : c.args.marked ≡ true = search rules in
    gives c.args.terms.now c.args.marked c.args.place c.node.result.now c.in-Symbol.number c.in-Symbol.field-1 c.in_ok-value-in-Symbol.value c.index-values-place.result c.args.values.now c.args.symbols.now c.put.new.symbols
    marked c.node.ensures.node c.in-Symbol.is c.in_ok-value-in-Symbol.ensures c.index-values-place.is (omega (arith, c.requires.there, c.requires.long)) c.in_ok-put-in-Symbol.ensures
