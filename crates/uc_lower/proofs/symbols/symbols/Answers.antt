use Rattle.std.proofs.Common.{[], sym, subst}
use Rattle.uc_lower.specs.Steps.{IsBitsType}
use Rattle.uc_lower.specs.Symbols.{AreSymbols}
use Rattle.uc_lower.proofs.Standing.{no_symbols, truths_kept, symbols_step}
use Rattle.uc_lower.proofs.Growing.{grows_on}
use Rattle.uc_lower.proofs.symbols.symbols.Goals as goal

pub loop-leaf-init : goal.loop-leaf-init
loop-leaf-init c =
    subst (λ us. AreSymbols c.args.terms.now c.args.terms.now c.args.next.now c.args.next.now [] us c.args.conditions.now.items c.args.conditions.now.items) (sym c.new-symbols.ensures.items)
    (no_symbols c.args.terms.now c.args.next.now c.args.conditions.now.items c.requires.well c.requires.conditions c.requires.truths)

pub symbol-requires-clause-leaf : goal.symbol-requires-clause-leaf
symbol-requires-clause-leaf c = subst IsBitsType (sym c.leaf-item.is) (c.requires.leaves c.loop-leaf.leaf-index c.leaf-item.result c.loop-leaf-test.true)

pub range-requires-clause-leaf : goal.range-requires-clause-leaf
range-requires-clause-leaf c = subst IsBitsType (sym c.leaf-item.is) (c.requires.leaves c.loop-leaf.leaf-index c.leaf-item.result c.loop-leaf-test.true)

pub range-requires-clause-truths : goal.range-requires-clause-truths
range-requires-clause-truths c = truths_kept c.loop-leaf.terms c.symbol.new.terms c.loop-leaf.conditions.items c.symbol.ensures.grown c.loop-leaf.invariant.conditions c.loop-leaf.invariant.truths

pub loop-leaf-preserved : goal.loop-leaf-preserved
loop-leaf-preserved c =
    symbols_step c.args.terms.now c.loop-leaf.terms c.symbol.new.terms c.range.new.terms c.args.next.now c.loop-leaf.next c.in_ok-next.field-0 c.args.leaves.now c.loop-leaf.leaf-index c.leaf-item.result c.loop-leaf.symbols.items c.push.new.self.items
    c.args.conditions.now.items c.loop-leaf.conditions.items c.range.new.conditions.items c.in_ok-symbol.symbol c.requires.well
    (subst IsBitsType (sym c.leaf-item.is) (c.requires.leaves c.loop-leaf.leaf-index c.leaf-item.result c.loop-leaf-test.true)) c.loop-leaf.invariant c.in_ok-symbol.ensures.made c.in_ok-range.ensures.range c.in_ok-next.ensures c.leaf-item.is c.loop-leaf-test.true
    c.in_ok-push.ensures.items

pub symbol-requires-clause-well : goal.symbol-requires-clause-well
symbol-requires-clause-well c = c.loop-leaf.invariant.grown.well

pub range-requires-clause-well : goal.range-requires-clause-well
range-requires-clause-well c = c.in_ok-symbol.ensures.grown.well

pub returns-in_err-symbol-clause-grown : goal.returns-in_err-symbol-clause-grown
returns-in_err-symbol-clause-grown c = grows_on _ _ _ c.loop-leaf.invariant.grown c.in_err-symbol.ensures.grown

pub returns-in_err-range-clause-grown : goal.returns-in_err-range-clause-grown
returns-in_err-range-clause-grown c = grows_on _ _ _ c.loop-leaf.invariant.grown (grows_on _ _ _ c.in_ok-symbol.ensures.grown c.in_err-range.ensures.grown)

pub returns-in_err-push-clause-grown : goal.returns-in_err-push-clause-grown
returns-in_err-push-clause-grown c = grows_on _ _ _ c.loop-leaf.invariant.grown (grows_on _ _ _ c.in_ok-symbol.ensures.grown c.in_ok-range.ensures.grown)

pub returns-in_err-next-clause-grown : goal.returns-in_err-next-clause-grown
returns-in_err-next-clause-grown c = grows_on _ _ _ c.loop-leaf.invariant.grown (grows_on _ _ _ c.in_ok-symbol.ensures.grown c.in_ok-range.ensures.grown)

pub returns-clause-grown : goal.returns-clause-grown
returns-clause-grown c = c.loop-leaf.invariant.grown
