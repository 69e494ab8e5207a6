use Rattle.uc_circuit.proofs.Sums.{adds}
use Rattle.uc_circuit.proofs.Growing.{grows-trans, below-grown}
use Rattle.uc_circuit.proofs.adding.add_bits.Goals as goal

pub returns-clause-ok : goal.returns-clause-ok
returns-clause-ok c =
    adds _ _ _ _ _ _ _ _ _ c.xor-2.ensures.grows c.choose.ensures.grows c.in_ok-differ.ensures.ok c.in_ok-sum.ensures.ok c.in_ok-next.ensures.ok

pub xor-requires-2-clause-a : goal.xor-requires-2-clause-a
xor-requires-2-clause-a c = c.in_ok-differ.ensures.ok.below

pub xor-requires-2-clause-b : goal.xor-requires-2-clause-b
xor-requires-2-clause-b c = below-grown _ _ c.xor.ensures.grows _ c.requires.carry

pub choose-requires-clause-condition : goal.choose-requires-clause-condition
choose-requires-clause-condition c = below-grown _ _ c.xor-2.ensures.grows _ c.in_ok-differ.ensures.ok.below

pub choose-requires-clause-on_true : goal.choose-requires-clause-on_true
choose-requires-clause-on_true c = below-grown _ _ (grows-trans _ _ _ c.xor.ensures.grows c.xor-2.ensures.grows) _ c.requires.carry

pub choose-requires-clause-on_false : goal.choose-requires-clause-on_false
choose-requires-clause-on_false c = below-grown _ _ (grows-trans _ _ _ c.xor.ensures.grows c.xor-2.ensures.grows) _ c.requires.a

pub returns-in_err-sum-clause-grows : goal.returns-in_err-sum-clause-grows
returns-in_err-sum-clause-grows c = grows-trans _ _ _ c.xor.ensures.grows c.xor-2.ensures.grows

pub returns-in_err-next-clause-grows : goal.returns-in_err-next-clause-grows
returns-in_err-next-clause-grows c = grows-trans _ _ _ c.xor.ensures.grows (grows-trans _ _ _ c.xor-2.ensures.grows c.choose.ensures.grows)

pub returns-clause-grows : goal.returns-clause-grows
returns-clause-grows c = grows-trans _ _ _ c.xor.ensures.grows (grows-trans _ _ _ c.xor-2.ensures.grows c.choose.ensures.grows)
