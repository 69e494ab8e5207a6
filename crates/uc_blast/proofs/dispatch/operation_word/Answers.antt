use Rattle.uc_circuit.proofs.Pushing.{if_ok-weaker}
use Rattle.uc_blast.proofs.Plain.{constant-known, constant-gives}
use Rattle.uc_blast.proofs.dispatch.operation_word.Goals as goal

pub constant_word-requires : goal.constant_word-requires
constant_word-requires c = (constant-known _ _ _ _ c.in-Const.is c.requires.op c.requires.suits).plain

pub returns-in-Const-clause-ok : goal.returns-in-Const-clause-ok
returns-in-Const-clause-ok c =
    if_ok-weaker _ _ _ (λ r s. constant-gives _ _ _ _ _ _ r c.in-Const.is (constant-known _ _ _ _ c.in-Const.is c.requires.op c.requires.suits) s) c.constant_word.ensures
