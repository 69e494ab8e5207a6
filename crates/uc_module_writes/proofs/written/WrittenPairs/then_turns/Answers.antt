use Rattle.uc_module_writes.proofs.written.WrittenPairs.then_turns.Goals as goal

pub returns : goal.returns
returns c = λ names body n h is a. c.in_ok-then_all.ensures names _ (c.in_ok-turns.ensures names body n h is a)
