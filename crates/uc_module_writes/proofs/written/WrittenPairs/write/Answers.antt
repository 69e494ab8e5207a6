use Rattle.uc_module_writes.proofs.written.WrittenPairs.write.Goals as goal

pub returns : goal.returns
returns c = λ place. c.in_ok-then_all.ensures c.args.names.now _ (c.in_ok-one.ensures place)
