use Rattle.std.specs.Prelude.{◌≡◌, ◌++◌, length}
use Rattle.uc_blast.specs.Walk.{term_bits, variables_from}
use Rattle.uc_blast.proofs.inputs.input_word.Given as goal

abbrev pub invariant-loop-bit : goal.invariant-loop-bit
invariant-loop-bit l = (l.atoms.items ≡ l.fn.atoms.items ++ term_bits l.t l.bit) × (l.word.items ≡ variables_from (length l.fn.atoms.items) l.bit)
