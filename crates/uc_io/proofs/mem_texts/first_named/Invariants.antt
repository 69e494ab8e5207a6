use Rattle.std.proofs.Common.{◌≡◌, drop}
use Rattle.uc_io.specs.Memory.{held_in}
use Rattle.uc_io.proofs.mem_texts.first_named.Given as goal

-- none of the texts so far has the name
abbrev pub invariant-loop-number : goal.invariant-loop-number
invariant-loop-number l = held_in l.files l.name ≡ held_in (drop l.number l.files) l.name
