-- What an accepted log shows.
use Rattle.std.specs.Prelude.{List}
use Rattle.uc_ops.specs.declared.node.Node.{Node}
use Rattle.uc_log.specs.declared.entry.Entry.{Entry}
use Rattle.uc_log.specs.Problems.{Question, IsQuestion, HasNoModel}
use Rattle.uc_log.specs.Entries.{Accepts}

-- a problem with an accepted log has no model, whatever finds the log
abbrev pub AcceptedRefutes : Type 0
AcceptedRefutes = (nodes : List Node) (q : Question) (entries : List Entry) → IsQuestion q → Accepts nodes q entries → HasNoModel nodes q
