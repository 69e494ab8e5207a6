use Rattle.std.proofs.Common.{◌≡◌, fold, take, drop}
use Rattle.uc_front.specs.Denotes.{AreSpelled, with_source}
use Rattle.uc_front.proofs.parsing.parse_all.Given as goal

-- the modules of the texts so far, under the names of all texts
abbrev pub invariant-loop-number : goal.invariant-loop-number
invariant-loop-number l = record {
  names : fold with_source l.names (drop l.number l.sources) ≡ fold with_source l.fn.names l.sources;
  spelled : AreSpelled (fold with_source l.fn.names l.sources) (take l.number l.sources) l.modules;
}
