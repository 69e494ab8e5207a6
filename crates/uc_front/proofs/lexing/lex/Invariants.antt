use Rattle.std.proofs.Common.{◌≡◌, ◌++◌}
use Rattle.uc_front.specs.Sources.{AreLexed, texts_of}
use Rattle.uc_front.proofs.lexing.lex.Given as goal

-- the sources of the texts so far
abbrev pub invariant-loop-text : goal.invariant-loop-text
invariant-loop-text l = record {
  texts : texts_of l.sources ++ l.text-iterator.rest.items ≡ l.fn.texts;
  lexed : AreLexed 0 l.sources;
}
