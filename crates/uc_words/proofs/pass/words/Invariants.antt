use Rattle.std.proofs.Common.{◌≡◌, take}
use Rattle.uc_syntax.specs.Numbering.{KeepNumbers}
use Rattle.uc_words.specs.Words.{AreWords, with_tokens}
use Rattle.uc_words.proofs.pass.words.Given as goal

abbrev pub invariant-loop-token : goal.invariant-loop-token
invariant-loop-token l = record {
  words : AreWords l.names l.text (take l.token-index l.tokens) l.words.items;
  names : l.names ≡ with_tokens l.fn.names l.text (take l.token-index l.tokens);
  kept : KeepNumbers l.fn.names l.names;
}
