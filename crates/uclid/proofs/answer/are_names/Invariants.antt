use Rattle.std.proofs.Common.{◌≡◌, drop}
use Rattle.uc_front.specs.Sources.{words_of}
use Rattle.uclid.specs.Answers.{are_names}
use Rattle.uclid.proofs.answer.are_names.Given as goal

abbrev pub invariant-loop-word : goal.invariant-loop-word
invariant-loop-word l = are_names (words_of (drop l.word-index l.words)) ≡ are_names (words_of l.words)
