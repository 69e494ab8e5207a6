use Rattle.std.proofs.Common.{◌≡◌, map, fold, take, slice_get, Some}
use Rattle.uc_syntax.specs.Numbering.{with_text}
use Rattle.uc_front.specs.Sources.{words_of}
use Rattle.uc_front.proofs.parsing.intern_all.Given as goal

-- the names after those of the files so far, and their numbers
abbrev pub invariant-loop-file : goal.invariant-loop-file
invariant-loop-file l = record {
  names : l.names ≡ fold with_text l.fn.names (take l.file-index (words_of l.files));
  numbers : map (slice_get l.names) l.numbers ≡ map (λ f. Some f) (take l.file-index (words_of l.files));
}
