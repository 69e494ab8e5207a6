use Rattle.std.proofs.Common.{◌≡◌, ◌+◌, IsTrue, map, take, length, Some}
use Rattle.std.specs.List.{concat}
use Rattle.uc_lexer.specs.declared.lexer.TheConstants.{MAX_TEXT}
use Rattle.uc_front.specs.Sources.{words_of}
use Rattle.uc_front.proofs.reading.read_texts.Given as goal

-- the texts of the files so far, and what is left of the limit
abbrev pub invariant-loop-number : goal.invariant-loop-number
invariant-loop-number g l = let texts = g.X.Texts in record {
  each : IsTrue (texts.tells l.fn.texts) → map (texts.held l.fn.texts) (take l.number (words_of l.files)) ≡ map (λ t. Some t) l.found;
  count : length l.found ≡ l.number;
  room : length (concat l.found) + l.room ≡ MAX_TEXT;
  no_fault : texts.faults l.texts ≡ texts.faults l.fn.texts;
  telling : texts.tells l.texts ≡ texts.tells l.fn.texts;
  holding : texts.held l.texts ≡ texts.held l.fn.texts;
}
