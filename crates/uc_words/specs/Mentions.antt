-- What words mention: the numbers of their names and the files of their places.
use Rattle.std.specs.Prelude.{List, [], ◌∷◌}
use Rattle.std.specs.List.{flat_map}
use Rattle.uc_lexer.specs.declared.token.Token.{Token}
use Rattle.uc_syntax.specs.Mentions.{Mention, OfName, OfFile}
use Rattle.uc_grammar.specs.declared.word.Kind.{Kind}
use Rattle.uc_grammar.specs.declared.word.Kind.TheVariants.{Name, OnBits, Range, Unroll, Induction, Verify, Check, PrintResults, PrintCex}
use Rattle.uc_grammar.specs.declared.word.Word.{Word}

abbrev pub kind_mentions : Kind → List Mention
kind_mentions (Name number) = OfName number ∷ []
kind_mentions (OnBits function number) = OfName number ∷ []
kind_mentions (Range number) = OfName number ∷ []
kind_mentions (Unroll number) = OfName number ∷ []
kind_mentions (Induction number) = OfName number ∷ []
kind_mentions (Verify number) = OfName number ∷ []
kind_mentions (Check number) = OfName number ∷ []
kind_mentions (PrintResults number) = OfName number ∷ []
kind_mentions (PrintCex number) = OfName number ∷ []
kind_mentions other = []

abbrev pub word_mentions : Word → List Mention
word_mentions word = OfFile word.place.file ∷ kind_mentions word.kind

abbrev pub words_mention : List Word → List Mention
words_mention words = flat_map word_mentions words

abbrev pub tokens_mention : List Token → List Mention
tokens_mention tokens = flat_map (λ t. OfFile t.place.file ∷ []) tokens
