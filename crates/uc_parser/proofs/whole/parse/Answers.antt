use Rattle.uc_words.proofs.Places.{tokens_within}
use Rattle.uc_parser.proofs.Texts.{text_parsed, names_after}
use Rattle.uc_parser.proofs.whole.parse.Goals as goal

pub words-requires : goal.words-requires
words-requires c = tokens_within c.args.file c.args.text.now c.args.tokens.now c.requires.tokens

pub returns-clause-parsed : goal.returns-clause-parsed
returns-clause-parsed c = text_parsed c.words.new.names c.args.file c.args.text.now c.args.tokens.now c.in_ok-words.words.items c.as_slice.result.now c.end_of.result c.parse_words.result c.in_ok-words.ensures.words c.as_slice.ensures.value c.end_of.ensures c.parse_words.ensures

pub returns-clause-names : goal.returns-clause-names
returns-clause-names c = names_after c.args.names.now c.words.new.names c.args.text.now c.args.tokens.now c.parse_words.result c.in_ok-words.ensures.names
