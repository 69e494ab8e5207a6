use Rattle.uc_lexer.proofs.word.word_kind.Goals as goal

pub width-requires : goal.width-requires
width-requires c = c.type_digits-digits.ensures.digits
