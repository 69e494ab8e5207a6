use Rattle.std.proofs.Common.{Option, sym, subst}
use Rattle.uc_lexer.specs.declared.token.TokenKind.{TokenKind}
use Rattle.uc_lexer.specs.Ahead.{IsAhead, as_ahead}
use Rattle.uc_lexer.proofs.Found.{word_found}
use Rattle.uc_lexer.proofs.ahead.word_ahead.Goals as goal

pub returns-in-Some : goal.returns-in-Some
returns-in-Some c =
    let text = c.args.text.now in
    let n = c.word_end-end.result in
    subst (λ (o : Option TokenKind). IsAhead text (as_ahead o n)) (sym c.in-Some.ensures) (word_found text n c.requires c.word_end-end.ensures)

pub returns-in-None : goal.returns-in-None
returns-in-None c =
    let text = c.args.text.now in
    let n = c.word_end-end.result in
    subst (λ (o : Option TokenKind). IsAhead text (as_ahead o n)) (sym c.in-None.ensures) (word_found text n c.requires c.word_end-end.ensures)
