use Rattle.std.proofs.Common.{length, sym, arith}
use Rattle.std.proofs.lemmas.Bool.{eqb-false}
use Rattle.uc_lexer.specs.Bytes.{is_letter, is_digit}
use Rattle.uc_lexer.proofs.Fronts.{Begins-from}
use Rattle.uc_lexer.proofs.Found.{sign_found, no_sign_found}
use Rattle.uc_lexer.proofs.ahead.token_ahead.Goals as goal

pub word_ahead-requires : goal.word_ahead-requires
word_ahead-requires c = Begins-from is_letter c.args.text.now (sym c.if-begins_letter.ensures)

pub number_ahead-requires-clause-digit : goal.number_ahead-requires-clause-digit
number_ahead-requires-clause-digit c = Begins-from is_digit c.args.text.now (sym c.if-begins_digit.ensures)

pub returns-in-Some : goal.returns-in-Some
returns-in-Some c =
    let some = eqb-false (length c.args.text.now) 0 (sym c.if-is_empty.ensures) in
    sign_found c.args.text.now c.in-Some.kind c.in-Some.length (omega arith) (sym c.if-begins_letter.ensures) (sym c.if-begins_digit.ensures) (sym c.in-Some.ensures)

pub returns-in-None : goal.returns-in-None
returns-in-None c =
    let some = eqb-false (length c.args.text.now) 0 (sym c.if-is_empty.ensures) in
    no_sign_found c.args.text.now (omega arith) (sym c.if-begins_letter.ensures) (sym c.if-begins_digit.ensures) c.requires.no_gap (sym c.in-None.ensures)
