use Rattle.std.proofs.Common.{ap, sym, ◌∙◌}
use Rattle.uc_lexer.specs.Reading.{digits_alone}
use Rattle.uc_lexer.proofs.Numbers.{digits_alone-yes, digits_alone-no, digits_alone-all}
use Rattle.uc_lexer.proofs.word.type_digits.Goals as goal

pub returns-then-digits_end-digits-clause-value : goal.returns-then-digits_end-digits-clause-value
returns-then-digits_end-digits-clause-value c = sym (digits_alone-yes _ _ c.digits_end.ensures c.if-digits_end-digits.true) ∙ ap digits_alone c.after_bv-digits.ensures.value

pub returns-else-digits_end-digits-clause-value : goal.returns-else-digits_end-digits-clause-value
returns-else-digits_end-digits-clause-value c = sym (digits_alone-no _ _ c.digits_end.ensures c.if-digits_end-digits.false) ∙ ap digits_alone c.after_bv-digits.ensures.value

pub returns-then-digits_end-digits-clause-digits : goal.returns-then-digits_end-digits-clause-digits
returns-then-digits_end-digits-clause-digits c = digits_alone-all _ _ c.digits_end.ensures c.if-digits_end-digits.true
