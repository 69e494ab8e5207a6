use Rattle.std.proofs.Common.{sym}
use Rattle.uc_printer.proofs.DeclarationWords.{requires_text, ensures_text, modifies_text}
use Rattle.uc_printer.proofs.clauses.put_clause.Goals as goal

pub returns-in_ok-put_sign-in-Requires-2 : goal.returns-in_ok-put_sign-in-Requires-2
returns-in_ok-put_sign-in-Requires-2 c = rw (c.in_ok-put_sign-in-Requires-2.ensures, c.in_ok-put_expression-in-Requires.ensures, c.in_ok-put_sign-in-Requires.ensures, c.in-Requires.is) (sym (requires_text c.args.names.now c.args.page.now c.in-Requires.field-0 c.in-Requires.condition))

pub returns-in_ok-put_sign-in-Ensures-2 : goal.returns-in_ok-put_sign-in-Ensures-2
returns-in_ok-put_sign-in-Ensures-2 c = rw (c.in_ok-put_sign-in-Ensures-2.ensures, c.in_ok-put_expression-in-Ensures.ensures, c.in_ok-put_sign-in-Ensures.ensures, c.in-Ensures.is) (sym (ensures_text c.args.names.now c.args.page.now c.in-Ensures.field-0 c.in-Ensures.condition))

pub returns-in_ok-put_sign-in-Modifies-2 : goal.returns-in_ok-put_sign-in-Modifies-2
returns-in_ok-put_sign-in-Modifies-2 c = rw (c.in_ok-put_sign-in-Modifies-2.ensures, c.in_ok-put_identifiers-in-Modifies.ensures, c.as_slice.ensures, c.in_ok-put_sign-in-Modifies.ensures, c.in-Modifies.is) (sym (modifies_text c.args.names.now c.args.page.now c.in-Modifies.field-0 c.in-Modifies.variables))
