use Rattle.uc_lexer.proofs.Turns.{none_yet, one_more, no_more, first_fault}
use Rattle.uc_lexer.proofs.whole.tokens.Goals as goal

pub turns-init : goal.turns-init
turns-init c = none_yet c.args.file c.args.text.now c.new-lexer.result c.new-found.result.items c.new-lexer.ensures c.new-found.ensures.items

pub turns-preserved : goal.turns-preserved
turns-preserved c = one_more c.args.file c.args.text.now c.turns.lexer c.next.new.self c.turns.found.items c.push.new.self.items c.in-Ok-Some.token (rw c.in-Ok-Some.field-0-is at c.in-Ok-Some.ensures.next) (rw c.in-Ok-Some.field-0-is at c.in-Ok-Some.ensures.passed) c.in_ok-push-in-Ok-Some.ensures.items c.turns.invariant

pub returns-in-Ok-None-clause-tokens : goal.returns-in-Ok-None-clause-tokens
returns-in-Ok-None-clause-tokens c = no_more c.args.file c.args.text.now c.turns.lexer c.turns.found.items (rw c.in-Ok-None.field-0-is at c.in-Ok-None.ensures.next) c.turns.invariant

pub returns-in-Err-clause-fault : goal.returns-in-Err-clause-fault
returns-in-Err-clause-fault c = first_fault c.args.file c.args.text.now c.turns.lexer c.turns.found.items c.in-Err.fault c.in-Err.ensures.next c.turns.invariant
