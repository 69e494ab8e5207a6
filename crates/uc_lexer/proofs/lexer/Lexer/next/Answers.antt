use Rattle.std.proofs.Common.{Some, None, Ok, Err, rules}
use Rattle.uc_lexer.specs.Text.{IsNext}
use Rattle.uc_lexer.proofs.Unique.{next_same}
use Rattle.uc_lexer.proofs.lexer.Lexer.next.Goals as goal

pub returns-in-Ok-Some-clause-only : goal.returns-in-Ok-Some-clause-only
returns-in-Ok-Some-clause-only c =
    let this : IsNext c.args.self.now (Ok (Some c.in-Ok-Some.token)) = search rules in
    λ other h. next_same c.args.self.now other (Ok (Some c.in-Ok-Some.token)) h this

pub returns-in-Ok-None-clause-only : goal.returns-in-Ok-None-clause-only
returns-in-Ok-None-clause-only c =
    let this : IsNext c.args.self.now (Ok None) = search rules in
    λ other h. next_same c.args.self.now other (Ok None) h this

pub returns-in-Err-clause-only : goal.returns-in-Err-clause-only
returns-in-Err-clause-only c =
    let this : IsNext c.args.self.now (Err c.in-Err.fault) = search rules in
    λ other h. next_same c.args.self.now other (Err c.in-Err.fault) h this

pub returns-in-Err-clause-same_fault : goal.returns-in-Err-clause-same_fault
returns-in-Err-clause-same_fault c =
    let this : IsNext c.args.self.now (Err c.in-Err.fault) = search rules in
    λ later h. next_same c.args.self.now later (Err c.in-Err.fault) h this
