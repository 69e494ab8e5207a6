use Rattle.std.proofs.Common.{ℕ, List, refl, subst}
use Rattle.std.proofs.lemmas.List.{take_rest}
use Rattle.uc_lexer.specs.declared.ahead.Ahead.TheVariants as ahead
use Rattle.uc_lexer.specs.Ahead.{IsAhead}
use Rattle.uc_lexer.proofs.Next.{token_next}
use Rattle.uc_lexer.proofs.lexer.next_token.Goals as goal

pub returns-in-Token : goal.returns-in-Token
returns-in-Token c =
    let text = c.args.text.now in
    let here = c.in-Ok.here in
    let token = ahead.Token c.in-Token.kind c.in-Token.length in
    let found = subst (λ (t : List ℕ). IsAhead t token) (take_rest text here.at) c.in-Token.ensures in
    let next = token_next c.args.file text c.args.start here c.in-Token.kind c.in-Token.length c.place-in-Token.result c.in-Ok.ensures.0 found c.place-in-Token.ensures in
    rw c.along-after.ensures (next.0, next.1, refl)
