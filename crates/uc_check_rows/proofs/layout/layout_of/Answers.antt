use Rattle.std.proofs.Common.{◌≡◌, ◌<◌, length, List, [], ◌∷◌, ◌++◌, sym, subst, arith}
use Rattle.uc_lexer.specs.declared.token.Token.{Token}
use Rattle.uc_lexer.specs.Text.{Tokens}
use Rattle.uc_words.proofs.Below.{names_below, files_below}
use Rattle.uc_words.proofs.Places.{files_are}
use Rattle.uc_words.proofs.Laws.{answer_names, answer_files}
use Rattle.uc_check_rows.proofs.layout.layout_of.Goals as goal

one_more : {A : Type 0} (before all : List A) (x : A) → before ≡ [] → all ≡ before ++ x ∷ [] → 0 < length all
one_more {A = A} before all x none is = subst (λ (xs : List A). 0 < length xs) (sym is) (subst (λ (ys : List A). 0 < length (ys ++ x ∷ [])) (sym none) (omega arith))

-- src/layout.rt:25:18
pub of-requires-clause-names_known : goal.of-requires-clause-names_known
of-requires-clause-names_known c =
    let h = c.in-Ok-parse.ensures.parsed in
    answer_names 200 65535 (length c.parse.new.names) h.0 c.in-Ok-parse.modules h.2 (names_below c.parse.new.names _ _ h.0 h.1)

-- src/layout.rt:25:18
pub of-requires-clause-files_known : goal.of-requires-clause-files_known
of-requires-clause-files_known c =
    let h = c.in-Ok-parse.ensures.parsed in
    let n = length c.push.new.self in
    let first = one_more c.new-files.result c.push.new.self _ c.new-files.ensures c.in_ok-push.ensures.ok in
    let read = subst (λ (ts : List Token). Tokens 0 c.args.text.now ts) (sym c.as_slice.ensures.value) c.in-Ok.ensures.tokens in
    answer_files 200 65535 n h.0 c.in-Ok-parse.modules h.2 (files_below n c.parse.new.names _ _ h.0 h.1 (files_are n 0 _ _ first read))
