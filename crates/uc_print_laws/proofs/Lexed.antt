-- The tokens of a text that is words with blanks behind them.
use Rattle.std.proofs.Common.{◌≡◌, ℕ, ◌-◌, true, List, [], ◌∷◌, ◌++◌, length, map, take, drop, None, refl, sym, ap, ◌∙◌, subst, append_assoc, arith}
use Rattle.std.proofs.lemmas.List.{length-append}
use Rattle.uc_lexer.specs.declared.token.Token.{Token}
use Rattle.uc_lexer.specs.declared.token.TokenKind.{TokenKind}
use Rattle.uc_lexer.specs.Bytes.{is_blank, AreAll}
use Rattle.uc_lexer.specs.Gap.{Skips}
use Rattle.uc_lexer.specs.Places.{place_of}
use Rattle.uc_lexer.specs.Spelling.{Spells, IsWithinLimits, IsToken}
use Rattle.uc_lexer.specs.Text.{IsNextToken, Reads, ends, goes_on, Tokens}
use Rattle.uc_lexer.proofs.Fronts.{append-take, append-drop}
use Rattle.uc_lexer.proofs.Spellings.{spelled_some}
use Rattle.uc_syntax.specs.declared.declaration.Module.{Module}
use Rattle.uc_print_laws.specs.Piece.{Piece}
use Rattle.uc_print_laws.specs.Declarations.{modules_words}
use Rattle.uc_print_laws.specs.Text.{spelling, design_text}
use Rattle.uc_print_laws.specs.Spelled.{HaveSpellings}
use Rattle.uc_print_laws.specs.Law.{AreTokensOf}
use Rattle.uc_print_laws.proofs.Blanks.{is_token, skips}
use Rattle.uc_print_laws.proofs.Fixed.{has_token}
use Rattle.uc_print_laws.proofs.Lines.{Ended, piece_of, ended_text, AreEnded, lines_of, text_of_lines, pieces_of_lines, lines_ended}

module _ (file : ℕ) (text : List ℕ) where
  -- the token of this kind between two fronts of the text
  abbrev token_at : TokenKind → List ℕ → List ℕ → Token
  token_at kind start stop = record { kind = kind; start = length start; end = length stop; place = place_of file text (length start) }

  -- what stands behind blanks, with a blank behind it
  module _ (before blanks bytes rest : List ℕ) (c : ℕ) (at : text ≡ before ++ (blanks ++ (bytes ++ c ∷ rest))) where
    abbrev start : List ℕ
    start = before ++ blanks

    abbrev stop : List ℕ
    stop = start ++ bytes

    at_start : text ≡ start ++ (bytes ++ c ∷ rest)
    at_start = at ∙ sym (append_assoc before blanks (bytes ++ c ∷ rest))

    at_stop : text ≡ stop ++ (c ∷ rest)
    at_stop = at_start ∙ sym (append_assoc start bytes (c ∷ rest))

    from_start : drop (length start) text ≡ bytes ++ c ∷ rest
    from_start = append-drop start (bytes ++ c ∷ rest) text (sym at_start)

    from_stop : drop (length stop) text ≡ c ∷ rest
    from_stop = append-drop stop (c ∷ rest) text (sym at_stop)

    its_bytes : take (length stop - length start) (drop (length start) text) ≡ bytes
    its_bytes =
        let count : length stop - length start ≡ length bytes = omega (arith, length-append start bytes) in
        ap (λ (n : ℕ). take n (drop (length start) text)) count ∙ append-take bytes (c ∷ rest) (drop (length start) text) (sym from_start)

    next_is : (kind : TokenKind) → Spells bytes kind → IsWithinLimits kind → is_blank c ≡ true → AreAll is_blank blanks → IsNextToken file text (length before) (token_at kind start stop)
    next_is kind s w b a = record {
      after = omega (arith, length-append before blanks);
      some = omega (arith, length-append start bytes, spelled_some bytes kind s);
      within = omega (arith, ap length at_stop, length-append stop (c ∷ rest));
      gap =
          let whole : drop (length before) text ≡ blanks ++ (bytes ++ c ∷ rest) = append-drop before (blanks ++ (bytes ++ c ∷ rest)) text (sym at) in
          subst (λ (t : List ℕ). Skips (drop (length before) text) t) (sym from_start) (subst (λ (t : List ℕ). Skips t (bytes ++ c ∷ rest)) (sym whole) (skips blanks (bytes ++ c ∷ rest) a));
      spelled =
          subst (λ (t : List ℕ). IsToken t (drop (length stop) text) kind) (sym its_bytes) (subst (λ (t : List ℕ). IsToken bytes t kind) (sym from_stop) (is_token bytes rest c kind s w b));
      stands_at = refl;
    }

  module _ (names : List (List ℕ)) where
    abbrev IsLexedFrom : List ℕ → List Ended → Type 0
    IsLexedFrom before es = (tokens : List Token) × Reads file text (length before) tokens None × AreTokensOf names text tokens (map piece_of es)

    lexed : (before blanks : List ℕ) (es : List Ended) → text ≡ before ++ (blanks ++ ended_text names es) → AreAll is_blank blanks → HaveSpellings names (map piece_of es) → AreEnded es → IsLexedFrom before es
    lexed before blanks [] e b s d =
        let whole : drop (length before) text ≡ blanks ++ [] = append-drop before (blanks ++ []) text (sym e) in
        ([], ends (subst (λ (t : List ℕ). Skips t []) (sym whole) (skips blanks [] b)), tt)
    lexed before blanks (x ∷ es) e b s d =
        let t = has_token names x.0 s.0 in
        let bytes : List ℕ = spelling names x.0 in
        let rest : List ℕ = ended_text names es in
        let more = lexed ((before ++ blanks) ++ bytes) (x.1 ∷ []) es (at_stop before blanks bytes rest x.1 e) (d.0, tt) s.1 d.1 in (
          token_at t.0 (before ++ blanks) ((before ++ blanks) ++ bytes) ∷ more.0,
          goes_on (next_is before blanks bytes rest x.1 e t.0 t.1 t.2 d.0 b) more.1,
          (record { bytes = its_bytes before blanks bytes rest x.1 e; kind = t.3 }, more.2),
        )

pub text_lexed : (names : List (List ℕ)) (modules : List Module) (file : ℕ) → HaveSpellings names (modules_words modules).words
    → (tokens : List Token) × Tokens file (design_text names modules) tokens × AreTokensOf names (design_text names modules) tokens (modules_words modules).words
text_lexed names modules file h =
    let spelled = subst (λ (ps : List Piece). HaveSpellings names ps) (sym (pieces_of_lines modules)) h in
    let all = lexed file (design_text names modules) names [] [] (lines_of modules) (text_of_lines names modules) tt spelled (lines_ended modules) in
    (all.0, all.1, subst (λ (ps : List Piece). AreTokensOf names (design_text names modules) all.0 ps) (pieces_of_lines modules) all.2)
