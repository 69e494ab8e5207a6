-- The text of modules as their words, each with the blank behind it.
use Rattle.std.proofs.Common.{◌≡◌, ℕ, true, List, [], ◌∷◌, ◌++◌, map, refl, sym, ap, ◌∙◌, append_assoc}
use Rattle.std.proofs.lemmas.Bool.{false≢true}
use Rattle.uc_lexer.specs.Bytes.{is_blank}
use Rattle.uc_syntax.specs.declared.declaration.Module.{Module}
use Rattle.uc_print_laws.specs.Piece.{Piece}
use Rattle.uc_print_laws.specs.Printed.{each, has_one}
use Rattle.uc_print_laws.specs.Declarations.{module_words, modules_words}
use Rattle.uc_print_laws.specs.Text.{spelling, with_word, written, spaced, design_text}

-- a word, and the byte behind it
abbrev pub Ended : Type 0
Ended = Piece × ℕ

abbrev pub piece_of : Ended → Piece
piece_of e = e.0

abbrev pub ended_text : List (List ℕ) → List Ended → List ℕ
ended_text names [] = []
ended_text names (e ∷ es) = spelling names e.0 ++ e.1 ∷ ended_text names es

abbrev pub AreEnded : List Ended → Type 0
AreEnded [] = Unit {0}
AreEnded (e ∷ es) = (is_blank e.1 ≡ true) × AreEnded es

-- a space behind each word, and a line feed behind the last
abbrev line_from : Piece → List Piece → List Ended
line_from p [] = (p, 10) ∷ []
line_from p (q ∷ ps) = (p, 32) ∷ line_from q ps

abbrev line_of : List Piece → List Ended
line_of [] = []
line_of (p ∷ ps) = line_from p ps

abbrev pub lines_of : List Module → List Ended
lines_of [] = []
lines_of (m ∷ ms) = line_of (module_words m).words ++ lines_of ms

written_line : (names : List (List ℕ)) (out : List ℕ) (p : Piece) (ps : List Piece) → written names (out ++ spelling names p) ps ++ 10 ∷ [] ≡ out ++ ended_text names (line_from p ps)
unfolding with_word
written_line names out p [] = append_assoc out (spelling names p) (10 ∷ [])
written_line names out p (q ∷ ps) =
    let so_far : List ℕ = out ++ spelling names p in
    let more : List ℕ = ended_text names (line_from q ps) in
    ap (λ (z : List ℕ). written names z ps ++ 10 ∷ []) (sym (append_assoc so_far (32 ∷ []) (spelling names q)))
    ∙ written_line names (so_far ++ 32 ∷ []) q ps
    ∙ append_assoc so_far (32 ∷ []) more
    ∙ append_assoc out (spelling names p) (32 ∷ more)

spaced_line : (names : List (List ℕ)) (ps : List Piece) → has_one ps ≡ true → spaced names ps ++ 10 ∷ [] ≡ ended_text names (line_of ps)
spaced_line names [] h = absurd (false≢true h)
spaced_line names (p ∷ ps) h = written_line names [] p ps

ended_append : (names : List (List ℕ)) (xs ys : List Ended) → ended_text names (xs ++ ys) ≡ ended_text names xs ++ ended_text names ys
ended_append names [] ys = refl
ended_append names (x ∷ xs) ys =
    ap (λ (z : List ℕ). spelling names x.0 ++ x.1 ∷ z) (ended_append names xs ys) ∙ sym (append_assoc (spelling names x.0) (x.1 ∷ ended_text names xs) (ended_text names ys))

pub text_of_lines : (names : List (List ℕ)) (ms : List Module) → design_text names ms ≡ ended_text names (lines_of ms)
text_of_lines names [] = refl
text_of_lines names (m ∷ ms) =
    ap (λ (z : List ℕ). z ++ design_text names ms) (spaced_line names (module_words m).words refl)
    ∙ ap (λ (z : List ℕ). ended_text names (line_of (module_words m).words) ++ z) (text_of_lines names ms)
    ∙ sym (ended_append names (line_of (module_words m).words) (lines_of ms))

-- ---- their words

pieces_append : (xs ys : List Ended) → map piece_of (xs ++ ys) ≡ map piece_of xs ++ map piece_of ys
pieces_append [] ys = refl
pieces_append (x ∷ xs) ys = ap (λ (z : List Piece). x.0 ∷ z) (pieces_append xs ys)

line_pieces : (p : Piece) (ps : List Piece) → map piece_of (line_from p ps) ≡ p ∷ ps
line_pieces p [] = refl
line_pieces p (q ∷ ps) = ap (λ (z : List Piece). p ∷ z) (line_pieces q ps)

pieces_line : (ps : List Piece) → map piece_of (line_of ps) ≡ ps
pieces_line [] = refl
pieces_line (p ∷ ps) = line_pieces p ps

pub pieces_of_lines : (ms : List Module) → map piece_of (lines_of ms) ≡ (modules_words ms).words
unfolding each
pieces_of_lines [] = refl
pieces_of_lines (m ∷ ms) =
    pieces_append (line_of (module_words m).words) (lines_of ms)
    ∙ ap (λ (z : List Piece). z ++ map piece_of (lines_of ms)) (pieces_line (module_words m).words)
    ∙ ap (λ (z : List Piece). (module_words m).words ++ z) (pieces_of_lines ms)

-- ---- their blanks

line_ended : (p : Piece) (ps : List Piece) → AreEnded (line_from p ps)
line_ended p [] = (refl, tt)
line_ended p (q ∷ ps) = (refl, line_ended q ps)

of_line_ended : (ps : List Piece) → AreEnded (line_of ps)
of_line_ended [] = tt
of_line_ended (p ∷ ps) = line_ended p ps

append_ended : (xs ys : List Ended) → AreEnded xs → AreEnded ys → AreEnded (xs ++ ys)
append_ended [] ys a b = b
append_ended (x ∷ xs) ys a b = (a.0, append_ended xs ys a.1 b)

pub lines_ended : (ms : List Module) → AreEnded (lines_of ms)
lines_ended [] = tt
lines_ended (m ∷ ms) = append_ended (line_of (module_words m).words) (lines_of ms) (of_line_ended (module_words m).words) (lines_ended ms)
