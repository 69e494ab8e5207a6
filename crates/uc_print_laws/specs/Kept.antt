-- Printed words that are among given words.
use Rattle.std.specs.Prelude.{◌≡◌, ◌⊎◌, Bool, true, false, List, [], ◌∷◌}
use Rattle.uc_grammar.specs.declared.word.Kind.{Kind}
use Rattle.uc_grammar.specs.declared.word.Kind.TheVariants.{Name}
use Rattle.uc_grammar.specs.declared.word.Word.{Word}
use Rattle.uc_print_laws.specs.Piece.{Piece, name, applied, fixed, Shows}

-- a name of the design, which is printed by its number
abbrev pub is_own : Kind → Bool
is_own (Name n) = true
is_own _ = false

-- a word of this kind is printed as the piece
abbrev pub Reprints : Piece → Kind → Type 0
Reprints (name n) k = Shows (name n) k
Reprints (applied n) k = Shows (applied n) k
Reprints (fixed j) k = (is_own j ≡ false) × Shows (fixed j) k

-- one of the words is printed as the piece
abbrev pub IsAmong : List Word → Piece → Type 0
IsAmong [] p = ⊥
IsAmong (w ∷ ws) p = Reprints p w.kind ⊎ IsAmong ws p

-- P holds of each piece
abbrev pub AreAll : (Piece → Type 0) → List Piece → Type 0
AreAll P [] = Unit {0}
AreAll P (p ∷ ps) = P p × AreAll P ps
