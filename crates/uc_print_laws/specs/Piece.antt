-- The words that are printed, before the names that the grammar knows have numbers.
use Rattle.std.specs.Prelude.{◌≡◌, ℕ, Bool, true, false, List, [], ◌∷◌}
use Rattle.uc_grammar.specs.declared.word.Word.{Word}
use Rattle.uc_grammar.specs.declared.word.Kind.{Kind}
use Rattle.uc_grammar.specs.declared.word.Kind.TheVariants.{Name, OnBits, Range, Unroll, Induction, Verify, Check, PrintResults, PrintCex}
use Rattle.uc_grammar.specs.Code.{name_in}

pub data Piece : Type 0 where
  -- a name by its number
  name : ℕ → Piece
  -- the name of a function or a define that is applied
  applied : ℕ → Piece
  -- any other word; where the grammar knows it as a name, whatever its number
  fixed : Kind → Piece

-- a name of the design, or one that the grammar knows
abbrev pub is_name : Kind → Bool
is_name (Name n) = true
is_name (OnBits f n) = true
is_name (Range n) = true
is_name (Unroll n) = true
is_name (Induction n) = true
is_name (Verify n) = true
is_name (Check n) = true
is_name (PrintResults n) = true
is_name (PrintCex n) = true
is_name _ = false

abbrev pub is_on_bits : Kind → Bool
is_on_bits (OnBits f n) = true
is_on_bits _ = false

-- the kind of the same known name with this number
abbrev pub numbered : Kind → ℕ → Kind
numbered (OnBits f n) m = OnBits f m
numbered (Range n) m = Range m
numbered (Unroll n) m = Unroll m
numbered (Induction n) m = Induction m
numbered (Verify n) m = Verify m
numbered (Check n) m = Check m
numbered (PrintResults n) m = PrintResults m
numbered (PrintCex n) m = PrintCex m
numbered k m = k

-- a word of this kind may stand for the piece
abbrev pub Shows : Piece → Kind → Type 0
Shows (name n) k = (is_name k ≡ true) × (name_in k ≡ n)
Shows (applied n) k = (is_name k ≡ true) × (name_in k ≡ n) × (is_on_bits k ≡ false)
Shows (fixed j) k = (m : ℕ) × (k ≡ numbered j m)

-- the words are these pieces, one by one
abbrev pub Shown : List Piece → List Word → Type 0
Shown [] [] = Unit {0}
Shown [] (w ∷ ws) = ⊥
Shown (p ∷ ps) [] = ⊥
Shown (p ∷ ps) (w ∷ ws) = Shows p w.kind × Shown ps ws
