-- What is printed of a tree: its words, how deep they nest, and whether the grammar has such a tree.
use Rattle.std.specs.Prelude.{ℕ, suc, max, Bool, true, false, ◌&&◌, List, [], ◌∷◌, ◌++◌}
use Rattle.uc_grammar.specs.declared.word.Kind.{Kind}
use Rattle.uc_grammar.specs.declared.word.Kind.TheVariants.{LeftParen, RightParen, Comma}
use Rattle.uc_syntax.specs.declared.place.Identifier.{Identifier}
use Rattle.uc_lexer.specs.declared.place.Place.{Place}
use Rattle.uc_print_laws.specs.Piece.{Piece, name, fixed}

pub record Printed : Type 0 where
  pub words : List Piece
  -- the number of nested forms that some word lies in, at most
  pub depth : ℕ
  -- the grammar has a tree of these parts
  pub is_shaped : Bool

abbrev pub none : Printed
none = record { words = []; depth = 0; is_shaped = true }

abbrev pub piece : Piece → Printed
piece p = record { words = p ∷ []; depth = 0; is_shaped = true }

-- a word that is no name of the design
abbrev pub sign : Kind → Printed
sign k = piece (fixed k)

abbrev pub identifier : Identifier → Printed
identifier i = piece (name i.name)

-- one after the other
infixr 20 ◌<+>◌
abbrev pub ◌<+>◌ : Printed → Printed → Printed
x <+> y = record { words = x.words ++ y.words; depth = max x.depth y.depth; is_shaped = x.is_shaped && y.is_shaped }

-- a nested form
abbrev pub nested : Printed → Printed
nested x = record { words = x.words; depth = suc x.depth; is_shaped = x.is_shaped }

-- where the grammar has this only under a condition
abbrev pub when : Bool → Printed → Printed
when b x = record { words = x.words; depth = x.depth; is_shaped = b && x.is_shaped }

-- several, one after the other
unfoldable pub each : {C : Type 0} → (C → Printed) → List C → Printed
each f [] = none
each f (c ∷ cs) = f c <+> each f cs

-- each behind a sign
unfoldable pub behind : {C : Type 0} → Kind → (C → Printed) → List C → Printed
behind k f [] = none
behind k f (c ∷ cs) = sign k <+> (f c <+> behind k f cs)

-- with a sign between neighbours
abbrev pub joined : {C : Type 0} → Kind → (C → Printed) → List C → Printed
joined k f [] = none
joined k f (c ∷ cs) = f c <+> behind k f cs

abbrev pub has_one : {C : Type 0} → List C → Bool
has_one [] = false
has_one (c ∷ cs) = true

-- one or more, with commas between them
abbrev pub listed : {C : Type 0} → (C → Printed) → List C → Printed
listed f cs = when (has_one cs) (joined Comma f cs)

-- in parentheses
abbrev pub in_parens : Printed → Printed
in_parens x = nested (sign LeftParen <+> (x <+> sign RightParen))

-- ---- trees without their places

abbrev pub nowhere : Place
nowhere = record { file = 0; line = 0; col = 0 }

abbrev pub erased_identifier : Identifier → Identifier
erased_identifier i = record { place = nowhere; name = i.name }
