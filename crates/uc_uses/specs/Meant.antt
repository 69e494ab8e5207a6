-- What is mentioned, by what the rules' definitions say of it, and what the parts of an expression mention.
use Rattle.std.specs.Prelude.{ℕ, List, [], ◌∷◌, ◌++◌, map, Option, Some, None}
use Rattle.std.specs.List.{flat_map}
use Rattle.uc_syntax.specs.declared.expression.Expr.{Expr}
use Rattle.uc_syntax.specs.declared.expression.Branch.{Branch}
use Rattle.uc_syntax.specs.declared.expression.Primary.{Primary}
use Rattle.uc_syntax.specs.declared.expression.Primary.TheVariants.{Name, Apply, OnBits, Old, Grouped}
use Rattle.uc_syntax.specs.declared.expression.Selection.{Selection}
use Rattle.uc_syntax.specs.declared.expression.Selection.TheVariants.{Field, Element, Update}
use Rattle.uc_order_rules.specs.Mentions.{Mention, Reads, Applies, ReadsOld, dotted, mentions}
use Rattle.uc_uses.specs.declared.mentioned_names.Mentioned.{Mentioned}
use Rattle.uc_uses.specs.declared.mentioned_names.Mentioned.TheVariants.{Read, Applied, AtEntry}

abbrev pub mention_meant : Mentioned → Mention
mention_meant (Read x primed ys) = Reads x primed ys
mention_meant (Applied f) = Applies f
mention_meant (AtEntry x) = ReadsOld x

unfoldable pub meant : List Mentioned → List Mention
meant ms = map mention_meant ms

abbrev pub field_of : Selection Expr → Option ℕ
field_of (Field place y) = Some y.name
field_of other = None

-- what the arms of a conditional mention
abbrev pub in_branch : Branch Expr → List Mention
in_branch b = mentions b.condition ++ mentions b.value

-- what a primary with its selections mentions itself
abbrev pub in_primary : Primary Expr → List (Selection Expr) → List Mention
in_primary (Name x primed) selections = Reads x primed (dotted selections) ∷ []
in_primary (Apply f arguments) selections = Applies f ∷ flat_map mentions arguments
in_primary (OnBits function arguments) selections = flat_map mentions arguments
in_primary (Old x) selections = ReadsOld x.name ∷ []
in_primary (Grouped e) selections = mentions e
in_primary other selections = []

-- what a selection mentions
abbrev pub in_selection : Selection Expr → List Mention
in_selection (Element place i) = mentions i
in_selection (Update place i v) = mentions i ++ mentions v
in_selection other = []
