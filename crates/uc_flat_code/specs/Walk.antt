-- Parts of cells by the numbers of the fields that lead to them.
use Rattle.std.specs.Prelude.{ℕ, List, [], ◌∷◌, Option, Some, None}
use Rattle.uc_syntax.specs.declared.statement.TargetPart.{TargetPart}
use Rattle.uc_syntax.specs.declared.statement.TargetPart.TheVariants.{Field as FieldPart, Element as ElementPart}
use Rattle.uc_flat.specs.declared.expression.Expression.{Expression}
use Rattle.uc_flat_code.specs.Code.{field_in}

-- the part behind fields of these numbers
unfoldable pub behind : Expression → List ℕ → Expression
behind whole [] = whole
behind whole (k ∷ ks) = behind (field_in whole k) ks

-- the name of a field; an index has none
abbrev pub field_name : TargetPart → Option ℕ
field_name (FieldPart place f) = Some f.name
field_name (ElementPart place e) = None
