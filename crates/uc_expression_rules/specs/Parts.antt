-- The parts of expressions, by what is said of them where they stand.
use Rattle.std.specs.Prelude.{ℕ, Bool, true, false, List, map, Option, Some, None}
use Rattle.uc_syntax.specs.declared.expression.Expr.{Expr}
use Rattle.uc_syntax.specs.declared.expression.Branch.{Branch}
use Rattle.uc_syntax.specs.declared.expression.Primary.{Primary}
use Rattle.uc_syntax.specs.declared.expression.Primary.TheVariants.{Truth, Number, BitsLiteral, Name, Apply, OnBits, Old, Grouped}
use Rattle.uc_syntax.specs.declared.expression.Selection.{Selection}
use Rattle.uc_syntax.specs.declared.expression.Selection.TheVariants.{Field, Copy, Element, Update, Extract}
use Rattle.uc_rules.specs.Expressions.{Context, Part, bound_named, is_integer_counter, judged}

abbrev pub primary_parts : Primary Expr → Primary Part
primary_parts (Truth b) = Truth b
primary_parts (Number n) = Number n
primary_parts (BitsLiteral n w) = BitsLiteral n w
primary_parts (Name x primed) = Name x primed
primary_parts (Apply f es) = Apply f (map judged es)
primary_parts (OnBits f es) = OnBits f (map judged es)
primary_parts (Old x) = Old x
primary_parts (Grouped e) = Grouped (judged e)

abbrev pub selection_parts : Selection Expr → Selection Part
selection_parts (Field place x) = Field place x
selection_parts (Copy place k) = Copy place k
selection_parts (Element place e) = Element place (judged e)
selection_parts (Update place e v) = Update place (judged e) (judged v)
selection_parts (Extract place hi lo) = Extract place hi lo

abbrev pub selections_parts : List (Selection Expr) → List (Selection Part)
selections_parts ss = map selection_parts ss

abbrev pub branch_parts : Branch Expr → Branch Part
branch_parts b = record { place = b.place; condition = judged b.condition; value = judged b.value }

-- a primary that is a plain number
abbrev pub number_of_primary : Primary Expr → Option ℕ
number_of_primary (Number n) = Some n
number_of_primary other = None

-- a primary that is an unprimed name
abbrev pub name_of_primary : Primary Expr → Option ℕ
name_of_primary (Name x false) = Some x
name_of_primary other = None

-- a primary that is a literal or an integer loop variable
abbrev pub is_plain_primary : Context → Primary Expr → Bool
is_plain_primary c (Number n) = true
is_plain_primary c (Name x false) = is_integer_counter (bound_named c x)
is_plain_primary c other = false
