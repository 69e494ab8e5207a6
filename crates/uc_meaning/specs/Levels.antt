-- What an expression says and what is met on the way to it, through so many uses of defines and bindings, in terms of its parts.
use Rattle.std.specs.Prelude.{ℕ, pos, ◌+◌, ◌-◌, Bool, false, if◌then◌else◌, List, [], ◌∷◌, ◌++◌, map}
use Rattle.std.specs.List.{flat_map}
use Rattle.uc_syntax.specs.declared.expression.Expr.{Expr}
use Rattle.uc_syntax.specs.declared.expression.Primary.{Primary}
use Rattle.uc_syntax.specs.declared.expression.Primary.TheVariants.{Truth, Number, BitsLiteral, Name, Apply, OnBits, Old, Grouped}
use Rattle.uc_syntax.specs.declared.expression.Branch.{Branch}
use Rattle.uc_syntax.specs.declared.expression.Selection.{Selection}
use Rattle.uc_syntax.specs.declared.expression.Selection.TheVariants.{Field, Copy, Element, Update, Extract}
use Rattle.uc_values.specs.declared.ty.Ty.{Ty}
use Rattle.uc_values.specs.declared.ty.Ty.TheVariants.{Int as integer_type, Bv as bits_type}
use Rattle.uc_values.specs.declared.value.Value.{Value}
use Rattle.uc_values.specs.declared.value.Value.TheVariants.{Int as whole, Bv as word}
use Rattle.uc_values.specs.Arrays.{at, store}
use Rattle.uc_meaning.specs.declared.scope.Scope.{Scope}
use Rattle.uc_meaning.specs.declared.overflow.Wide.{Wide}
use Rattle.uc_meaning.specs.Lookup.{System}
use Rattle.uc_meaning.specs.Operators.{holds, extracted}
use Rattle.uc_meaning.specs.Expressions.{Reading, Reached, reads, reads_truth, reading_by, reading_through, name, reached, at_entry, field_reading, element_type, applied, applied_reading, on_bits_reading}
use Rattle.uc_meaning.specs.Overflow.{met_by, met_through, name_met, applied_met}

abbrev pub reading_at : ℕ → System → Scope → Expr → Reading
reading_at n system s e = reading_by system (reading_through n system) e s

abbrev pub type_at : ℕ → System → Scope → Expr → Ty
type_at n system s e = (reading_at n system s e).type

abbrev pub value_at : ℕ → System → Scope → Expr → Value
value_at n system s e = (reading_at n system s e).value

abbrev pub met_at : ℕ → System → Scope → Expr → List Wide
met_at n system s e = met_by system (reading_through n system) (met_through n system) e s

-- a conditional: the first arm whose condition holds, else what stands behind the last `else`
unfoldable pub chosen_at : ℕ → System → Scope → List (Branch Expr) → Expr → Reading
chosen_at n system s [] otherwise = reading_at n system s otherwise
chosen_at n system s (b ∷ bs) otherwise = if holds (value_at n system s b.condition) then reading_at n system s b.value else chosen_at n system s bs otherwise

unfoldable pub chosen_met_at : ℕ → System → Scope → List (Branch Expr) → Expr → List Wide
chosen_met_at n system s [] otherwise = met_at n system s otherwise
chosen_met_at n system s (b ∷ bs) otherwise =
    met_at n system s b.condition ++ (if holds (value_at n system s b.condition) then met_at n system s b.value else chosen_met_at n system s bs otherwise)

-- what one selection makes of what stands before it
abbrev pub select_at : ℕ → System → Scope → Reading → Selection Expr → Reading
select_at n system s r (Field place f) = field_reading r f.name
select_at n system s r (Copy place k) = r
select_at n system s r (Element place index) = reads (element_type r.type) (at r.value (value_at n system s index))
select_at n system s r (Update place index new) = reads r.type (store r.value (value_at n system s index) (value_at n system s new))
select_at n system s r (Extract place hi lo) = reads (bits_type (hi - lo + 1)) (extracted hi lo r.value)

unfoldable pub select_all_at : ℕ → System → Scope → Reading → List (Selection Expr) → Reading
select_all_at n system s r [] = r
select_all_at n system s r (x ∷ xs) = select_all_at n system s (select_at n system s r x) xs

abbrev pub selection_met_at : ℕ → System → Scope → Selection Expr → List Wide
selection_met_at n system s (Element place index) = met_at n system s index
selection_met_at n system s (Update place index new) = met_at n system s index ++ met_at n system s new
selection_met_at n system s other = []

abbrev pub selections_met_at : ℕ → System → Scope → List (Selection Expr) → List Wide
selections_met_at n system s xs = flat_map (selection_met_at n system s) xs

-- what a primary says before its selections; a name takes those through which it is reached
abbrev pub reached_reading_at : ℕ → System → Reached Expr → Reading
reached_reading_at n system r = name system (reading_through n system) r.scope r.name r.primed

abbrev pub head_reading : ℕ → System → Scope → Primary Expr → List (Selection Expr) → Reading
head_reading n system s (Name x primed) xs = reached_reading_at n system (reached system s x primed xs)
head_reading n system s (Truth b) xs = reads_truth b
head_reading n system s (Number k) xs = reads integer_type (whole (pos k))
head_reading n system s (BitsLiteral k w) xs = reads (bits_type w) (word w k)
head_reading n system s (Apply f arguments) xs =
    applied_reading (reading_through n system) (map (value_at n system s) arguments) (applied system s f (map (value_at n system s) arguments))
head_reading n system s (OnBits function arguments) xs = on_bits_reading function (map (reading_at n system s) arguments)
head_reading n system s (Old x) xs = name system (reading_through n system) (at_entry s) x.name false
head_reading n system s (Grouped e) xs = reading_at n system s e

abbrev pub head_rest : System → Scope → Primary Expr → List (Selection Expr) → List (Selection Expr)
head_rest system s (Name x primed) xs = (reached system s x primed xs).rest
head_rest system s other xs = xs

abbrev pub reached_met_at : ℕ → System → Reached Expr → List Wide
reached_met_at n system r = name_met system (met_through n system) r.scope r.name r.primed

abbrev pub head_met : ℕ → System → Scope → Primary Expr → List (Selection Expr) → List Wide
head_met n system s (Name x primed) xs = reached_met_at n system (reached system s x primed xs)
head_met n system s (Apply f arguments) xs =
    flat_map (met_at n system s) arguments ++ applied_met (met_through n system) (applied system s f (map (value_at n system s) arguments))
head_met n system s (OnBits function arguments) xs = flat_map (met_at n system s) arguments
head_met n system s (Old x) xs = name_met system (met_through n system) (at_entry s) x.name false
head_met n system s (Grouped e) xs = met_at n system s e
head_met n system s literal xs = []
