-- What is found in the body of a define, by which names that are applied read state.
use Rattle.std.specs.Prelude.{◌≡◌, ℕ, Bool, true, false, ◌||◌, List}
use Rattle.std.specs.List.{list_any}
use Rattle.uc_syntax.specs.declared.expression.Expr.{Expr}
use Rattle.uc_syntax.specs.declared.expression.Branch.{Branch}
use Rattle.uc_syntax.specs.declared.expression.Primary.{Primary}
use Rattle.uc_syntax.specs.declared.expression.Primary.TheVariants.{Name, Apply, OnBits, Old, Grouped}
use Rattle.uc_syntax.specs.declared.expression.Selection.{Selection}
use Rattle.uc_syntax.specs.declared.expression.Selection.TheVariants.{Element, Update}
use Rattle.uc_syntax.specs.declared.declaration.Module.{Module}
use Rattle.uc_meaning.specs.Lookup.{System}
use Rattle.uc_rules.specs.Reads.{name_reads}
use Rattle.uc_cycles.specs.declared.found.Found.{Found}

-- whether state is read, where the names that are applied read it as given
abbrev pub reads_found : (ℕ → Bool) → Found → Bool
reads_found by f = f.state || list_any by f.applied

-- what was found has one more part
abbrev pub Adds : Found → Found → ((ℕ → Bool) → Bool) → Type 0
Adds old new part = (by : ℕ → Bool) → reads_found by new ≡ (reads_found by old || part by)

-- the parts of an expression, by whether each reads state
abbrev pub branch_by : (Expr → Bool) → Branch Expr → Bool
branch_by reads b = reads b.condition || reads b.value

abbrev pub selection_by : (Expr → Bool) → Selection Expr → Bool
selection_by reads (Element place i) = reads i
selection_by reads (Update place i v) = reads i || reads v
selection_by reads other = false

abbrev pub primary_by : System → Module → List ℕ → (ℕ → Bool) → (Expr → Bool) → Primary Expr → Bool
primary_by system m bound by reads (Name x primed) = name_reads system m bound x
primary_by system m bound by reads (Old x) = name_reads system m bound x.name
primary_by system m bound by reads (Apply f es) = by f || list_any reads es
primary_by system m bound by reads (OnBits function es) = list_any reads es
primary_by system m bound by reads (Grouped e) = reads e
primary_by system m bound by reads other = false
