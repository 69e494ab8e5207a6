-- The procedures that a table has.
use Rattle.std.specs.Prelude.{◌≡◌, ℕ, nat_eq, List, Option}
use Rattle.std.specs.Borrow.{Bor}
use Rattle.std.specs.Option.{option_copied}
use Rattle.indexmap.specs.IndexMap.{get}
use Rattle.uc_syntax.specs.declared.declaration.Procedure.{Procedure as ProcedureParts}
use Rattle.uc_syntax.specs.declared.declaration.Decl.{Decl}
use Rattle.uc_meaning.specs.Lookup.{first_some, procedure_in}
use Rattle.uc_names.specs.declared.firsts.Firsts.{Firsts}
use Rattle.uc_order_rules.specs.Writes.{modified_names}

-- the procedure of a name
abbrev pub procedure_by : Firsts (Bor ProcedureParts) → ℕ → Option ProcedureParts
procedure_by t f = option_copied (get nat_eq t.things f)

-- the names that it modifies
abbrev pub modified_by : Firsts (Bor ProcedureParts) → ℕ → List ℕ
modified_by t f = modified_names (procedure_by t f)

-- the table has those that are declared
unfoldable pub KnowsProcedures : List Decl → Firsts (Bor ProcedureParts) → Type 0
KnowsProcedures ds t = (f : ℕ) → procedure_by t f ≡ first_some (procedure_in f) ds
