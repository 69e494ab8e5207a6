-- The places of uses that have a flag.
use Rattle.std.specs.Prelude.{ℕ, zero, suc, Bool, false, List, [], ◌∷◌, ◌++◌, length, slice_get, slice_index_or, Option, Some, None}
use Rattle.std.specs.List.{flat_map}
use Rattle.uc_syntax.specs.declared.declaration.Binding.{Binding}
use Rattle.uc_syntax.specs.declared.declaration.Decl.{Decl}
use Rattle.uc_syntax.specs.declared.declaration.Decl.TheVariants.{Define as DefineDecl, Procedure as ProcedureDecl, Instance}
use Rattle.uc_rules.specs.declared.fault.Fault.{Fault}
use Rattle.uc_rules.specs.declared.rule.Rule.TheVariants.{Cycle}
use Rattle.uc_rules.specs.Faults.{breaks_where}
use Rattle.uc_uses.specs.declared.tree.Node.{Node}
use Rattle.uc_uses.specs.declared.tree.InstanceTree.{InstanceTree}
use Rattle.uc_uses.specs.Trees.{instance_at, joined}
use Rattle.uc_uses.specs.declared.uses.UseKind.TheVariants.{Define, Procedure, Input}
use Rattle.uc_uses.specs.declared.uses.UseName.{UseName}
use Rattle.uc_uses.specs.declared.table.UseTable.{UseTable}
use Rattle.uc_uses.specs.Tables.{number, use_name}

abbrev pub flag_of : List Bool → Option ℕ → Bool
flag_of flags None = false
flag_of flags (Some n) = slice_index_or flags n false

-- whether a use has a flag
abbrev pub is_flagged : UseTable → List Bool → UseName → Bool
is_flagged u flags name = flag_of flags (number u name)

abbrev pub noted_binding : UseTable → List Bool → ℕ → Binding → List Fault
noted_binding u flags j b = breaks_where (is_flagged u flags (use_name Input j b.identifier.name)) Cycle b.identifier.place

abbrev pub noted_bindings : UseTable → List Bool → Option ℕ → List Binding → List Fault
noted_bindings u flags None bs = []
noted_bindings u flags (Some j) bs = flat_map (noted_binding u flags j) bs

abbrev pub noted : InstanceTree → UseTable → List Bool → ℕ → Decl → List Fault
noted t u flags k (DefineDecl place i ps type body) = breaks_where (is_flagged u flags (use_name Define k i.name)) Cycle place
noted t u flags k (ProcedureDecl place p) = breaks_where (is_flagged u flags (use_name Procedure k p.identifier.name)) Cycle place
noted t u flags k (Instance place i n bs) = noted_bindings u flags (joined (instance_at t k i.name)) bs
noted t u flags k other = []

abbrev pub noted_in : InstanceTree → UseTable → List Bool → ℕ → Option Node → List Fault
noted_in t u flags k None = []
noted_in t u flags k (Some n) = flat_map (noted t u flags k) n.code.now.decls

unfoldable pub noted_at : InstanceTree → UseTable → List Bool → ℕ → List Fault
noted_at t u flags k = noted_in t u flags k (slice_get t.nodes k)

unfoldable pub numbers_below : ℕ → List ℕ
numbers_below zero = []
numbers_below (suc n) = numbers_below n ++ n ∷ []

-- the faults of all nodes
unfoldable pub noted_all : InstanceTree → UseTable → List Bool → List Fault
noted_all t u flags = flat_map (noted_at t u flags) (numbers_below (length t.nodes))
