-- What a `print_cex` prints: the numbers of failed lines, and cells of the one module.
use Rattle.std.proofs.Common.{◌≡◌, ℕ, ◌+◌, Bool, true, false, ◌&&◌, cond, List, [], ◌∷◌, ◌++◌, map, refl, sym, ap, ◌∙◌, Option, Some, None}
use Rattle.std.specs.Prelude.{unwrap_or}
use Rattle.std.specs.Option.{option_and_then}
use Rattle.std.specs.List.{list_all, filter, flat_map, position_from}
use Rattle.std.proofs.lemmas.List.{append-nil}
use Rattle.uc_lexer.specs.declared.place.Place.{Place}
use Rattle.uc_syntax.specs.declared.place.Identifier.{Identifier}
use Rattle.uc_syntax.specs.declared.type_expression.TypeExpr.{TypeExpr}
use Rattle.uc_syntax.specs.declared.declaration.VariableKind.{VariableKind}
use Rattle.uc_syntax.specs.declared.declaration.VariableKind.TheVariants.{Variable, Input, Output, Constant}
use Rattle.uc_syntax.specs.declared.declaration.Command.{Command}
use Rattle.uc_syntax.specs.declared.declaration.Decl.{Decl}
use Rattle.uc_syntax.specs.declared.declaration.Decl.TheVariants.{Variables}
use Rattle.uc_syntax.specs.declared.declaration.Module.{Module}
use Rattle.uc_values.proofs.Shapes.{and_true}
use Rattle.uc_meaning.specs.Lookup.{System, module_from, module_at}
use Rattle.uc_meaning.specs.Cells.{main_instance, instances, is_cell}
use Rattle.uc_meaning.specs.Lines.{numbered, commands_of, main_declarations}
use Rattle.uc_flat_design.specs.Names.{StandsAlone}
use Rattle.uc_flat_design.proofs.Cells.{alone_instances}
use Rattle.uc_flat_making.proofs.Answered.{stands_alone}
use Rattle.uc_runnable.specs.Commands.{is_own_path, are_own_paths}
use Rattle.uc_runnable.specs.Runnable.{IsRunnable}
use Rattle.uc_report.specs.declared.cell.CellRef.{CellRef}
use Rattle.uc_report.specs.declared.report.LineResult.{LineResult}
use Rattle.uc_report.specs.declared.report.Print.{Print}
use Rattle.uc_report.specs.declared.report.Print.TheVariants.{Cex}
use Rattle.uc_report.specs.Reports.{is_failed}
use Rattle.uc_report.specs.Prints.{failed_where, is_run_named, is_of_command, failed_lines, refs_in, all_cells, declares, cell_behind, cells_shown}
use Rattle.uc_judge.specs.declared.failed.Wanted.{Wanted}
use Rattle.uc_judge.specs.Prints.{is_wanted, failed_at, wanted_by, own_ref, refs_of, declared_refs, own_refs, named_refs, shown_refs}
use Rattle.uc_judge.proofs.Controls.{only_declarations}

-- ---- failed lines

by_verdict : (l : ℕ × LineResult) (b : Bool) (kept : List (ℕ × LineResult)) (rest : List ℕ) → map (λ (m : ℕ × LineResult). m.0) kept ≡ rest
    → map (λ (m : ℕ × LineResult). m.0) (cond b (l ∷ kept) kept) ≡ cond b (l.0 ∷ []) [] ++ rest
by_verdict l true kept rest e = ap (λ ns. l.0 ∷ ns) e
by_verdict l false kept rest e = e

each_failed : (wanted : Wanted) (ls : List (ℕ × LineResult)) → map (λ (l : ℕ × LineResult). l.0) (filter (λ (l : ℕ × LineResult). is_failed l.1.verdict && is_wanted wanted l) ls) ≡ flat_map (failed_at wanted) ls
each_failed wanted [] = refl
each_failed wanted (l ∷ ls) =
    by_verdict l (is_failed l.1.verdict && is_wanted wanted l) (filter (λ (m : ℕ × LineResult). is_failed m.1.verdict && is_wanted wanted m) ls) (flat_map (failed_at wanted) ls) (each_failed wanted ls)

-- the numbers of the failed lines that are wanted, one line after another
pub failed_one_by_one : (wanted : Wanted) (lines : List LineResult) → failed_where (is_wanted wanted) lines ≡ flat_map (failed_at wanted) (numbered 0 lines)
failed_one_by_one wanted lines = each_failed wanted (numbered 0 lines)

-- those of the command of a name, or of the last `check`
failed_by : (system : System) (commands : List Command) (lines : List LineResult) (first end : ℕ) (name : Option Identifier) → commands ≡ commands_of system
    → failed_where (is_wanted (wanted_by commands first end name)) lines ≡ failed_lines system lines first end name
failed_by system commands lines first end None are = refl
failed_by system commands lines first end (Some f) are = ap (λ cs. failed_where (λ l. is_of_command l.1.command (position_from (is_run_named f.name) 0 cs)) lines) are

-- ---- cells

module _ (system : System) (code : Module) (alone : StandsAlone system code) where
  all_kept : (n : ℕ) (ids : List Identifier) → map (λ (i : Identifier). record { path = []; decl = n; name = i.name }) (filter (λ (i : Identifier). true) ids) ≡ flat_map (own_ref n) ids
  all_kept n [] = refl
  all_kept n (i ∷ ids) = ap (λ rs. own_ref n i ++ rs) (all_kept n ids)

  none_kept : (n : ℕ) (ids : List Identifier) → map (λ (i : Identifier). record { path = []; decl = n; name = i.name }) (filter (λ (i : Identifier). false) ids) ≡ refs_of n Constant ids
  none_kept n [] = refl
  none_kept n (i ∷ ids) = none_kept n ids

  by_kind : (n : ℕ) (place : Place) (kind : VariableKind) (ids : List Identifier) (type : TypeExpr) → refs_in (main_instance code) (n, Variables place kind ids type) ≡ declared_refs (n, Variables place kind ids type)
  by_kind n place Variable ids type = all_kept n ids
  by_kind n place Input ids type = all_kept n ids
  by_kind n place Output ids type = all_kept n ids
  by_kind n place Constant ids type = none_kept n ids

  declared_there : (n : ℕ) (d : Decl) → refs_in (main_instance code) (n, d) ≡ declared_refs (n, d)
  declared_there n (Variables place kind ids type) = by_kind n place kind ids type
  declared_there n other = refl

  refs_there : (n : ℕ) (ds : List Decl) → flat_map (refs_in (main_instance code)) (numbered n ds) ≡ flat_map declared_refs (numbered n ds)
  unfolding numbered
  refs_there n [] = refl
  refs_there n (d ∷ ds) = (λ i. declared_there n d i ++ refs_there (n + 1) ds i)

  all_shown : all_cells system ≡ own_refs code.decls
  unfolding all_cells
  all_shown =
      ap (flat_map (λ here. flat_map (refs_in here) (numbered 0 here.code.decls))) (alone_instances system code alone)
      ∙ append-nil (flat_map (refs_in (main_instance code)) (numbered 0 code.decls))
      ∙ refs_there 0 code.decls

  main_at_top : module_at system [] ≡ Some code
  unfolding module_from
  main_at_top = ap (λ m. option_and_then (λ c. module_from system c []) m) alone.main

  named_there : (path : List Identifier) → is_own_path path ≡ true → cell_behind system [] path ≡ named_refs code.decls path
  unfolding cell_behind
  named_there [] h = cc
  named_there (i ∷ []) h = ap (λ m. record { path = []; decl = unwrap_or (option_and_then (λ c. position_from (declares i.name) 0 c.decls) m) 0; name = i.name } ∷ []) main_at_top
  named_there (i ∷ (j ∷ rest)) h = cc

  written_there : (paths : List (List Identifier)) → list_all is_own_path paths ≡ true → flat_map (cell_behind system []) paths ≡ flat_map (named_refs code.decls) paths
  written_there [] h = refl
  written_there (p ∷ ps) h = (λ i. named_there p (and_true h).0 i ++ written_there ps (and_true h).1 i)

  cells_there : (paths : Option (List (List Identifier))) → are_own_paths paths ≡ true → cells_shown system paths ≡ shown_refs code.decls paths
  cells_there None h = all_shown
  cells_there (Some []) h = all_shown
  cells_there (Some (p ∷ ps)) h = written_there (p ∷ ps) h

-- ---- the print

pub counterexamples_are : (system : System) (commands : List Command) (lines : List LineResult) (first end : ℕ) (name : Option Identifier) (paths : Option (List (List Identifier))) (decls : List Decl) (numbers : List ℕ) (refs : List CellRef)
    → IsRunnable system → commands ≡ commands_of system → are_own_paths paths ≡ true → decls ≡ main_declarations system → numbers ≡ failed_where (is_wanted (wanted_by commands first end name)) lines → refs ≡ shown_refs decls paths
    → Cex numbers refs ≡ Cex (failed_lines system lines first end name) (cells_shown system paths)
counterexamples_are system commands lines first end name paths decls numbers refs r are own main failed shown =
    let f = r.over.is_flat in
    let alone : StandsAlone system r.over.code = stands_alone system r.over.code f.only f.first f.declarations in
    let here : decls ≡ r.over.code.decls = main ∙ only_declarations system r.over.code f.only f.first in
    let cells : refs ≡ cells_shown system paths = shown ∙ ap (λ ds. shown_refs ds paths) here ∙ sym (cells_there system r.over.code alone paths own) in
    (λ i. Cex ((failed ∙ failed_by system commands lines first end name are) i) (cells i))
