-- What each form of a statement does, by its parts.
use Rattle.std.proofs.Common.{◌≡◌, ℕ, ◌-◌, ◌^◌, ◌<◌, Bool, List, [], ◌∷◌, ◌++◌, map, length, Option, None, Some, refl, ap, sym, ◌∙◌, arith}
use Rattle.std.specs.Prelude.{min}
use Rattle.std.specs.List.{flat_map}
use Rattle.std.proofs.lemmas.Grind.{flat_map-append}
use Rattle.std.proofs.lemmas.List.{map-append}
use Rattle.uc_lexer.specs.declared.place.Place.{Place}
use Rattle.uc_syntax.specs.declared.place.Identifier.{Identifier}
use Rattle.uc_syntax.specs.declared.type_expression.TypeExpr.{TypeExpr}
use Rattle.uc_syntax.specs.declared.expression.Expr.{Expr}
use Rattle.uc_syntax.specs.declared.statement.Target.{Target}
use Rattle.uc_syntax.specs.declared.statement.RangeBound.{RangeBound}
use Rattle.uc_syntax.specs.declared.statement.Arm.{Arm}
use Rattle.uc_syntax.specs.declared.statement.Stmt.{Stmt}
use Rattle.uc_syntax.specs.declared.statement.Stmt.TheOpen.{Stmt-F}
use Rattle.uc_syntax.specs.declared.statement.Stmt.TheOpen.Stmt-F.{Local as LocalForm, Skip as SkipForm, Block as BlockForm, Assert as AssertForm, Assume as AssumeForm, Havoc as HavocForm, Assign as AssignForm, If as IfForm, Case as CaseForm, For as ForForm, Call as CallForm, Next as NextForm}
use Rattle.uc_syntax.specs.declared.statement.Stmt.TheViews.{roll-Stmt, Block, If, Case, For}
use Rattle.uc_syntax.specs.declared.statement.Stmt.TheVariants.{Local, Skip, Assert, Assume, Havoc, Assign, Call, Next}
use Rattle.uc_syntax.specs.declared.statement.Stmt.TheFolds.{fold-roll-Stmt}
use Rattle.uc_syntax.specs.declared.declaration.Procedure.{Procedure as ProcedureParts}
use Rattle.uc_syntax.proofs.Added.{append_nil}
use Rattle.uc_syntax.proofs.Labels.{flat_map_map}
use Rattle.uc_meaning.specs.Lookup.{module_at}
use Rattle.uc_meaning.specs.Cells.{as_list}
use Rattle.uc_meaning.specs.Code.{turns, modifies_of, written_cell}
use Rattle.uc_meaning.specs.Steps.{CellPart, fields_before, part_of_cell}
use Rattle.uc_order_rules.specs.Mentions.{target_indices}
use Rattle.uc_order_rules.specs.Reads.{cells_primed}
use Rattle.uc_order_rules.specs.Writes.{call_parts, modified_names, modified_parts, name_part, target_names, target_part}
use Rattle.uc_order_rules.specs.Dependence.{Piece, Writing, arms_writing, if_turns, primed_in, stepped_piece, writing_form}
use Rattle.uc_step_cycles.specs.Acts.{Setting, cells_of_written}
use Rattle.uc_step_cycles.specs.Walks.{arms_around, arms_piece, code_piece, statement_piece}

-- ---- the cells that are written

part_cells : (fields : List ℕ) (o : Option ℕ) → map (λ (p : CellPart). p.cell) (part_of_cell fields o) ≡ as_list o
part_cells fields None = refl
part_cells fields (Some k) = refl

module _ (s : Setting) where
  abbrev cells_at : ℕ → List ℕ
  cells_at x = as_list (written_cell s.system s.path x)

  abbrev cell : CellPart → ℕ
  cell p = p.cell

  name_cells : (x : ℕ) → map cell (name_part s.system s.path x) ≡ cells_at x
  name_cells x = part_cells [] (written_cell s.system s.path x)

  targets_cells : (ts : List Target) → map cell (flat_map (target_part s.system s.path) ts) ≡ flat_map cells_at (target_names ts)
  targets_cells [] = refl
  targets_cells (t ∷ ts) =
      map-append cell (target_part s.system s.path t) (flat_map (target_part s.system s.path) ts)
      ∙ (λ k. part_cells (fields_before t.parts) (written_cell s.system s.path t.name) k ++ targets_cells ts k)

  names_cells : (xs : List ℕ) → map cell (flat_map (name_part s.system s.path) xs) ≡ flat_map cells_at xs
  names_cells [] = refl
  names_cells (x ∷ xs) = map-append cell (name_part s.system s.path x) (flat_map (name_part s.system s.path) xs) ∙ (λ k. name_cells x k ++ names_cells xs k)

  modified_cells : (o : Option ProcedureParts) → map cell (modified_parts s.system s.path o) ≡ flat_map cells_at (modified_names o)
  modified_cells None = refl
  modified_cells (Some p) = names_cells (modifies_of p)

  pub one_cell : (x : ℕ) → map cell (name_part s.system s.path x) ≡ cells_of_written s (x ∷ [])
  unfolding cells_of_written
  one_cell x = name_cells x ∙ sym (append_nil (cells_at x))

  pub target_cells : (ts : List Target) → map cell (flat_map (target_part s.system s.path) ts) ≡ cells_of_written s (target_names ts)
  unfolding cells_of_written
  target_cells ts = targets_cells ts

  pub call_cells : (ts : List Target) (f : ℕ) (o : Option ProcedureParts) →
      map cell (flat_map (target_part s.system s.path) ts ++ modified_parts s.system s.path o) ≡ cells_of_written s (target_names ts ++ modified_names o)
  unfolding cells_of_written
  call_cells ts f o =
      map-append cell (flat_map (target_part s.system s.path) ts) (modified_parts s.system s.path o)
      ∙ (λ k. targets_cells ts k ++ modified_cells o k)
      ∙ sym (flat_map-append cells_at (target_names ts) (modified_names o))

-- ---- the forms

module _ (s : Setting) where
  form : Stmt-F Piece → Piece
  form = writing_form s.system s.blocks s.path

  abbrev at : List ℕ → Piece → List Writing
  at around p = p around

  through : Arm Stmt → Arm Piece
  through a = record { condition = a.condition; body = map (statement_piece s) a.body }

  abbrev reads : Expr → List ℕ
  reads e = cells_primed s.system s.path e

  of_code : (code : List Stmt) (around : List ℕ) → flat_map (λ (p : Piece). p around) (map (statement_piece s) code) ≡ code_piece s code around
  unfolding code_piece
  of_code code around = flat_map_map (λ (p : Piece). p around) (statement_piece s) code

  of_arms : (as' : List (Arm Stmt)) (code : List Stmt) (around : List ℕ) →
      arms_writing s.system s.path (map through as') (Some (map (statement_piece s) code)) around ≡ arms_piece s as' around ++ code_piece s code (arms_around s as' around)
  unfolding arms_writing arms_piece arms_around through
  of_arms [] code around = of_code code around
  of_arms (a ∷ as') code around =
      (λ k. of_code a.body (around ++ reads a.condition) k ++ of_arms as' code (around ++ reads a.condition) k)
      ∙ sym (append_three (code_piece s a.body (around ++ reads a.condition)) (arms_piece s as' (around ++ reads a.condition)) (code_piece s code (arms_around s as' (around ++ reads a.condition))))
    where
      append_three : {A : Type 0} (xs ys zs : List A) → (xs ++ ys) ++ zs ≡ xs ++ (ys ++ zs)
      append_three [] ys zs = refl
      append_three (x ∷ xs) ys zs = ap (λ ws. x ∷ ws) (append_three xs ys zs)

  of_arms_alone : (as' : List (Arm Stmt)) (around : List ℕ) → arms_writing s.system s.path (map through as') None around ≡ arms_piece s as' around
  unfolding arms_writing arms_piece through
  of_arms_alone [] around = refl
  of_arms_alone (a ∷ as') around = (λ k. of_code a.body (around ++ reads a.condition) k ++ of_arms_alone as' (around ++ reads a.condition) k)

  pub form_local : (place : Place) (names : List Identifier) (type : TypeExpr) (around : List ℕ) → statement_piece s (Local place names type) around ≡ []
  unfolding statement_piece form roll-Stmt denote.Hole.Carrier.roll
  form_local place names type around = ap (at around) (fold-roll-Stmt Piece form (LocalForm place names type))

  pub form_skip : (place : Place) (around : List ℕ) → statement_piece s (Skip place) around ≡ []
  unfolding statement_piece form roll-Stmt denote.Hole.Carrier.roll
  form_skip place around = ap (at around) (fold-roll-Stmt Piece form (SkipForm place))

  pub form_assert : (place : Place) (name : Option Identifier) (e : Expr) (around : List ℕ) → statement_piece s (Assert place name e) around ≡ []
  unfolding statement_piece form roll-Stmt denote.Hole.Carrier.roll
  form_assert place name e around = ap (at around) (fold-roll-Stmt Piece form (AssertForm place name e))

  pub form_assume : (place : Place) (e : Expr) (around : List ℕ) → statement_piece s (Assume place e) around ≡ []
  unfolding statement_piece form roll-Stmt denote.Hole.Carrier.roll
  form_assume place e around = ap (at around) (fold-roll-Stmt Piece form (AssumeForm place e))

  pub form_havoc : (place : Place) (i : Identifier) (primed : Bool) (around : List ℕ) →
      statement_piece s (Havoc place i primed) around ≡ record { place = place; written = map (λ (p : CellPart). p.cell) (name_part s.system s.path i.name); reads = around } ∷ []
  unfolding statement_piece form roll-Stmt denote.Hole.Carrier.roll
  form_havoc place i primed around = ap (at around) (fold-roll-Stmt Piece form (HavocForm place i primed))

  pub form_assign : (place : Place) (targets : List Target) (sources : List Expr) (around : List ℕ) →
      statement_piece s (Assign place targets sources) around
      ≡ record { place = place; written = map (λ (p : CellPart). p.cell) (flat_map (target_part s.system s.path) targets); reads = around ++ primed_in s.system s.path (target_indices targets ++ sources) } ∷ []
  unfolding statement_piece form roll-Stmt denote.Hole.Carrier.roll
  form_assign place targets sources around = ap (at around) (fold-roll-Stmt Piece form (AssignForm place targets sources))

  pub form_call : (place : Place) (targets : List Target) (i : Identifier) (arguments : List Expr) (around : List ℕ) →
      statement_piece s (Call place targets i arguments) around
      ≡ record { place = place; written = map (λ (p : CellPart). p.cell) (call_parts s.system s.path targets i.name); reads = around ++ primed_in s.system s.path (target_indices targets ++ arguments) } ∷ []
  unfolding statement_piece form roll-Stmt denote.Hole.Carrier.roll
  form_call place targets i arguments around = ap (at around) (fold-roll-Stmt Piece form (CallForm place targets i arguments))

  pub form_next : (place : Place) (i : Identifier) (around : List ℕ) →
      statement_piece s (Next place i) around ≡ stepped_piece s.blocks (s.path ++ i.name ∷ []) (module_at s.system (s.path ++ i.name ∷ [])) around
  unfolding statement_piece form roll-Stmt denote.Hole.Carrier.roll
  form_next place i around = ap (at around) (fold-roll-Stmt Piece form (NextForm place i))

  pub form_block : (place : Place) (code : List Stmt) (around : List ℕ) → statement_piece s (Block place code) around ≡ code_piece s code around
  unfolding statement_piece form roll-Stmt denote.Hole.Carrier.roll
  form_block place code around = ap (at around) (fold-roll-Stmt Piece form (BlockForm place code)) ∙ of_code code around

  for_form : (place : Place) (i : Identifier) (type : Option TypeExpr) (from : RangeBound) (to : RangeBound) (code : List Stmt) (around : List ℕ) →
      statement_piece s (For place i type from to code) around ≡ if_turns (turns from to) (λ a. flat_map (λ (p : Piece). p a) (map (statement_piece s) code)) around
  unfolding statement_piece form roll-Stmt denote.Hole.Carrier.roll
  for_form place i type from to code around = ap (at around) (fold-roll-Stmt Piece form (ForForm place i type from to code))

  pub form_if : (place : Place) (as' : List (Arm Stmt)) (code : List Stmt) (around : List ℕ) →
      statement_piece s (If place as' (Some code)) around ≡ arms_piece s as' around ++ code_piece s code (arms_around s as' around)
  unfolding statement_piece form through roll-Stmt denote.Hole.Carrier.roll
  form_if place as' code around = ap (at around) (fold-roll-Stmt Piece form (IfForm place as' (Some code))) ∙ of_arms as' code around

  pub form_if_alone : (place : Place) (as' : List (Arm Stmt)) (around : List ℕ) → statement_piece s (If place as' None) around ≡ arms_piece s as' around
  unfolding statement_piece form through roll-Stmt denote.Hole.Carrier.roll
  form_if_alone place as' around = ap (at around) (fold-roll-Stmt Piece form (IfForm place as' None)) ∙ of_arms_alone as' around

  pub form_case : (place : Place) (as' : List (Arm Stmt)) (code : List Stmt) (around : List ℕ) →
      statement_piece s (Case place as' (Some code)) around ≡ arms_piece s as' around ++ code_piece s code (arms_around s as' around)
  unfolding statement_piece form through roll-Stmt denote.Hole.Carrier.roll
  form_case place as' code around = ap (at around) (fold-roll-Stmt Piece form (CaseForm place as' (Some code))) ∙ of_arms as' code around

  pub form_case_alone : (place : Place) (as' : List (Arm Stmt)) (around : List ℕ) → statement_piece s (Case place as' None) around ≡ arms_piece s as' around
  unfolding statement_piece form through roll-Stmt denote.Hole.Carrier.roll
  form_case_alone place as' around = ap (at around) (fold-roll-Stmt Piece form (CaseForm place as' None)) ∙ of_arms_alone as' around

  turned : {A : Type 0} (vs : List A) (n : ℕ) (code : List Stmt) (around : List ℕ) → n ≡ min (length vs) (2 ^ 128 - 1) → 0 < n →
      if_turns vs (λ a. flat_map (λ (p : Piece). p a) (map (statement_piece s) code)) around ≡ code_piece s code around
  turned [] n code around is some = absurd (omega (arith, is, some))
  turned (v ∷ vs) n code around is some = of_code code around

  not_turned : {A : Type 0} (vs : List A) (n : ℕ) (code : List Stmt) (around : List ℕ) → n ≡ min (length vs) (2 ^ 128 - 1) → n ≡ 0 →
      if_turns vs (λ a. flat_map (λ (p : Piece). p a) (map (statement_piece s) code)) around ≡ []
  not_turned [] n code around is none = refl
  not_turned (v ∷ vs) n code around is none = absurd (omega (arith, is, none))

  pub form_for : (place : Place) (i : Identifier) (type : Option TypeExpr) (from : RangeBound) (to : RangeBound) (code : List Stmt) (n : ℕ) → n ≡ min (length (turns from to)) (2 ^ 128 - 1) → 0 < n →
      (around : List ℕ) → statement_piece s (For place i type from to code) around ≡ code_piece s code around
  form_for place i type from to code n is some around = for_form place i type from to code around ∙ turned (turns from to) n code around is some

  pub form_for_none : (place : Place) (i : Identifier) (type : Option TypeExpr) (from : RangeBound) (to : RangeBound) (code : List Stmt) (n : ℕ) → n ≡ min (length (turns from to)) (2 ^ 128 - 1) → n ≡ 0 →
      (around : List ℕ) → statement_piece s (For place i type from to code) around ≡ []
  form_for_none place i type from to code n is none around = for_form place i type from to code around ∙ not_turned (turns from to) n code around is none
