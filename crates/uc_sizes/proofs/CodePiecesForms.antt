-- How large each form of a statement is, by its parts.
use Rattle.std.proofs.Common.{◌≡◌, ℕ, ◌+◌, ◌*◌, Bool, true, false, List, [], ◌∷◌, ◌++◌, length, map, Option, None, Some, refl, ap, ◌∙◌, sym, arith, zero-add}
use Rattle.std.specs.Prelude.{if◌then◌else◌}
use Rattle.std.specs.List.{flat_map}
use Rattle.uc_lexer.specs.declared.place.Place.{Place}
use Rattle.uc_syntax.specs.declared.place.Identifier.{Identifier}
use Rattle.uc_syntax.specs.declared.type_expression.TypeExpr.{TypeExpr}
use Rattle.uc_syntax.specs.declared.expression.Expr.{Expr}
use Rattle.uc_syntax.specs.declared.statement.Target.{Target}
use Rattle.uc_syntax.specs.declared.statement.TargetPart.{TargetPart}
use Rattle.uc_syntax.specs.declared.statement.RangeBound.{RangeBound}
use Rattle.uc_syntax.specs.declared.statement.Arm.{Arm}
use Rattle.uc_syntax.specs.declared.statement.Stmt.{Stmt}
use Rattle.uc_syntax.specs.declared.statement.Stmt.TheOpen.{Stmt-F}
use Rattle.uc_syntax.specs.declared.statement.Stmt.TheOpen.Stmt-F.{Local as LocalForm, Skip as SkipForm, Block as BlockForm, Assert as AssertForm, Assume as AssumeForm, Havoc as HavocForm, Assign as AssignForm, If as IfForm, Case as CaseForm, For as ForForm, Call as CallForm, Next as NextForm}
use Rattle.uc_syntax.specs.declared.statement.Stmt.TheViews.{roll-Stmt, Block, If, Case, For}
use Rattle.uc_syntax.specs.declared.statement.Stmt.TheVariants.{Local, Skip, Assert, Assume, Havoc, Assign, Call, Next}
use Rattle.uc_syntax.specs.declared.statement.Stmt.TheFolds.{fold-roll-Stmt}
use Rattle.uc_meaning.specs.Code.{turns}
use Rattle.uc_order_rules.specs.Mentions.{part_index, target_indices}
use Rattle.uc_order_rules.specs.Sizes.{Size, arm_sizes, nodes, plus, size, size_by, size_form, sum, times, total}
use Rattle.uc_sizes.specs.declared.pieces.Repeated.{Repeated}
use Rattle.uc_sizes.specs.declared.pieces.Piece.TheVariants.{Statement, Call as CallPiece, Step}
use Rattle.uc_sizes.specs.Pieces.{Adds, AreOf, Setting, amount, cut, weight, arm_amount, arms_amount, code_amount, expression_amount, expressions_amount, piece_amount, statement_amount, statement_size}

abbrev of : Bool → Size → ℕ
of b s = if b then s.nodes else s.statements

of_plus : (b : Bool) (x y : Size) → of b (plus x y) ≡ of b x + of b y
of_plus true x y = refl
of_plus false x y = refl

of_times : (b : Bool) (n : ℕ) (x : Size) → of b (times n x) ≡ n * of b x
of_times true n x = refl
of_times false n x = refl

of_none : (b : Bool) → of b (size 0 0) ≡ 0
of_none true = refl
of_none false = refl

of_both : (b : Bool) (n : ℕ) → of b (size 1 n) ≡ of b (size 1 0) + of b (size 0 n)
of_both true n = omega arith
of_both false n = omega arith

of_more : (b : Bool) (m n : ℕ) → of b (size 0 (m + n)) ≡ of b (size 0 m) + of b (size 0 n)
of_more true m n = refl
of_more false m n = refl

expressions_join : (c : Setting) (es ds : List Expr) → expressions_amount (es ++ ds) c ≡ expressions_amount es c + expressions_amount ds c
expressions_join c [] ds = sym (zero-add _)
expressions_join c (e ∷ es) ds = let h = expressions_join c es ds in omega (arith, h)

add_none : (n : ℕ) → n + 0 ≡ n
add_none n = omega arith

pub one_expression : (c : Setting) (e : Expr) → expressions_amount (e ∷ []) c ≡ expression_amount c e
one_expression c e = add_none (expression_amount c e)

-- the indices of a part of a target, and of a target
abbrev pub part_amount : Setting → TargetPart → ℕ
part_amount c p = expressions_amount (part_index p) c

abbrev pub target_amount : Setting → Target → ℕ
target_amount c t = expressions_amount (flat_map part_index t.parts) c

pub parts_amount : (c : Setting) (ps : List TargetPart) → expressions_amount (flat_map part_index ps) c ≡ total (map (part_amount c) ps)
parts_amount c [] = refl
parts_amount c (p ∷ ps) = expressions_join c (part_index p) (flat_map part_index ps) ∙ ap (λ n. part_amount c p + n) (parts_amount c ps)

pub targets_amount : (c : Setting) (ts : List Target) → expressions_amount (target_indices ts) c ≡ total (map (target_amount c) ts)
targets_amount c [] = refl
targets_amount c (t ∷ ts) = expressions_join c (flat_map part_index t.parts) (target_indices ts) ∙ ap (λ n. target_amount c t + n) (targets_amount c ts)

module _ (c : Setting) where
  abbrev one : ℕ
  one = piece_amount c Statement

  form : Stmt-F Size → Size
  form = size_form c.system c.blocks c.path

  of_expressions : (es : List Expr) → amount c (size 0 (total (map (nodes c.system c.path) es))) ≡ expressions_amount es c
  of_expressions [] = of_none c.of_nodes
  of_expressions (e ∷ es) = of_more c.of_nodes (nodes c.system c.path e) (total (map (nodes c.system c.path) es)) ∙ ap (λ n. expression_amount c e + n) (of_expressions es)

  of_statement : (es : List Expr) → amount c (size 1 (total (map (nodes c.system c.path) es))) ≡ one + expressions_amount es c
  of_statement es = of_both c.of_nodes (total (map (nodes c.system c.path) es)) ∙ ap (λ n. one + n) (of_expressions es)

  of_code : (code : List Stmt) → amount c (sum (map (statement_size c) code)) ≡ code_amount c code
  unfolding sum
  of_code [] = of_none c.of_nodes
  of_code (s ∷ code) = of_plus c.of_nodes (statement_size c s) (sum (map (statement_size c) code)) ∙ ap (λ n. statement_amount c s + n) (of_code code)

  through : Arm Stmt → Arm Size
  through a = record { condition = a.condition; body = map (statement_size c) a.body }

  arm_size : Arm Size → Size
  arm_size a = plus (size 0 (nodes c.system c.path a.condition)) (sum a.body)

  of_arms : (as' : List (Arm Stmt)) → amount c (sum (map arm_size (map through as'))) ≡ arms_amount as' c
  unfolding sum through arm_size
  of_arms [] = of_none c.of_nodes
  of_arms (a ∷ as') =
      of_plus c.of_nodes (arm_size (through a)) (sum (map arm_size (map through as')))
      ∙ (λ k. (of_plus c.of_nodes (size 0 (nodes c.system c.path a.condition)) (sum (map (statement_size c) a.body)) ∙ ap (λ n. expression_amount c a.condition + n) (of_code a.body)) k + of_arms as' k)

  of_choice : (as' : List (Arm Stmt)) (code : List Stmt) → amount c (arm_sizes c.system c.path (map through as') (Some (map (statement_size c) code))) ≡ arms_amount as' c + code_amount c code
  unfolding arm_size
  of_choice as' code = of_plus c.of_nodes (sum (map arm_size (map through as'))) (sum (map (statement_size c) code)) ∙ (λ k. of_arms as' k + of_code code k)

  of_choice_alone : (as' : List (Arm Stmt)) → amount c (arm_sizes c.system c.path (map through as') None) ≡ arms_amount as' c
  unfolding arm_size
  of_choice_alone as' = of_plus c.of_nodes (sum (map arm_size (map through as'))) (size 0 0) ∙ (λ k. of_arms as' k + of_none c.of_nodes k) ∙ add_none (arms_amount as' c)

  pub form_local : (place : Place) (names : List Identifier) (type : TypeExpr) → statement_amount c (Local place names type) ≡ one
  unfolding statement_size form roll-Stmt denote.Hole.Carrier.roll
  form_local place names type = ap (amount c) (fold-roll-Stmt Size form (LocalForm place names type))

  pub form_skip : (place : Place) → statement_amount c (Skip place) ≡ one
  unfolding statement_size form roll-Stmt denote.Hole.Carrier.roll
  form_skip place = ap (amount c) (fold-roll-Stmt Size form (SkipForm place))

  pub form_havoc : (place : Place) (i : Identifier) (primed : Bool) → statement_amount c (Havoc place i primed) ≡ one
  unfolding statement_size form roll-Stmt denote.Hole.Carrier.roll
  form_havoc place i primed = ap (amount c) (fold-roll-Stmt Size form (HavocForm place i primed))

  pub form_assert : (place : Place) (name : Option Identifier) (e : Expr) → statement_amount c (Assert place name e) ≡ one + expressions_amount (e ∷ []) c
  unfolding statement_size form roll-Stmt denote.Hole.Carrier.roll
  form_assert place name e = ap (amount c) (fold-roll-Stmt Size form (AssertForm place name e)) ∙ of_statement (e ∷ [])

  pub form_assume : (place : Place) (e : Expr) → statement_amount c (Assume place e) ≡ one + expressions_amount (e ∷ []) c
  unfolding statement_size form roll-Stmt denote.Hole.Carrier.roll
  form_assume place e = ap (amount c) (fold-roll-Stmt Size form (AssumeForm place e)) ∙ of_statement (e ∷ [])

  pub form_assign : (place : Place) (targets : List Target) (sources : List Expr) → statement_amount c (Assign place targets sources) ≡ one + (expressions_amount (target_indices targets) c + expressions_amount sources c)
  unfolding statement_size form roll-Stmt denote.Hole.Carrier.roll
  form_assign place targets sources =
      ap (amount c) (fold-roll-Stmt Size form (AssignForm place targets sources)) ∙ of_statement (target_indices targets ++ sources) ∙ ap (λ n. one + n) (expressions_join c (target_indices targets) sources)

  pub form_call : (place : Place) (targets : List Target) (i : Identifier) (arguments : List Expr) →
      statement_amount c (Call place targets i arguments) ≡ one + (expressions_amount (target_indices targets) c + (expressions_amount arguments c + piece_amount c (CallPiece i.name)))
  unfolding statement_size form roll-Stmt denote.Hole.Carrier.roll
  form_call place targets i arguments =
      ap (amount c) (fold-roll-Stmt Size form (CallForm place targets i arguments))
      ∙ of_plus c.of_nodes (size 1 (total (map (nodes c.system c.path) (target_indices targets ++ arguments)))) _
      ∙ ap (λ n. n + piece_amount c (CallPiece i.name)) (of_statement (target_indices targets ++ arguments) ∙ ap (λ n. one + n) (expressions_join c (target_indices targets) arguments))
      ∙ regroup one (expressions_amount (target_indices targets) c) (expressions_amount arguments c) (piece_amount c (CallPiece i.name))
    where
      regroup : (x y z w : ℕ) → (x + (y + z)) + w ≡ x + (y + (z + w))
      regroup x y z w = omega arith

  pub form_next : (place : Place) (i : Identifier) → statement_amount c (Next place i) ≡ one + piece_amount c (Step i.name)
  unfolding statement_size form roll-Stmt denote.Hole.Carrier.roll
  form_next place i = ap (amount c) (fold-roll-Stmt Size form (NextForm place i)) ∙ of_plus c.of_nodes (size 1 0) _

  pub form_block : (place : Place) (code : List Stmt) → statement_amount c (Block place code) ≡ one + code_amount c code
  unfolding statement_size form roll-Stmt denote.Hole.Carrier.roll
  form_block place code = ap (amount c) (fold-roll-Stmt Size form (BlockForm place code)) ∙ of_plus c.of_nodes (size 1 0) _ ∙ ap (λ n. one + n) (of_code code)

  pub form_for : (place : Place) (i : Identifier) (type : Option TypeExpr) (from : RangeBound) (to : RangeBound) (code : List Stmt) →
      statement_amount c (For place i type from to code) ≡ one + length (turns from to) * code_amount c code
  unfolding statement_size form roll-Stmt denote.Hole.Carrier.roll
  form_for place i type from to code =
      ap (amount c) (fold-roll-Stmt Size form (ForForm place i type from to code)) ∙ of_plus c.of_nodes (size 1 0) _
      ∙ ap (λ n. one + n) (of_times c.of_nodes (length (turns from to)) _ ∙ ap (λ n. length (turns from to) * n) (of_code code))

  pub form_if : (place : Place) (as' : List (Arm Stmt)) (code : List Stmt) → statement_amount c (If place as' (Some code)) ≡ one + (arms_amount as' c + code_amount c code)
  unfolding statement_size form through roll-Stmt denote.Hole.Carrier.roll
  form_if place as' code = ap (amount c) (fold-roll-Stmt Size form (IfForm place as' (Some code))) ∙ of_plus c.of_nodes (size 1 0) _ ∙ ap (λ n. one + n) (of_choice as' code)

  pub form_if_alone : (place : Place) (as' : List (Arm Stmt)) → statement_amount c (If place as' None) ≡ one + arms_amount as' c
  unfolding statement_size form through roll-Stmt denote.Hole.Carrier.roll
  form_if_alone place as' = ap (amount c) (fold-roll-Stmt Size form (IfForm place as' None)) ∙ of_plus c.of_nodes (size 1 0) _ ∙ ap (λ n. one + n) (of_choice_alone as')

  pub form_case : (place : Place) (as' : List (Arm Stmt)) (code : List Stmt) → statement_amount c (Case place as' (Some code)) ≡ one + (arms_amount as' c + code_amount c code)
  unfolding statement_size form through roll-Stmt denote.Hole.Carrier.roll
  form_case place as' code = ap (amount c) (fold-roll-Stmt Size form (CaseForm place as' (Some code))) ∙ of_plus c.of_nodes (size 1 0) _ ∙ ap (λ n. one + n) (of_choice as' code)

  pub form_case_alone : (place : Place) (as' : List (Arm Stmt)) → statement_amount c (Case place as' None) ≡ one + arms_amount as' c
  unfolding statement_size form through roll-Stmt denote.Hole.Carrier.roll
  form_case_alone place as' = ap (amount c) (fold-roll-Stmt Size form (CaseForm place as' None)) ∙ of_plus c.of_nodes (size 1 0) _ ∙ ap (λ n. one + n) (of_choice_alone as')

  pub code_same : (code : List Stmt) → amount c (size_by c.system c.blocks c.path code) ≡ code_amount c code
  unfolding size_by statement_size
  code_same code = of_code code

-- The same for a statement whose form was found, with its parts as they are shown.

module _ (c : Setting) (s form : Stmt) where
  pub alone_is : s ≡ form → statement_amount c form ≡ piece_amount c Statement → statement_amount c s ≡ piece_amount c Statement
  alone_is is has = ap (statement_amount c) is ∙ has

  pub block_is : (code shown : List Stmt) → s ≡ form → statement_amount c form ≡ piece_amount c Statement + code_amount c code → shown ≡ code → statement_amount c s ≡ piece_amount c Statement + code_amount c shown
  block_is code shown is has same = ap (statement_amount c) is ∙ has ∙ ap (λ xs. piece_amount c Statement + code_amount c xs) (sym same)

  pub expression_is : (e : Expr) → s ≡ form → statement_amount c form ≡ piece_amount c Statement + expressions_amount (e ∷ []) c → statement_amount c s ≡ piece_amount c Statement + expression_amount c e
  expression_is e is has = ap (statement_amount c) is ∙ has ∙ ap (λ n. piece_amount c Statement + n) (one_expression c e)

  pub step_is : (i : ℕ) → s ≡ form → statement_amount c form ≡ piece_amount c Statement + piece_amount c (Step i) → statement_amount c s ≡ piece_amount c Statement + piece_amount c (Step i)
  step_is i is has = ap (statement_amount c) is ∙ has

  pub sources_are : (targets shown : List Target) (es shown' : List Expr) → s ≡ form → statement_amount c form ≡ piece_amount c Statement + (expressions_amount (target_indices targets) c + expressions_amount es c) →
      shown ≡ targets → shown' ≡ es → statement_amount c s ≡ piece_amount c Statement + (expressions_amount (target_indices shown) c + expressions_amount shown' c)
  sources_are targets shown es shown' is has same same' =
      ap (statement_amount c) is ∙ has ∙ (λ k. piece_amount c Statement + (expressions_amount (target_indices (sym same k)) c + expressions_amount (sym same' k) c))

  pub call_is : (f : ℕ) (targets shown : List Target) (es shown' : List Expr) → s ≡ form →
      statement_amount c form ≡ piece_amount c Statement + (expressions_amount (target_indices targets) c + (expressions_amount es c + piece_amount c (CallPiece f))) →
      shown ≡ targets → shown' ≡ es → statement_amount c s ≡ piece_amount c Statement + (expressions_amount (target_indices shown) c + (expressions_amount shown' c + piece_amount c (CallPiece f)))
  call_is f targets shown es shown' is has same same' =
      ap (statement_amount c) is ∙ has ∙ (λ k. piece_amount c Statement + (expressions_amount (target_indices (sym same k)) c + (expressions_amount (sym same' k) c + piece_amount c (CallPiece f))))

  pub loop_is : (l : ℕ) (code shown : List Stmt) → s ≡ form → statement_amount c form ≡ piece_amount c Statement + l * code_amount c code → shown ≡ code → statement_amount c s ≡ piece_amount c Statement + l * code_amount c shown
  loop_is l code shown is has same = ap (statement_amount c) is ∙ has ∙ ap (λ xs. piece_amount c Statement + l * code_amount c xs) (sym same)

  pub choice_alone_is : (as' shown : List (Arm Stmt)) → s ≡ form → statement_amount c form ≡ piece_amount c Statement + arms_amount as' c → shown ≡ as' → statement_amount c s ≡ piece_amount c Statement + arms_amount shown c
  choice_alone_is as' shown is has same = ap (statement_amount c) is ∙ has ∙ ap (λ xs. piece_amount c Statement + arms_amount xs c) (sym same)

  pub choice_is : (as' shown : List (Arm Stmt)) (code shown' : List Stmt) → s ≡ form → statement_amount c form ≡ piece_amount c Statement + (arms_amount as' c + code_amount c code) → shown ≡ as' → shown' ≡ code →
      statement_amount c s ≡ piece_amount c Statement + (arms_amount shown c + code_amount c shown')
  choice_is as' shown code shown' is has same same' = ap (statement_amount c) is ∙ has ∙ (λ k. piece_amount c Statement + (arms_amount (sym same k) c + code_amount c (sym same' k)))

pub arm_is : (c : Setting) (a : Arm Stmt) (shown : List Stmt) → shown ≡ a.body → arm_amount c a ≡ expression_amount c a.condition + code_amount c shown
arm_is c a shown same = ap (λ xs. expression_amount c a.condition + code_amount c xs) (sym same)

pub pieces_end : (none ps : List Repeated) (code : List Stmt) → none ≡ [] → Adds none ps 1 (λ c. code_amount c code) → AreOf ps code
unfolding Adds
pieces_end none ps code is adds = record {
  same = λ c. adds c ∙ ap (λ xs. cut (weight c xs + 1 * code_amount c code)) is ∙ ap cut (once (code_amount c code) ∙ sym (code_same c code));
}
  where
    once : (n : ℕ) → 0 + 1 * n ≡ n
    once n = omega arith
