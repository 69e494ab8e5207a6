-- The printed words of a statement spell it.
use Rattle.std.specs.Option.{option_map}
use Rattle.std.proofs.Common.{◌≡◌, ℕ, Bool, true, false, List, [], ◌∷◌, Option, Some, None, map, refl, sym, ap, subst, ◌∙◌, ◌⊎◌}
use Rattle.uc_forms.specs.Form.{quiet, Mark, both, either, chain, made, deep, word, after, before}
use Rattle.uc_lexer.specs.declared.place.Place.{Place}
use Rattle.uc_grammar.specs.declared.word.Word.{Word}
use Rattle.uc_grammar.specs.declared.word.Kind.TheVariants as kinds
use Rattle.uc_grammar.specs.Code.{value_in, width_in}
use Rattle.uc_grammar.specs.Syntax.{F, rule, listed as listed_form, optional, has, new_id, expr, arguments, target_index, negative_bound, block, typed_name, range_bounds, call_targets, label_of, labelled as labelled_form, target_of, target_part, target, targets, bound, statements, arm, if_statement, default_block, case_statement, loop_variable, for_statement, called_targets, call_statement, place_of, statement}
use Rattle.uc_syntax.specs.declared.place.Identifier.{Identifier}
use Rattle.uc_syntax.specs.declared.type_expression.TypeExpr.{TypeExpr}
use Rattle.uc_syntax.specs.declared.expression.Expr.{Expr}
use Rattle.uc_syntax.specs.declared.statement.Arm.{Arm}
use Rattle.uc_syntax.specs.declared.statement.Target.{Target}
use Rattle.uc_syntax.specs.declared.statement.TargetPart.{TargetPart}
use Rattle.uc_syntax.specs.declared.statement.TargetPart.TheVariants.{Field, Element}
use Rattle.uc_syntax.specs.declared.statement.RangeBound.{RangeBound}
use Rattle.uc_syntax.specs.declared.statement.RangeBound.TheVariants.{Number, BitsLiteral}
use Rattle.uc_syntax.specs.declared.statement.Stmt.{Stmt}
use Rattle.uc_syntax.specs.declared.statement.Stmt.TheOpen.{Stmt-F}
use Rattle.uc_syntax.specs.declared.statement.Stmt.TheOpen.Stmt-F.{Local, Skip, Block, Assert, Assume, Havoc, Assign, If, Case, For, Call, Next}
use Rattle.uc_syntax.specs.declared.statement.Stmt.TheVariants as stmts
use Rattle.uc_syntax.specs.declared.statement.Stmt.TheViews as stmt_views
use Rattle.uc_syntax.specs.declared.statement.Stmt.TheViews.{roll-Stmt}
use Rattle.uc_syntax.specs.declared.statement.Stmt.TheFolds.{map-Stmt, fold-roll-Stmt, ind-Stmt}
use Rattle.uc_print_laws.specs.Piece.{name}
use Rattle.uc_print_laws.specs.Printed.{Printed, none, sign, identifier, ◌<+>◌, nested, when, each, listed, has_one, in_parens, nowhere, erased_identifier}
use Rattle.uc_print_laws.specs.Types.{printed_type, erased_type}
use Rattle.uc_print_laws.specs.Expressions.{printed_expr, erased_expr, enclosed, prime}
use Rattle.uc_print_laws.specs.Statements.{part_words, target_words, bound_words, block_words, labelled, arm_words, further_words, else_words, choice_words, case_words, default_words, variable_words, called_words, stmt_form, printed_stmt, erased_part, erased_target, erased_bound, each_arm, arm_nowhere, erase_stmt_form, erased_stmt}
use Rattle.uc_print_laws.specs.PrintedLaw.{Prints}
use Rattle.uc_print_laws.proofs.PrintedWords.{name_code}
use Rattle.uc_print_laws.proofs.PrintedSteps.{s_ahead, s_not_ahead, s_first, s_next, s_a_name, s_optional_none, s_optional_some, s_word, s_both, s_left, s_right, s_made, s_weak, s_after, s_before, s_deep, s_id, s_each, s_listed, s_enclosed, s_until, s_chain, s_chain_some, s_chain_none, IsLeft, IsRight, IsSome, same, never}
use Rattle.uc_print_laws.proofs.Maps.{map_twice, each_over}
use Rattle.uc_print_laws.proofs.TypeLaw.{type_spelled, s_new_id, s_parameter}
use Rattle.uc_print_laws.proofs.ExpressionLaw.{expr_spelled, s_deep_name}

-- ---- targets and bounds

s_part : (t : TargetPart) → Prints target_part (part_words t) (λ u. erased_part u ≡ erased_part t)
unfolding target_part
s_part (Field p i) = s_first (s_made _ (λ x q. ap (λ z. Field nowhere z) q.1) (s_both (s_word kinds.Dot kinds.Dot refl) (s_id i)))
s_part (Element p e) = s_next (s_deep target_index (s_made _ (λ x q. ap (λ z. Element nowhere z) q.1) (s_both (s_word kinds.LeftBracket kinds.LeftBracket refl) (s_before kinds.RightBracket (expr_spelled e)))))

pub s_prime : (b : Bool) → Prints (optional (word kinds.Prime)) (prime b) (λ o. has o ≡ b)
s_prime true = s_optional_some {Q = λ o. has o ≡ true} (s_weak (λ w q. refl) (s_word kinds.Prime kinds.Prime refl))
s_prime false = s_weak (λ o q. ap has q) s_optional_none

target_with : ℕ → Bool → List TargetPart → Target
target_with n b ps = record { place = nowhere; name = n; is_primed = b; parts = ps }

s_target : (t : Target) → Prints target (target_words t) (λ u. erased_target u ≡ erased_target t)
unfolding target target_with
s_target t = s_made target_of (λ x q. ap (λ z. target_with z (has x.1.0) (map erased_part x.1.1)) q.0.1 ∙ ap (λ z. target_with t.name z (map erased_part x.1.1)) q.1.0 ∙ ap (λ z. target_with t.name t.is_primed z) q.1.1)
    (s_both (s_a_name (name t.name) (λ k q. name_code k q.0)) (s_both (s_prime t.is_primed) (s_each target_part erased_part part_words erased_part s_part t.parts)))

s_targets : (ts : List Target) → Prints targets (listed target_words ts) (λ us. map erased_target us ≡ map erased_target ts)
s_targets ts = s_listed target erased_target target_words erased_target s_target ts

pub s_exprs : (es : List Expr) → Prints (listed_form expr) (listed printed_expr es) (λ us. map erased_expr us ≡ map erased_expr es)
s_exprs es = s_listed expr erased_expr printed_expr erased_expr expr_spelled es

pub s_arguments : (es : List Expr) → Prints (deep arguments) (enclosed printed_expr es) (λ us. map erased_expr us ≡ map erased_expr es)
s_arguments es = s_deep arguments (s_enclosed expr erased_expr printed_expr erased_expr expr_spelled es)

number_with : Bool → ℕ → RangeBound
number_with b n = Number nowhere b n

s_bound : (b : RangeBound) → Prints bound (bound_words b) (λ c. erased_bound c ≡ erased_bound b)
unfolding bound
s_bound (Number p true n) = s_first (s_deep negative_bound (s_made _ (λ x q. ap (λ z. Number nowhere true (value_in z)) q.1.1) (s_both (s_word kinds.Minus kinds.Minus refl) (s_word (kinds.Number 0) (kinds.Number n) refl))))
s_bound (Number p false n) = s_next (s_first (s_made _ (λ x q. ap (λ z. Number nowhere false (value_in z)) q.1) (s_word (kinds.Number 0) (kinds.Number n) refl)))
s_bound (BitsLiteral p n w) = s_next (s_next (s_made _ (λ x q. ap (λ z. BitsLiteral nowhere (value_in z) (width_in z)) q.1) (s_word (kinds.BvLit 0 0) (kinds.BvLit n w) refl)))

-- behind a label
pub s_labelled : {A : Type 0} {f : F A} {x : Printed} {Q : A → Type 0} (q : Mark) (o : Option Identifier) → Prints f x Q → Prints (labelled_form q f) (labelled o x) (λ y. (option_map erased_identifier y.0 ≡ option_map erased_identifier o) × Q y.1)
s_labelled {Q = Q} q None p = s_made label_of (λ y r. r) (s_not_ahead {R = λ y. (option_map erased_identifier (label_of y).0 ≡ None) × Q (label_of y).1} (s_weak (λ a r. (refl, r)) p))
s_labelled {Q = Q} q (Some i) p = s_made label_of (λ y r. r) (s_ahead {R = λ y. (option_map erased_identifier (label_of y).0 ≡ Some (erased_identifier i)) × Q (label_of y).1} (name i.name) (λ k r. name_code k r.0)
    (λ w a r b. (ap (λ z. Some (record { place = nowhere; name = z })) r.1, b)) p)

-- ---- statements with what is known of them

abbrev Holds : Stmt → Type 0
Holds s = Prints statement (printed_stmt s) (λ u. erased_stmt u ≡ erased_stmt s)

abbrev Child : Type 0
Child = (s : Stmt) × Holds s

abbrev tree : Child → Stmt
tree c = c.0

abbrev Code : Type 0
Code = List Child

-- a block as printed, and as it is without places
abbrev code_words : Code → Printed
code_words cs = block_words (map printed_stmt (map tree cs))

abbrev code_tree : Code → List Stmt
code_tree cs = map erased_stmt (map tree cs)

abbrev IsCode : Code → List Stmt → Type 0
IsCode cs ss = map erased_stmt ss ≡ code_tree cs

each_code : (cs : Code) → each (λ x. x) (map printed_stmt (map tree cs)) ≡ each (λ c. printed_stmt c.0) cs
each_code cs = each_over printed_stmt (λ x. x) (map tree cs) ∙ each_over tree printed_stmt cs

s_block : (cs : Code) → Prints (rule block) (sign kinds.LeftBrace <+> (each (λ c. printed_stmt c.0) cs <+> sign kinds.RightBrace)) (λ b. IsCode cs b.1)
s_block cs = s_made _ (λ x q. q.1.0 ∙ sym (map_twice tree erased_stmt cs))
    (s_both (s_word kinds.LeftBrace kinds.LeftBrace refl) (s_until statement (word kinds.RightBrace) erased_stmt (λ c. printed_stmt c.0) (λ c. erased_stmt c.0) (λ c. c.1) (sign kinds.RightBrace) _ (s_word kinds.RightBrace kinds.RightBrace refl) cs))

s_deep_block : (cs : Code) → Prints (deep block) (code_words cs) (λ b. IsCode cs b.1)
s_deep_block cs = same (ap (λ z. nested (sign kinds.LeftBrace <+> (z <+> sign kinds.RightBrace))) (sym (each_code cs))) (s_deep block (s_block cs))

s_code : (cs : Code) → Prints statements (code_words cs) (IsCode cs)
s_code cs = s_made _ (λ b q. q) (s_deep_block cs)

-- ---- a layer with each part changed

abbrev arms_in : {X : Type 0} → Stmt-F X → List (Arm X)
arms_in (If p arms o) = arms
arms_in (Case p arms o) = arms
arms_in other = []

abbrev else_in : {X : Type 0} → Stmt-F X → Option (List X)
else_in (If p arms o) = o
else_in (Case p arms o) = o
else_in other = None

if_arms : {A B : Type 0} (f : A → B) (p : Place) (arms : List (Arm A)) (o : Option (List A)) → arms_in (map-Stmt A B f (If p arms o)) ≡ map (each_arm f) arms
if_arms f p [] o = refl
if_arms f p (a ∷ arms) o = ap (λ z. each_arm f a ∷ z) (if_arms f p arms o)

if_else : {A B : Type 0} (f : A → B) (p : Place) (arms : List (Arm A)) (o : Option (List A)) → else_in (map-Stmt A B f (If p arms o)) ≡ option_map (map f) o
if_else f p arms None = refl
if_else f p arms (Some xs) = refl

case_arms : {A B : Type 0} (f : A → B) (p : Place) (arms : List (Arm A)) (o : Option (List A)) → arms_in (map-Stmt A B f (Case p arms o)) ≡ map (each_arm f) arms
case_arms f p [] o = refl
case_arms f p (a ∷ arms) o = ap (λ z. each_arm f a ∷ z) (case_arms f p arms o)

case_else : {A B : Type 0} (f : A → B) (p : Place) (arms : List (Arm A)) (o : Option (List A)) → else_in (map-Stmt A B f (Case p arms o)) ≡ option_map (map f) o
case_else f p arms None = refl
case_else f p arms (Some xs) = refl

pub map_if : {A B : Type 0} (f : A → B) (p : Place) (arms : List (Arm A)) (o : Option (List A)) → map-Stmt A B f (If p arms o) ≡ If p (map (each_arm f) arms) (option_map (map f) o)
map_if {A} {B} f p arms o =
    let x = map-Stmt A B f (If p arms o) in
    ap (λ (z : List (Arm B)). Stmt-F.If p z (else_in x)) (if_arms f p arms o) ∙ ap (λ (z : Option (List B)). Stmt-F.If p (map (each_arm f) arms) z) (if_else f p arms o)

pub map_case : {A B : Type 0} (f : A → B) (p : Place) (arms : List (Arm A)) (o : Option (List A)) → map-Stmt A B f (Case p arms o) ≡ Case p (map (each_arm f) arms) (option_map (map f) o)
map_case {A} {B} f p arms o =
    let x = map-Stmt A B f (Case p arms o) in
    ap (λ (z : List (Arm B)). Stmt-F.Case p z (else_in x)) (case_arms f p arms o) ∙ ap (λ (z : Option (List B)). Stmt-F.Case p (map (each_arm f) arms) z) (case_else f p arms o)

-- ---- equations

abbrev erased_arm : Arm Stmt → Arm Stmt
erased_arm a = arm_nowhere (each_arm erased_stmt a)

abbrev erased_else : Option (List Stmt) → Option (List Stmt)
erased_else o = option_map (map erased_stmt) o

erased_local : (p : Place) (is : List Identifier) (t : TypeExpr) → erased_stmt (stmts.Local p is t) ≡ stmts.Local nowhere (map erased_identifier is) (erased_type t)
unfolding roll-Stmt denote.Hole.Carrier.roll
erased_local p is t = fold-roll-Stmt Stmt erase_stmt_form (Local p is t)

erased_skip : (p : Place) → erased_stmt (stmts.Skip p) ≡ stmts.Skip nowhere
unfolding roll-Stmt denote.Hole.Carrier.roll
erased_skip p = fold-roll-Stmt Stmt erase_stmt_form (Skip p)

erased_block : (p : Place) (ss : List Stmt) → erased_stmt (stmt_views.Block p ss) ≡ stmt_views.Block nowhere (map erased_stmt ss)
unfolding roll-Stmt denote.Hole.Carrier.roll
erased_block p ss = fold-roll-Stmt Stmt erase_stmt_form (Block p ss)

erased_assert : (p : Place) (o : Option Identifier) (e : Expr) → erased_stmt (stmts.Assert p o e) ≡ stmts.Assert nowhere (option_map erased_identifier o) (erased_expr e)
unfolding roll-Stmt denote.Hole.Carrier.roll
erased_assert p o e = fold-roll-Stmt Stmt erase_stmt_form (Assert p o e)

erased_assume : (p : Place) (e : Expr) → erased_stmt (stmts.Assume p e) ≡ stmts.Assume nowhere (erased_expr e)
unfolding roll-Stmt denote.Hole.Carrier.roll
erased_assume p e = fold-roll-Stmt Stmt erase_stmt_form (Assume p e)

erased_havoc : (p : Place) (i : Identifier) (b : Bool) → erased_stmt (stmts.Havoc p i b) ≡ stmts.Havoc nowhere (erased_identifier i) b
unfolding roll-Stmt denote.Hole.Carrier.roll
erased_havoc p i b = fold-roll-Stmt Stmt erase_stmt_form (Havoc p i b)

erased_assign : (p : Place) (ts : List Target) (es : List Expr) → erased_stmt (stmts.Assign p ts es) ≡ stmts.Assign nowhere (map erased_target ts) (map erased_expr es)
unfolding roll-Stmt denote.Hole.Carrier.roll
erased_assign p ts es = fold-roll-Stmt Stmt erase_stmt_form (Assign p ts es)

erased_for : (p : Place) (i : Identifier) (t : Option TypeExpr) (a b : RangeBound) (ss : List Stmt) → erased_stmt (stmt_views.For p i t a b ss) ≡ stmt_views.For nowhere (erased_identifier i) (option_map erased_type t) (erased_bound a) (erased_bound b) (map erased_stmt ss)
unfolding roll-Stmt denote.Hole.Carrier.roll
erased_for p i t a b ss = fold-roll-Stmt Stmt erase_stmt_form (For p i t a b ss)

erased_call : (p : Place) (ts : List Target) (i : Identifier) (es : List Expr) → erased_stmt (stmts.Call p ts i es) ≡ stmts.Call nowhere (map erased_target ts) (erased_identifier i) (map erased_expr es)
unfolding roll-Stmt denote.Hole.Carrier.roll
erased_call p ts i es = fold-roll-Stmt Stmt erase_stmt_form (Call p ts i es)

erased_next : (p : Place) (i : Identifier) → erased_stmt (stmts.Next p i) ≡ stmts.Next nowhere (erased_identifier i)
unfolding roll-Stmt denote.Hole.Carrier.roll
erased_next p i = fold-roll-Stmt Stmt erase_stmt_form (Next p i)

erased_if : (p : Place) (arms : List (Arm Stmt)) (o : Option (List Stmt)) → erased_stmt (stmt_views.If p arms o) ≡ stmt_views.If nowhere (map erased_arm arms) (erased_else o)
unfolding roll-Stmt denote.Hole.Carrier.roll
erased_if p arms o = fold-roll-Stmt Stmt erase_stmt_form (If p arms o) ∙ ap erase_stmt_form (map_if erased_stmt p arms o) ∙ ap (λ z. stmt_views.If nowhere z (erased_else o)) (map_twice (each_arm erased_stmt) arm_nowhere arms)

erased_case : (p : Place) (arms : List (Arm Stmt)) (o : Option (List Stmt)) → erased_stmt (stmt_views.Case p arms o) ≡ stmt_views.Case nowhere (map erased_arm arms) (erased_else o)
unfolding roll-Stmt denote.Hole.Carrier.roll
erased_case p arms o = fold-roll-Stmt Stmt erase_stmt_form (Case p arms o) ∙ ap erase_stmt_form (map_case erased_stmt p arms o) ∙ ap (λ z. stmt_views.Case nowhere z (erased_else o)) (map_twice (each_arm erased_stmt) arm_nowhere arms)

-- ---- each form

abbrev Good : Printed → Stmt → Type 0
Good x t = Prints statement x (λ u. erased_stmt u ≡ t)

good_local : (is : List Identifier) (t : TypeExpr) → Good (stmt_form (Local nowhere is t)) (stmts.Local nowhere (map erased_identifier is) (erased_type t))
unfolding statement
good_local is t = s_first (s_made _ (λ x q. erased_local x.0.place x.1.0 x.1.1 ∙ ap (λ z. stmts.Local nowhere z (erased_type x.1.1)) q.1.0 ∙ ap (λ z. stmts.Local nowhere (map erased_identifier is) z) q.1.1)
    (s_both (s_word kinds.KwVar kinds.KwVar refl) (s_both (s_listed new_id erased_identifier identifier erased_identifier s_new_id is) (s_after kinds.Colon (s_before kinds.Semicolon (type_spelled t))))))

good_skip : Good (stmt_form (Skip nowhere)) (stmts.Skip nowhere)
unfolding statement
good_skip = s_next (s_first (s_made _ (λ x q. erased_skip x.0.place) (s_both (s_word kinds.KwSkip kinds.KwSkip refl) (s_word kinds.Semicolon kinds.Semicolon refl))))

good_block : (cs : Code) → Good (code_words cs) (stmt_views.Block nowhere (code_tree cs))
unfolding statement
good_block cs = s_next (s_next (s_first (s_made _ (λ b q. erased_block b.0 b.1 ∙ ap (λ z. stmt_views.Block nowhere z) q) (s_deep_block cs))))

good_assert : (o : Option Identifier) (e : Expr) → Good (stmt_form (Assert nowhere o e)) (stmts.Assert nowhere (option_map erased_identifier o) (erased_expr e))
unfolding statement
good_assert o e = s_next (s_next (s_next (s_first (s_made _ (λ x q. erased_assert x.0.place x.1.0 x.1.1 ∙ ap (λ z. stmts.Assert nowhere z (erased_expr x.1.1)) q.1.0 ∙ ap (λ z. stmts.Assert nowhere (option_map erased_identifier o) z) q.1.1)
    (s_both (s_word kinds.KwAssert kinds.KwAssert refl) (s_labelled quiet o (s_before kinds.Semicolon (expr_spelled e))))))))

good_assume : (e : Expr) → Good (stmt_form (Assume nowhere e)) (stmts.Assume nowhere (erased_expr e))
unfolding statement
good_assume e = s_next (s_next (s_next (s_next (s_first (s_made _ (λ x q. erased_assume x.0.place x.1 ∙ ap (λ z. stmts.Assume nowhere z) q.1) (s_both (s_word kinds.KwAssume kinds.KwAssume refl) (s_before kinds.Semicolon (expr_spelled e))))))))

good_havoc : (i : Identifier) (b : Bool) → Good (stmt_form (Havoc nowhere i b)) (stmts.Havoc nowhere (erased_identifier i) b)
unfolding statement
good_havoc i b = s_next (s_next (s_next (s_next (s_next (s_first (s_made _ (λ x q. erased_havoc x.0.place x.1.0 (has x.1.1) ∙ ap (λ z. stmts.Havoc nowhere z (has x.1.1)) q.1.0 ∙ ap (λ z. stmts.Havoc nowhere (erased_identifier i) z) q.1.1)
    (s_both (s_word kinds.KwHavoc kinds.KwHavoc refl) (s_both (s_id i) (s_before kinds.Semicolon (s_prime b))))))))))

-- arms

abbrev Choice : Type 0
Choice = Arm Child

abbrev piece_of_arm : Choice → Arm Printed
piece_of_arm a = each_arm printed_stmt (each_arm tree a)

abbrev tree_of_arm : Choice → Arm Stmt
tree_of_arm a = erased_arm (each_arm tree a)

abbrev arm_with : Expr → List Stmt → Arm Stmt
arm_with e ss = record { condition = e; body = ss }

s_arm : (a : Choice) → Prints arm (arm_words (piece_of_arm a)) (λ b. erased_arm b ≡ tree_of_arm a)
s_arm a = s_made _ (λ x q. ap (λ z. arm_with z (map erased_stmt x.1)) q.0 ∙ ap (λ z. arm_with (erased_expr a.condition) z) q.1) (s_both (expr_spelled a.condition) (s_code a.body))

abbrev turn_form : F (Arm Stmt ⊎ List Stmt)
turn_form = after kinds.KwElse (either (after kinds.KwIf arm) statements)

s_turn : (a : Choice) → Prints turn_form (further_words (piece_of_arm a)) (IsLeft (λ b. erased_arm b ≡ tree_of_arm a))
s_turn a = s_after kinds.KwElse (s_left {Q = IsLeft (λ b. erased_arm b ≡ tree_of_arm a)} (s_after kinds.KwIf (s_arm a)))

abbrev Else : Type 0
Else = Option Code

abbrev else_piece : Else → Option (List Printed)
else_piece o = option_map (map printed_stmt) (option_map (map tree) o)

abbrev else_tree : Else → Option (List Stmt)
else_tree o = erased_else (option_map (map tree) o)

abbrev IsElse : Else → Option (List Stmt) → Type 0
IsElse o z = erased_else z ≡ else_tree o

some_else : (cs : Code) (z : Option (List Stmt)) → IsSome (IsCode cs) z → IsElse (Some cs) z
some_else cs None q = absurd q
some_else cs (Some ss) q = ap (λ y. Some y) q

s_else : (o : Else) → Prints (chain turn_form) (else_words (else_piece o)) (λ z. (map erased_arm z.0 ≡ []) × IsElse o z.1)
s_else None = s_weak (λ z q. (q.0, ap erased_else q.1)) (s_chain_none erased_arm)
s_else (Some cs) = s_weak (λ z q. (q.0, some_else cs z.1 q.1)) (s_chain_some {R = IsCode cs} erased_arm (s_after kinds.KwElse (s_right {Q = IsRight (IsCode cs)} (s_code cs))))

abbrev choice_piece : Choice → List Choice → Else → Printed
choice_piece a arms o = sign kinds.KwIf <+> (arm_words (piece_of_arm a) <+> (each (λ b. further_words (piece_of_arm b)) arms <+> else_words (else_piece o)))

good_if : (a : Choice) (arms : List Choice) (o : Else) → Good (choice_piece a arms o) (stmt_views.If nowhere (tree_of_arm a ∷ map tree_of_arm arms) (else_tree o))
unfolding statement if_statement
good_if a arms o = s_next (s_next (s_next (s_next (s_next (s_next (s_first (s_made _ (λ x q. erased_if x.0.place (x.1.0 ∷ x.1.1.0) x.1.1.1 ∙ ap (λ z. stmt_views.If nowhere (z ∷ map erased_arm x.1.1.0) (erased_else x.1.1.1)) q.1.0
    ∙ ap (λ z. stmt_views.If nowhere (tree_of_arm a ∷ z) (erased_else x.1.1.1)) q.1.1.0 ∙ ap (λ z. stmt_views.If nowhere (tree_of_arm a ∷ map tree_of_arm arms) z) q.1.1.1)
    (s_both (s_word kinds.KwIf kinds.KwIf refl) (s_both (s_arm a) (s_chain turn_form erased_arm (λ b. further_words (piece_of_arm b)) tree_of_arm s_turn (else_words (else_piece o)) (IsElse o) (s_else o) arms))))))))))

abbrev case_form : F (Arm Stmt)
case_form = made (λ x. record { condition = x.0; body = x.1 }) (both expr (after kinds.Colon statements))

s_case : (a : Choice) → Prints case_form (case_words (piece_of_arm a)) (λ b. erased_arm b ≡ tree_of_arm a)
s_case a = s_made _ (λ x q. ap (λ z. arm_with z (map erased_stmt x.1)) q.0 ∙ ap (λ z. arm_with (erased_expr a.condition) z) q.1) (s_both (expr_spelled a.condition) (s_after kinds.Colon (s_code a.body)))

abbrev default_form : F ((List Stmt × Word) ⊎ Word)
default_form = either (both (after kinds.KwDefault (after kinds.Colon statements)) (word kinds.KwEsac)) (word kinds.KwEsac)

s_default : (o : Else) → Prints default_form (default_words (else_piece o)) (λ y. IsElse o (default_block y))
s_default None = s_right {Q = λ y. IsElse None (default_block y)} (s_weak (λ w q. refl) (s_word kinds.KwEsac kinds.KwEsac refl))
s_default (Some cs) = s_left {Q = λ y. IsElse (Some cs) (default_block y)} (s_weak (λ x q. ap (λ z. Some z) q.0) (s_both (s_after kinds.KwDefault (s_after kinds.Colon (s_code cs))) (s_word kinds.KwEsac kinds.KwEsac refl)))

good_case : (arms : List Choice) (o : Else) → Good (sign kinds.KwCase <+> (each (λ a. case_words (piece_of_arm a)) arms <+> default_words (else_piece o))) (stmt_views.Case nowhere (map tree_of_arm arms) (else_tree o))
unfolding statement case_statement
good_case arms o = s_next (s_next (s_next (s_next (s_next (s_next (s_next (s_first (s_made _ (λ x q. erased_case x.0.place x.1.0 (default_block x.1.1) ∙ ap (λ z. stmt_views.Case nowhere z (erased_else (default_block x.1.1))) q.1.0
    ∙ ap (λ z. stmt_views.Case nowhere (map tree_of_arm arms) z) q.1.1)
    (s_both (s_word kinds.KwCase kinds.KwCase refl) (s_until case_form default_form erased_arm (λ a. case_words (piece_of_arm a)) tree_of_arm s_case (default_words (else_piece o)) (λ y. IsElse o (default_block y)) (s_default o) arms))))))))))

-- loops

abbrev Variable : Type 0
Variable = Identifier × Option TypeExpr

abbrev IsVariable : Identifier → Option TypeExpr → Variable → Type 0
IsVariable i t y = (erased_identifier y.0 ≡ erased_identifier i) × (option_map erased_type y.1 ≡ option_map erased_type t)

s_variable : (i : Identifier) (t : Option TypeExpr) → Prints (made loop_variable (either (deep typed_name) new_id)) (variable_words i t) (IsVariable i t)
s_variable i None = s_made loop_variable (λ y q. q) (s_right {Q = λ y. IsVariable i None (loop_variable y)} (s_weak (λ j q. (q, refl)) (s_new_id i)))
s_variable i (Some t) = s_made loop_variable (λ y q. q) (s_left {Q = λ y. IsVariable i (Some t) (loop_variable y)} (s_deep typed_name (s_after kinds.LeftParen (s_before kinds.RightParen
    (s_weak (λ p q. (ap (λ z. z.identifier) q, ap (λ z. Some z.ty) q)) (s_parameter i (printed_type t) (erased_type t) (type_spelled t)))))))

abbrev Bounds : Type 0
Bounds = RangeBound × RangeBound

s_range : (a b : RangeBound) → Prints (deep range_bounds) (in_parens (bound_words a <+> (sign kinds.Comma <+> bound_words b))) (λ y. (erased_bound y.0 ≡ erased_bound a) × (erased_bound y.1 ≡ erased_bound b))
s_range a b = s_deep range_bounds (s_after kinds.LeftParen (s_before kinds.RightParen (s_both (s_bound a) (s_after kinds.Comma (s_bound b)))))

abbrev loop_with : Identifier → Option TypeExpr → RangeBound → RangeBound → List Stmt → Stmt
loop_with i t a b ss = stmt_views.For nowhere i t a b ss

abbrev loop_words : Identifier → Option TypeExpr → RangeBound → RangeBound → Code → Printed
loop_words i t a b cs = sign kinds.KwFor <+> (variable_words i t <+> (sign kinds.KwIn <+> (sign (kinds.Range 0) <+> (in_parens (bound_words a <+> (sign kinds.Comma <+> bound_words b)) <+> code_words cs))))

good_for : (i : Identifier) (t : Option TypeExpr) (a b : RangeBound) (cs : Code) → Good (loop_words i t a b cs) (loop_with (erased_identifier i) (option_map erased_type t) (erased_bound a) (erased_bound b) (code_tree cs))
unfolding statement for_statement
good_for i t a b cs = s_next (s_next (s_next (s_next (s_next (s_next (s_next (s_next (s_first (s_made _ (λ x q. erased_for x.0.place x.1.0.0 x.1.0.1 x.1.1.0.0 x.1.1.0.1 x.1.1.1
    ∙ ap (λ z. loop_with z (option_map erased_type x.1.0.1) (erased_bound x.1.1.0.0) (erased_bound x.1.1.0.1) (map erased_stmt x.1.1.1)) q.1.0.0
    ∙ ap (λ z. loop_with (erased_identifier i) z (erased_bound x.1.1.0.0) (erased_bound x.1.1.0.1) (map erased_stmt x.1.1.1)) q.1.0.1
    ∙ ap (λ z. loop_with (erased_identifier i) (option_map erased_type t) z (erased_bound x.1.1.0.1) (map erased_stmt x.1.1.1)) q.1.1.0.0
    ∙ ap (λ z. loop_with (erased_identifier i) (option_map erased_type t) (erased_bound a) z (map erased_stmt x.1.1.1)) q.1.1.0.1
    ∙ ap (λ z. loop_with (erased_identifier i) (option_map erased_type t) (erased_bound a) (erased_bound b) z) q.1.1.1)
    (s_both (s_word kinds.KwFor kinds.KwFor refl) (s_both (s_variable i t) (s_after kinds.KwIn (s_after (kinds.Range 0) (s_both (s_range a b) (s_code cs)))))))))))))))

-- calls

s_called : (ts : List Target) → Prints (optional (before (deep call_targets) kinds.Assign)) (called_words ts) (λ o. map erased_target (called_targets o) ≡ map erased_target ts)
s_called [] = s_weak (λ o q. ap (λ z. map erased_target (called_targets z)) q) s_optional_none
s_called (t ∷ ts) = s_optional_some {Q = λ o. map erased_target (called_targets o) ≡ map erased_target (t ∷ ts)} (s_before kinds.Assign (s_deep call_targets (s_enclosed target erased_target target_words erased_target s_target (t ∷ ts))))

good_call : (ts : List Target) (i : Identifier) (es : List Expr) → Good (stmt_form (Call nowhere ts i es)) (stmts.Call nowhere (map erased_target ts) (erased_identifier i) (map erased_expr es))
unfolding statement call_statement
good_call ts i es = s_next (s_next (s_next (s_next (s_next (s_next (s_next (s_next (s_next (s_first (s_made _ (λ x q. erased_call x.0.place (called_targets x.1.0) x.1.1.0 x.1.1.1
    ∙ ap (λ z. stmts.Call nowhere z (erased_identifier x.1.1.0) (map erased_expr x.1.1.1)) q.1.0 ∙ ap (λ z. stmts.Call nowhere (map erased_target ts) z (map erased_expr x.1.1.1)) q.1.1.0 ∙ ap (λ z. stmts.Call nowhere (map erased_target ts) (erased_identifier i) z) q.1.1.1)
    (s_both (s_word kinds.KwCall kinds.KwCall refl) (s_both (s_called ts) (s_both (s_id i) (s_before kinds.Semicolon (s_arguments es)))))))))))))))

good_next : (i : Identifier) → Good (stmt_form (Next nowhere i)) (stmts.Next nowhere (erased_identifier i))
unfolding statement
good_next i = s_next (s_next (s_next (s_next (s_next (s_next (s_next (s_next (s_next (s_next (s_first (s_made _ (λ x q. erased_next x.0.place x.1 ∙ ap (λ z. stmts.Next nowhere z) q.1) (s_both (s_word kinds.KwNext kinds.KwNext refl) (s_before kinds.Semicolon (s_deep_name i))))))))))))))

good_assign : (ts : List Target) (es : List Expr) → Good (stmt_form (Assign nowhere ts es)) (stmts.Assign nowhere (map erased_target ts) (map erased_expr es))
unfolding statement
good_assign ts es = s_next (s_next (s_next (s_next (s_next (s_next (s_next (s_next (s_next (s_next (s_next (s_made _ (λ x q. erased_assign (place_of x.0) x.0 x.1 ∙ ap (λ z. stmts.Assign nowhere z (map erased_expr x.1)) q.0 ∙ ap (λ z. stmts.Assign nowhere (map erased_target ts) z) q.1)
    (s_both (s_targets ts) (s_after kinds.Assign (s_before kinds.Semicolon (s_exprs es)))))))))))))))

-- ---- every statement

abbrev layer : Stmt-F Child → Stmt-F Stmt
layer y = map-Stmt Child Stmt tree y

abbrev words_of : Stmt-F Child → Printed
words_of y = stmt_form (map-Stmt Stmt Printed printed_stmt (layer y))

abbrev erased_of : Stmt-F Child → Stmt
erased_of y = erase_stmt_form (map-Stmt Stmt Stmt erased_stmt (layer y))

good_at : {x y : Printed} {t u : Stmt} → x ≡ y → t ≡ u → Good y u → Good x t
good_at {x} {y} {t} {u} i j g = subst (λ z. Good z t) (sym i) (subst (λ z. Good y z) (sym j) g)

abbrev pieces_of : List Choice → List (Arm Printed)
pieces_of arms = map (each_arm printed_stmt) (map (each_arm tree) arms)

if_words : (p : Place) (arms : List Choice) (o : Else) → words_of (If p arms o) ≡ when (has_one (pieces_of arms)) (choice_words (pieces_of arms) (else_piece o))
if_words p arms o = ap (λ z. stmt_form (map-Stmt Stmt Printed printed_stmt z)) (map_if tree p arms o) ∙ ap stmt_form (map_if printed_stmt p (map (each_arm tree) arms) (option_map (map tree) o))

case_words_of : (p : Place) (arms : List Choice) (o : Else) → words_of (Case p arms o) ≡ sign kinds.KwCase <+> (each (λ a. case_words (piece_of_arm a)) arms <+> default_words (else_piece o))
case_words_of p arms o = ap (λ z. stmt_form (map-Stmt Stmt Printed printed_stmt z)) (map_case tree p arms o) ∙ ap stmt_form (map_case printed_stmt p (map (each_arm tree) arms) (option_map (map tree) o))
    ∙ ap (λ z. sign kinds.KwCase <+> (z <+> default_words (else_piece o))) (each_over (each_arm printed_stmt) case_words (map (each_arm tree) arms) ∙ each_over (each_arm tree) (λ a. case_words (each_arm printed_stmt a)) arms)

arms_tree : (arms : List Choice) → map arm_nowhere (map (each_arm erased_stmt) (map (each_arm tree) arms)) ≡ map tree_of_arm arms
arms_tree arms = map_twice (each_arm erased_stmt) arm_nowhere (map (each_arm tree) arms) ∙ map_twice (each_arm tree) erased_arm arms

if_tree : (p : Place) (arms : List Choice) (o : Else) → erased_of (If p arms o) ≡ stmt_views.If nowhere (map tree_of_arm arms) (else_tree o)
if_tree p arms o = ap (λ z. erase_stmt_form (map-Stmt Stmt Stmt erased_stmt z)) (map_if tree p arms o) ∙ ap erase_stmt_form (map_if erased_stmt p (map (each_arm tree) arms) (option_map (map tree) o))
    ∙ ap (λ z. stmt_views.If nowhere z (else_tree o)) (arms_tree arms)

case_tree : (p : Place) (arms : List Choice) (o : Else) → erased_of (Case p arms o) ≡ stmt_views.Case nowhere (map tree_of_arm arms) (else_tree o)
case_tree p arms o = ap (λ z. erase_stmt_form (map-Stmt Stmt Stmt erased_stmt z)) (map_case tree p arms o) ∙ ap erase_stmt_form (map_case erased_stmt p (map (each_arm tree) arms) (option_map (map tree) o))
    ∙ ap (λ z. stmt_views.Case nowhere z (else_tree o)) (arms_tree arms)

further_over : (arms : List Choice) → each further_words (pieces_of arms) ≡ each (λ a. further_words (piece_of_arm a)) arms
further_over arms = each_over (each_arm printed_stmt) further_words (map (each_arm tree) arms) ∙ each_over (each_arm tree) (λ a. further_words (each_arm printed_stmt a)) arms

some_arms : (arms : List Choice) (o : Else) → Good (when (has_one (pieces_of arms)) (choice_words (pieces_of arms) (else_piece o))) (stmt_views.If nowhere (map tree_of_arm arms) (else_tree o))
some_arms [] o = never statement none (λ u. erased_stmt u ≡ stmt_views.If nowhere [] (else_tree o))
some_arms (a ∷ arms) o = same (ap (λ z. sign kinds.KwIf <+> (arm_words (piece_of_arm a) <+> (z <+> else_words (else_piece o)))) (sym (further_over arms))) (good_if a arms o)

layer_good : (y : Stmt-F Child) → Good (words_of y) (erased_of y)
layer_good (Local p is t) = good_local is t
layer_good (Skip p) = good_skip
layer_good (Block p cs) = good_block cs
layer_good (Assert p o e) = good_assert o e
layer_good (Assume p e) = good_assume e
layer_good (Havoc p i b) = good_havoc i b
layer_good (Assign p ts es) = good_assign ts es
layer_good (If p arms o) = good_at (if_words p arms o) (if_tree p arms o) (some_arms arms o)
layer_good (Case p arms o) = good_at (case_words_of p arms o) (case_tree p arms o) (good_case arms o)
layer_good (For p i t a b cs) = good_for i t a b cs
layer_good (Call p ts i es) = good_call ts i es
layer_good (Next p i) = good_next i

step : (y : Stmt-F Child) → Holds (roll-Stmt (layer y))
step y = good_at (fold-roll-Stmt Printed stmt_form (layer y)) (fold-roll-Stmt Stmt erase_stmt_form (layer y)) (layer_good y)

pub stmt_spelled : (s : Stmt) → Holds s
stmt_spelled = ind-Stmt Holds (λ x y is. subst (λ z. Holds (roll-Stmt z)) is (step y))

pub s_statements : (ss : List Stmt) → Prints statements (block_words (map printed_stmt ss)) (λ us. map erased_stmt us ≡ map erased_stmt ss)
s_statements ss = same (ap (λ z. nested (sign kinds.LeftBrace <+> (z <+> sign kinds.RightBrace))) (sym (each_over printed_stmt (λ x. x) ss)))
    (s_made _ (λ b q. q) (s_deep block {Q = λ b. map erased_stmt b.1 ≡ map erased_stmt ss} (s_made _ (λ x q. q.1.0)
    (s_both (s_word kinds.LeftBrace kinds.LeftBrace refl) (s_until statement (word kinds.RightBrace) erased_stmt printed_stmt erased_stmt stmt_spelled (sign kinds.RightBrace) _ (s_word kinds.RightBrace kinds.RightBrace refl) ss)))))
