-- What each form of statement of a next block asks and meets, in terms of the code inside it.
use Rattle.std.proofs.Common.{◌≡◌, ℕ, Bool, true, false, List, [], ◌∷◌, ◌++◌, map, Option, Some, None, refl, ap, ◌∙◌, sym, append_assoc}
use Rattle.std.specs.Prelude.{if◌then◌else◌}
use Rattle.std.specs.List.{flat_map}
use Rattle.std.proofs.lemmas.List.{append-nil}
use Rattle.uc_lexer.specs.declared.place.Place.{Place}
use Rattle.uc_syntax.specs.declared.place.Identifier.{Identifier}
use Rattle.uc_syntax.specs.declared.type_expression.TypeExpr.{TypeExpr}
use Rattle.uc_syntax.specs.declared.expression.Expr.{Expr}
use Rattle.uc_syntax.specs.declared.statement.Arm.{Arm}
use Rattle.uc_syntax.specs.declared.statement.RangeBound.{RangeBound}
use Rattle.uc_syntax.specs.declared.statement.Target.{Target}
use Rattle.uc_syntax.specs.declared.statement.Stmt.{Stmt}
use Rattle.uc_syntax.specs.declared.statement.Stmt.TheOpen.{Stmt-F}
use Rattle.uc_syntax.specs.declared.statement.Stmt.TheOpen.Stmt-F.{Local as LocalForm, Skip as SkipForm, Block as BlockForm, Assert as AssertForm, Assume as AssumeForm, Havoc as HavocForm, Assign as AssignForm, If as IfForm, Case as CaseForm, For as ForForm, Call as CallForm, Next as NextForm}
use Rattle.uc_syntax.specs.declared.statement.Stmt.TheViews.{roll-Stmt, Block, If, Case, For}
use Rattle.uc_syntax.specs.declared.statement.Stmt.TheVariants.{Local, Skip, Assert, Assume, Havoc, Assign, Call, Next}
use Rattle.uc_syntax.specs.declared.statement.Stmt.TheFolds.{map-Stmt, fold-roll-Stmt}
use Rattle.uc_syntax.specs.declared.declaration.Decl.{Decl}
use Rattle.uc_values.specs.declared.ty.Ty.{Ty}
use Rattle.uc_values.specs.declared.value.Value.{Value}
use Rattle.uc_meaning.specs.declared.scope.Scope.{Scope}
use Rattle.uc_meaning.specs.declared.overflow.Wide.{Wide}
use Rattle.uc_meaning.specs.Lookup.{System, module_at, next_in}
use Rattle.uc_meaning.specs.Expressions.{value, is_true}
use Rattle.uc_meaning.specs.Overflow.{met}
use Rattle.uc_meaning.specs.Code.{run, taken, turns, turn_type, call}
use Rattle.uc_meaning.specs.Steps.{Watched, Check, Kept, Broken, Constraint, then_check, kept_if, check_each, check_form, check_statement, check_by, check_through, check_targets, check_turns, check_call, check_instance, running, watched_site, writes, name_parts, with_local}
use Rattle.uc_meaning.specs.OverflowsRuns.{run_met, met_after, all_met_in, conditions_met, call_met}
use Rattle.uc_meaning.specs.Checks.{TracedCheck, CheckMet, checks, checks_met, met_kept, traced_check_form, traced_check, check_met_by, check_met_through, check_turns_met, assigned_met, call_left_met, instance_met}
use Rattle.uc_runs.proofs.Layers.{arms_in, else_in, traced_steps}
use Rattle.uc_checks.specs.Levels.{check_at, check_met_at, asked_at, asked_met_at, traced_at, turns_at, turns_met_at, turn_at}

-- ---- the arms of a conditional whose blocks are seen otherwise

module _ {X : Type 0} (f : Stmt → X) (system : System) (s : Scope) (p : Place) where
  if_conditions : (arms : List (Arm Stmt)) (z : Option (List Stmt)) → conditions_met system s (arms_in (map-Stmt Stmt X f (IfForm p arms z))) ≡ conditions_met system s arms
  unfolding conditions_met
  if_conditions [] z = refl
  if_conditions (a ∷ arms) z = ap (λ ws. met system s a.condition ++ (if is_true system s a.condition then [] else ws)) (if_conditions arms z)

  case_conditions : (arms : List (Arm Stmt)) (z : Option (List Stmt)) → conditions_met system s (arms_in (map-Stmt Stmt X f (CaseForm p arms z))) ≡ conditions_met system s arms
  unfolding conditions_met
  case_conditions [] z = refl
  case_conditions (a ∷ arms) z = ap (λ ws. met system s a.condition ++ (if is_true system s a.condition then [] else ws)) (case_conditions arms z)

  chosen_block : (b : Bool) (block others : List Stmt) (xs : List X) → xs ≡ map f others → (if b then map f block else xs) ≡ map f (if b then block else others)
  chosen_block true block others xs is = refl
  chosen_block false block others xs is = is

  if_taken : (arms : List (Arm Stmt)) (z : Option (List Stmt)) →
      taken system s (arms_in (map-Stmt Stmt X f (IfForm p arms z))) (else_in (map-Stmt Stmt X f (IfForm p arms z))) ≡ map f (taken system s arms z)
  unfolding taken
  if_taken [] None = refl
  if_taken [] (Some block) = refl
  if_taken (a ∷ arms) z = chosen_block (is_true system s a.condition) a.body (taken system s arms z) _ (if_taken arms z)

  case_taken : (arms : List (Arm Stmt)) (z : Option (List Stmt)) →
      taken system s (arms_in (map-Stmt Stmt X f (CaseForm p arms z))) (else_in (map-Stmt Stmt X f (CaseForm p arms z))) ≡ map f (taken system s arms z)
  unfolding taken
  case_taken [] None = refl
  case_taken [] (Some block) = refl
  case_taken (a ∷ arms) z = chosen_block (is_true system s a.condition) a.body (taken system s arms z) _ (case_taken arms z)

-- ---- one constraint after another

pub in_turn : (c : Check) (f g : Constraint) → then_check (then_check c f) g ≡ then_check c (λ w. then_check (f w) g)
in_turn (Kept w) f g = refl
in_turn Broken f g = refl

met_then : (c : Check) (f : Watched → Watched) (g : CheckMet) → met_kept c (λ w. g (f w)) ≡ met_kept (then_check c (λ w. Kept (f w))) g
met_then (Kept w) f g = refl
met_then Broken f g = refl

then_met : (ws : List Wide) (c : Check) (f : CheckMet) (g : Constraint) (h : CheckMet) (rest : CheckMet) → ((w : Watched) → rest w ≡ f w ++ met_kept (g w) h) →
    ws ++ met_kept c rest ≡ (ws ++ met_kept c f) ++ met_kept (then_check c g) h
then_met ws (Kept w) f g h rest is = ap (λ vs. ws ++ vs) (is w) ∙ sym (append_assoc ws (f w) (met_kept (g w) h))
then_met ws Broken f g h rest is = sym (append-nil (ws ++ []))

same_then : (c : Check) (f g : Constraint) → ((w : Watched) → f w ≡ g w) → then_check c f ≡ then_check c g
same_then (Kept w) f g is = is w
same_then Broken f g is = refl

module _ (n : ℕ) (system : System) where
  checks_are : (code : List Stmt) → checks (map (traced_at n system) code) ≡ map (asked_at n system) code
  checks_are [] = refl
  checks_are (s ∷ code) = (λ i. traced_steps system (check_through n system) (check_met_through n system) s i ∷ checks_are code i)

  pub code_none : (w : Watched) → check_at n system [] w ≡ Kept w
  unfolding check_by check_each
  code_none w = refl

  pub code_next : (s : Stmt) (code : List Stmt) (w : Watched) → check_at n system (s ∷ code) w ≡ then_check (asked_at n system s w) (check_at n system code)
  unfolding check_by check_each
  code_next s code w = refl

  pub met_none : (w : Watched) → check_met_at n system [] w ≡ []
  unfolding check_met_by checks_met
  met_none w = refl

  pub met_next : (s : Stmt) (code : List Stmt) (w : Watched) → check_met_at n system (s ∷ code) w ≡ asked_met_at n system s w ++ met_kept (asked_at n system s w) (check_met_at n system code)
  unfolding check_met_by checks_met
  met_next s code w =
      ap (λ x. asked_met_at n system s w ++ met_kept (x w) (check_met_at n system code)) (traced_steps system (check_through n system) (check_met_through n system) s)

  -- ---- code behind other code

  pub code_after : (front back : List Stmt) (w : Watched) → check_at n system (front ++ back) w ≡ then_check (check_at n system front w) (check_at n system back)
  code_after [] back w = ap (λ c. then_check c (check_at n system back)) (sym (code_none w))
  code_after (s ∷ front) back w =
      code_next s (front ++ back) w
      ∙ same_then (asked_at n system s w) (check_at n system (front ++ back)) (λ w'. then_check (check_at n system front w') (check_at n system back)) (code_after front back)
      ∙ sym (in_turn (asked_at n system s w) (check_at n system front) (check_at n system back))
      ∙ ap (λ c. then_check c (check_at n system back)) (sym (code_next s front w))

  pub met_behind : (front back : List Stmt) (w : Watched) → check_met_at n system (front ++ back) w ≡ check_met_at n system front w ++ met_kept (check_at n system front w) (check_met_at n system back)
  met_behind [] back w = λ i. sym (met_none w) i ++ met_kept (sym (code_none w) i) (check_met_at n system back)
  met_behind (s ∷ front) back w =
      met_next s (front ++ back) w
      ∙ then_met (asked_met_at n system s w) (asked_at n system s w) (check_met_at n system front) (check_at n system front) (check_met_at n system back) (check_met_at n system (front ++ back)) (met_behind front back)
      ∙ (λ i. sym (met_next s front w) i ++ met_kept (sym (code_next s front w) i) (check_met_at n system back))

  -- the next blocks among declarations
  pub decls_next : (d : Decl) (ds : List Decl) (w : Watched) → check_at n system (flat_map next_in (d ∷ ds)) w ≡ then_check (check_at n system (next_in d) w) (check_at n system (flat_map next_in ds))
  decls_next d ds w = code_after (next_in d) (flat_map next_in ds) w

  pub decls_met_next : (d : Decl) (ds : List Decl) (w : Watched) → check_met_at n system (flat_map next_in (d ∷ ds)) w ≡ check_met_at n system (next_in d) w ++ met_kept (check_at n system (next_in d) w) (check_met_at n system (flat_map next_in ds))
  decls_met_next d ds w = met_behind (next_in d) (flat_map next_in ds) w

  -- ---- what forms ask

  pub local_asks : (p : Place) (names : List Identifier) (type : TypeExpr) (w : Watched) → asked_at n system (Local p names type) w ≡ Kept w
  unfolding check_statement roll-Stmt denote.Hole.Carrier.roll
  local_asks p names type w = ap (λ f. f w) (fold-roll-Stmt Constraint (check_form system (check_through n system)) (LocalForm p names type))

  pub skip_asks : (p : Place) (w : Watched) → asked_at n system (Skip p) w ≡ Kept w
  unfolding check_statement roll-Stmt denote.Hole.Carrier.roll
  skip_asks p w = ap (λ f. f w) (fold-roll-Stmt Constraint (check_form system (check_through n system)) (SkipForm p))

  pub block_asks : (p : Place) (block : List Stmt) (w : Watched) → asked_at n system (Block p block) w ≡ check_at n system block w
  unfolding check_statement check_by roll-Stmt denote.Hole.Carrier.roll
  block_asks p block w = ap (λ f. f w) (fold-roll-Stmt Constraint (check_form system (check_through n system)) (BlockForm p block))

  pub assert_asks : (p : Place) (label : Option Identifier) (e : Expr) (w : Watched) → asked_at n system (Assert p label e) w ≡ Kept (watched_site (is_true system w.scope e) p w)
  unfolding check_statement roll-Stmt denote.Hole.Carrier.roll
  assert_asks p label e w = ap (λ f. f w) (fold-roll-Stmt Constraint (check_form system (check_through n system)) (AssertForm p label e))

  pub assume_asks : (p : Place) (e : Expr) (w : Watched) → asked_at n system (Assume p e) w ≡ kept_if (is_true system w.scope e) w
  unfolding check_statement roll-Stmt denote.Hole.Carrier.roll
  assume_asks p e w = ap (λ f. f w) (fold-roll-Stmt Constraint (check_form system (check_through n system)) (AssumeForm p e))

  pub havoc_asks : (p : Place) (x : Identifier) (primed : Bool) (w : Watched) → asked_at n system (Havoc p x primed) w ≡ Kept (writes (name_parts system w.scope x.name) w)
  unfolding check_statement roll-Stmt denote.Hole.Carrier.roll
  havoc_asks p x primed w = ap (λ f. f w) (fold-roll-Stmt Constraint (check_form system (check_through n system)) (HavocForm p x primed))

  pub assign_asks : (p : Place) (targets : List Target) (sources : List Expr) (w : Watched) → asked_at n system (Assign p targets sources) w ≡ check_targets system targets (map (value system w.scope) sources) w
  unfolding check_statement roll-Stmt denote.Hole.Carrier.roll
  assign_asks p targets sources w = ap (λ f. f w) (fold-roll-Stmt Constraint (check_form system (check_through n system)) (AssignForm p targets sources))

  pub if_asks : (p : Place) (arms : List (Arm Stmt)) (z : Option (List Stmt)) (w : Watched) → asked_at n system (If p arms z) w ≡ check_at n system (taken system w.scope arms z) w
  unfolding check_statement check_by roll-Stmt denote.Hole.Carrier.roll
  if_asks p arms z w =
      ap (λ f. f w) (fold-roll-Stmt Constraint (check_form system (check_through n system)) (IfForm p arms z))
      ∙ ap (λ xs. check_each xs w) (if_taken (asked_at n system) system w.scope p arms z)

  pub case_asks : (p : Place) (arms : List (Arm Stmt)) (z : Option (List Stmt)) (w : Watched) → asked_at n system (Case p arms z) w ≡ check_at n system (taken system w.scope arms z) w
  unfolding check_statement check_by roll-Stmt denote.Hole.Carrier.roll
  case_asks p arms z w =
      ap (λ f. f w) (fold-roll-Stmt Constraint (check_form system (check_through n system)) (CaseForm p arms z))
      ∙ ap (λ xs. check_each xs w) (case_taken (asked_at n system) system w.scope p arms z)

  pub for_asks : (p : Place) (x : Identifier) (type : Option TypeExpr) (from to : RangeBound) (block : List Stmt) (w : Watched) → asked_at n system (For p x type from to block) w ≡ turns_at n system x.name (turn_type from) block (turns from to) w
  unfolding check_statement roll-Stmt denote.Hole.Carrier.roll
  for_asks p x type from to block w = ap (λ f. f w) (fold-roll-Stmt Constraint (check_form system (check_through n system)) (ForForm p x type from to block))

  pub call_asks : (p : Place) (targets : List Target) (f : Identifier) (arguments : List Expr) (w : Watched) → asked_at n system (Call p targets f arguments) w ≡ check_call system targets f.name w (call system (run system) p targets f.name arguments (running w))
  unfolding check_statement roll-Stmt denote.Hole.Carrier.roll
  call_asks p targets f arguments w = ap (λ g. g w) (fold-roll-Stmt Constraint (check_form system (check_through n system)) (CallForm p targets f arguments))

  pub next_asks : (p : Place) (i : Identifier) (w : Watched) → asked_at n system (Next p i) w ≡ check_instance (check_through n system) (w.scope.path ++ i.name ∷ []) (module_at system (w.scope.path ++ i.name ∷ [])) w
  unfolding check_statement roll-Stmt denote.Hole.Carrier.roll
  next_asks p i w = ap (λ f. f w) (fold-roll-Stmt Constraint (check_form system (check_through n system)) (NextForm p i))

  -- ---- what forms meet

  abbrev form : Stmt-F TracedCheck → TracedCheck
  form = traced_check_form system (check_through n system) (check_met_through n system)

  pub local_meets : (p : Place) (names : List Identifier) (type : TypeExpr) (w : Watched) → asked_met_at n system (Local p names type) w ≡ []
  unfolding traced_check roll-Stmt denote.Hole.Carrier.roll
  local_meets p names type w = ap (λ t. t.met w) (fold-roll-Stmt TracedCheck form (LocalForm p names type))

  pub skip_meets : (p : Place) (w : Watched) → asked_met_at n system (Skip p) w ≡ []
  unfolding traced_check roll-Stmt denote.Hole.Carrier.roll
  skip_meets p w = ap (λ t. t.met w) (fold-roll-Stmt TracedCheck form (SkipForm p))

  pub block_meets : (p : Place) (block : List Stmt) (w : Watched) → asked_met_at n system (Block p block) w ≡ check_met_at n system block w
  unfolding traced_check check_met_by roll-Stmt denote.Hole.Carrier.roll
  block_meets p block w = ap (λ t. t.met w) (fold-roll-Stmt TracedCheck form (BlockForm p block))

  pub assert_meets : (p : Place) (label : Option Identifier) (e : Expr) (w : Watched) → asked_met_at n system (Assert p label e) w ≡ met system w.scope e
  unfolding traced_check roll-Stmt denote.Hole.Carrier.roll
  assert_meets p label e w = ap (λ t. t.met w) (fold-roll-Stmt TracedCheck form (AssertForm p label e))

  pub assume_meets : (p : Place) (e : Expr) (w : Watched) → asked_met_at n system (Assume p e) w ≡ met system w.scope e
  unfolding traced_check roll-Stmt denote.Hole.Carrier.roll
  assume_meets p e w = ap (λ t. t.met w) (fold-roll-Stmt TracedCheck form (AssumeForm p e))

  pub havoc_meets : (p : Place) (x : Identifier) (primed : Bool) (w : Watched) → asked_met_at n system (Havoc p x primed) w ≡ []
  unfolding traced_check roll-Stmt denote.Hole.Carrier.roll
  havoc_meets p x primed w = ap (λ t. t.met w) (fold-roll-Stmt TracedCheck form (HavocForm p x primed))

  pub assign_meets : (p : Place) (targets : List Target) (sources : List Expr) (w : Watched) → asked_met_at n system (Assign p targets sources) w ≡ all_met_in system w.scope sources ++ assigned_met system targets (map (value system w.scope) sources) w.scope
  unfolding traced_check roll-Stmt denote.Hole.Carrier.roll
  assign_meets p targets sources w = ap (λ t. t.met w) (fold-roll-Stmt TracedCheck form (AssignForm p targets sources))

  pub if_meets : (p : Place) (arms : List (Arm Stmt)) (z : Option (List Stmt)) (w : Watched) → asked_met_at n system (If p arms z) w ≡ conditions_met system w.scope arms ++ check_met_at n system (taken system w.scope arms z) w
  unfolding traced_check check_met_by roll-Stmt denote.Hole.Carrier.roll
  if_meets p arms z w =
      ap (λ t. t.met w) (fold-roll-Stmt TracedCheck form (IfForm p arms z))
      ∙ (λ i. if_conditions (traced_at n system) system w.scope p arms z i ++ checks_met (if_taken (traced_at n system) system w.scope p arms z i) w)

  pub case_meets : (p : Place) (arms : List (Arm Stmt)) (z : Option (List Stmt)) (w : Watched) → asked_met_at n system (Case p arms z) w ≡ conditions_met system w.scope arms ++ check_met_at n system (taken system w.scope arms z) w
  unfolding traced_check check_met_by roll-Stmt denote.Hole.Carrier.roll
  case_meets p arms z w =
      ap (λ t. t.met w) (fold-roll-Stmt TracedCheck form (CaseForm p arms z))
      ∙ (λ i. case_conditions (traced_at n system) system w.scope p arms z i ++ checks_met (case_taken (traced_at n system) system w.scope p arms z i) w)

  pub for_meets : (p : Place) (x : Identifier) (type : Option TypeExpr) (from to : RangeBound) (block : List Stmt) (w : Watched) → asked_met_at n system (For p x type from to block) w ≡ turns_met_at n system x.name (turn_type from) block (turns from to) w
  unfolding traced_check roll-Stmt denote.Hole.Carrier.roll
  for_meets p x type from to block w = ap (λ t. t.met w) (fold-roll-Stmt TracedCheck form (ForForm p x type from to block))

  pub call_meets : (p : Place) (targets : List Target) (f : Identifier) (arguments : List Expr) (w : Watched) → asked_met_at n system (Call p targets f arguments) w ≡ call_met system (run system) (run_met system) p targets f.name arguments (running w) ++ met_after (call system (run system) p targets f.name arguments (running w)) (call_left_met system targets f.name w)
  unfolding traced_check roll-Stmt denote.Hole.Carrier.roll
  call_meets p targets f arguments w = ap (λ t. t.met w) (fold-roll-Stmt TracedCheck form (CallForm p targets f arguments))

  pub next_meets : (p : Place) (i : Identifier) (w : Watched) → asked_met_at n system (Next p i) w ≡ instance_met (check_met_through n system) (w.scope.path ++ i.name ∷ []) (module_at system (w.scope.path ++ i.name ∷ [])) w
  unfolding traced_check roll-Stmt denote.Hole.Carrier.roll
  next_meets p i w = ap (λ t. t.met w) (fold-roll-Stmt TracedCheck form (NextForm p i))

  -- ---- the turns of a loop

  module _ (x : ℕ) (t : Ty) (block : List Stmt) where
    pub turns_none : (w : Watched) → turns_at n system x t block [] w ≡ Kept w
    unfolding check_turns
    turns_none w = refl

    pub turns_next : (v : Value) (vs : List Value) (w : Watched) → turns_at n system x t block (v ∷ vs) w ≡ then_check (turn_at n system x t block v w) (turns_at n system x t block vs)
    unfolding check_turns check_by
    turns_next v vs w = sym (in_turn (check_at n system block (with_local x t v w)) (λ w'. Kept (record w' { scope = w.scope })) (turns_at n system x t block vs))

    abbrev pub turn_met : Value → CheckMet
    turn_met v w = check_met_at n system block (with_local x t v w)

    pub turns_met_none : (w : Watched) → turns_met_at n system x t block [] w ≡ []
    unfolding check_turns_met
    turns_met_none w = refl

    pub turns_met_next : (v : Value) (vs : List Value) (w : Watched) → turns_met_at n system x t block (v ∷ vs) w ≡ turn_met v w ++ met_kept (turn_at n system x t block v w) (turns_met_at n system x t block vs)
    unfolding check_turns_met check_met_by check_by
    turns_met_next v vs w =
        ap (λ xs. turn_met v w ++ met_kept (check_each xs (with_local x t v w)) (λ w'. turns_met_at n system x t block vs (record w' { scope = w.scope }))) (checks_are block)
        ∙ ap (λ ws. turn_met v w ++ ws) (met_then (check_at n system block (with_local x t v w)) (λ w'. record w' { scope = w.scope }) (turns_met_at n system x t block vs))
