-- The slices of code ask what the code asks.
use Rattle.std.proofs.Common.{◌≡◌, ℕ, List, [], ◌∷◌, ◌++◌, map, refl, sym, ap, ◌∙◌, subst, true, false, Bool, Option, Some, None, append_assoc}
use Rattle.std.specs.Prelude.{not, ◌&&◌, ◌||◌, nat_eq, if◌then◌else◌}
use Rattle.std.specs.List.{flat_map, list_all, list_any}
use Rattle.std.proofs.lemmas.Grind.{flat_map-append}
use Rattle.std.proofs.lemmas.List.Folds.{list_all-append, list_any-append}
use Rattle.uc_lexer.specs.declared.place.Place.{Place}
use Rattle.uc_syntax.proofs.Added.{append_nil}
use Rattle.uc_syntax.specs.declared.expression.Expr.{Expr}
use Rattle.uc_syntax.specs.declared.statement.Arm.{Arm}
use Rattle.uc_syntax.specs.declared.statement.Target.{Target}
use Rattle.uc_syntax.specs.declared.statement.Stmt.{Stmt}
use Rattle.uc_syntax.specs.declared.statement.Stmt.TheOpen.{Stmt-F}
use Rattle.uc_syntax.specs.declared.statement.Stmt.TheOpen.Stmt-F.{Local as LocalForm, Skip as SkipForm, Block as BlockForm, Assume as AssumeForm, Havoc as HavocForm, Assign as AssignForm, If as IfForm, Case as CaseForm, Assert as AssertForm, For as ForForm, Call as CallForm, Next as NextForm}
use Rattle.uc_syntax.specs.declared.statement.Stmt.TheViews.{roll-Stmt}
use Rattle.uc_syntax.specs.declared.statement.Stmt.TheFolds.{fold-Stmt, map-Stmt, fold-roll-Stmt, ind-Stmt}
use Rattle.uc_meaning.specs.declared.scope.Scope.{Scope}
use Rattle.uc_meaning.specs.Lookup.{System}
use Rattle.uc_meaning.specs.Expressions.{is_true, value}
use Rattle.uc_meaning.specs.Code.{else_block, taken}
use Rattle.uc_meaning.specs.Steps.{CellPart, Watched, Kept, Constraint, Blocks, then_check, check_each, kept_if, writes, is_prefix, is_written, name_parts, target_parts, is_assigned, check_targets, check_form, check_statement, check_by}
use Rattle.uc_flat_order.specs.Slices.{all_slices}
use Rattle.uc_flat_order.specs.GuardedLaws.{all_true, plain_form, is_plain, AskAlike, SlicesLaw}
use Rattle.uc_flat_order.proofs.Lists.{any_flat}
use Rattle.uc_flat_order.proofs.Leaves.{Leaf, Given, Chosen, Put, Nothing, Other, pairs, if_true, joined, arms_in, else_in, select, leaf_form, leaves, all_leaves, all_sliced, any_sliced}

and_true : (a b : Bool) → (a && b) ≡ true → (a ≡ true) × (b ≡ true)
and_true true true h = (refl, refl)
and_true true false h = absurd (cc)
and_true false b h = absurd (cc)

-- ---- plain code has plain leaves

abbrev plain_leaf : Leaf → Bool
plain_leaf Other = false
plain_leaf (Given e) = true
plain_leaf (Chosen x) = true
plain_leaf (Put t e) = true
plain_leaf Nothing = true

abbrev always : Expr → Bool
always e = true

abbrev Plain : Bool → List Leaf → Type 0
Plain b ls = b ≡ list_all plain_leaf ls

abbrev AllPlain : List Bool → List (List Leaf) → Type 0
AllPlain [] [] = Unit {0}
AllPlain (b ∷ bs) (l ∷ ls) = Plain b l × AllPlain bs ls
AllPlain bs ls = ⊥

abbrev ArmsPlain : List (Arm Bool) → List (Arm (List Leaf)) → Type 0
ArmsPlain [] [] = Unit {0}
ArmsPlain (a ∷ arms) (b ∷ others) = AllPlain a.body b.body × ArmsPlain arms others
ArmsPlain arms others = ⊥

abbrev ElsePlain : Option (List Bool) → Option (List (List Leaf)) → Type 0
ElsePlain None None = Unit {0}
ElsePlain (Some bs) (Some ls) = AllPlain bs ls
ElsePlain z o = ⊥

each_plain : (bs : List Bool) (ls : List (List Leaf)) → AllPlain bs ls → Plain (all_true bs) (joined ls)
each_plain [] [] h = refl
each_plain [] (l ∷ ls) h = absurd h
each_plain (b ∷ bs) [] h = absurd h
each_plain (b ∷ bs) (l ∷ ls) h = ap (λ x. x && all_true bs) h.0 ∙ ap (λ x. list_all plain_leaf l && x) (each_plain bs ls h.1) ∙ sym (list_all-append plain_leaf l (joined ls))

else_plain : (z : Option (List Bool)) (o : Option (List (List Leaf))) → ElsePlain z o → Plain (all_true (else_block z)) (joined (else_block o))
else_plain None None h = refl
else_plain (Some bs) (Some ls) h = each_plain bs ls h
else_plain None (Some ls) h = absurd h
else_plain (Some bs) None h = absurd h

arms_plain : (arms : List (Arm Bool)) (others : List (Arm (List Leaf))) (rest : Bool) (after : List Leaf) → ArmsPlain arms others → Plain rest after → Plain (list_all (λ a. all_true a.body) arms && rest) (select always always others after)
arms_plain [] [] rest after h g = g
arms_plain [] (b ∷ others) rest after h g = absurd h
arms_plain (a ∷ arms) [] rest after h g = absurd h
arms_plain (a ∷ arms) (b ∷ others) rest after h g =
    and_assoc (all_true a.body) (list_all (λ c. all_true c.body) arms) rest
    ∙ ap (λ x. x && (list_all (λ c. all_true c.body) arms && rest)) (each_plain a.body b.body h.0)
    ∙ ap (λ x. list_all plain_leaf (joined b.body) && x) (arms_plain arms others rest after h.1 g)
    ∙ sym (list_all-append plain_leaf (joined b.body) (select always always others after))
  where
    and_assoc : (x y z : Bool) → ((x && y) && z) ≡ (x && (y && z))
    and_assoc true y z = refl
    and_assoc false y z = refl

pairs_plain : (ts : List Target) (es : List Expr) → true ≡ list_all plain_leaf (pairs ts es)
pairs_plain [] es = refl
pairs_plain (t ∷ ts) [] = refl
pairs_plain (t ∷ ts) (e ∷ es) = pairs_plain ts es

module _ {D : Type 0} (d : D → Stmt) (same : (e : D) → Plain (is_plain (d e)) (leaves always always (d e))) where
  abbrev plain_left : Stmt-F D → Stmt-F Bool
  plain_left y = map-Stmt Stmt Bool is_plain (map-Stmt D Stmt d y)

  abbrev plain_right : Stmt-F D → Stmt-F (List Leaf)
  plain_right y = map-Stmt Stmt (List Leaf) (leaves always always) (map-Stmt D Stmt d y)

  list_plain : (es : List D) → AllPlain (map is_plain (map d es)) (map (leaves always always) (map d es))
  list_plain [] = tt
  list_plain (e ∷ es) = (same e, list_plain es)

  if_plain : (p : Place) (arms : List (Arm D)) (z : Option (List D)) → ArmsPlain (arms_in (plain_left (IfForm p arms z))) (arms_in (plain_right (IfForm p arms z))) × ElsePlain (else_in (plain_left (IfForm p arms z))) (else_in (plain_right (IfForm p arms z)))
  if_plain p [] None = (tt, tt)
  if_plain p [] (Some es) = (tt, list_plain es)
  if_plain p (a ∷ arms) z = ((list_plain a.body, (if_plain p arms z).0), (if_plain p arms z).1)

  case_plain : (p : Place) (arms : List (Arm D)) (z : Option (List D)) → ArmsPlain (arms_in (plain_left (CaseForm p arms z))) (arms_in (plain_right (CaseForm p arms z))) × ElsePlain (else_in (plain_left (CaseForm p arms z))) (else_in (plain_right (CaseForm p arms z)))
  case_plain p [] None = (tt, tt)
  case_plain p [] (Some es) = (tt, list_plain es)
  case_plain p (a ∷ arms) z = ((list_plain a.body, (case_plain p arms z).0), (case_plain p arms z).1)

  plain_layer : (y : Stmt-F D) → Plain (plain_form (plain_left y)) (leaf_form always always (plain_right y))
  plain_layer (LocalForm p names type) = refl
  plain_layer (SkipForm p) = refl
  plain_layer (BlockForm p block) = each_plain _ _ (list_plain block)
  plain_layer (AssertForm p label e) = refl
  plain_layer (AssumeForm p e) = refl
  plain_layer (HavocForm p x primed) = refl
  plain_layer (AssignForm p targets sources) = pairs_plain targets sources
  plain_layer (IfForm p arms z) = let g = if_plain p arms z in arms_plain _ _ _ _ g.0 (else_plain _ _ g.1)
  plain_layer (CaseForm p arms z) = let g = case_plain p arms z in arms_plain _ _ _ _ g.0 (else_plain _ _ g.1)
  plain_layer (ForForm p x type from to block) = refl
  plain_layer (CallForm p targets callee arguments) = refl
  plain_layer (NextForm p i) = refl

statement_plain : (s : Stmt) → Plain (is_plain s) (leaves always always s)
unfolding is_plain leaves
statement_plain =
    ind-Stmt (λ s. Plain (fold-Stmt Bool plain_form s) (fold-Stmt (List Leaf) (leaf_form always always) s))
    (λ x y is.
    let F = fold-Stmt Bool plain_form in
    let G = fold-Stmt (List Leaf) (leaf_form always always) in
    let way = plain_layer (λ e. e.0) (λ e. e.1) y in
    let way' = subst (λ z. Plain (plain_form (map-Stmt Stmt Bool F z)) (leaf_form always always (map-Stmt Stmt (List Leaf) G z))) is way in
    let left' = subst (λ b. Plain b (leaf_form always always (map-Stmt Stmt (List Leaf) G x))) (sym (fold-roll-Stmt Bool plain_form x)) way' in
    subst (λ X. Plain (F (roll-Stmt x)) X) (sym (fold-roll-Stmt (List Leaf) (leaf_form always always) x)) left')

code_plain : (code : List Stmt) → list_all is_plain code ≡ list_all plain_leaf (all_leaves always always code)
code_plain [] = refl
code_plain (s ∷ code) =
    ap (λ b. b && list_all is_plain code) (statement_plain s) ∙ ap (λ b. list_all plain_leaf (leaves always always s) && b) (code_plain code)
    ∙ sym (list_all-append plain_leaf (leaves always always s) (all_leaves always always code))

pub plain_sliced : (code : List Stmt) → list_all is_plain (all_slices code) ≡ list_all is_plain code
plain_sliced code = code_plain (all_slices code) ∙ all_sliced always always plain_leaf code ∙ sym (code_plain code)

-- ---- what plain code asks in a scope

module _ (system : System) (blocks : Blocks) (here : Scope) where
  abbrev enters : Expr → Bool
  enters e = is_true system here e

  abbrev passes : Expr → Bool
  passes e = not (is_true system here e)

  abbrev holds : Leaf → Bool
  holds (Given e) = is_true system here e
  holds (Put t e) = is_assigned system here t (value system here e)
  holds (Chosen x) = true
  holds Nothing = true
  holds Other = true

  abbrev parts : Leaf → List CellPart
  parts (Given e) = []
  parts (Put t e) = target_parts system here t
  parts (Chosen x) = name_parts system here x
  parts Nothing = []
  parts Other = []

  abbrev all_parts : List Leaf → List CellPart
  all_parts ls = flat_map parts ls

  -- a constraint asks these leaves
  abbrev asked : List Leaf → Constraint
  asked ls w = kept_if (list_all holds ls) (writes (all_parts ls) w)

  abbrev Told : Constraint → Bool → List Leaf → Type 0
  Told c b ls = b ≡ true → (w : Watched) → w.scope ≡ here → c w ≡ asked ls w

  abbrev AllTold : List Constraint → List Bool → List (List Leaf) → Type 0
  AllTold [] [] [] = Unit {0}
  AllTold (c ∷ cs) (b ∷ bs) (l ∷ ls) = Told c b l × AllTold cs bs ls
  AllTold cs bs ls = ⊥

  abbrev ArmsTold : List (Arm Constraint) → List (Arm Bool) → List (Arm (List Leaf)) → Type 0
  ArmsTold [] [] [] = Unit {0}
  ArmsTold (a ∷ as') (b ∷ bs) (l ∷ ls) = (a.condition ≡ l.condition) × AllTold a.body b.body l.body × ArmsTold as' bs ls
  ArmsTold as' bs ls = ⊥

  abbrev ElseTold : Option (List Constraint) → Option (List Bool) → Option (List (List Leaf)) → Type 0
  ElseTold None None None = Unit {0}
  ElseTold (Some cs) (Some bs) (Some ls) = AllTold cs bs ls
  ElseTold z o p = ⊥

  nothing_written : (w : Watched) → writes [] w ≡ w
  nothing_written w = ap (λ ps. record w { written = ps }) (append_nil w.written)

  asked_none : (w : Watched) → Kept w ≡ asked [] w
  asked_none w = ap Kept (sym (nothing_written w))

  written_twice : (ps qs : List CellPart) (w : Watched) → writes qs (writes ps w) ≡ writes (ps ++ qs) w
  written_twice ps qs w = ap (λ xs. record w { written = xs }) (append_assoc w.written ps qs)

  asked_both : (xs ys : List Leaf) (d : Constraint) (w : Watched) → w.scope ≡ here → ((v : Watched) → v.scope ≡ here → d v ≡ asked ys v) → then_check (asked xs w) d ≡ asked (xs ++ ys) w
  asked_both xs ys d w s h =
      by_test (list_all holds xs) ∙ ap (λ b. kept_if b (writes (all_parts xs ++ all_parts ys) w)) (sym (list_all-append holds xs ys)) ∙ ap (λ ps. kept_if (list_all holds (xs ++ ys)) (writes ps w)) (sym (flat_map-append parts xs ys))
    where
      by_test : (b : Bool) → then_check (kept_if b (writes (all_parts xs) w)) d ≡ kept_if (b && list_all holds ys) (writes (all_parts xs ++ all_parts ys) w)
      by_test true = h (writes (all_parts xs) w) s ∙ ap (kept_if (list_all holds ys)) (written_twice (all_parts xs) (all_parts ys) w)
      by_test false = refl

  each_told : (cs : List Constraint) (bs : List Bool) (ls : List (List Leaf)) → AllTold cs bs ls → Told (check_each cs) (all_true bs) (joined ls)
  unfolding check_each
  each_told [] [] [] h p w s = asked_none w
  each_told [] [] (l ∷ ls) h p w s = absurd h
  each_told [] (b ∷ bs) ls h p w s = absurd h
  each_told (c ∷ cs) [] ls h p w s = absurd h
  each_told (c ∷ cs) (b ∷ bs) [] h p w s = absurd h
  each_told (c ∷ cs) (b ∷ bs) (l ∷ ls) h p w s =
      let q = and_true b (all_true bs) p in
      ap (λ x. then_check x (check_each cs)) (h.0 q.0 w s) ∙ asked_both l (joined ls) (check_each cs) w s (λ v t. each_told cs bs ls h.1 q.1 v t)

  else_told : (z : Option (List Constraint)) (o : Option (List Bool)) (p : Option (List (List Leaf))) → ElseTold z o p → Told (check_each (else_block z)) (all_true (else_block o)) (joined (else_block p))
  else_told None None None h = each_told [] [] [] tt
  else_told (Some cs) (Some bs) (Some ls) h = each_told cs bs ls h
  else_told None None (Some ls) h = absurd h
  else_told None (Some bs) p h = absurd h
  else_told (Some cs) None p h = absurd h
  else_told (Some cs) (Some bs) None h = absurd h

  arms_told : (cs : List (Arm Constraint)) (bs : List (Arm Bool)) (ls : List (Arm (List Leaf))) (z : Option (List Constraint)) (rest : Bool) (after : List Leaf) → ArmsTold cs bs ls → Told (check_each (else_block z)) rest after
      → Told (check_each (taken system here cs z)) (list_all (λ a. all_true a.body) bs && rest) (select enters passes ls after)
  unfolding taken
  arms_told [] [] [] z rest after h g p w s = g p w s
  arms_told [] [] (l ∷ ls) z rest after h g p w s = absurd h
  arms_told [] (b ∷ bs) ls z rest after h g p w s = absurd h
  arms_told (c ∷ cs) [] ls z rest after h g p w s = absurd h
  arms_told (c ∷ cs) (b ∷ bs) [] z rest after h g p w s = absurd h
  arms_told (c ∷ cs) (b ∷ bs) (l ∷ ls) z rest after h g p w s =
      let q = and_true (all_true b.body && list_all (λ a. all_true a.body) bs) rest p in
      let r = and_true (all_true b.body) (list_all (λ a. all_true a.body) bs) q.0 in
      ap (λ e. check_each (if is_true system here e then c.body else taken system here cs z) w) h.0
      ∙ by_test (is_true system here l.condition) (each_told c.body b.body l.body h.1 r.0 w s)
      (arms_told cs bs ls z rest after h.2 g (ap (λ x. x && rest) r.1 ∙ q.1) w s)
    where
      by_test : (t : Bool) → check_each c.body w ≡ asked (joined l.body) w → check_each (taken system here cs z) w ≡ asked (select enters passes ls after) w
          → check_each (if t then c.body else taken system here cs z) w ≡ asked (if_true t (joined l.body) ++ if_true (not t) (select enters passes ls after)) w
      by_test true first rest = first ∙ ap (λ xs. asked xs w) (sym (append_nil (joined l.body)))
      by_test false first rest = rest

  targets_told : (ts : List Target) (es : List Expr) (w : Watched) → w.scope ≡ here → check_targets system ts (map (value system here) es) w ≡ asked (pairs ts es) w
  unfolding check_targets
  targets_told [] es w s = asked_none w
  targets_told (t ∷ ts) [] w s = asked_none w
  targets_told (t ∷ ts) (e ∷ es) w s =
      ap (λ x. then_check (kept_if (is_assigned system x t (value system here e)) (writes (target_parts system x t) w)) (check_targets system ts (map (value system here) es))) s
      ∙ ap (λ b. then_check (kept_if b (writes (target_parts system here t) w)) (check_targets system ts (map (value system here) es))) (sym (and_right (is_assigned system here t (value system here e))))
      ∙ ap (λ ps. then_check (kept_if (list_all holds (Put t e ∷ [])) (writes ps w)) (check_targets system ts (map (value system here) es))) (sym (append_nil (target_parts system here t)))
      ∙ asked_both (Put t e ∷ []) (pairs ts es) (check_targets system ts (map (value system here) es)) w s (λ v q. targets_told ts es v q)
    where
      and_right : (b : Bool) → (b && true) ≡ b
      and_right true = refl
      and_right false = refl

  given_told : (e : Expr) (w : Watched) → w.scope ≡ here → kept_if (is_true system w.scope e) w ≡ asked (Given e ∷ []) w
  given_told e w s =
      ap (λ x. kept_if (is_true system x e) w) s ∙ ap (λ b. kept_if b w) (sym (and_right (is_true system here e))) ∙ ap (kept_if (is_true system here e && true)) (sym (nothing_written w))
    where
      and_right : (b : Bool) → (b && true) ≡ b
      and_right true = refl
      and_right false = refl

  chosen_told : (x : ℕ) (w : Watched) → w.scope ≡ here → Kept (writes (name_parts system w.scope x) w) ≡ asked (Chosen x ∷ []) w
  chosen_told x w s = ap (λ y. Kept (writes (name_parts system y x) w)) s ∙ ap (λ ps. Kept (writes ps w)) (sym (append_nil (name_parts system here x)))

  module _ {D : Type 0} (d : D → Stmt) (same : (e : D) → Told (check_statement system blocks (d e)) (is_plain (d e)) (leaves enters passes (d e))) where
    abbrev asks : Stmt-F D → Stmt-F Constraint
    asks y = map-Stmt Stmt Constraint (check_statement system blocks) (map-Stmt D Stmt d y)

    abbrev plainly : Stmt-F D → Stmt-F Bool
    plainly y = map-Stmt Stmt Bool is_plain (map-Stmt D Stmt d y)

    abbrev told_by : Stmt-F D → Stmt-F (List Leaf)
    told_by y = map-Stmt Stmt (List Leaf) (leaves enters passes) (map-Stmt D Stmt d y)

    list_told : (es : List D) → AllTold (map (check_statement system blocks) (map d es)) (map is_plain (map d es)) (map (leaves enters passes) (map d es))
    list_told [] = tt
    list_told (e ∷ es) = (same e, list_told es)

    if_layer : (p : Place) (arms : List (Arm D)) (z : Option (List D)) → ArmsTold (arms_in (asks (IfForm p arms z))) (arms_in (plainly (IfForm p arms z))) (arms_in (told_by (IfForm p arms z)))
        × ElseTold (else_in (asks (IfForm p arms z))) (else_in (plainly (IfForm p arms z))) (else_in (told_by (IfForm p arms z)))
    if_layer p [] None = (tt, tt)
    if_layer p [] (Some es) = (tt, list_told es)
    if_layer p (a ∷ arms) z = ((refl, list_told a.body, (if_layer p arms z).0), (if_layer p arms z).1)

    case_layer : (p : Place) (arms : List (Arm D)) (z : Option (List D)) → ArmsTold (arms_in (asks (CaseForm p arms z))) (arms_in (plainly (CaseForm p arms z))) (arms_in (told_by (CaseForm p arms z)))
        × ElseTold (else_in (asks (CaseForm p arms z))) (else_in (plainly (CaseForm p arms z))) (else_in (told_by (CaseForm p arms z)))
    case_layer p [] None = (tt, tt)
    case_layer p [] (Some es) = (tt, list_told es)
    case_layer p (a ∷ arms) z = ((refl, list_told a.body, (case_layer p arms z).0), (case_layer p arms z).1)

    choice_told : (cs : List (Arm Constraint)) (bs : List (Arm Bool)) (ls : List (Arm (List Leaf))) (z : Option (List Constraint)) (o : Option (List Bool)) (q : Option (List (List Leaf))) → ArmsTold cs bs ls → ElseTold z o q
        → Told (λ w. check_each (taken system w.scope cs z) w) (list_all (λ a. all_true a.body) bs && all_true (else_block o)) (select enters passes ls (joined (else_block q)))
    choice_told cs bs ls z o q h g p w s = ap (λ x. check_each (taken system x cs z) w) s ∙ arms_told cs bs ls z (all_true (else_block o)) (joined (else_block q)) h (else_told z o q g) p w s

    layer : (y : Stmt-F D) → Told (check_form system blocks (asks y)) (plain_form (plainly y)) (leaf_form enters passes (told_by y))
    layer (LocalForm p names type) h w s = ap Kept (sym (nothing_written w))
    layer (SkipForm p) h w s = ap Kept (sym (nothing_written w))
    layer (BlockForm p block) h w s = each_told _ _ _ (list_told block) h w s
    layer (AssertForm p label e) h w s = absurd (cc)
    layer (AssumeForm p e) h w s = given_told e w s
    layer (HavocForm p x primed) h w s = chosen_told x.name w s
    layer (AssignForm p targets sources) h w s = ap (λ x. check_targets system targets (map (value system x) sources) w) s ∙ targets_told targets sources w s
    layer (IfForm p arms z) h w s = let g = if_layer p arms z in choice_told _ _ _ _ _ _ g.0 g.1 h w s
    layer (CaseForm p arms z) h w s = let g = case_layer p arms z in choice_told _ _ _ _ _ _ g.0 g.1 h w s
    layer (ForForm p x type from to block) h w s = absurd (cc)
    layer (CallForm p targets callee arguments) h w s = absurd (cc)
    layer (NextForm p i) h w s = absurd (cc)

  statement_told : (s : Stmt) → Told (check_statement system blocks s) (is_plain s) (leaves enters passes s)
  unfolding check_statement is_plain leaves
  statement_told =
      ind-Stmt (λ s. Told (fold-Stmt Constraint (check_form system blocks) s) (fold-Stmt Bool plain_form s) (fold-Stmt (List Leaf) (leaf_form enters passes) s))
      (λ x y is.
      let F = fold-Stmt Constraint (check_form system blocks) in
      let P = fold-Stmt Bool plain_form in
      let G = fold-Stmt (List Leaf) (leaf_form enters passes) in
      let way = layer (λ e. e.0) (λ e. e.1) y in
      let way' = subst (λ z. Told (check_form system blocks (map-Stmt Stmt Constraint F z)) (plain_form (map-Stmt Stmt Bool P z)) (leaf_form enters passes (map-Stmt Stmt (List Leaf) G z))) is way in
      let one = subst (λ c. Told c (plain_form (map-Stmt Stmt Bool P x)) (leaf_form enters passes (map-Stmt Stmt (List Leaf) G x))) (sym (fold-roll-Stmt Constraint (check_form system blocks) x)) way' in
      let two = subst (λ b. Told (F (roll-Stmt x)) b (leaf_form enters passes (map-Stmt Stmt (List Leaf) G x))) (sym (fold-roll-Stmt Bool plain_form x)) one in
      subst (λ X. Told (F (roll-Stmt x)) (P (roll-Stmt x)) X) (sym (fold-roll-Stmt (List Leaf) (leaf_form enters passes) x)) two)

  code_told : (code : List Stmt) → list_all is_plain code ≡ true → (w : Watched) → w.scope ≡ here → check_by system blocks code w ≡ asked (all_leaves enters passes code) w
  unfolding check_by check_each
  code_told [] h w s = asked_none w
  code_told (x ∷ code) h w s =
      let q = and_true (is_plain x) (list_all is_plain code) h in
      ap (λ y. then_check y (check_each (map (check_statement system blocks) code))) (statement_told x q.0 w s)
      ∙ asked_both (leaves enters passes x) (all_leaves enters passes code) (check_each (map (check_statement system blocks) code)) w s (λ v t. code_told code q.1 v t)

  abbrev touches : ℕ → List ℕ → CellPart → Bool
  touches k fields p = nat_eq p.cell k && (is_prefix p.fields fields || is_prefix fields p.fields)

  alike : (b c : Bool) (ps qs : List CellPart) (w : Watched) → b ≡ c → ((k : ℕ) (fields : List ℕ) → list_any (touches k fields) ps ≡ list_any (touches k fields) qs) → AskAlike (kept_if b (writes ps w)) (kept_if c (writes qs w))
  unfolding is_written
  alike true true ps qs w e h = record {
    scope = refl;
    left = refl;
    sites = refl;
    written = λ k fields. list_any-append (touches k fields) w.written ps ∙ ap (λ b. list_any (touches k fields) w.written || b) (h k fields) ∙ sym (list_any-append (touches k fields) w.written qs);
  }
  alike false false ps qs w e h = tt
  alike true false ps qs w e h = absurd (cc)
  alike false true ps qs w e h = absurd (cc)

  pub asked_alike : (code : List Stmt) → list_all is_plain code ≡ true → (w : Watched) → w.scope ≡ here → AskAlike (check_by system blocks (all_slices code) w) (check_by system blocks code w)
  asked_alike code h w s =
      let xs = all_leaves enters passes (all_slices code) in
      let ys = all_leaves enters passes code in
      let same = alike (list_all holds xs) (list_all holds ys) (all_parts xs) (all_parts ys) w (all_sliced enters passes holds code)
      (λ k fields. any_flat (touches k fields) parts xs ∙ any_sliced enters passes (λ l. list_any (touches k fields) (parts l)) code ∙ sym (any_flat (touches k fields) parts ys)) in
      let first = subst (λ c. AskAlike c (asked ys w)) (sym (code_told (all_slices code) (plain_sliced code ∙ h) w s)) same in
      subst (λ c. AskAlike (check_by system blocks (all_slices code) w) c) (sym (code_told code h w s)) first

pub slices_law : SlicesLaw
slices_law = record { plain = plain_sliced; ask = λ system blocks code h w. asked_alike system blocks w.scope code h w refl }
