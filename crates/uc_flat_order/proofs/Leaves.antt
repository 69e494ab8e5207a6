-- The statements that have none inside, along ways through code.
use Rattle.std.proofs.Common.{◌≡◌, ℕ, List, [], ◌∷◌, ◌++◌, map, refl, sym, ap, ◌∙◌, subst, true, false, Bool, Option, Some, None}
use Rattle.std.specs.Prelude.{cond, ◌&&◌, ◌||◌}
use Rattle.std.specs.Option.{option_map, option_to_list}
use Rattle.std.specs.List.{flat_map, filter, list_all, list_any}
use Rattle.std.proofs.lemmas.Grind.{flat_map-append}
use Rattle.std.proofs.lemmas.List.Elements.{filter-append}
use Rattle.std.proofs.lemmas.List.Folds.{list_all-append, list_any-append}
use Rattle.uc_lexer.specs.declared.place.Place.{Place}
use Rattle.uc_syntax.proofs.Added.{append_nil}
use Rattle.uc_syntax.specs.declared.expression.Expr.{Expr}
use Rattle.uc_syntax.specs.declared.statement.Arm.{Arm}
use Rattle.uc_syntax.specs.declared.statement.Target.{Target}
use Rattle.uc_syntax.specs.declared.statement.Stmt.{Stmt}
use Rattle.uc_syntax.specs.declared.statement.Stmt.TheOpen.{Stmt-F}
use Rattle.uc_syntax.specs.declared.statement.Stmt.TheOpen.Stmt-F.{Local as LocalForm, Skip as SkipForm, Block as BlockForm, Assume as AssumeForm, Havoc as HavocForm, Assign as AssignForm, If as IfForm, Case as CaseForm, Assert as AssertForm, For as ForForm, Call as CallForm, Next as NextForm}
use Rattle.uc_syntax.specs.declared.statement.Stmt.TheViews.{roll-Stmt}
use Rattle.uc_syntax.specs.declared.statement.Stmt.TheVariants.{Assign}
use Rattle.uc_syntax.specs.declared.statement.Stmt.TheFolds.{fold-Stmt, map-Stmt, fold-roll-Stmt, ind-Stmt}
use Rattle.uc_meaning.specs.Code.{else_block}
use Rattle.uc_flat_order.specs.declared.branches.Branches.{Branches}
use Rattle.uc_flat_order.specs.declared.wanted.Wanted.{Wanted}
use Rattle.uc_flat_order.specs.Slices.{wants, if_wanted, assigned, with_bodies, in_front, up_to_last, without_else, branches, if_of, case_of, Taken, whole_of, kept_in, itself, bodies_in, branches_in, taken_form, kept, each_wanted, each_once, names_written, slices, all_slices}
use Rattle.uc_flat_order.proofs.Lists.{wanted, taken_by, any_taken, all_taken}

-- a statement that has none inside; an assignment of several targets is one for each
pub data Leaf : Type 0 where
  Given : Expr → Leaf
  Chosen : ℕ → Leaf
  Put : Target → Expr → Leaf
  Nothing : Leaf
  Other : Leaf

abbrev pub key : Leaf → Option ℕ
key (Chosen x) = Some x
key (Put t e) = Some t.name
key (Given e) = None
key Nothing = None
key Other = None

abbrev pub pairs : List Target → List Expr → List Leaf
pairs (t ∷ ts) (e ∷ es) = Put t e ∷ pairs ts es
pairs ts es = []

abbrev pub if_true : {A : Type 0} → Bool → List A → List A
if_true true xs = xs
if_true false xs = []

abbrev pub same_leaves : List Leaf → List Leaf
same_leaves ls = ls

abbrev pub joined : List (List Leaf) → List Leaf
joined ls = flat_map same_leaves ls

abbrev pub arms_in : {X : Type 0} → Stmt-F X → List (Arm X)
arms_in (IfForm p arms z) = arms
arms_in (CaseForm p arms z) = arms
arms_in other = []

abbrev pub else_in : {X : Type 0} → Stmt-F X → Option (List X)
else_in (IfForm p arms z) = z
else_in (CaseForm p arms z) = z
else_in other = None

filter_if : {A : Type 0} (p : A → Bool) (b : Bool) (xs : List A) → filter p (if_true b xs) ≡ if_true b (filter p xs)
filter_if p true xs = refl
filter_if p false xs = refl

nothing_if : {A : Type 0} (b : Bool) → if_true {A = A} b [] ≡ []
nothing_if true = refl
nothing_if false = refl

-- An arm is entered where the first test holds of its condition, and the arms behind it where the second does.
module _ (enters passes : Expr → Bool) where
  abbrev pub select : List (Arm (List Leaf)) → List Leaf → List Leaf
  select [] rest = rest
  select (a ∷ arms) rest = if_true (enters a.condition) (joined a.body) ++ if_true (passes a.condition) (select arms rest)

  abbrev pub leaf_form : Stmt-F (List Leaf) → List Leaf
  leaf_form (LocalForm p names type) = Nothing ∷ []
  leaf_form (SkipForm p) = Nothing ∷ []
  leaf_form (BlockForm p block) = joined block
  leaf_form (AssertForm p label e) = Other ∷ []
  leaf_form (AssumeForm p e) = Given e ∷ []
  leaf_form (HavocForm p x primed) = Chosen x.name ∷ []
  leaf_form (AssignForm p targets sources) = pairs targets sources
  leaf_form (IfForm p arms z) = select arms (joined (else_block z))
  leaf_form (CaseForm p arms z) = select arms (joined (else_block z))
  leaf_form (ForForm p x type from to block) = Other ∷ []
  leaf_form (CallForm p targets callee arguments) = Other ∷ []
  leaf_form (NextForm p i) = Other ∷ []

  unfoldable pub leaves : Stmt → List Leaf
  leaves = fold-Stmt (List Leaf) leaf_form

  abbrev pub all_leaves : List Stmt → List Leaf
  all_leaves code = flat_map leaves code

  -- ---- of conditionals that are made again

  -- those of arms
  abbrev along : List (Arm Stmt) → List Leaf → List Leaf
  along [] rest = rest
  along (a ∷ arms) rest = if_true (enters a.condition) (all_leaves a.body) ++ if_true (passes a.condition) (along arms rest)

  joined_leaves : (ss : List Stmt) → joined (map leaves ss) ≡ all_leaves ss
  joined_leaves [] = refl
  joined_leaves (s ∷ ss) = ap (λ ls. leaves s ++ ls) (joined_leaves ss)

  along_if : (p : Place) (arms : List (Arm Stmt)) (z : Option (List Stmt)) (rest : List Leaf) → select (arms_in (map-Stmt Stmt (List Leaf) leaves (IfForm p arms z))) rest ≡ along arms rest
  along_if p [] z rest = refl
  along_if p (a ∷ arms) z rest =
      ap (λ ls. if_true (enters a.condition) ls ++ if_true (passes a.condition) (select (arms_in (map-Stmt Stmt (List Leaf) leaves (IfForm p arms z))) rest)) (joined_leaves a.body)
      ∙ ap (λ ls. if_true (enters a.condition) (all_leaves a.body) ++ if_true (passes a.condition) ls) (along_if p arms z rest)

  along_case : (p : Place) (arms : List (Arm Stmt)) (z : Option (List Stmt)) (rest : List Leaf) → select (arms_in (map-Stmt Stmt (List Leaf) leaves (CaseForm p arms z))) rest ≡ along arms rest
  along_case p [] z rest = refl
  along_case p (a ∷ arms) z rest =
      ap (λ ls. if_true (enters a.condition) ls ++ if_true (passes a.condition) (select (arms_in (map-Stmt Stmt (List Leaf) leaves (CaseForm p arms z))) rest)) (joined_leaves a.body)
      ∙ ap (λ ls. if_true (enters a.condition) (all_leaves a.body) ++ if_true (passes a.condition) ls) (along_case p arms z rest)

  else_if : (p : Place) (arms : List (Arm Stmt)) (z : Option (List Stmt)) → joined (else_block (else_in (map-Stmt Stmt (List Leaf) leaves (IfForm p arms z)))) ≡ all_leaves (else_block z)
  else_if p arms None = refl
  else_if p arms (Some block) = joined_leaves block

  else_case : (p : Place) (arms : List (Arm Stmt)) (z : Option (List Stmt)) → joined (else_block (else_in (map-Stmt Stmt (List Leaf) leaves (CaseForm p arms z)))) ≡ all_leaves (else_block z)
  else_case p arms None = refl
  else_case p arms (Some block) = joined_leaves block

  leaves_if : (p : Place) (b : Branches) → leaves (if_of p b) ≡ along b.arms (all_leaves (else_block b.otherwise))
  unfolding leaves roll-Stmt denote.Hole.Carrier.roll
  leaves_if p b =
      fold-roll-Stmt (List Leaf) leaf_form (IfForm p b.arms b.otherwise)
      ∙ along_if p b.arms b.otherwise (joined (else_block (else_in (map-Stmt Stmt (List Leaf) leaves (IfForm p b.arms b.otherwise)))))
      ∙ ap (along b.arms) (else_if p b.arms b.otherwise)

  leaves_case : (p : Place) (b : Branches) → leaves (case_of p b) ≡ along b.arms (all_leaves (else_block b.otherwise))
  unfolding leaves roll-Stmt denote.Hole.Carrier.roll
  leaves_case p b =
      fold-roll-Stmt (List Leaf) leaf_form (CaseForm p b.arms b.otherwise)
      ∙ along_case p b.arms b.otherwise (joined (else_block (else_in (map-Stmt Stmt (List Leaf) leaves (CaseForm p b.arms b.otherwise)))))
      ∙ ap (along b.arms) (else_case p b.arms b.otherwise)

  leaves_assign : (p : Place) (t : Target) (e : Expr) → leaves (Assign p (t ∷ []) (e ∷ [])) ≡ Put t e ∷ []
  unfolding leaves roll-Stmt denote.Hole.Carrier.roll
  leaves_assign p t e = fold-roll-Stmt (List Leaf) leaf_form (AssignForm p (t ∷ []) (e ∷ []))

  -- ---- arms up to the last that has statements

  module _ {A : Type 0} where
    no_bodies : (arms : List (Arm A)) → along (with_bodies arms []) [] ≡ []
    unfolding with_bodies
    no_bodies [] = refl
    no_bodies (a ∷ arms) = refl

    up_to : (arms : List (Arm A)) (bodies : List (List Stmt)) → along (with_bodies arms (up_to_last bodies)) [] ≡ along (with_bodies arms bodies) []
    unfolding with_bodies up_to_last
    up_to [] [] = refl
    up_to [] (b ∷ bodies) = by_front (in_front b (up_to_last bodies))
      where
        by_front : (bs : List (List Stmt)) → along (with_bodies {A = A} [] bs) [] ≡ []
        by_front [] = refl
        by_front (c ∷ cs) = refl
    up_to (a ∷ arms) [] = refl
    up_to (a ∷ arms) (b ∷ bodies) = by_front b (up_to_last bodies) (up_to arms bodies)
      where
        empty : (bs : List (List Stmt)) → along (with_bodies arms bs) [] ≡ along (with_bodies arms bodies) [] → bs ≡ [] → along (with_bodies arms bodies) [] ≡ []
        empty bs e is = sym e ∙ ap (λ xs. along (with_bodies arms xs) []) is ∙ no_bodies arms

        by_front : (c : List Stmt) (bs : List (List Stmt)) → along (with_bodies arms bs) [] ≡ along (with_bodies arms bodies) []
            → along (with_bodies (a ∷ arms) (in_front c bs)) [] ≡ if_true (enters a.condition) (all_leaves c) ++ if_true (passes a.condition) (along (with_bodies arms bodies) [])
        by_front [] [] e =
            sym (ap (λ ls. if_true (enters a.condition) [] ++ if_true (passes a.condition) ls) (empty [] e refl) ∙ ap (λ ls. ls ++ if_true (passes a.condition) []) (nothing_if (enters a.condition)) ∙ nothing_if (passes a.condition))
        by_front [] (x ∷ xs) e = ap (λ ls. if_true (enters a.condition) [] ++ if_true (passes a.condition) ls) e
        by_front (s ∷ ss) bs e = ap (λ ls. if_true (enters a.condition) (all_leaves (s ∷ ss)) ++ if_true (passes a.condition) ls) e

    -- the conditional that is made of branches, if any
    made : (make : Branches → Stmt) → ((b : Branches) → leaves (make b) ≡ along b.arms (all_leaves (else_block b.otherwise))) → (arms : List (Arm A)) (bodies : List (List Stmt)) (rest : List Stmt)
        → all_leaves (option_to_list (option_map make (branches arms bodies rest))) ≡ along (with_bodies arms bodies) (all_leaves rest)
    made make is arms bodies (s ∷ ss) = append_nil (leaves (make (record { arms = with_bodies arms bodies; otherwise = Some (s ∷ ss) }))) ∙ is (record { arms = with_bodies arms bodies; otherwise = Some (s ∷ ss) })
    made make is arms bodies [] = by_case (up_to_last bodies) refl ∙ up_to arms bodies
      where
        by_case : (bs : List (List Stmt)) → up_to_last bodies ≡ bs → all_leaves (option_to_list (option_map make (without_else arms bs))) ≡ along (with_bodies arms (up_to_last bodies)) []
        by_case [] e = sym (ap (λ xs. along (with_bodies arms xs) []) e ∙ no_bodies arms)
        by_case (b ∷ bs) e =
            append_nil (leaves (make (record { arms = with_bodies arms (b ∷ bs); otherwise = None }))) ∙ is (record { arms = with_bodies arms (b ∷ bs); otherwise = None })
            ∙ ap (λ xs. along (with_bodies arms xs) []) (sym e)

  -- ---- what is wanted of a statement has those of its leaves that are wanted

  module _ (w : Wanted) where
    abbrev chosen : List Leaf → List Leaf
    chosen ls = filter (wanted key w) ls

    abbrev Has : Taken → List Leaf → Type 0
    Has t ls = all_leaves t.kept ≡ chosen ls

    abbrev AllHave : List Taken → List (List Leaf) → Type 0
    AllHave [] [] = Unit {0}
    AllHave (t ∷ ts) (l ∷ ls) = Has t l × AllHave ts ls
    AllHave ts ls = ⊥

    abbrev ArmsHave : List (Arm Taken) → List (Arm (List Leaf)) → Type 0
    ArmsHave [] [] = Unit {0}
    ArmsHave (a ∷ arms) (b ∷ others) = (a.condition ≡ b.condition) × AllHave a.body b.body × ArmsHave arms others
    ArmsHave arms others = ⊥

    abbrev ElseHas : Option (List Taken) → Option (List (List Leaf)) → Type 0
    ElseHas None None = Unit {0}
    ElseHas (Some ts) (Some ls) = AllHave ts ls
    ElseHas z o = ⊥

    each_has : (ts : List Taken) (ls : List (List Leaf)) → AllHave ts ls → all_leaves (flat_map kept_in ts) ≡ chosen (joined ls)
    each_has [] [] h = refl
    each_has [] (l ∷ ls) h = absurd h
    each_has (t ∷ ts) [] h = absurd h
    each_has (t ∷ ts) (l ∷ ls) h =
        flat_map-append leaves t.kept (flat_map kept_in ts) ∙ ap (λ xs. xs ++ all_leaves (flat_map kept_in ts)) h.0 ∙ ap (λ xs. chosen l ++ xs) (each_has ts ls h.1)
        ∙ sym (filter-append (wanted key w) l (joined ls))

    else_has : (z : Option (List Taken)) (o : Option (List (List Leaf))) → ElseHas z o → all_leaves (flat_map kept_in (else_block z)) ≡ chosen (joined (else_block o))
    else_has None None h = refl
    else_has (Some ts) (Some ls) h = each_has ts ls h
    else_has None (Some ls) h = absurd h
    else_has (Some ts) None h = absurd h

    arms_have : (arms : List (Arm Taken)) (others : List (Arm (List Leaf))) (rest after : List Leaf) → ArmsHave arms others → after ≡ chosen rest → along (with_bodies arms (bodies_in kept_in arms)) after ≡ chosen (select others rest)
    unfolding with_bodies
    arms_have [] [] rest after h g = g
    arms_have [] (b ∷ others) rest after h g = absurd h
    arms_have (a ∷ arms) [] rest after h g = absurd h
    arms_have (a ∷ arms) (b ∷ others) rest after h g =
        ap (λ c. if_true (enters c) (all_leaves (flat_map kept_in a.body)) ++ if_true (passes c) (along (with_bodies arms (bodies_in kept_in arms)) after)) h.0
        ∙ ap (λ xs. if_true (enters b.condition) xs ++ if_true (passes b.condition) (along (with_bodies arms (bodies_in kept_in arms)) after)) (each_has a.body b.body h.1)
        ∙ ap (λ xs. if_true (enters b.condition) (chosen (joined b.body)) ++ if_true (passes b.condition) xs) (arms_have arms others rest after h.2 g)
        ∙ ap (λ xs. xs ++ if_true (passes b.condition) (chosen (select others rest))) (sym (filter_if (wanted key w) (enters b.condition) (joined b.body)))
        ∙ ap (λ xs. chosen (if_true (enters b.condition) (joined b.body)) ++ xs) (sym (filter_if (wanted key w) (passes b.condition) (select others rest)))
        ∙ sym (filter-append (wanted key w) (if_true (enters b.condition) (joined b.body)) (if_true (passes b.condition) (select others rest)))

    choice_has : (make : Branches → Stmt) → ((b : Branches) → leaves (make b) ≡ along b.arms (all_leaves (else_block b.otherwise))) → (arms : List (Arm Taken)) (others : List (Arm (List Leaf))) (z : Option (List Taken)) (o : Option (List (List Leaf)))
        → ArmsHave arms others → ElseHas z o → all_leaves (option_to_list (option_map make (branches_in kept_in arms z))) ≡ chosen (select others (joined (else_block o)))
    choice_has make is arms others z o h g =
        made make is arms (bodies_in kept_in arms) (flat_map kept_in (else_block z))
        ∙ arms_have arms others (joined (else_block o)) (all_leaves (flat_map kept_in (else_block z))) h (else_has z o g)

    one_has : (s : Stmt) (l : Leaf) (k : Option ℕ) → leaves s ≡ l ∷ [] → key l ≡ k → all_leaves (if_wanted (wants w k) s) ≡ chosen (l ∷ [])
    one_has s l k e n = by_test (wants w k) ∙ ap (λ x. cond (wants w x) (l ∷ []) []) (sym n)
      where
        by_test : (b : Bool) → all_leaves (if_wanted b s) ≡ cond b (l ∷ []) []
        by_test true = ap (λ xs. xs ++ []) e
        by_test false = refl

    assigned_has : (p : Place) (ts : List Target) (es : List Expr) → all_leaves (assigned w p ts es) ≡ chosen (pairs ts es)
    unfolding assigned
    assigned_has p [] es = refl
    assigned_has p (t ∷ ts) [] = refl
    assigned_has p (t ∷ ts) (e ∷ es) =
        flat_map-append leaves (if_wanted (wants w (Some t.name)) (Assign p (t ∷ []) (e ∷ []))) (assigned w p ts es)
        ∙ ap (λ xs. xs ++ all_leaves (assigned w p ts es)) (one_has (Assign p (t ∷ []) (e ∷ [])) (Put t e) (Some t.name) (leaves_assign p t e) refl)
        ∙ ap (λ xs. chosen (Put t e ∷ []) ++ xs) (assigned_has p ts es)
        ∙ sym (filter-append (wanted key w) (Put t e ∷ []) (pairs ts es))

    abbrev taken_apart : Stmt → Taken
    taken_apart = fold-Stmt Taken (taken_form w)

    rolled : (y : Stmt-F Stmt) → leaves (roll-Stmt y) ≡ leaf_form (map-Stmt Stmt (List Leaf) leaves y)
    unfolding leaves
    rolled y = fold-roll-Stmt (List Leaf) leaf_form y

    module _ {D : Type 0} (d : D → Stmt) (same : (e : D) → Has (taken_apart (d e)) (leaves (d e))) where
      abbrev left : Stmt-F D → Stmt-F Taken
      left y = map-Stmt Stmt Taken taken_apart (map-Stmt D Stmt d y)

      abbrev right : Stmt-F D → Stmt-F (List Leaf)
      right y = map-Stmt Stmt (List Leaf) leaves (map-Stmt D Stmt d y)

      abbrev again : Stmt-F D → Stmt-F Stmt
      again y = map-Stmt Taken Stmt whole_of (left y)

      list_has : (es : List D) → AllHave (map taken_apart (map d es)) (map leaves (map d es))
      list_has [] = tt
      list_has (e ∷ es) = (same e, list_has es)

      if_layer : (p : Place) (arms : List (Arm D)) (z : Option (List D)) → ArmsHave (arms_in (left (IfForm p arms z))) (arms_in (right (IfForm p arms z))) × ElseHas (else_in (left (IfForm p arms z))) (else_in (right (IfForm p arms z)))
      if_layer p [] None = (tt, tt)
      if_layer p [] (Some es) = (tt, list_has es)
      if_layer p (a ∷ arms) z = ((refl, list_has a.body, (if_layer p arms z).0), (if_layer p arms z).1)

      case_layer : (p : Place) (arms : List (Arm D)) (z : Option (List D)) → ArmsHave (arms_in (left (CaseForm p arms z))) (arms_in (right (CaseForm p arms z))) × ElseHas (else_in (left (CaseForm p arms z))) (else_in (right (CaseForm p arms z)))
      case_layer p [] None = (tt, tt)
      case_layer p [] (Some es) = (tt, list_has es)
      case_layer p (a ∷ arms) z = ((refl, list_has a.body, (case_layer p arms z).0), (case_layer p arms z).1)

      layer : (y : Stmt-F D) → Has (taken_form w (left y)) (leaf_form (right y))
      layer (LocalForm p names type) = one_has (itself (left (LocalForm p names type))) Nothing None (rolled (again (LocalForm p names type))) refl
      layer (SkipForm p) = one_has (itself (left (SkipForm p))) Nothing None (rolled (again (SkipForm p))) refl
      layer (BlockForm p block) = each_has _ _ (list_has block)
      layer (AssertForm p label e) = one_has (itself (left (AssertForm p label e))) Other None (rolled (again (AssertForm p label e))) refl
      layer (AssumeForm p e) = one_has (itself (left (AssumeForm p e))) (Given e) None (rolled (again (AssumeForm p e))) refl
      layer (HavocForm p x primed) = one_has (itself (left (HavocForm p x primed))) (Chosen x.name) (Some x.name) (rolled (again (HavocForm p x primed))) refl
      layer (AssignForm p targets sources) = assigned_has p targets sources
      layer (IfForm p arms z) = choice_has (if_of p) (leaves_if p) _ _ _ _ (if_layer p arms z).0 (if_layer p arms z).1
      layer (CaseForm p arms z) = choice_has (case_of p) (leaves_case p) _ _ _ _ (case_layer p arms z).0 (case_layer p arms z).1
      layer (ForForm p x type from to block) = one_has (itself (left (ForForm p x type from to block))) Other None (rolled (again (ForForm p x type from to block))) refl
      layer (CallForm p targets callee arguments) = one_has (itself (left (CallForm p targets callee arguments))) Other None (rolled (again (CallForm p targets callee arguments))) refl
      layer (NextForm p i) = one_has (itself (left (NextForm p i))) Other None (rolled (again (NextForm p i))) refl

    statement_has : (s : Stmt) → Has (taken_apart s) (leaves s)
    unfolding leaves
    statement_has =
        ind-Stmt (λ s. Has (taken_apart s) (fold-Stmt (List Leaf) leaf_form s))
        (λ x y is.
        let F = taken_apart in
        let G = fold-Stmt (List Leaf) leaf_form in
        let way = layer (λ e. e.0) (λ e. e.1) y in
        let way' = subst (λ z. Has (taken_form w (map-Stmt Stmt Taken F z)) (leaf_form (map-Stmt Stmt (List Leaf) G z))) is way in
        let left' = subst (λ t. Has t (leaf_form (map-Stmt Stmt (List Leaf) G x))) (sym (fold-roll-Stmt Taken (taken_form w) x)) way' in
        subst (λ X. Has (F (roll-Stmt x)) X) (sym (fold-roll-Stmt (List Leaf) leaf_form x)) left')

    pub kept_leaves : (s : Stmt) → all_leaves (kept w s) ≡ chosen (leaves s)
    unfolding kept
    kept_leaves s = statement_has s

  -- ---- all slices

  all_kept : (s : Stmt) (ws : List Wanted) → all_leaves (flat_map (λ w. kept w s) ws) ≡ flat_map (λ w. filter (wanted key w) (leaves s)) ws
  all_kept s [] = refl
  all_kept s (w ∷ ws) =
      flat_map-append leaves (kept w s) (flat_map (λ v. kept v s) ws) ∙ ap (λ ls. ls ++ all_leaves (flat_map (λ v. kept v s) ws)) (kept_leaves w s)
      ∙ ap (λ ls. filter (wanted key w) (leaves s) ++ ls) (all_kept s ws)

  abbrev names_of : Stmt → List ℕ
  names_of s = each_once [] (names_written s)

  slices_have : (s : Stmt) → all_leaves (slices s) ≡ taken_by key (names_of s) (leaves s)
  slices_have s = all_kept s (each_wanted (names_of s))

  -- tests over the leaves
  pub all_sliced : (p : Leaf → Bool) (code : List Stmt) → list_all p (all_leaves (all_slices code)) ≡ list_all p (all_leaves code)
  all_sliced p [] = refl
  all_sliced p (s ∷ code) =
      ap (list_all p) (flat_map-append leaves (slices s) (all_slices code)) ∙ list_all-append p (all_leaves (slices s)) (all_leaves (all_slices code))
      ∙ ap (λ ls. list_all p ls && list_all p (all_leaves (all_slices code))) (slices_have s)
      ∙ ap (λ b. b && list_all p (all_leaves (all_slices code))) (all_taken key p (names_of s) (leaves s))
      ∙ ap (λ b. list_all p (leaves s) && b) (all_sliced p code)
      ∙ sym (list_all-append p (leaves s) (all_leaves code))

  pub any_sliced : (p : Leaf → Bool) (code : List Stmt) → list_any p (all_leaves (all_slices code)) ≡ list_any p (all_leaves code)
  any_sliced p [] = refl
  any_sliced p (s ∷ code) =
      ap (list_any p) (flat_map-append leaves (slices s) (all_slices code)) ∙ list_any-append p (all_leaves (slices s)) (all_leaves (all_slices code))
      ∙ ap (λ ls. list_any p ls || list_any p (all_leaves (all_slices code))) (slices_have s)
      ∙ ap (λ b. b || list_any p (all_leaves (all_slices code))) (any_taken key p (names_of s) (leaves s))
      ∙ ap (λ b. list_any p (leaves s) || b) (any_sliced p code)
      ∙ sym (list_any-append p (leaves s) (all_leaves code))
