-- What is wanted of each form of statement, and the names that it writes.
use Rattle.std.proofs.Common.{◌≡◌, ℕ, List, [], ◌∷◌, ◌++◌, map, refl, sym, ap, ◌∙◌, subst, Bool, Option, Some, None}
use Rattle.std.specs.Prelude.{Result, Ok, Err, IfOk}
use Rattle.std.specs.Option.{option_map, option_to_list}
use Rattle.std.specs.List.{flat_map}
use Rattle.uc_lexer.specs.declared.place.Place.{Place}
use Rattle.uc_syntax.specs.declared.place.Identifier.{Identifier}
use Rattle.uc_syntax.specs.declared.expression.Expr.{Expr}
use Rattle.uc_syntax.specs.declared.type_expression.TypeExpr.{TypeExpr}
use Rattle.uc_syntax.specs.declared.statement.Arm.{Arm}
use Rattle.uc_syntax.specs.declared.statement.RangeBound.{RangeBound}
use Rattle.uc_syntax.specs.declared.statement.Target.{Target}
use Rattle.uc_syntax.specs.declared.statement.Stmt.{Stmt}
use Rattle.uc_syntax.specs.declared.statement.Stmt.TheOpen.{Stmt-F}
use Rattle.uc_syntax.specs.declared.statement.Stmt.TheOpen.Stmt-F.{Local as LocalForm, Skip as SkipForm, Block as BlockForm, Assume as AssumeForm, Havoc as HavocForm, Assign as AssignForm, If as IfForm, Case as CaseForm, Assert as AssertForm, For as ForForm, Call as CallForm, Next as NextForm}
use Rattle.uc_syntax.specs.declared.statement.Stmt.TheViews.{roll-Stmt, Block, If, Case, For}
use Rattle.uc_syntax.specs.declared.statement.Stmt.TheVariants.{Local, Skip, Assert, Assume, Havoc, Assign, Call, Next}
use Rattle.uc_syntax.specs.declared.statement.Stmt.TheFolds.{fold-Stmt, map-Stmt, fold-roll-Stmt, ind-Stmt}
use Rattle.uc_meaning.specs.Code.{else_block}
use Rattle.uc_flat_order.specs.declared.branches.Branches.{Branches}
use Rattle.uc_flat_order.specs.declared.wanted.Wanted.{Wanted}
use Rattle.uc_flat_order.specs.Slices.{same_names, names_form, names_written, wants, if_wanted, assigned, with_bodies, up_to_last, without_else, branches, if_of, case_of, Taken, whole_of, kept_in, bodies_in, branches_in, kept_form, taken_form, kept}
use Rattle.uc_flat_order.proofs.Leaves.{arms_in, else_in}

abbrev each_arm : {A B : Type 0} → (A → B) → Arm A → Arm B
each_arm f a = record { condition = a.condition; body = map f a.body }

abbrev mapped : {A B : Type 0} → (A → B) → Option (List A) → Option (List B)
mapped f None = None
mapped f (Some block) = Some (map f block)

module _ {A : Type 0} (f : Stmt → A) where
  if_arms : (p : Place) (arms : List (Arm Stmt)) (z : Option (List Stmt)) → arms_in (map-Stmt Stmt A f (IfForm p arms z)) ≡ map (each_arm f) arms
  if_arms p [] z = refl
  if_arms p (a ∷ arms) z = ap (λ xs. each_arm f a ∷ xs) (if_arms p arms z)

  case_arms : (p : Place) (arms : List (Arm Stmt)) (z : Option (List Stmt)) → arms_in (map-Stmt Stmt A f (CaseForm p arms z)) ≡ map (each_arm f) arms
  case_arms p [] z = refl
  case_arms p (a ∷ arms) z = ap (λ xs. each_arm f a ∷ xs) (case_arms p arms z)

  if_else : (p : Place) (arms : List (Arm Stmt)) (z : Option (List Stmt)) → else_in (map-Stmt Stmt A f (IfForm p arms z)) ≡ mapped f z
  if_else p arms None = refl
  if_else p arms (Some block) = refl

  case_else : (p : Place) (arms : List (Arm Stmt)) (z : Option (List Stmt)) → else_in (map-Stmt Stmt A f (CaseForm p arms z)) ≡ mapped f z
  case_else p arms None = refl
  case_else p arms (Some block) = refl

  -- what the parts of a statement give, by what they are mapped to
  module _ {B : Type 0} (g : A → List B) (h : Stmt → List B) (same : (s : Stmt) → g (f s) ≡ h s) where
    pub each_mapped : (ss : List Stmt) → flat_map g (map f ss) ≡ flat_map h ss
    each_mapped [] = refl
    each_mapped (s ∷ ss) = ap (λ xs. xs ++ flat_map g (map f ss)) (same s) ∙ ap (λ xs. h s ++ xs) (each_mapped ss)

    pub else_mapped : (z : Option (List Stmt)) → flat_map g (else_block (mapped f z)) ≡ flat_map h (else_block z)
    else_mapped None = refl
    else_mapped (Some block) = each_mapped block

    pub arms_mapped : (arms : List (Arm Stmt)) → flat_map (λ a. flat_map g a.body) (map (each_arm f) arms) ≡ flat_map (λ a. flat_map h a.body) arms
    arms_mapped [] = refl
    arms_mapped (a ∷ arms) = ap (λ xs. xs ++ flat_map (λ b. flat_map g b.body) (map (each_arm f) arms)) (each_mapped a.body) ∙ ap (λ xs. flat_map h a.body ++ xs) (arms_mapped arms)

-- ---- names

own_names : (s : Stmt) → same_names (names_written s) ≡ names_written s
own_names s = refl

abbrev branch_names : List (Arm Stmt) → Option (List Stmt) → List ℕ
branch_names arms z = flat_map (λ a. flat_map names_written a.body) arms ++ flat_map names_written (else_block z)

abbrev names_by : List (Arm (List ℕ)) → Option (List (List ℕ)) → List ℕ
names_by arms z = flat_map (λ a. flat_map same_names a.body) arms ++ flat_map same_names (else_block z)

abbrev mapped_names : List (Arm Stmt) → Option (List Stmt) → List ℕ
mapped_names arms z = names_by (map (each_arm names_written) arms) (mapped names_written z)

names_mapped : (arms : List (Arm Stmt)) (z : Option (List Stmt)) → mapped_names arms z ≡ branch_names arms z
names_mapped arms z =
    ap (λ xs. xs ++ flat_map same_names (else_block (mapped names_written z))) (arms_mapped names_written same_names names_written own_names arms)
    ∙ ap (λ xs. flat_map (λ a. flat_map names_written a.body) arms ++ xs) (else_mapped names_written same_names names_written own_names z)

rolled_names : (y : Stmt-F Stmt) → names_written (roll-Stmt y) ≡ names_form (map-Stmt Stmt (List ℕ) names_written y)
unfolding names_written
rolled_names y = fold-roll-Stmt (List ℕ) names_form y

names_if : (p : Place) (arms : List (Arm Stmt)) (z : Option (List Stmt)) → names_written (If p arms z) ≡ branch_names arms z
unfolding roll-Stmt denote.Hole.Carrier.roll
names_if p arms z =
    rolled_names (IfForm p arms z)
    ∙ ap (λ xs. names_by xs (else_in (map-Stmt Stmt (List ℕ) names_written (IfForm p arms z)))) (if_arms names_written p arms z)
    ∙ ap (λ o. names_by (map (each_arm names_written) arms) o) (if_else names_written p arms z)
    ∙ names_mapped arms z

names_case : (p : Place) (arms : List (Arm Stmt)) (z : Option (List Stmt)) → names_written (Case p arms z) ≡ branch_names arms z
unfolding roll-Stmt denote.Hole.Carrier.roll
names_case p arms z =
    rolled_names (CaseForm p arms z)
    ∙ ap (λ xs. names_by xs (else_in (map-Stmt Stmt (List ℕ) names_written (CaseForm p arms z)))) (case_arms names_written p arms z)
    ∙ ap (λ o. names_by (map (each_arm names_written) arms) o) (case_else names_written p arms z)
    ∙ names_mapped arms z

names_block : (p : Place) (block : List Stmt) → names_written (Block p block) ≡ flat_map names_written block
unfolding roll-Stmt denote.Hole.Carrier.roll
names_block p block = rolled_names (BlockForm p block) ∙ each_mapped names_written same_names names_written own_names block

names_for : (p : Place) (x : Identifier) (ty : Option TypeExpr) (from to : RangeBound) (block : List Stmt) → names_written (For p x ty from to block) ≡ []
unfolding roll-Stmt denote.Hole.Carrier.roll
names_for p x ty from to block = rolled_names (ForForm p x ty from to block)

names_local : (p : Place) (xs : List Identifier) (ty : TypeExpr) → names_written (Local p xs ty) ≡ []
unfolding roll-Stmt denote.Hole.Carrier.roll
names_local p xs ty = rolled_names (LocalForm p xs ty)

names_skip : (p : Place) → names_written (Skip p) ≡ []
unfolding roll-Stmt denote.Hole.Carrier.roll
names_skip p = rolled_names (SkipForm p)

names_assert : (p : Place) (label : Option Identifier) (e : Expr) → names_written (Assert p label e) ≡ []
unfolding roll-Stmt denote.Hole.Carrier.roll
names_assert p label e = rolled_names (AssertForm p label e)

names_assume : (p : Place) (e : Expr) → names_written (Assume p e) ≡ []
unfolding roll-Stmt denote.Hole.Carrier.roll
names_assume p e = rolled_names (AssumeForm p e)

names_havoc : (p : Place) (x : Identifier) (primed : Bool) → names_written (Havoc p x primed) ≡ x.name ∷ []
unfolding roll-Stmt denote.Hole.Carrier.roll
names_havoc p x primed = rolled_names (HavocForm p x primed)

names_assign : (p : Place) (targets : List Target) (sources : List Expr) → names_written (Assign p targets sources) ≡ map (λ t. t.name) targets
unfolding roll-Stmt denote.Hole.Carrier.roll
names_assign p targets sources = rolled_names (AssignForm p targets sources)

names_call : (p : Place) (targets : List Target) (f : Identifier) (arguments : List Expr) → names_written (Call p targets f arguments) ≡ []
unfolding roll-Stmt denote.Hole.Carrier.roll
names_call p targets f arguments = rolled_names (CallForm p targets f arguments)

names_next : (p : Place) (i : Identifier) → names_written (Next p i) ≡ []
unfolding roll-Stmt denote.Hole.Carrier.roll
names_next p i = rolled_names (NextForm p i)

-- ---- what is wanted

map_like : {A B C : Type 0} (g : C → B) (f : A → B) (h : A → C) (xs : List A) → ((x : A) → g (h x) ≡ f x) → map g (map h xs) ≡ map f xs
map_like g f h [] e = refl
map_like g f h (x ∷ xs) e = ap (λ y. y ∷ map g (map h xs)) (e x) ∙ ap (λ ys. f x ∷ ys) (map_like g f h xs e)

module _ (w : Wanted) where
  abbrev taken_apart : Stmt → Taken
  taken_apart = fold-Stmt Taken (taken_form w)

  -- ---- the whole is the statement

  module _ {D : Type 0} (d : D → Stmt) (same : (e : D) → (taken_apart (d e)).whole ≡ d e) where
    list_whole : (es : List D) → map whole_of (map taken_apart (map d es)) ≡ map d es
    list_whole [] = refl
    list_whole (e ∷ es) = ap (λ x. x ∷ map whole_of (map taken_apart (map d es))) (same e) ∙ ap (λ xs. d e ∷ xs) (list_whole es)

    abbrev left : Stmt-F D → Stmt-F Stmt
    left y = map-Stmt Taken Stmt whole_of (map-Stmt Stmt Taken taken_apart (map-Stmt D Stmt d y))

    abbrev right : Stmt-F D → Stmt-F Stmt
    right y = map-Stmt D Stmt d y

    whole_if_arms : (p : Place) (arms : List (Arm D)) (z : Option (List D)) → arms_in (left (IfForm p arms z)) ≡ arms_in (right (IfForm p arms z))
    whole_if_arms p [] z = refl
    whole_if_arms p (a ∷ arms) z =
        ap (λ b. record { condition = a.condition; body = b } ∷ arms_in (left (IfForm p arms z))) (list_whole a.body)
        ∙ ap (λ k. record { condition = a.condition; body = map d a.body } ∷ k) (whole_if_arms p arms z)

    whole_case_arms : (p : Place) (arms : List (Arm D)) (z : Option (List D)) → arms_in (left (CaseForm p arms z)) ≡ arms_in (right (CaseForm p arms z))
    whole_case_arms p [] z = refl
    whole_case_arms p (a ∷ arms) z =
        ap (λ b. record { condition = a.condition; body = b } ∷ arms_in (left (CaseForm p arms z))) (list_whole a.body)
        ∙ ap (λ k. record { condition = a.condition; body = map d a.body } ∷ k) (whole_case_arms p arms z)

    whole_if_else : (p : Place) (arms : List (Arm D)) (z : Option (List D)) → else_in (left (IfForm p arms z)) ≡ else_in (right (IfForm p arms z))
    whole_if_else p arms None = refl
    whole_if_else p arms (Some es) = ap (λ xs. Some xs) (list_whole es)

    whole_case_else : (p : Place) (arms : List (Arm D)) (z : Option (List D)) → else_in (left (CaseForm p arms z)) ≡ else_in (right (CaseForm p arms z))
    whole_case_else p arms None = refl
    whole_case_else p arms (Some es) = ap (λ xs. Some xs) (list_whole es)

    layer_whole : (y : Stmt-F D) → left y ≡ right y
    layer_whole (LocalForm p names type) = refl
    layer_whole (SkipForm p) = refl
    layer_whole (BlockForm p es) = ap (λ xs. BlockForm p xs) (list_whole es)
    layer_whole (AssertForm p label e) = refl
    layer_whole (AssumeForm p e) = refl
    layer_whole (HavocForm p x primed) = refl
    layer_whole (AssignForm p targets sources) = refl
    layer_whole (IfForm p arms z) =
        ap (λ k. IfForm p k (else_in (left (IfForm p arms z)))) (whole_if_arms p arms z)
        ∙ ap (λ k. IfForm p (arms_in (right (IfForm p arms z))) k) (whole_if_else p arms z)
    layer_whole (CaseForm p arms z) =
        ap (λ k. CaseForm p k (else_in (left (CaseForm p arms z)))) (whole_case_arms p arms z)
        ∙ ap (λ k. CaseForm p (arms_in (right (CaseForm p arms z))) k) (whole_case_else p arms z)
    layer_whole (ForForm p x type from to es) = ap (λ xs. ForForm p x type from to xs) (list_whole es)
    layer_whole (CallForm p targets callee arguments) = refl
    layer_whole (NextForm p i) = refl

  whole_is : (s : Stmt) → (taken_apart s).whole ≡ s
  whole_is =
      ind-Stmt (λ s. (taken_apart s).whole ≡ s)
      (λ x y is.
      ap (λ t. t.whole) (fold-roll-Stmt Taken (taken_form w) x)
      ∙ ap roll-Stmt (subst (λ z. map-Stmt Taken Stmt whole_of (map-Stmt Stmt Taken taken_apart z) ≡ z) is (layer_whole (λ e. e.0) (λ e. e.1) y)))

  -- ---- what is wanted of each form

  kept_is : (s : Stmt) → kept_in (taken_apart s) ≡ kept w s
  unfolding kept
  kept_is s = refl

  rolled_kept : (y : Stmt-F Stmt) → kept w (roll-Stmt y) ≡ kept_form w (map-Stmt Stmt Taken taken_apart y)
  unfolding kept
  rolled_kept y = ap (λ (t : Taken). t.kept) (fold-roll-Stmt Taken (taken_form w) y)

  with_mapped : (arms : List (Arm Stmt)) (bodies : List (List Stmt)) → with_bodies (map (each_arm taken_apart) arms) bodies ≡ with_bodies arms bodies
  unfolding with_bodies
  with_mapped [] [] = refl
  with_mapped [] (b ∷ bodies) = refl
  with_mapped (a ∷ arms) [] = refl
  with_mapped (a ∷ arms) (b ∷ bodies) = ap (λ xs. record { condition = a.condition; body = b } ∷ xs) (with_mapped arms bodies)

  branches_as : (arms : List (Arm Stmt)) (bodies : List (List Stmt)) (rest : List Stmt) → branches (map (each_arm taken_apart) arms) bodies rest ≡ branches arms bodies rest
  branches_as arms bodies (s ∷ ss) = ap (λ (xs : List (Arm Stmt)). let b : Branches = record { arms = xs; otherwise = Some (s ∷ ss) } in Some b) (with_mapped arms bodies)
  branches_as arms bodies [] = by_case (up_to_last bodies)
    where
      by_case : (bs : List (List Stmt)) → without_else (map (each_arm taken_apart) arms) bs ≡ without_else arms bs
      by_case [] = refl
      by_case (b ∷ bs) = ap (λ (xs : List (Arm Stmt)). let c : Branches = record { arms = xs; otherwise = None } in Some c) (with_mapped arms (b ∷ bs))

  bodies_mapped : (arms : List (Arm Stmt)) → bodies_in kept_in (map (each_arm taken_apart) arms) ≡ bodies_in (kept w) arms
  bodies_mapped arms = map_like (λ a. flat_map kept_in a.body) (λ a. flat_map (kept w) a.body) (each_arm taken_apart) arms (λ a. each_mapped taken_apart kept_in (kept w) kept_is a.body)

  branches_mapped : (arms : List (Arm Stmt)) (z : Option (List Stmt)) → branches_in kept_in (map (each_arm taken_apart) arms) (mapped taken_apart z) ≡ branches_in (kept w) arms z
  branches_mapped arms z =
      ap (λ bs. branches (map (each_arm taken_apart) arms) bs (flat_map kept_in (else_block (mapped taken_apart z)))) (bodies_mapped arms)
      ∙ ap (branches (map (each_arm taken_apart) arms) (bodies_in (kept w) arms)) (else_mapped taken_apart kept_in (kept w) kept_is z)
      ∙ branches_as arms (bodies_in (kept w) arms) (flat_map (kept w) (else_block z))

  kept_if : (p : Place) (arms : List (Arm Stmt)) (z : Option (List Stmt)) → kept w (If p arms z) ≡ option_to_list (option_map (if_of p) (branches_in (kept w) arms z))
  unfolding roll-Stmt denote.Hole.Carrier.roll
  kept_if p arms z =
      rolled_kept (IfForm p arms z)
      ∙ ap (λ xs. option_to_list (option_map (if_of p) (branches_in kept_in xs (else_in (map-Stmt Stmt Taken taken_apart (IfForm p arms z)))))) (if_arms taken_apart p arms z)
      ∙ ap (λ o. option_to_list (option_map (if_of p) (branches_in kept_in (map (each_arm taken_apart) arms) o))) (if_else taken_apart p arms z)
      ∙ ap (λ b. option_to_list (option_map (if_of p) b)) (branches_mapped arms z)

  kept_case : (p : Place) (arms : List (Arm Stmt)) (z : Option (List Stmt)) → kept w (Case p arms z) ≡ option_to_list (option_map (case_of p) (branches_in (kept w) arms z))
  unfolding roll-Stmt denote.Hole.Carrier.roll
  kept_case p arms z =
      rolled_kept (CaseForm p arms z)
      ∙ ap (λ xs. option_to_list (option_map (case_of p) (branches_in kept_in xs (else_in (map-Stmt Stmt Taken taken_apart (CaseForm p arms z)))))) (case_arms taken_apart p arms z)
      ∙ ap (λ o. option_to_list (option_map (case_of p) (branches_in kept_in (map (each_arm taken_apart) arms) o))) (case_else taken_apart p arms z)
      ∙ ap (λ b. option_to_list (option_map (case_of p) b)) (branches_mapped arms z)

  kept_block : (p : Place) (block : List Stmt) → kept w (Block p block) ≡ flat_map (kept w) block
  unfolding roll-Stmt denote.Hole.Carrier.roll
  kept_block p block = rolled_kept (BlockForm p block) ∙ each_mapped taken_apart kept_in (kept w) kept_is block

  kept_for : (p : Place) (x : Identifier) (ty : Option TypeExpr) (from to : RangeBound) (block : List Stmt) → kept w (For p x ty from to block) ≡ if_wanted (wants w None) (For p x ty from to block)
  unfolding roll-Stmt denote.Hole.Carrier.roll
  kept_for p x ty from to block =
      rolled_kept (ForForm p x ty from to block)
      ∙ ap (λ ss. if_wanted (wants w None) (For p x ty from to ss)) (map_like whole_of (λ s. s) taken_apart block whole_is ∙ own block)
    where
      own : (ss : List Stmt) → map (λ s. s) ss ≡ ss
      own [] = refl
      own (s ∷ ss) = ap (λ xs. s ∷ xs) (own ss)

  kept_local : (p : Place) (xs : List Identifier) (ty : TypeExpr) → kept w (Local p xs ty) ≡ if_wanted (wants w None) (Local p xs ty)
  unfolding roll-Stmt denote.Hole.Carrier.roll
  kept_local p xs ty = rolled_kept (LocalForm p xs ty)

  kept_skip : (p : Place) → kept w (Skip p) ≡ if_wanted (wants w None) (Skip p)
  unfolding roll-Stmt denote.Hole.Carrier.roll
  kept_skip p = rolled_kept (SkipForm p)

  kept_assert : (p : Place) (label : Option Identifier) (e : Expr) → kept w (Assert p label e) ≡ if_wanted (wants w None) (Assert p label e)
  unfolding roll-Stmt denote.Hole.Carrier.roll
  kept_assert p label e = rolled_kept (AssertForm p label e)

  kept_assume : (p : Place) (e : Expr) → kept w (Assume p e) ≡ if_wanted (wants w None) (Assume p e)
  unfolding roll-Stmt denote.Hole.Carrier.roll
  kept_assume p e = rolled_kept (AssumeForm p e)

  kept_havoc : (p : Place) (x : Identifier) (primed : Bool) → kept w (Havoc p x primed) ≡ if_wanted (wants w (Some x.name)) (Havoc p x primed)
  unfolding roll-Stmt denote.Hole.Carrier.roll
  kept_havoc p x primed = rolled_kept (HavocForm p x primed)

  kept_assign : (p : Place) (targets : List Target) (sources : List Expr) → kept w (Assign p targets sources) ≡ assigned w p targets sources
  unfolding roll-Stmt denote.Hole.Carrier.roll
  kept_assign p targets sources = rolled_kept (AssignForm p targets sources)

  kept_call : (p : Place) (targets : List Target) (f : Identifier) (arguments : List Expr) → kept w (Call p targets f arguments) ≡ if_wanted (wants w None) (Call p targets f arguments)
  unfolding roll-Stmt denote.Hole.Carrier.roll
  kept_call p targets f arguments = rolled_kept (CallForm p targets f arguments)

  kept_next : (p : Place) (i : Identifier) → kept w (Next p i) ≡ if_wanted (wants w None) (Next p i)
  unfolding roll-Stmt denote.Hole.Carrier.roll
  kept_next p i = rolled_kept (NextForm p i)

-- ---- answers by the form of the statement

gives : {A B E : Type 0} (f : A → B) (s t : A) (b : B) (r : Result B E) → s ≡ t → f t ≡ b → IfOk r (λ o. o ≡ b) → IfOk r (λ o. o ≡ f s)
gives f s t b (Ok o) is e h = h ∙ sym (ap f is ∙ e)
gives f s t b (Err x) is e h = tt

same_branches : (w : Wanted) (arms slice again : List (Arm Stmt)) (z : Option (List Stmt)) (last : List Stmt) (bodies : List (List Stmt)) (own : Option Branches) → slice ≡ arms → again ≡ arms → last ≡ flat_map (kept w) (else_block z) → bodies ≡ bodies_in (kept w) slice → own ≡ branches again bodies last
    → branches_in (kept w) arms z ≡ own
same_branches w arms slice again z last bodies own e f l b o =
    sym (o ∙ ap (λ xs. branches xs bodies last) f ∙ ap (λ bs. branches arms bs last) (b ∙ ap (bodies_in (kept w)) e) ∙ ap (branches arms (bodies_in (kept w) arms)) l)

module _ {E : Type 0} (w : Wanted) (s : Stmt) where
  pub block_gives : (place : Place) (block slice : List Stmt) (r : Result (List Stmt) E) → s ≡ Block place block → slice ≡ block → IfOk r (λ ss. ss ≡ flat_map (kept w) slice) → IfOk r (λ ss. ss ≡ kept w s)
  block_gives place block slice r is e h = gives (kept w) s (Block place block) (flat_map (kept w) slice) r is (kept_block w place block ∙ ap (flat_map (kept w)) (sym e)) h

  pub assign_gives : (place : Place) (targets slice : List Target) (sources other : List Expr) (r : Result (List Stmt) E) → s ≡ Assign place targets sources → slice ≡ targets → other ≡ sources → IfOk r (λ ss. ss ≡ assigned w place slice other) → IfOk r (λ ss. ss ≡ kept w s)
  assign_gives place targets slice sources other r is e f h =
      gives (kept w) s (Assign place targets sources) (assigned w place slice other) r is (kept_assign w place targets sources ∙ ap (λ ts. assigned w place ts sources) (sym e) ∙ ap (assigned w place slice) (sym f)) h

  pub if_gives : (p : Place) (arms slice again : List (Arm Stmt)) (z : Option (List Stmt)) (last : List Stmt) (bodies : List (List Stmt)) (own : Option Branches) (r : Result (List Stmt) E) → s ≡ If p arms z → slice ≡ arms → again ≡ arms → last ≡ flat_map (kept w) (else_block z)
      → bodies ≡ bodies_in (kept w) slice → own ≡ branches again bodies last → IfOk r (λ ss. ss ≡ option_to_list (option_map (if_of p) own)) → IfOk r (λ ss. ss ≡ kept w s)
  if_gives p arms slice again z last bodies own r is e f l b o h =
      gives (kept w) s (If p arms z) (option_to_list (option_map (if_of p) own)) r is (kept_if w p arms z ∙ ap (λ x. option_to_list (option_map (if_of p) x)) (same_branches w arms slice again z last bodies own e f l b o)) h

  pub case_gives : (p : Place) (arms slice again : List (Arm Stmt)) (z : Option (List Stmt)) (last : List Stmt) (bodies : List (List Stmt)) (own : Option Branches) (r : Result (List Stmt) E) → s ≡ Case p arms z → slice ≡ arms → again ≡ arms → last ≡ flat_map (kept w) (else_block z)
      → bodies ≡ bodies_in (kept w) slice → own ≡ branches again bodies last → IfOk r (λ ss. ss ≡ option_to_list (option_map (case_of p) own)) → IfOk r (λ ss. ss ≡ kept w s)
  case_gives p arms slice again z last bodies own r is e f l b o h =
      gives (kept w) s (Case p arms z) (option_to_list (option_map (case_of p) own)) r is (kept_case w p arms z ∙ ap (λ x. option_to_list (option_map (case_of p) x)) (same_branches w arms slice again z last bodies own e f l b o)) h

  -- a statement that has none inside
  own_gives : (k : Option ℕ) (t : Stmt) (r : Result (List Stmt) E) → s ≡ t → kept w t ≡ if_wanted (wants w k) t → IfOk r (λ ss. ss ≡ if_wanted (wants w k) s) → IfOk r (λ ss. ss ≡ kept w s)
  own_gives k t r is e h = gives (kept w) s t (if_wanted (wants w k) s) r is (e ∙ ap (if_wanted (wants w k)) (sym is)) h

  pub havoc_gives : (p : Place) (x : Identifier) (primed : Bool) (r : Result (List Stmt) E) → s ≡ Havoc p x primed → IfOk r (λ ss. ss ≡ if_wanted (wants w (Some x.name)) s) → IfOk r (λ ss. ss ≡ kept w s)
  havoc_gives p x primed r is h = own_gives (Some x.name) (Havoc p x primed) r is (kept_havoc w p x primed) h

  module _ (r : Result (List Stmt) E) (h : IfOk r (λ ss. ss ≡ if_wanted (wants w None) s)) where
    pub local_gives : (p : Place) (xs : List Identifier) (ty : TypeExpr) → s ≡ Local p xs ty → IfOk r (λ ss. ss ≡ kept w s)
    local_gives p xs ty is = own_gives None (Local p xs ty) r is (kept_local w p xs ty) h

    pub skip_gives : (p : Place) → s ≡ Skip p → IfOk r (λ ss. ss ≡ kept w s)
    skip_gives p is = own_gives None (Skip p) r is (kept_skip w p) h

    pub assert_gives : (p : Place) (label : Option Identifier) (e : Expr) → s ≡ Assert p label e → IfOk r (λ ss. ss ≡ kept w s)
    assert_gives p label e is = own_gives None (Assert p label e) r is (kept_assert w p label e) h

    pub assume_gives : (p : Place) (e : Expr) → s ≡ Assume p e → IfOk r (λ ss. ss ≡ kept w s)
    assume_gives p e is = own_gives None (Assume p e) r is (kept_assume w p e) h

    pub for_gives : (p : Place) (x : Identifier) (ty : Option TypeExpr) (from to : RangeBound) (block : List Stmt) → s ≡ For p x ty from to block → IfOk r (λ ss. ss ≡ kept w s)
    for_gives p x ty from to block is = own_gives None (For p x ty from to block) r is (kept_for w p x ty from to block) h

    pub call_gives : (p : Place) (targets : List Target) (f : Identifier) (arguments : List Expr) → s ≡ Call p targets f arguments → IfOk r (λ ss. ss ≡ kept w s)
    call_gives p targets f arguments is = own_gives None (Call p targets f arguments) r is (kept_call w p targets f arguments) h

    pub next_gives : (p : Place) (i : Identifier) → s ≡ Next p i → IfOk r (λ ss. ss ≡ kept w s)
    next_gives p i is = own_gives None (Next p i) r is (kept_next w p i) h

module _ (s : Stmt) where
  no_names : (t : Stmt) → s ≡ t → names_written t ≡ [] → [] ≡ names_written s
  no_names t is e = sym (ap names_written is ∙ e)

  pub local_names : (p : Place) (xs : List Identifier) (ty : TypeExpr) → s ≡ Local p xs ty → [] ≡ names_written s
  local_names p xs ty is = no_names (Local p xs ty) is (names_local p xs ty)

  pub skip_names : (p : Place) → s ≡ Skip p → [] ≡ names_written s
  skip_names p is = no_names (Skip p) is (names_skip p)

  pub assert_names : (p : Place) (label : Option Identifier) (e : Expr) → s ≡ Assert p label e → [] ≡ names_written s
  assert_names p label e is = no_names (Assert p label e) is (names_assert p label e)

  pub assume_names : (p : Place) (e : Expr) → s ≡ Assume p e → [] ≡ names_written s
  assume_names p e is = no_names (Assume p e) is (names_assume p e)

  pub for_names : (p : Place) (x : Identifier) (ty : Option TypeExpr) (from to : RangeBound) (block : List Stmt) → s ≡ For p x ty from to block → [] ≡ names_written s
  for_names p x ty from to block is = no_names (For p x ty from to block) is (names_for p x ty from to block)

  pub call_names : (p : Place) (targets : List Target) (f : Identifier) (arguments : List Expr) → s ≡ Call p targets f arguments → [] ≡ names_written s
  call_names p targets f arguments is = no_names (Call p targets f arguments) is (names_call p targets f arguments)

  pub next_names : (p : Place) (i : Identifier) → s ≡ Next p i → [] ≡ names_written s
  next_names p i is = no_names (Next p i) is (names_next p i)

  module _ {E : Type 0} (r : Result (List ℕ) E) where
    pub block_names : (p : Place) (block slice : List Stmt) → s ≡ Block p block → slice ≡ block → IfOk r (λ xs. xs ≡ flat_map names_written slice) → IfOk r (λ xs. xs ≡ names_written s)
    block_names p block slice is e h = gives names_written s (Block p block) (flat_map names_written slice) r is (names_block p block ∙ ap (flat_map names_written) (sym e)) h

    pub havoc_names : (p : Place) (x : Identifier) (primed : Bool) → s ≡ Havoc p x primed → IfOk r (λ xs. xs ≡ x.name ∷ []) → IfOk r (λ xs. xs ≡ names_written s)
    havoc_names p x primed is h = gives names_written s (Havoc p x primed) (x.name ∷ []) r is (names_havoc p x primed) h

    pub assign_names : (p : Place) (targets slice : List Target) (sources : List Expr) → s ≡ Assign p targets sources → slice ≡ targets → IfOk r (λ xs. xs ≡ map (λ t. t.name) slice) → IfOk r (λ xs. xs ≡ names_written s)
    assign_names p targets slice sources is e h = gives names_written s (Assign p targets sources) (map (λ t. t.name) slice) r is (names_assign p targets sources ∙ ap (map (λ t. t.name)) (sym e)) h

    both_names : (arms slice : List (Arm Stmt)) (z : Option (List Stmt)) (first last : List ℕ) → slice ≡ arms → last ≡ flat_map names_written (else_block z) → first ≡ flat_map (λ a. flat_map names_written a.body) slice → branch_names arms z ≡ first ++ last
    both_names arms slice z first last e l f = sym (ap (λ xs. first ++ xs) l ∙ ap (λ xs. xs ++ flat_map names_written (else_block z)) (f ∙ ap (flat_map (λ a. flat_map names_written a.body)) e))

    pub if_names : (p : Place) (arms slice : List (Arm Stmt)) (z : Option (List Stmt)) (first last : List ℕ) → s ≡ If p arms z → slice ≡ arms → last ≡ flat_map names_written (else_block z) → first ≡ flat_map (λ a. flat_map names_written a.body) slice
        → IfOk r (λ xs. xs ≡ first ++ last) → IfOk r (λ xs. xs ≡ names_written s)
    if_names p arms slice z first last is e l f h = gives names_written s (If p arms z) (first ++ last) r is (names_if p arms z ∙ both_names arms slice z first last e l f) h

    pub case_names : (p : Place) (arms slice : List (Arm Stmt)) (z : Option (List Stmt)) (first last : List ℕ) → s ≡ Case p arms z → slice ≡ arms → last ≡ flat_map names_written (else_block z) → first ≡ flat_map (λ a. flat_map names_written a.body) slice
        → IfOk r (λ xs. xs ≡ first ++ last) → IfOk r (λ xs. xs ≡ names_written s)
    case_names p arms slice z first last is e l f h = gives names_written s (Case p arms z) (first ++ last) r is (names_case p arms z ∙ both_names arms slice z first last e l f) h
