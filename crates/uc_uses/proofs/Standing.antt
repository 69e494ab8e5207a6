-- Numbers stand for uses, one by one.
use Rattle.std.proofs.Common.{◌≡◌, ℕ, zero, suc, false, List, [], ◌∷◌, ◌++◌, map, length, Option, Some, None, refl, ap, sym, subst, ◌∙◌, ◌⊎◌, inl, inr, ⊎_elim}
use Rattle.std.specs.Prelude.{slice_get, slice_index_or, is_some, if◌then◌else◌, unwrap_or}
use Rattle.std.specs.List.{flat_map}
use Rattle.std.specs.Option.{option_and_then, option_map}
use Rattle.uc_syntax.specs.declared.expression.Expr.{Expr}
use Rattle.uc_syntax.specs.declared.declaration.Module.{Module}
use Rattle.uc_syntax.proofs.Labels.{flat_flat}
use Rattle.uc_meaning.specs.Lookup.{System, Defined, define_of, main_module, module_at}
use Rattle.uc_graph.specs.Order.{needs}
use Rattle.uc_order_rules.specs.Roots.{NameAt, name_at, is_bound_input, led}
use Rattle.uc_order_rules.specs.Mentions.{Mention, Reads, Applies, ReadsOld, mentions, expressions_in, calls_in}
use Rattle.uc_order_rules.specs.Uses.{Used, UsedDefine, UsedProcedure, UsedInput, clause_expressions, define_uses, expression_uses, mention_uses, name_uses, uses_of}
use Rattle.uc_uses.specs.declared.tree.Step.{Step}
use Rattle.uc_uses.specs.declared.tree.Node.{Node}
use Rattle.uc_uses.specs.declared.tree.InstanceTree.{InstanceTree}
use Rattle.uc_uses.specs.Trees.{IsTree, led_node, node_at, step}
use Rattle.uc_uses.specs.PathLaw.{IsLed}
use Rattle.uc_uses.proofs.Lists.{none_some, some_same}
use Rattle.uc_uses.specs.declared.uses.UseKind.TheVariants.{Define, Procedure, Input}
use Rattle.uc_uses.specs.declared.uses.NumberedUse.{NumberedUse}
use Rattle.uc_uses.specs.declared.table.UseTable.{UseTable}
use Rattle.uc_uses.specs.declared.resolving.Resolved.TheVariants.{Use}
use Rattle.uc_uses.specs.Sources.{SourceMeant, OfExpression, OfProcedure, source_meant}
use Rattle.uc_uses.specs.Tables.{KnowsUses, number, use_name}
use Rattle.uc_uses.specs.Resolving.{all_source_uses, call_number, call_numbers, mention_uses as mention_numbers, mentions_in, read_as, read_at, source_uses, uses_among, uses_from}
use Rattle.uc_uses.specs.Numbers.{number_of}
use Rattle.uc_uses.proofs.Texts.{TextOf, code_there, defined_when, idle_procedure, inputs, no_define, paths, texts}

index_map : {A B : Type 0} (f : A → B) (d : B) (xs : List A) (n : ℕ) (x : A) → slice_get xs n ≡ Some x → slice_index_or (map f xs) n d ≡ f x
index_map f d [] zero x h = none_some x h
index_map f d [] (suc n) x h = none_some x h
index_map f d (y ∷ xs) zero x h = ap f (some_same y x h)
index_map f d (y ∷ xs) (suc n) x h = index_map f d xs n x h

index_past : {A B : Type 0} (f : A → B) (d : B) (xs : List A) → slice_index_or (map f xs) (length xs) d ≡ d
index_past f d [] = refl
index_past f d (x ∷ xs) = index_past f d xs

module _ (system : System) (m : Module) (t : InstanceTree) (main : main_module system ≡ Some m) (tree : IsTree system t) (u : UseTable) (knows : KnowsUses t u) where
  abbrev pub graph : List (List ℕ)
  graph = all_source_uses t u

  pub needs_at : (i : ℕ) (e : NumberedUse) → slice_get u.uses i ≡ Some e → needs graph i ≡ source_uses t u (source_meant e.source)
  unfolding all_source_uses
  needs_at i e at = index_map (λ (q : NumberedUse). source_uses t u (source_meant q.source)) [] u.uses i e at

  needs_past : needs graph (length u.uses) ≡ []
  unfolding all_source_uses
  needs_past = index_past (λ (q : NumberedUse). source_uses t u (source_meant q.source)) [] u.uses

  -- a number stands for a use, or for one that uses nothing
  abbrev pub StandsFor : Used → ℕ → Type 0
  StandsFor v i = (number_of t u v ≡ Some i) ⊎ ((uses_of system v ≡ []) × (needs graph i ≡ []))

  unfoldable pub AreNumbered : List ℕ → List Used → Type 0
  AreNumbered [] [] = Unit {0}
  AreNumbered (i ∷ is) (v ∷ vs) = StandsFor v i × AreNumbered is vs
  AreNumbered [] (v ∷ vs) = ⊥
  AreNumbered (i ∷ is) [] = ⊥

  are_none : AreNumbered [] []
  unfolding AreNumbered
  are_none = tt

  are_one : (i : ℕ) (v : Used) → StandsFor v i → AreNumbered (i ∷ []) (v ∷ [])
  unfolding AreNumbered
  are_one i v h = (h, tt)

  are_append : (is js : List ℕ) (vs ws : List Used) → AreNumbered is vs → AreNumbered js ws → AreNumbered (is ++ js) (vs ++ ws)
  unfolding AreNumbered
  are_append [] js [] ws a b = b
  are_append [] js (v ∷ vs) ws a b = absurd a
  are_append (i ∷ is) js [] ws a b = absurd a
  are_append (i ∷ is) js (v ∷ vs) ws a b = (a.0, are_append is js vs ws a.1 b)

  are_flat : {A : Type 0} (f : A → List ℕ) (g : A → List Used) (xs : List A) → ((x : A) → AreNumbered (f x) (g x)) → AreNumbered (flat_map f xs) (flat_map g xs)
  are_flat f g [] each = are_none
  are_flat f g (x ∷ xs) each = are_append (f x) (flat_map f xs) (g x) (flat_map g xs) (each x) (are_flat f g xs each)

  module _ (path : List ℕ) (k : ℕ) (c : Node) (to : node_at t path ≡ Some k) (at : slice_get t.nodes k ≡ Some c) where
    -- ---- mentions

    read_stands : (n : NameAt) (s : Step) → node_at t n.path ≡ Some s.node → n.name ≡ s.name → AreNumbered (uses_from (Some (read_at u s))) (name_uses system n)
    read_stands n s there named = by (number u (use_name Input s.node s.name)) refl
      where
        is_number : number_of t u (UsedInput n) ≡ number u (use_name Input s.node s.name)
        is_number = ap (option_and_then (λ j. number u (use_name Input j n.name))) there ∙ ap (λ x. number u (use_name Input s.node x)) named

        is_bound : (o : Option ℕ) → number u (use_name Input s.node s.name) ≡ o → is_some o ≡ is_bound_input system n
        is_bound o e = ap is_some (sym e ∙ sym is_number) ∙ inputs system m t main tree u knows n

        by : (o : Option ℕ) → number u (use_name Input s.node s.name) ≡ o → AreNumbered (uses_from (Some (read_as s (number u (use_name Input s.node s.name))))) (name_uses system n)
        by None e =
            subst (λ o. AreNumbered (uses_from (Some (read_as s o))) (name_uses system n)) (sym e)
            (subst (λ b. AreNumbered [] (if b then UsedInput n ∷ [] else [])) (is_bound None e) are_none)
        by (Some i) e =
            subst (λ o. AreNumbered (uses_from (Some (read_as s o))) (name_uses system n)) (sym e)
            (subst (λ b. AreNumbered (i ∷ []) (if b then UsedInput n ∷ [] else [])) (is_bound (Some i) e) (are_one i (UsedInput n) (inl (is_number ∙ e))))

    led_stands : (n : NameAt) (o : Option Step) → IsLed system t o n → AreNumbered (uses_from (option_map (read_at u) o)) (name_uses system n)
    led_stands n None none = subst (λ b. AreNumbered [] (if b then UsedInput n ∷ [] else [])) (sym (inputs_none n none)) are_none
      where
        inputs_none : (q : NameAt) → module_at system q.path ≡ None → is_bound_input system q ≡ false
        inputs_none q h = simp h
    led_stands n (Some s) h = read_stands n s h.0 h.1

    applied_stands : (f : ℕ) → AreNumbered (uses_from (option_map Use (number u (use_name Define k f)))) (define_uses path f (option_and_then (λ q. define_of q f) (module_at system path)))
    applied_stands f =
        subst (λ o. AreNumbered (uses_from (option_map Use (number u (use_name Define k f)))) (define_uses path f (option_and_then (λ q. define_of q f) o))) (sym (code_there system m t main tree path k c to at))
        (by (number u (use_name Define k f)) refl (define_of c.code.now f) refl)
      where
        no_text : (i : ℕ) → number u (use_name Define k f) ≡ Some i → define_of c.code.now f ≡ None → AreNumbered (uses_from (option_map Use (number u (use_name Define k f)))) (define_uses path f (define_of c.code.now f))
        no_text i e is = absurd (defined_when system m t main tree u knows (name_at path f) k c i to at e is)

        by : (o : Option ℕ) → number u (use_name Define k f) ≡ o → (d : Option Defined) → define_of c.code.now f ≡ d → AreNumbered (uses_from (option_map Use (number u (use_name Define k f)))) (define_uses path f (define_of c.code.now f))
        by None e d is =
            subst (λ o. AreNumbered (uses_from (option_map Use o)) (define_uses path f (define_of c.code.now f))) (sym e)
            (subst (λ x. AreNumbered [] (define_uses path f x)) (sym (no_define system m t main tree u knows (name_at path f) k c to at e)) are_none)
        by (Some i) e (Some d) is =
            subst (λ o. AreNumbered (uses_from (option_map Use o)) (define_uses path f (define_of c.code.now f))) (sym e)
            (subst (λ x. AreNumbered (i ∷ []) (define_uses path f x)) (sym is) (are_one i (UsedDefine (name_at path f)) (inl (ap (option_and_then (λ j. number u (use_name Define j f))) to ∙ e))))
        by (Some i) e None is = no_text i e is

    mention_stands : (mn : Mention) → AreNumbered (mention_numbers t u k mn) (mention_uses system path mn)
    mention_stands (Reads x primed ys) =
        led_stands (led system path x ys) (led_node t k x ys) ((paths system m t main tree).leads path k c.code.now x ys to (ap (option_map (λ (q : Node). q.code.now)) at))
    mention_stands (Applies f) = applied_stands f
    mention_stands (ReadsOld x) = read_stands (name_at path x) (step k x) to refl

    -- ---- expressions, calls

    expressions_stand : (es : List Expr) → AreNumbered (uses_among t u k (flat_map mentions es)) (flat_map (expression_uses system path) es)
    unfolding uses_among
    expressions_stand es =
        subst (AreNumbered (flat_map (mention_numbers t u k) (flat_map mentions es))) (flat_flat (mention_uses system path) mentions es)
        (are_flat (mention_numbers t u k) (mention_uses system path) (flat_map mentions es) mention_stands)

    expression_stands : (e : Expr) → AreNumbered (uses_among t u k (mentions e)) (expression_uses system path e)
    unfolding uses_among
    expression_stands e = are_flat (mention_numbers t u k) (mention_uses system path) (mentions e) mention_stands

    call_stands : (q : ℕ) → StandsFor (UsedProcedure (name_at path q)) (call_number u k q)
    call_stands q = by (number u (use_name Procedure k q)) refl
      where
        is_number : number_of t u (UsedProcedure (name_at path q)) ≡ number u (use_name Procedure k q)
        is_number = ap (option_and_then (λ j. number u (use_name Procedure j q))) to

        by : (o : Option ℕ) → number u (use_name Procedure k q) ≡ o → StandsFor (UsedProcedure (name_at path q)) (unwrap_or (number u (use_name Procedure k q)) (length u.uses))
        by None e =
            inr (
              idle_procedure system m t main tree u knows (name_at path q) (is_number ∙ e),
              ap (λ o. needs graph (unwrap_or o (length u.uses))) e ∙ needs_past,
            )
        by (Some i) e = inl (is_number ∙ e ∙ ap (λ o. Some (unwrap_or o (length u.uses))) (sym e))

    calls_stand : (qs : List ℕ) → AreNumbered (call_numbers u k qs) (map (λ q. UsedProcedure (name_at path q)) qs)
    unfolding call_numbers AreNumbered
    calls_stand [] = tt
    calls_stand (q ∷ qs) = (call_stands q, calls_stand qs)

  text_stands : (v : Used) (s : SourceMeant) → TextOf system m t main tree u knows v s → AreNumbered (source_uses t u s) (uses_of system v)
  unfolding mentions_in
  text_stands v (OfExpression k e) h = subst (AreNumbered (uses_among t u k (mentions e))) (sym h.4) (expression_stands h.0 k h.2 h.1 h.3 e)
  text_stands v (OfProcedure k p) h =
      subst (AreNumbered (call_numbers u k (flat_map calls_in p.body) ++ uses_among t u k (flat_map mentions (flat_map clause_expressions p.clauses ++ flat_map expressions_in p.body)))) (sym h.4)
      (are_append (call_numbers u k (flat_map calls_in p.body)) (uses_among t u k (flat_map mentions (flat_map clause_expressions p.clauses ++ flat_map expressions_in p.body))) (map (λ q. UsedProcedure (name_at h.0 q)) (flat_map calls_in p.body))
      (flat_map (expression_uses system h.0) (flat_map clause_expressions p.clauses ++ flat_map expressions_in p.body)) (calls_stand h.0 k h.2 h.1 h.3 (flat_map calls_in p.body))
      (expressions_stand h.0 k h.2 h.1 h.3 (flat_map clause_expressions p.clauses ++ flat_map expressions_in p.body)))

  -- from a number the graph leads on as the use does
  pub stands_on : (v : Used) (i : ℕ) → StandsFor v i → AreNumbered (needs graph i) (uses_of system v)
  stands_on v i h =
      ⊎_elim
      (λ is.
      let x = texts system m t main tree u knows v i is in
      subst (λ ns. AreNumbered ns (uses_of system v)) (sym (needs_at i x.numbered_use x.at)) (text_stands v (source_meant x.numbered_use.source) x.meant))
      (λ idle. subst (λ vs. AreNumbered (needs graph i) vs) (sym idle.0) (subst (λ ns. AreNumbered ns []) (sym idle.1) are_none))
      h
