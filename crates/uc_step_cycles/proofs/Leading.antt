-- From use to use, and from a use to the cells that it names.
use Rattle.std.proofs.Common.{◌≡◌, ◌↔◌, ℕ, zero, suc, ◌<◌, ◌≤◌, Bool, true, false, List, [], ◌∷◌, ◌++◌, length, map, Option, Some, None, refl, ap, sym, subst, ◌∙◌, ◌⊎◌, inl, inr, ⊎_elim, arith}
use Rattle.std.specs.Prelude.{nat_eq, is_some, slice_get, slice_index_or, ◌||◌, if◌then◌else◌}
use Rattle.std.specs.List.{flat_map}
use Rattle.std.specs.Option.{option_and_then, option_map}
use Rattle.uc_syntax.specs.declared.expression.Expr.{Expr}
use Rattle.uc_syntax.specs.declared.declaration.Module.{Module}
use Rattle.uc_meaning.specs.Lookup.{System, Defined, InstanceParts, bound_to, define_in, define_of, first_some, instance_of, is_named, module_at, parent_of, some_if, variable_of}
use Rattle.uc_meaning.specs.Cells.{as_list}
use Rattle.uc_meaning.specs.Expressions.{binding_from, binding_of}
use Rattle.uc_meaning.specs.Code.{written_cell}
use Rattle.uc_rules.specs.Cycles.{leads_to}
use Rattle.uc_declared_types.specs.AliasLaw.{IsAmong}
use Rattle.uc_declared_types.proofs.Along.{any_by, any_there, either, nothing}
use Rattle.uc_declared_types.proofs.Among.{among_back, among_flat}
use Rattle.uc_graph.specs.Order.{has, needs}
use Rattle.uc_order_rules.specs.Roots.{NameAt, name_at, is_bound_input, is_input, led}
use Rattle.uc_order_rules.specs.Mentions.{Mention, Reads, Applies, ReadsOld, mentions}
use Rattle.uc_order_rules.specs.Uses.{Used, UsedDefine, UsedProcedure, UsedInput, binding_uses, body_uses, define_uses, expression_uses, mention_uses, name_uses, same_use, uses_of}
use Rattle.uc_order_rules.specs.Passages.{IsPassage, Passes}
use Rattle.uc_order_rules.specs.Reading.{ReadsByUses, UsesEnd, cells_named, mentioned_cells, named_cell, named_in_binding, named_in_body, own_cells}
use Rattle.uc_order_rules.proofs.Through.{IsExpression, first, inputs_read_uses, use_equal, use_kind}
use Rattle.uc_uses.specs.declared.tree.Node.{Node}
use Rattle.uc_uses.specs.declared.tree.Step.{Step}
use Rattle.uc_uses.specs.declared.tree.InstanceTree.{InstanceTree}
use Rattle.uc_uses.specs.Trees.{IsBelow, IsInstanceIn, IsTree, code_at, instance_at, joined, led_node, led_on, node_at, step}
use Rattle.uc_uses.specs.PathLaw.{IsLed}
use Rattle.uc_uses.proofs.Lists.{get_within, none_some, some_same}
use Rattle.uc_uses.specs.declared.uses.UseKind.TheVariants.{Define, Input}
use Rattle.uc_uses.specs.declared.uses.NumberedUse.{NumberedUse}
use Rattle.uc_uses.specs.declared.table.UseTable.{UseTable}
use Rattle.uc_uses.specs.declared.resolving.Resolved.TheVariants.{Use}
use Rattle.uc_uses.specs.Sources.{OfExpression, bound_below, declared_source, source_in, source_meant}
use Rattle.uc_uses.specs.Tables.{KnowsUses, number, use_name}
use Rattle.uc_uses.specs.Resolving.{all_source_names, all_source_uses, mention_names as mention_steps, mention_uses as mention_numbers, names_among, names_from, read_as, read_at, source_names, source_uses, uses_among, uses_from}
use Rattle.uc_uses.proofs.Firsts.{first_map}
use Rattle.uc_uses.specs.Numbers.{number_of as number_of_use}
use Rattle.uc_uses.proofs.Texts.{at_path, code_there, defined_when, inputs, no_define, node_of, paths, text}
use Rattle.uc_uses.proofs.Standing.{needs_at}
use Rattle.uc_step_cycles.specs.declared.table.CellTable.{CellTable}
use Rattle.uc_step_cycles.specs.Tables.{written_by}
use Rattle.uc_step_cycles.specs.CellNumbersNumbers.{AreCellsOf, IsNumbered, number_of}
use Rattle.uc_step_cycles.proofs.Numbered.{number_within, written_numbered}
use Rattle.uc_step_cycles.proofs.Positions.{parent_push}
use Rattle.uc_step_cycles.specs.InputWays.{InputsLeadToCells, IsUseGraph, IsWhole, ReadsNumber, names_of}

equal : (n m : ℕ) → nat_eq n m ≡ true → n ≡ m
equal n m h = grind (arith, h)

same : (n : ℕ) → nat_eq n n ≡ true
same n = grind arith

has_among : (ns : List ℕ) (n : ℕ) → has ns n ≡ true → IsAmong n ns
has_among ns n h = let x = any_by (nat_eq n) ns h in subst (λ z. IsAmong z ns) (sym (equal n x.0 x.2)) x.1

among_has : (ns : List ℕ) (n : ℕ) → IsAmong n ns → has ns n ≡ true
among_has ns n h = any_there (nat_eq n) ns n h (same n)

index_map : {A B : Type 0} (f : A → B) (d : B) (xs : List A) (n : ℕ) (x : A) → slice_get xs n ≡ Some x → slice_index_or (map f xs) n d ≡ f x
index_map f d [] zero x h = none_some x h
index_map f d [] (suc n) x h = none_some x h
index_map f d (y ∷ xs) zero x h = ap f (some_same y x h)
index_map f d (y ∷ xs) (suc n) x h = index_map f d xs n x h

get_earlier : {A : Type 0} (xs : List A) (j k : ℕ) (x : A) → slice_get xs k ≡ Some x → j < k → (y : A) × (slice_get xs j ≡ Some y)
get_earlier [] j zero x h l = none_some x h
get_earlier [] j (suc k) x h l = none_some x h
get_earlier (z ∷ xs) j zero x h l = absurd (omega (arith, l))
get_earlier (z ∷ xs) zero (suc k) x h l = (z, refl)
get_earlier (z ∷ xs) (suc j) (suc k) x h l = get_earlier xs j k x h (omega (arith, l))

below_some : (system : System) (nodes : List Node) (j : ℕ) (o : Option (Option ℕ)) (i : Option InstanceParts) → o ≡ Some (Some j) → IsBelow system nodes o i → (p : InstanceParts) × (i ≡ Some p) × IsBelow system nodes (Some (Some j)) (Some p)
below_some system nodes j None i is h = none_some (Some j) is
below_some system nodes j (Some None) i is h = none_some j (some_same None (Some j) is)
below_some system nodes j (Some (Some k)) None is h = absurd h
below_some system nodes j (Some (Some k)) (Some p) is h = (p, refl, subst (λ o. IsBelow system nodes o (Some p)) is h)

-- passages by their first edge
module _ (graph : List (List ℕ)) (count : ℕ) where
  Out : ℕ → ℕ → ℕ → Type 0
  Out zero a m = has (needs graph a) m ≡ true
  Out (suc l) a m = (z : ℕ) × (has (needs graph a) z ≡ true) × (count ≤ z) × Out l z m

  out_last : (l a z m : ℕ) → Out l a z → count ≤ z → has (needs graph z) m ≡ true → Out (suc l) a m
  unfolding Out
  out_last zero a z m e behind last = (z, e, behind, last)
  out_last (suc l) a z m o behind last = (o.0, o.1, o.2, out_last l o.0 z m o.3 behind last)

  to_out : (l a m : ℕ) → IsPassage graph count l a m → Out l a m
  unfolding IsPassage Out
  to_out zero a m e = e
  to_out (suc l) a m p = out_last l a p.0 m (to_out l a p.0 p.1) p.2 p.3

  pass_first : (l a z m : ℕ) → has (needs graph a) z ≡ true → count ≤ z → IsPassage graph count l z m → IsPassage graph count (suc l) a m
  unfolding IsPassage
  pass_first zero a z m e behind p = (z, e, behind, p)
  pass_first (suc l) a z m e behind p = (p.0, pass_first l a z p.0 e behind p.1, p.2, p.3)

  passes_one : (a m : ℕ) → has (needs graph a) m ≡ true → Passes graph count a m
  unfolding IsPassage
  passes_one a m e = (0, e)

  passes_first : (a z m : ℕ) → has (needs graph a) z ≡ true → count ≤ z → Passes graph count z m → Passes graph count a m
  passes_first a z m e behind p = (suc p.0, pass_first p.0 a z m e behind p.1)

-- names of nodes lead to names of nodes
module _ (system : System) (t : InstanceTree) (tree : IsTree system t) (whole : IsWhole t) where
  pub led_there : (k : ℕ) (m : Module) → code_at t k ≡ Some m → (x : ℕ) (ys : List ℕ) → led_node t k x ys ≡ None → ⊥
  unfolding led_node
  led_there k m code x [] h = none_is h
    where
      none_is : {A : Type 0} {a : A} → Some a ≡ None → ⊥
      none_is {a = a} h = none_some a (sym h)
  led_there k m code x (y ∷ ys) h = by (instance_at t k x) refl (λ j n there. led_there j n there y ys) h
    where
      by : (o : Option (Option ℕ)) → instance_at t k x ≡ o → ((j : ℕ) (n : Module) → code_at t j ≡ Some n → led_node t j y ys ≡ None → ⊥) → led_on (Some (step k x)) (λ j. led_node t j y ys) o ≡ None → ⊥
      by None is more h = none_some (step k x) (sym h)
      by (Some None) is more h = whole k x m code is
      by (Some (Some j)) is more h = let a = tree.above k x j is in more j a.0.code.now (ap (option_map (λ (q : Node). q.code.now)) a.1) h

module _ (system : System) (t : InstanceTree) (u : UseTable) (c : CellTable) (known : AreCellsOf system t c) (knows : KnowsUses t u) (whole : IsWhole t) where
  abbrev M : Module
  M = known.root

  -- numbers of uses, and names of cells
  record Match (is : List ℕ) (ss : List Step) (vs : List Used) (ys : List ℕ) : Type 0 where
    use_to : (l : ℕ) → IsAmong l is → (v : Used) × IsAmong v vs × (number_of_use t u v ≡ Some l)
    use_from : (v : Used) → IsAmong v vs → (l : ℕ) × IsAmong l is × (number_of_use t u v ≡ Some l)
    cell_to : (s : Step) (m : ℕ) → IsAmong s ss → written_by t c s ≡ Some m → (y : ℕ) × IsAmong y ys × (number_of system t c y ≡ Some m)
    cell_from : (y m : ℕ) → IsAmong y ys → number_of system t c y ≡ Some m → (s : Step) × IsAmong s ss × (written_by t c s ≡ Some m)

  match_flat : {A : Type 0} (f : A → List ℕ) (g : A → List Step) (h : A → List Used) (k : A → List ℕ) (xs : List A) → ((x : A) → Match (f x) (g x) (h x) (k x)) → Match (flat_map f xs) (flat_map g xs) (flat_map h xs) (flat_map k xs)
  match_flat f g h k xs each = record {
    use_to = λ l among. let x = among_back f l xs among in let v = (each x.0).use_to l x.2 in (v.0, among_flat h x.0 v.0 xs x.1 v.1, v.2);
    use_from = λ v among. let x = among_back h v xs among in let l = (each x.0).use_from v x.2 in (l.0, among_flat f x.0 l.0 xs x.1 l.1, l.2);
    cell_to = λ s m among is. let x = among_back g s xs among in let y = (each x.0).cell_to s m x.2 is in (y.0, among_flat k x.0 y.0 xs x.1 y.1, y.2);
    cell_from = λ y m among is. let x = among_back k y xs among in let s = (each x.0).cell_from y m x.2 is in (s.0, among_flat g x.0 s.0 xs x.1 s.1, s.2);
  }

  match_none : Match [] [] [] []
  unfolding IsAmong
  match_none = record {
    use_to = λ l h. absurd h;
    use_from = λ v h. absurd h;
    cell_to = λ s m h is. absurd h;
    cell_from = λ y m h is. absurd h;
  }

  match_use : (i : ℕ) (v : Used) → number_of_use t u v ≡ Some i → Match (i ∷ []) [] (v ∷ []) []
  unfolding IsAmong
  match_use i v is = record {
    use_to = λ l h. (v, inl refl, is ∙ ap (λ z. Some z) (one l i h));
    use_from = λ w h. (i, inl refl, ap (number_of_use t u) (one_use w v h) ∙ is);
    cell_to = λ s m h at. absurd h;
    cell_from = λ y m h at. absurd h;
  }
    where
      one : (l i : ℕ) → (l ≡ i) ⊎ ⊥ → i ≡ l
      one l i h = ⊎_elim (λ e. sym e) (λ r. absurd r) h

      one_use : (w v : Used) → (w ≡ v) ⊎ ⊥ → w ≡ v
      one_use w v h = ⊎_elim (λ e. e) (λ r. absurd r) h

  match_cell : (s : Step) (a b : Option ℕ) → written_by t c s ≡ b → IsNumbered system t c a b → Match [] (s ∷ []) [] (as_list a)
  unfolding IsAmong
  match_cell s None None is h = record {
    use_to = λ l g. absurd g;
    use_from = λ v g. absurd g;
    cell_to = λ z m g at. none_some m (sym is ∙ ap (written_by t c) (⊎_elim (λ e. sym e) (λ r. absurd r) g) ∙ at);
    cell_from = λ y m g at. absurd g;
  }
  match_cell s None (Some n) is h = absurd h
  match_cell s (Some k) None is h = absurd h
  match_cell s (Some k) (Some n) is h = record {
    use_to = λ l g. absurd g;
    use_from = λ v g. absurd g;
    cell_to = λ z m g at. (k, inl refl, h.0 ∙ sym is ∙ ap (written_by t c) (⊎_elim (λ e. sym e) (λ r. absurd r) g) ∙ at);
    cell_from = λ y m g at. (s, inl refl, is ∙ sym h.0 ∙ ap (number_of system t c) (⊎_elim (λ e. sym e) (λ r. absurd r) g) ∙ at);
  }

  -- ---- mentions

  read_match : (n : NameAt) (s : Step) → node_at t n.path ≡ Some s.node → n.name ≡ s.name → Match (uses_from (Some (read_at u s))) (names_from (Some (read_at u s))) (name_uses system n) (named_cell system n)
  read_match n s there named = by (number u (use_name Input s.node s.name)) refl
    where
      is_number : number_of_use t u (UsedInput n) ≡ number u (use_name Input s.node s.name)
      is_number = ap (option_and_then (λ j. number u (use_name Input j n.name))) there ∙ ap (λ x. number u (use_name Input s.node x)) named

      is_bound : (o : Option ℕ) → number u (use_name Input s.node s.name) ≡ o → is_some o ≡ is_bound_input system n
      is_bound o e = ap is_some (sym e ∙ sym is_number) ∙ inputs system M t known.is_root known.tree u knows n

      abbrev_goal : Option ℕ → Bool → Type 0
      abbrev_goal o b = Match (uses_from (Some (read_as s o))) (names_from (Some (read_as s o))) (if b then UsedInput n ∷ [] else []) (if b then [] else as_list (written_cell system n.path n.name))

      at_some : (o : Option ℕ) → number u (use_name Input s.node s.name) ≡ o →
          Match (uses_from (Some (read_as s o))) (names_from (Some (read_as s o))) (if is_some o then UsedInput n ∷ [] else []) (if is_some o then [] else as_list (written_cell system n.path n.name))
      at_some None e = match_cell s (written_cell system n.path n.name) (written_by t c s) refl (subst (λ y. IsNumbered system t c (written_cell system n.path n.name) (written_by t c (step s.node y))) named (written_numbered system t c known n.path s.node n.name there))
      at_some (Some i) e = match_use i (UsedInput n) (is_number ∙ e)

      by : (o : Option ℕ) → number u (use_name Input s.node s.name) ≡ o →
          Match (uses_from (Some (read_as s (number u (use_name Input s.node s.name))))) (names_from (Some (read_as s (number u (use_name Input s.node s.name))))) (if is_bound_input system n then UsedInput n ∷ [] else []) (if is_bound_input system n then [] else as_list (written_cell system n.path n.name))
      by o e =
          subst (λ q. Match (uses_from (Some (read_as s q))) (names_from (Some (read_as s q))) (if is_bound_input system n then UsedInput n ∷ [] else []) (if is_bound_input system n then [] else as_list (written_cell system n.path n.name))) (sym e)
          (subst (λ b. Match (uses_from (Some (read_as s o))) (names_from (Some (read_as s o))) (if b then UsedInput n ∷ [] else []) (if b then [] else as_list (written_cell system n.path n.name))) (is_bound o e) (at_some o e))

  module _ (path : List ℕ) (k : ℕ) (n : Node) (to : node_at t path ≡ Some k) (at : slice_get t.nodes k ≡ Some n) where
    led_match : (x : ℕ) (ys : List ℕ) → Match (uses_from (option_map (read_at u) (led_node t k x ys))) (names_from (option_map (read_at u) (led_node t k x ys))) (name_uses system (led system path x ys)) (named_cell system (led system path x ys))
    led_match x ys = by (led_node t k x ys) refl ((paths system M t known.is_root known.tree).leads path k n.code.now x ys to (ap (option_map (λ (q : Node). q.code.now)) at))
      where
        by : (o : Option Step) → led_node t k x ys ≡ o → IsLed system t o (led system path x ys) → Match (uses_from (option_map (read_at u) o)) (names_from (option_map (read_at u) o)) (name_uses system (led system path x ys)) (named_cell system (led system path x ys))
        by None is h = absurd (led_there system t known.tree whole k n.code.now (ap (option_map (λ (q : Node). q.code.now)) at) x ys is)
        by (Some s) is h = read_match (led system path x ys) s h.0 h.1

    applied_match : (f : ℕ) → Match (uses_from (option_map Use (number u (use_name Define k f)))) (names_from (option_map Use (number u (use_name Define k f)))) (define_uses path f (option_and_then (λ q. define_of q f) (module_at system path))) []
    applied_match f =
        subst (λ o. Match (uses_from (option_map Use (number u (use_name Define k f)))) (names_from (option_map Use (number u (use_name Define k f)))) (define_uses path f (option_and_then (λ q. define_of q f) o)) []) (sym (code_there system M t known.is_root known.tree path k n to at))
        (by (number u (use_name Define k f)) refl (define_of n.code.now f) refl)
      where
        goal_at : Option ℕ → Option Defined → Type 0
        goal_at o d = Match (uses_from (option_map Use o)) (names_from (option_map Use o)) (define_uses path f d) []

        with_both : (o : Option ℕ) → number u (use_name Define k f) ≡ o → (d : Option Defined) → define_of n.code.now f ≡ d → Match (uses_from (option_map Use o)) (names_from (option_map Use o)) (define_uses path f d) []
        with_both None e None is = match_none
        with_both None e (Some d) is = none_some d (sym (no_define system M t known.is_root known.tree u knows (name_at path f) k n to at e) ∙ is)
        with_both (Some i) e None is = absurd (defined_when system M t known.is_root known.tree u knows (name_at path f) k n i to at e is)
        with_both (Some i) e (Some d) is = match_use i (UsedDefine (name_at path f)) (ap (option_and_then (λ j. number u (use_name Define j f))) to ∙ e)

        by : (o : Option ℕ) → number u (use_name Define k f) ≡ o → (d : Option Defined) → define_of n.code.now f ≡ d → Match (uses_from (option_map Use (number u (use_name Define k f)))) (names_from (option_map Use (number u (use_name Define k f)))) (define_uses path f (define_of n.code.now f)) []
        by o e d is =
            subst (λ q. Match (uses_from (option_map Use q)) (names_from (option_map Use q)) (define_uses path f (define_of n.code.now f)) []) (sym e)
            (subst (λ x. Match (uses_from (option_map Use o)) (names_from (option_map Use o)) (define_uses path f x) []) (sym is) (with_both o e d is))

    mention_match : (mn : Mention) → Match (mention_numbers t u k mn) (mention_steps t u k mn) (mention_uses system path mn) (mentioned_cells system path mn)
    mention_match (Reads x primed ys) = led_match x ys
    mention_match (Applies f) = applied_match f
    mention_match (ReadsOld x) = read_match (name_at path x) (step k x) to refl

    expression_match : (e : Expr) → Match (uses_among t u k (mentions e)) (names_among t u k (mentions e)) (expression_uses system path e) (cells_named system path e)
    unfolding uses_among names_among
    expression_match e = match_flat (mention_numbers t u k) (mention_steps t u k) (mention_uses system path) (mentioned_cells system path) (mentions e) mention_match

  -- ---- the text of a use

  abbrev TextAt : ℕ → ℕ → Expr → Used → Type 0
  TextAt i k e v = (nu : NumberedUse) × (slice_get u.uses i ≡ Some nu) × (source_meant nu.source ≡ OfExpression k e)

  record Row (v : Used) (i : ℕ) : Type 0 where
    matches : Match (needs (all_source_uses t u) i) (names_of t u i) (uses_of system v) (own_cells system v)
    within : i < length u.uses

  row_by : (v : Used) (i k : ℕ) (e : Expr) (nu : NumberedUse) (path : List ℕ) (n : Node) → slice_get u.uses i ≡ Some nu → source_meant nu.source ≡ OfExpression k e → node_at t path ≡ Some k → slice_get t.nodes k ≡ Some n →
      uses_of system v ≡ expression_uses system path e → own_cells system v ≡ cells_named system path e → Row v i
  unfolding all_source_names
  row_by v i k e nu path n at_i meant to at uses cells = record {
    matches =
        subst (λ is. Match is (names_of t u i) (uses_of system v) (own_cells system v)) (sym (needs_at system M t known.is_root known.tree u knows i nu at_i ∙ ap (source_uses t u) meant))
        (subst (λ ss. Match (uses_among t u k (mentions e)) ss (uses_of system v) (own_cells system v)) (sym (index_map (λ (q : NumberedUse). source_names t u (source_meant q.source)) [] u.uses i nu at_i ∙ ap (source_names t u) meant))
        (subst (λ vs. Match (uses_among t u k (mentions e)) (names_among t u k (mentions e)) vs (own_cells system v)) (sym uses)
        (subst (λ ys. Match (uses_among t u k (mentions e)) (names_among t u k (mentions e)) (expression_uses system path e) ys) (sym cells) (expression_match path k n to at e))));
    within = get_within u.uses i nu at_i;
  }

  define_row : (n : NameAt) (i : ℕ) → number_of_use t u (UsedDefine n) ≡ Some i → Row (UsedDefine n) i
  unfolding declared_source
  define_row n i h =
      let p = at_path system M t known.is_root known.tree u knows Define n i h in
      let x = text system M t known.is_root known.tree u knows Define p.0 n.name i p.2 in
      let node = node_of system M t known.is_root known.tree u knows Define p.0 n.name i p.2 in
      let source : source_in Define p.0 node.0 n.name ≡ Some (source_meant x.numbered_use.source) = sym (ap (option_and_then (λ q. source_in Define p.0 q n.name)) node.1) ∙ x.source in
      by p.0 node.0 x.numbered_use p.1 node.1 x.at (define_of node.0.code.now n.name) refl (sym (first_map (λ (d : Defined). OfExpression p.0 d.body) (define_in n.name) node.0.code.now.decls) ∙ source)
    where
      by : (k : ℕ) (c0 : Node) (nu : NumberedUse) → node_at t n.path ≡ Some k → slice_get t.nodes k ≡ Some c0 → slice_get u.uses i ≡ Some nu → (o : Option Defined) → define_of c0.code.now n.name ≡ o → option_map (λ (d : Defined). OfExpression k d.body) o ≡ Some (source_meant nu.source) → Row (UsedDefine n) i
      by k c0 nu to at at_i None is h = none_some (source_meant nu.source) h
      by k c0 nu to at at_i (Some d) is h =
          let module_is : option_and_then (λ q. define_of q n.name) (module_at system n.path) ≡ Some d = ap (option_and_then (λ q. define_of q n.name)) (code_there system M t known.is_root known.tree n.path k c0 to at) ∙ is in
          row_by (UsedDefine n) i k d.body nu n.path c0 at_i (sym (some_same (OfExpression k d.body) (source_meant nu.source) h)) to at (ap (body_uses system n.path) module_is) (ap (named_in_body system n.path) module_is)

  -- what is bound to an input of a node
  record Bound (path : List ℕ) (n : Node) (s : Step) : Type 0 where
    parent : List ℕ
    to : node_at t parent ≡ Some s.node
    upper : Node
    at : slice_get t.nodes s.node ≡ Some upper
    binds : (x : ℕ) → binding_of system path x ≡ option_map (λ e. (parent, e)) (first_some (λ b. some_if (is_named x b.identifier) b.expression) n.bindings.now)

  bound_at : (path : List ℕ) (k : ℕ) (n : Node) → node_at t path ≡ Some k → slice_get t.nodes k ≡ Some n → (i : IsInstanceIn t k n) → Bound path n i.above
  bound_at path k n to at i =
      let less = i.before in
      let up = get_earlier t.nodes i.above.node k n at less in
      let ps = paths system M t known.is_root known.tree in
      let q = ps.reached i.above.node up.0.code.now (ap (option_map (λ (r : Node). r.code.now)) up.1) in
      let further : node_at t (q.0 ++ i.above.name ∷ []) ≡ Some k = ps.last q.0 i.above.name ∙ ap (option_and_then (λ j. joined (instance_at t j i.above.name))) q.1 ∙ ap joined i.leads in
      let same_path : path ≡ q.0 ++ i.above.name ∷ [] = ps.alone path (q.0 ++ i.above.name ∷ []) k n.code.now (ap (option_map (λ (r : Node). r.code.now)) at) to further in
      let b = below_some system t.nodes k (instance_at t i.above.node i.above.name) (instance_of up.0.code.now i.above.name) i.leads (known.tree.below i.above.node i.above.name up.0.code.now (ap (option_map (λ (r : Node). r.code.now)) up.1)) in
      let same_node : b.2.0 ≡ n = some_same b.2.0 n (sym b.2.1 ∙ at) in
      record {
        parent = q.0;
        to = q.1;
        upper = up.0;
        at = up.1;
        binds = λ x.
            ap (λ p. binding_from system x (parent_of p)) same_path
            ∙ ap (binding_from system x) (parent_push q.0 i.above.name)
            ∙ ap (λ o. option_map (λ (e : Expr). (q.0, e)) (option_and_then (λ (p : InstanceParts). bound_to p x) (option_and_then (λ (d : Module). instance_of d i.above.name) o))) (code_there system M t known.is_root known.tree q.0 i.above.node up.0 q.1 up.1)
            ∙ ap (λ o. option_map (λ (e : Expr). (q.0, e)) (option_and_then (λ (p : InstanceParts). bound_to p x) o)) b.1
            ∙ ap (λ bs. option_map (λ (e : Expr). (q.0, e)) (first_some (λ d. some_if (is_named x d.identifier) d.expression) bs)) (sym b.2.3 ∙ ap (λ (r : Node). r.bindings.now) same_node);
      }

  input_row : (n : NameAt) (i : ℕ) → number_of_use t u (UsedInput n) ≡ Some i → Row (UsedInput n) i
  input_row n i h =
      let p = at_path system M t known.is_root known.tree u knows Input n i h in
      let x = text system M t known.is_root known.tree u knows Input p.0 n.name i p.2 in
      let node = node_of system M t known.is_root known.tree u knows Input p.0 n.name i p.2 in
      let source : source_in Input p.0 node.0 n.name ≡ Some (source_meant x.numbered_use.source) = sym (ap (option_and_then (λ q. source_in Input p.0 q n.name)) node.1) ∙ x.source in
      ⊎_elim
      (λ f. none_some (source_meant x.numbered_use.source) (sym (ap (bound_below node.0 n.name) f.above) ∙ source))
      (λ above.
      by node.0 above.above (bound_at n.path p.0 node.0 p.1 node.1 above) x.numbered_use x.at (is_input (variable_of node.0.code.now n.name)) (first_some (λ b. some_if (is_named n.name b.identifier) b.expression) node.0.bindings.now) refl
      (sym (ap (bound_below node.0 n.name) above.is) ∙ source))
      (known.tree.stands p.0 node.0 node.1)
    where
      by : (c0 : Node) (up : Step) (b : Bound n.path c0 up) (nu : NumberedUse) → slice_get u.uses i ≡ Some nu → (flag : Bool) (o : Option Expr) → first_some (λ b. some_if (is_named n.name b.identifier) b.expression) c0.bindings.now ≡ o →
          (if flag then option_map (OfExpression up.node) o else None) ≡ Some (source_meant nu.source) → Row (UsedInput n) i
      by c0 up b nu at_i false o is h = none_some (source_meant nu.source) h
      by c0 up b nu at_i true None is h = none_some (source_meant nu.source) h
      by c0 up b nu at_i true (Some e) is h =
          let binds : binding_of system n.path n.name ≡ Some (b.parent, e) = b.binds n.name ∙ ap (option_map (λ (x : Expr). (b.parent, x))) is in
          row_by (UsedInput n) i up.node e nu b.parent b.upper at_i (sym (some_same (OfExpression up.node e) (source_meant nu.source) h)) b.to b.at (ap (binding_uses system) binds) (ap (named_in_binding system) binds)

  row : (v : Used) (i : ℕ) → IsExpression v → number_of_use t u v ≡ Some i → Row v i
  row (UsedDefine n) i kind h = define_row n i h
  row (UsedInput n) i kind h = input_row n i h
  row (UsedProcedure n) i kind h = absurd kind

  -- ---- passages

  module _ (graph : List (List ℕ)) (using : ℕ → ℕ) (is : IsUseGraph t u c graph using) where
    abbrev count : ℕ
    count = length c.cells

    too_low : {A : Type 0} (m i : ℕ) → m < count → m ≡ using i → A
    too_low m i inside e = let behind = is.behind i in absurd (omega (arith, inside, behind, e))

    written_low : (s : Step) (b : ℕ) → (y : ℕ) × (number_of system t c y ≡ Some b) → b < count
    written_low s b y = number_within system t c known y.0 b y.1

    leads : (l : ℕ) (v : Used) (i m : ℕ) → IsExpression v → number_of_use t u v ≡ Some i → m < count → Out graph count l (using i) m → (y : ℕ) × ReadsByUses system v y × (number_of system t c y ≡ Some m)
    unfolding Out
    leads zero v i m kind at inside o =
        let r = row v i kind at in
        ⊎_elim
        (λ e. too_low m e.0 inside e.2)
        (λ e. let y = r.matches.cell_to e.0 m e.1 e.2 in (y.0, (v, inl refl, y.1), y.2))
        ((is.edges i m r.within).0 o)
    leads (suc l) v i m kind at inside o =
        let r = row v i kind at in
        ⊎_elim
        (λ e.
        let w = r.matches.use_to e.0 (has_among (needs (all_source_uses t u) i) e.0 e.1) in
        let y = leads l w.0 e.0 m (use_kind system v w.0 kind w.1) w.2 inside (subst (λ z. Out graph count l z m) e.2 o.3) in
        (y.0, (y.1.0, inr (first system y.0 v w.0 y.1.0 w.1 y.1.1), y.1.2), y.2))
        (λ e.
        let y = r.matches.cell_to e.0 o.0 e.1 e.2 in
        let low = number_within system t c known y.0 o.0 y.2 in
        let high = o.2 in
        absurd (omega (arith, low, high)))
        ((is.edges i o.0 r.within).0 o.1)

    own_way : (v : Used) (i y m : ℕ) → IsExpression v → number_of_use t u v ≡ Some i → IsAmong y (own_cells system v) → number_of system t c y ≡ Some m → Passes graph count (using i) m
    own_way v i y m kind at among cell =
        let r = row v i kind at in
        let s = r.matches.cell_from y m among cell in
        passes_one graph count (using i) m ((is.edges i m r.within).1 (inr (s.0, s.1, s.2)))

    use_way : (k : ℕ) (v w : Used) (i y m : ℕ) → IsExpression v → number_of_use t u v ≡ Some i → leads_to k (uses_of system) (same_use w) v ≡ true → IsAmong y (own_cells system w) → number_of system t c y ≡ Some m → Passes graph count (using i) m
    unfolding leads_to
    use_way zero v w i y m kind at h among cell = nothing (sym h)
    use_way (suc k) v w i y m kind at h among cell =
        let r = row v i kind at in
        let x = any_by (λ x. same_use w x || leads_to k (uses_of system) (same_use w) x) (uses_of system v) h in
        let l = r.matches.use_from x.0 x.1 in
        let next = use_kind system v x.0 kind x.1 in
        passes_first graph count (using i) (using l.0) m ((is.edges i (using l.0) r.within).1 (inl (l.0, among_has (needs (all_source_uses t u) i) l.0 l.1, refl))) (is.behind l.0)
        (⊎_elim
        (λ here. own_way x.0 l.0 y m next l.2 (subst (λ z. IsAmong y (own_cells system z)) (use_equal w x.0 here) among) cell)
        (λ later. use_way k x.0 w l.0 y m next l.2 later among cell)
        (either (same_use w x.0) (leads_to k (uses_of system) (same_use w) x.0) x.2))

    pub inputs_lead : UsesEnd system → (n : NameAt) (i m : ℕ) → number_of_use t u (UsedInput n) ≡ Some i → m < count → Passes graph count (using i) m ↔ ReadsNumber system t c n m
    inputs_lead ends n i m at inside =
        let bound : is_bound_input system n ≡ true = sym (inputs system M t known.is_root known.tree u knows n) ∙ ap is_some at in (
          (λ p. let y = leads p.0 (UsedInput n) i m tt at inside (to_out graph count p.0 (using i) m p.1) in (y.0, (inputs_read_uses system ends n bound y.0).1 y.1, y.2)),
          (λ y.
              let r = (inputs_read_uses system ends n bound y.0).0 y.1 in
              ⊎_elim
              (λ own. own_way (UsedInput n) i y.0 m tt at (subst (λ v. IsAmong y.0 (own_cells system v)) (sym own) r.2) y.2)
              (λ w. use_way w.0 (UsedInput n) r.0 i y.0 m tt at w.1 r.2 y.2)
              r.1),
        )

pub inputs_lead_to_cells : InputsLeadToCells
inputs_lead_to_cells system t u c graph using known knows whole ends is n i m at inside = inputs_lead system t u c known knows whole graph using is ends n i m at inside
