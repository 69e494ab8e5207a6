-- The walk over a block finds its faults.
use Rattle.std.proofs.Common.{◌≡◌, ℕ, Bool, true, false, List, [], ◌∷◌, ◌++◌, length, map, Option, Some, None, refl, ap, ◌∙◌, sym, subst, inl, inr}
use Rattle.std.specs.Prelude.{◌||◌, not}
use Rattle.std.specs.List.{list_any}
use Rattle.std.proofs.lemmas.List.{map-append}
use Rattle.std.proofs.lemmas.List.Folds.{list_any-append}
use Rattle.uc_lexer.specs.declared.place.Place.{Place}
use Rattle.uc_syntax.specs.declared.statement.Arm.{Arm}
use Rattle.uc_syntax.specs.declared.statement.Target.{Target}
use Rattle.uc_syntax.specs.declared.statement.Stmt.{Stmt}
use Rattle.uc_syntax.specs.declared.statement.Stmt.TheOpen.{Stmt-F}
use Rattle.uc_syntax.specs.declared.statement.Stmt.TheOpen.Stmt-F.{Local, Skip, Block, Assert, Assume, Havoc, Assign, If, Case, For, Call, Next}
use Rattle.uc_syntax.specs.declared.statement.Stmt.TheViews.{roll-Stmt}
use Rattle.uc_syntax.specs.declared.statement.Stmt.TheFolds.{fold-Stmt, map-Stmt, fold-roll-Stmt, ind-Stmt}
use Rattle.uc_meaning.specs.Code.{turns}
use Rattle.uc_meaning.specs.Steps.{is_prefix}
use Rattle.uc_rules.specs.declared.fault.Fault.{Fault}
use Rattle.uc_rules.specs.declared.rule.Rule.{Rule}
use Rattle.uc_rules.specs.declared.rule.Rule.TheVariants.{TwiceAssigned}
use Rattle.uc_rules.specs.Faults.{breaks_where, first_of}
use Rattle.uc_order_rules.specs.Paths.{Stretch, in_turn, last_arm}
use Rattle.uc_order_rules.specs.Writes.{Part, Stepping, clash, is_empty, met, overlap, part_of_name, part_of_target, stepped_at, written_by, writes_at, writes_form}
use Rattle.uc_order_rules.specs.Walks.{Walk, last_walk, walk_each}
use Rattle.uc_order_rules.proofs.SameFaults.{SameFaults, breaks_grow, in_either, in_left, same_both, same_equal, same_first, same_then}
use Rattle.uc_order_rules.proofs.Walked.{AllFind, Finds, choice_finds, each_finds, find_append, finds_as, finds_nothing, turns_find}
use Rattle.uc_written_once.proofs.Overlaps.{front_self}
use Rattle.uc_written_once.specs.declared.effects.Effects.{Effects}
use Rattle.uc_written_once.specs.Effects.{AreEffects, OverlapAlike, SameStep, modified_by, step_by}
use Rattle.uc_written_once.specs.Walks.{is_stepped_twice, one_name, one_part, one_target, walk_block, walk_form, walk_of, walk_step, Went}
use Rattle.uc_written_once.proofs.Single.{twice_mapped}

abbrev hits : List Part → Part → Bool
hits = met overlap

hits_join : (a b : List Part) (x : Part) → met overlap (a ++ b) x ≡ (met overlap a x || met overlap b x)
hits_join a b x = list_any-append (λ q. overlap q x) a b

hits_none : (x : Part) → met overlap [] x ≡ false
hits_none x = refl

abbrev Found : Stretch Part → Walk Part → Type 0
Found s w = Finds (met overlap) hits_join hits_none s w

abbrev AllFound : List (Stretch Part) → List (Walk Part) → Type 0
AllFound ss ws = AllFind (met overlap) hits_join hits_none ss ws

or_false : (b : Bool) → (b || false) ≡ b
or_false true = refl
or_false false = refl

or_true : (b : Bool) → (b || true) ≡ true
or_true true = refl
or_true false = refl

or_swap : (a b : Bool) → (a || b) ≡ (b || a)
or_swap true true = refl
or_swap true false = refl
or_swap false true = refl
or_swap false false = refl

overlap_self : (p : Part) → overlap p p ≡ true
overlap_self p = ap (λ b. b || b) (front_self p)

overlap_turned : (p q : Part) → overlap p q ≡ overlap q p
overlap_turned p q = or_swap (is_prefix p q) (is_prefix q p)

own_part : (p : Part) (ps : List Part) → met overlap (p ∷ ps) p ≡ true
own_part p ps = ap (λ b. b || met overlap ps p) (overlap_self p)

-- A part that is written.

abbrev single : Place → Part → Stretch Part
single place p before = record { happens = p ∷ []; faults = breaks_where (met overlap before p) TwiceAssigned place }

finds_single : (place : Place) (p : Part) → Found (single place p) (one_part place p)
finds_single place p = record {
  calm = record { fixed = λ a b. refl; grows = λ a b w. breaks_grow (met overlap a p) (met overlap b p) TwiceAssigned place (w p) };
  extra = p ∷ [];
  adds = λ again seen. refl;
  same = λ x. refl;
  plain = λ before seen alike. same_equal _ _ (ap (λ b. breaks_where b TwiceAssigned place) (alike p));
  again = λ before seen inside. same_equal _ _ (ap (λ b. breaks_where b TwiceAssigned place) (inside p (own_part p [])));
}

all_singles : (place : Place) (ps : List Part) → AllFound (map (single place) ps) (map (one_part place) ps)
all_singles place [] = tt
all_singles place (p ∷ ps) = (finds_single place p, all_singles place ps)

singles_happen : (place : Place) (ps a : List Part) → (in_turn (map (single place) ps) a).happens ≡ ps
unfolding in_turn
singles_happen place [] a = refl
singles_happen place (p ∷ ps) a = ap (λ qs. p ∷ qs) (singles_happen place ps (a ++ p ∷ []))

either_breaks : (b c : Bool) (rule : Rule) (place : Place) → SameFaults (breaks_where (b || c) rule place) (breaks_where b rule place ++ breaks_where c rule place)
either_breaks true true rule place = twice_one _
  where
    twice_one : (f : Fault) → SameFaults (f ∷ []) (f ∷ [] ++ f ∷ [])
    twice_one f = (λ g h. in_left g (f ∷ []) (f ∷ []) h, λ g h. elim (in_either g (f ∷ []) (f ∷ []) h) [ inl l ↦ l | inr r ↦ r ])
either_breaks true false rule place = same_equal _ _ refl
either_breaks false c rule place = same_equal _ _ refl

singles_faults : (place : Place) (ps before : List Part) → SameFaults (breaks_where (clash overlap before ps) TwiceAssigned place) (in_turn (map (single place) ps) before).faults
unfolding in_turn clash
singles_faults place [] before = same_equal _ _ refl
singles_faults place (p ∷ ps) before =
    same_then _ _ _ (either_breaks (met overlap before p) (clash overlap (before ++ p ∷ []) ps) TwiceAssigned place)
    (same_both (breaks_where (met overlap before p) TwiceAssigned place) (breaks_where (clash overlap (before ++ p ∷ []) ps) TwiceAssigned place)
    (breaks_where (met overlap before p) TwiceAssigned place) (in_turn (map (single place) ps) (before ++ p ∷ [])).faults (same_equal _ _ refl) (singles_faults place ps (before ++ p ∷ [])))

finds_parts : (place : Place) (ps : List Part) → Found (writes_at overlap place ps) (walk_each (map (one_part place) ps))
finds_parts place ps =
    let each = each_finds (met overlap) hits_join hits_none (map (single place) ps) (map (one_part place) ps) (all_singles place ps) in
    finds_as (met overlap) hits_join hits_none (in_turn (map (single place) ps)) (writes_at overlap place ps) (walk_each (map (one_part place) ps)) each
    (record {
      fixed = λ a b. refl;
      grows = λ a b w f h. (singles_faults place ps b).1 f (each.calm.grows a b w f ((singles_faults place ps a).0 f h));
    })
    (singles_happen place ps) (singles_faults place ps)

finds_name : (place : Place) (x : ℕ) → Found (writes_at overlap place (part_of_name x ∷ [])) (one_name place x)
unfolding clash
finds_name place x =
    let one = finds_single place (part_of_name x) in
    let same : (a : List Part) → SameFaults (writes_at overlap place (part_of_name x ∷ []) a).faults (single place (part_of_name x) a).faults =
    λ a. same_equal _ _ (ap (λ b. breaks_where b TwiceAssigned place) (one_clash a (part_of_name x))) in
    finds_as (met overlap) hits_join hits_none (single place (part_of_name x)) (writes_at overlap place (part_of_name x ∷ [])) (one_name place x) one
    (record { fixed = λ a b. refl; grows = λ a b w f h. (same b).1 f (one.calm.grows a b w f ((same a).0 f h)) })
    (λ a. refl) same
  where
    one_clash : (a : List Part) (p : Part) → clash overlap a (p ∷ []) ≡ met overlap a p
    one_clash a p = or_false (met overlap a p)

-- A step.

any_as : {A : Type 0} (f g : A → Bool) (xs : List A) → ((x : A) → f x ≡ g x) → list_any f xs ≡ list_any g xs
any_as f g [] h = refl
any_as f g (x ∷ xs) h = (λ k. h x k || any_as f g xs h k)

any_false : {A : Type 0} (xs : List A) → list_any (λ x. false) xs ≡ false
any_false [] = refl
any_false (x ∷ xs) = any_false xs

any_or : {A : Type 0} (f g : A → Bool) (xs : List A) → list_any (λ x. f x || g x) xs ≡ (list_any f xs || list_any g xs)
any_or f g [] = refl
any_or f g (x ∷ xs) = ap (λ b. (f x || g x) || b) (any_or f g xs) ∙ swap (f x) (g x) (list_any f xs) (list_any g xs)
  where
    swap : (a b c d : Bool) → ((a || b) || (c || d)) ≡ ((a || c) || (b || d))
    swap true b c d = refl
    swap false true true d = refl
    swap false true false d = refl
    swap false false c d = refl

any_swap : {A B : Type 0} (f : A → B → Bool) (as' : List A) (bs : List B) → list_any (λ b. list_any (λ a. f a b) as') bs ≡ list_any (λ a. list_any (λ b. f a b) bs) as'
any_swap f [] bs = any_false bs
any_swap f (a ∷ as') bs = any_or (λ b. f a b) (λ b. list_any (λ x. f x b) as') bs ∙ ap (λ c. list_any (λ b. f a b) bs || c) (any_swap f as' bs)

-- whether some of these parts meet earlier ones, asked of the earlier ones
met_turned : (before ps : List Part) → list_any (met overlap before) ps ≡ list_any (met overlap ps) before
met_turned before ps =
    any_swap overlap before ps ∙ any_as (λ a. list_any (λ b. overlap a b) ps) (met overlap ps) before (λ a. any_as (λ b. overlap a b) (λ b. overlap b a) ps (λ b. overlap_turned a b))

met_alike : (before seen ps qs : List Part) → OverlapAlike before seen → OverlapAlike qs ps → list_any (met overlap before) ps ≡ list_any (met overlap seen) qs
met_alike before seen ps qs alike same =
    any_as (met overlap before) (met overlap seen) ps alike ∙ met_turned seen ps ∙ any_as (met overlap ps) (met overlap qs) seen (λ p. sym (same p)) ∙ sym (met_turned seen qs)

-- both lists have a part, or none
both_have : (ps qs : List Part) → OverlapAlike qs ps → not (is_empty ps) ≡ true → not (is_empty qs) ≡ true
both_have [] qs same h = absurd cc
both_have (p ∷ ps) [] same h = let bad : false ≡ true = same p ∙ own_part p ps in absurd cc
both_have (p ∷ ps) (q ∷ qs) same h = refl

one_more : (f g : Part → Bool) (p : Part) (ps : List Part) (b : Bool) → f p ≡ b → (f p ≡ true → g p ≡ true) → (list_any f ps ≡ true → list_any g ps ≡ true) → (b || list_any f ps) ≡ true → (g p || list_any g ps) ≡ true
one_more f g p ps true e w rest h = ap (λ c. c || list_any g ps) (w e)
one_more f g p ps false e w rest h = ap (λ c. g p || c) (rest h) ∙ or_true (g p)

any_more : (f g : Part → Bool) (ps : List Part) → ((p : Part) → f p ≡ true → g p ≡ true) → list_any f ps ≡ true → list_any g ps ≡ true
any_more f g [] w h = absurd cc
any_more f g (p ∷ ps) w h = one_more f g p ps (f p) refl (w p) (any_more f g ps w) h

module _ (place : Place) (t s : Stepping) (same : SameStep t s) where
  step_plain : (before seen : List Part) → OverlapAlike before seen → (list_any (met overlap before) s.parts || s.meet) ≡ is_stepped_twice false seen t
  step_plain before seen alike =
      (λ k. met_alike before seen s.parts t.parts alike same.parts k || sym same.meet k) ∙ or_swap (list_any (met overlap seen) t.parts) t.meet

  any_inside : (ps before : List Part) → ((x : Part) → met overlap ps x ≡ true → met overlap before x ≡ true) → not (is_empty ps) ≡ true → list_any (met overlap before) ps ≡ true
  any_inside [] before inside h = absurd cc
  any_inside (p ∷ ps) before inside h = ap (λ b. b || list_any (met overlap before) ps) (inside p (own_part p ps))

  any_nothing : (ps before : List Part) → not (is_empty ps) ≡ false → list_any (met overlap before) ps ≡ false
  any_nothing [] before h = refl
  any_nothing (p ∷ ps) before h = absurd cc

  alike_empty : (b c : Bool) → not (is_empty s.parts) ≡ b → not (is_empty t.parts) ≡ c → b ≡ c
  alike_empty true true h i = refl
  alike_empty false false h i = refl
  alike_empty true false h i = let bad : false ≡ true = sym i ∙ both_have s.parts t.parts same.parts h in absurd cc
  alike_empty false true h i = let bad : false ≡ true = sym h ∙ both_have t.parts s.parts (λ p. sym (same.parts p)) i in absurd cc

  step_again : (before seen : List Part) → ((x : Part) → met overlap s.parts x ≡ true → met overlap before x ≡ true) → (list_any (met overlap before) s.parts || s.meet) ≡ is_stepped_twice true seen t
  step_again before seen inside = by (not (is_empty s.parts)) refl (alike_empty _ _ refl refl)
    where
      by : (b : Bool) → not (is_empty s.parts) ≡ b → not (is_empty s.parts) ≡ not (is_empty t.parts) → (list_any (met overlap before) s.parts || s.meet) ≡ is_stepped_twice true seen t
      by true h e =
          ap (λ c. c || s.meet) (any_inside s.parts before inside h)
          ∙ sym (ap (λ c. t.meet || (c || list_any (met overlap seen) t.parts)) (sym e ∙ h) ∙ or_true t.meet)
      by false h e =
          ap (λ c. c || s.meet) (any_nothing s.parts before h) ∙ sym same.meet ∙ sym (or_false t.meet)
          ∙ sym (ap (λ c. t.meet || c) ((λ k. (sym e ∙ h) k || any_nothing t.parts seen (sym e ∙ h) k)))

  finds_step : Found (stepped_at overlap place s) (walk_step place t)
  finds_step = record {
    calm = record {
      fixed = λ a b. refl;
      grows = λ a b w. breaks_grow (list_any (met overlap a) s.parts || s.meet) (list_any (met overlap b) s.parts || s.meet) TwiceAssigned place (more a b w (list_any (met overlap a) s.parts) refl);
    };
    extra = t.parts;
    adds = λ again seen. refl;
    same = same.parts;
    plain = λ before seen alike. same_equal _ _ (ap (λ b. breaks_where b TwiceAssigned place) (step_plain before seen alike));
    again = λ before seen inside. same_equal _ _ (ap (λ b. breaks_where b TwiceAssigned place) (step_again before seen inside));
  }
    where
      more : (a b : List Part) → ((x : Part) → met overlap a x ≡ true → met overlap b x ≡ true) → (c : Bool) → list_any (met overlap a) s.parts ≡ c → (list_any (met overlap a) s.parts || s.meet) ≡ true →
          (list_any (met overlap b) s.parts || s.meet) ≡ true
      more a b w true e h = ap (λ c. c || s.meet) (any_more (met overlap a) (met overlap b) s.parts w e)
      more a b w false e h = ap (λ c. list_any (met overlap b) s.parts || c) (sym (ap (λ c. c || s.meet) e) ∙ h) ∙ or_true (list_any (met overlap b) s.parts)

-- Statements.

module _ (effects : Effects) (modified : ℕ → List ℕ) (steps : ℕ → Stepping) (are : AreEffects effects modified steps) where
  abbrev stretch_form : Stmt-F (Stretch Part) → Stretch Part
  stretch_form = writes_form modified steps overlap

  abbrev own_form : Stmt-F (Walk Part) → Walk Part
  own_form = walk_form (modified_by effects) (step_by effects)

  module _ {A D : Type 0} (d : D → A) (f : A → Stretch Part) (g : A → Walk Part) (same : (e : D) → Found (f (d e)) (g (d e))) where
    list_find : (es : List D) → AllFound (map f (map d es)) (map g (map d es))
    list_find [] = tt
    list_find (e ∷ es) = (same e, list_find es)

    each : (es : List D) → Found (in_turn (map f (map d es))) (walk_each (map g (map d es)))
    each es = each_finds (met overlap) hits_join hits_none (map f (map d es)) (map g (map d es)) (list_find es)

    abbrev left : Stmt-F D → Stmt-F (Stretch Part)
    left y = map-Stmt A (Stretch Part) f (map-Stmt D A d y)

    abbrev right : Stmt-F D → Stmt-F (Walk Part)
    right y = map-Stmt A (Walk Part) g (map-Stmt D A d y)

    abbrev arms_in : {X : Type 0} → Stmt-F X → List (Arm X)
    arms_in (If p arms o) = arms
    arms_in (Case p arms o) = arms
    arms_in other = []

    abbrev else_in : {X : Type 0} → Stmt-F X → Option (List X)
    else_in (If p arms o) = o
    else_in (Case p arms o) = o
    else_in other = None

    if_arms : (p : Place) (arms : List (Arm D)) (o : Option (List D)) →
        AllFound (map (λ (a : Arm (Stretch Part)). in_turn a.body) (arms_in (left (If p arms o)))) (map (λ (a : Arm (Walk Part)). walk_each a.body) (arms_in (right (If p arms o))))
    if_arms p [] o = tt
    if_arms p (a ∷ arms) o = (each a.body, if_arms p arms o)

    case_arms : (p : Place) (arms : List (Arm D)) (o : Option (List D)) →
        AllFound (map (λ (a : Arm (Stretch Part)). in_turn a.body) (arms_in (left (Case p arms o)))) (map (λ (a : Arm (Walk Part)). walk_each a.body) (arms_in (right (Case p arms o))))
    case_arms p [] o = tt
    case_arms p (a ∷ arms) o = (each a.body, case_arms p arms o)

    if_else : (p : Place) (arms : List (Arm D)) (o : Option (List D)) → AllFound (last_arm (else_in (left (If p arms o)))) (last_walk (else_in (right (If p arms o))))
    if_else p arms None = tt
    if_else p arms (Some es) = (each es, tt)

    case_else : (p : Place) (arms : List (Arm D)) (o : Option (List D)) → AllFound (last_arm (else_in (left (Case p arms o)))) (last_walk (else_in (right (Case p arms o))))
    case_else p arms None = tt
    case_else p arms (Some es) = (each es, tt)

    layer : (y : Stmt-F D) → Found (stretch_form (left y)) (own_form (right y))
    layer (Local p names type) = finds_nothing (met overlap) hits_join hits_none
    layer (Skip p) = finds_nothing (met overlap) hits_join hits_none
    layer (Block p block) = each block
    layer (Assert p label e) = finds_nothing (met overlap) hits_join hits_none
    layer (Assume p e) = finds_nothing (met overlap) hits_join hits_none
    layer (Havoc p x primed) = finds_name p x.name
    layer (Assign p targets sources) =
        subst (λ ws. Found (writes_at overlap p (map part_of_target targets)) (walk_each ws)) (sym (twice_mapped part_of_target (one_part p) targets)) (finds_parts p (map part_of_target targets))
    layer (If p arms o) = choice_finds (met overlap) hits_join hits_none _ _ (find_append (met overlap) hits_join hits_none _ _ _ _ (if_arms p arms o) (if_else p arms o))
    layer (Case p arms o) = choice_finds (met overlap) hits_join hits_none _ _ (find_append (met overlap) hits_join hits_none _ _ _ _ (case_arms p arms o) (case_else p arms o))
    layer (For p x type from to block) = turns_find (met overlap) hits_join hits_none _ _ (each block) (length (turns from to))
    layer (Call p targets i arguments) =
        let parts = map part_of_target targets ++ map part_of_name (modified i.name) in
        subst (λ ws. Found (writes_at overlap p parts) (walk_each ws)) (called p targets (modified i.name) (modified_by effects i.name) (are.procedures i.name)) (finds_parts p parts)
      where
        called : (p : Place) (targets : List Target) (xs ys : List ℕ) → ys ≡ xs → map (one_part p) (map part_of_target targets ++ map part_of_name xs) ≡ map (one_target p) targets ++ map (one_name p) ys
        called p targets xs ys is =
            map-append (one_part p) (map part_of_target targets) (map part_of_name xs)
            ∙ (λ k. sym (twice_mapped part_of_target (one_part p) targets) k ++ sym (twice_mapped part_of_name (one_part p) xs) k)
            ∙ ap (λ zs. map (one_target p) targets ++ map (one_name p) zs) (sym is)
    layer (Next p i) = finds_step p (step_by effects i.name) (steps i.name) (are.instances i.name)

  abbrev stretch_of : Stmt → Stretch Part
  stretch_of = fold-Stmt (Stretch Part) stretch_form

  statement_finds : (s : Stmt) → Found (stretch_of s) (walk_of (modified_by effects) (step_by effects) s)
  unfolding walk_of
  statement_finds =
      ind-Stmt (λ s. Found (fold-Stmt (Stretch Part) stretch_form s) (fold-Stmt (Walk Part) own_form s))
      (λ x y is.
      let F = fold-Stmt (Stretch Part) stretch_form in
      let G = fold-Stmt (Walk Part) own_form in
      let way = layer (λ e. e.0) F G (λ e. e.1) y in
      let way' = subst (λ z. Found (stretch_form (map-Stmt Stmt (Stretch Part) F z)) (own_form (map-Stmt Stmt (Walk Part) G z))) is way in
      let one = subst (λ w. Found w (own_form (map-Stmt Stmt (Walk Part) G x))) (sym (fold-roll-Stmt (Stretch Part) stretch_form x)) way' in
      subst (λ m. Found (F (roll-Stmt x)) m) (sym (fold-roll-Stmt (Walk Part) own_form x)) one)

  code_finds : (code : List Stmt) → AllFound (map stretch_of code) (map (walk_of (modified_by effects) (step_by effects)) code)
  code_finds [] = tt
  code_finds (s ∷ code) = (statement_finds s, code_finds code)

  block_finds : (block : List Stmt) → Found (in_turn (map stretch_of block)) (walk_block (modified_by effects) (step_by effects) block)
  block_finds block = each_finds (met overlap) hits_join hits_none (map stretch_of block) (map (walk_of (modified_by effects) (step_by effects)) block) (code_finds block)

  module _ (block : List Stmt) (none now : List Part) (old first : Option Fault) (empty : none ≡ []) (went : Went (walk_block (modified_by effects) (step_by effects) block false none) old now first) where
    pub all_faults : first ≡ first_of old (written_by modified steps overlap block []).faults
    unfolding written_by
    all_faults =
        went.faults ∙ ap (λ n. first_of old (walk_block (modified_by effects) (step_by effects) block false n).faults) empty
        ∙ sym (same_first old (in_turn (map stretch_of block) []).faults (walk_block (modified_by effects) (step_by effects) block false []).faults ((block_finds block).plain [] [] (λ x. refl)))
