-- The two arms of a conditional, and what they are merged into.
use Rattle.std.proofs.Common.{◌≡◌, ℕ, ◌+◌, ◌<◌, ◌≤◌, List, [], ◌∷◌, ◌++◌, length, map, refl, sym, ap, ◌∙◌, subst, arith, take, get_or}
use Rattle.std.specs.Prelude.{All, Bool as Truth, true, false, not, ◌&&◌}
use Rattle.std.proofs.lemmas.List.Elements.{All-push}
use Rattle.std.proofs.lemmas.List.{take_more, map-append, take_all, length-map}
use Rattle.std.proofs.Math.ListN.{get_or-map}
use Rattle.std.proofs.lemmas.List.{get_or_default}
use Rattle.uc_values.specs.declared.ty.Ty.{Ty}
use Rattle.uc_values.specs.declared.ty.Ty.TheVariants.{Bool}
use Rattle.uc_values.specs.declared.value.Value.{Value}
use Rattle.uc_values.specs.declared.value.Value.TheVariants.{Bool as Boolean}
use Rattle.uc_values.specs.Values.{truth_of}
use Rattle.uc_ops.specs.declared.model.Model.{Model}
use Rattle.uc_ops.specs.declared.node.Node.{Node}
use Rattle.uc_ops.specs.Typing.{type_at}
use Rattle.uc_terms.specs.Values.{value}
use Rattle.uc_flat.specs.declared.expression.Expression.{Expression}
use Rattle.uc_flat.specs.Reading.{type_of, is_true}
use Rattle.uc_flat.specs.Fine.{IsTest}
use Rattle.uc_symstep.specs.declared.state.Symbolic.{Symbolic}
use Rattle.uc_symstep.specs.declared.branch.Open.{Open}
use Rattle.uc_flat.specs.Drawn.{Drawn, arm, other_arm, either, joined, either_arm}
use Rattle.uc_symstep.specs.Growing.{Grows, IsTerm, AreCells}
use Rattle.uc_symstep.specs.Stands.{stands, IsTruth, IsState, Follows, Opens, Merges, Joins}
use Rattle.uc_symstep.proofs.Grown.{grows_not, grows_on, grows_value, grows_type, grows_types, grows_values, grows_length, cells_grow}
use Rattle.uc_symstep.proofs.Formulas.{Meaning}
use Rattle.uc_symstep.proofs.States.{make, same_drawn, truth_grows, truth_term, state_grows, stands_grows}

new_truth : (old new : List Node) (t : ℕ) (f : Model → Value) → IsTerm old new t Bool f → IsTruth new t
new_truth old new t f a = record { there = a.there; typed = a.typed }

pub two_truths : (nodes : List Node) (t u : ℕ) → IsTruth nodes t → IsTruth nodes u → (type_at nodes t ≡ Bool) × (type_at nodes u ≡ Bool)
two_truths nodes t u a b = (a.typed, b.typed)

pub open_ready : (old a b : List Node) (types : List Ty) (e : Expression) (s : Symbolic) (condition negation : ℕ)
    → IsState old types s → IsTest types e → IsTerm old a condition (type_of types e) (Meaning old types s.cells e)
    → IsTerm a b negation Bool (λ m. Boolean (not (truth_of (value m a condition))))
    → (type_at b s.taken ≡ Bool) × (type_at b condition ≡ Bool)
open_ready old a b types e s condition negation h f p q =
    ((truth_grows old b s.taken (grows_on old a b p.grown q.grown) h.taken).typed, (truth_grows a b condition q.grown (truth_term old a types s.cells e condition f p)).typed)

pub open_ready_2 : (old a b c : List Node) (types : List Ty) (e : Expression) (s : Symbolic) (condition negation inner : ℕ)
    → IsState old types s → IsTerm old a condition (type_of types e) (Meaning old types s.cells e)
    → IsTerm a b negation Bool (λ m. Boolean (not (truth_of (value m a condition))))
    → IsTerm b c inner Bool (λ m. Boolean (truth_of (value m b s.taken) && truth_of (value m b condition)))
    → (type_at c s.taken ≡ Bool) × (type_at c negation ≡ Bool)
open_ready_2 old a b c types e s condition negation inner h p q r =
    ((truth_grows old c s.taken (grows_on old a c p.grown (grows_on a b c q.grown r.grown)) h.taken).typed, (truth_grows b c negation r.grown (new_truth a b negation _ q)).typed)

pub opens : (old a b c d : List Node) (types : List Ty) (e : Expression) (s : Symbolic) (condition negation inner other : ℕ) (cells : List ℕ)
    → IsState old types s → IsTest types e → IsTerm old a condition (type_of types e) (Meaning old types s.cells e)
    → IsTerm a b negation Bool (λ m. Boolean (not (truth_of (value m a condition))))
    → IsTerm b c inner Bool (λ m. Boolean (truth_of (value m b s.taken) && truth_of (value m b condition)))
    → IsTerm c d other Bool (λ m. Boolean (truth_of (value m c s.taken) && truth_of (value m c negation)))
    → cells ≡ s.cells
    → Opens old d types e s (record {
      condition = condition;
      other = other;
      first = record { cells = s.cells; path = s.path; taken = inner; choices = s.choices; sites = s.sites; next = s.next };
      cells = cells;
      path = s.path;
      taken = s.taken;
    })
opens old a b c d types e s condition negation inner other cells h f p q r t i =
    let cd = t.grown in
    let bd = grows_on b c d r.grown t.grown in
    let ad = grows_on a b d q.grown bd in
    let od = grows_on old a d p.grown ad in
    let ob = grows_on old a b p.grown q.grown in
    let oc = grows_on old b c ob r.grown in
    let g = state_grows old d types s od h in
    let truth = truth_term old a types s.cells e condition f p in
    let now : (m : Model) → value m d condition ≡ value m a condition = λ m. grows_value a d ad m condition truth.there in
    record {
      grown = od;
      first = record { cells = g.cells; path = g.path; taken = truth_grows c d inner cd (new_truth b c inner _ r); choices = g.choices; sites = g.sites };
      cells = subst (AreCells d types) (sym i) g.cells;
      condition = truth_grows a d condition ad truth;
      other = new_truth c d other _ t;
      path = g.path;
      taken = g.taken;
      decides = λ m. ap truth_of (now m ∙ p.means m);
      begins = λ m.
          let u : truth_of (value m d inner) ≡ (truth_of (value m old s.taken) && truth_of (value m d condition)) =
          ap truth_of (grows_value c d cd m inner r.there ∙ r.means m) ∙ ap (λ v. truth_of v && truth_of (value m b condition)) (grows_value old b ob m s.taken h.taken.there)
          ∙ ap (λ v. truth_of (value m old s.taken) && truth_of v) (grows_value a b q.grown m condition truth.there ∙ sym (now m)) in
          let k = stands_grows old d types s od h m in
          same_drawn _ _ _ _ _ _ _ _ _ _ s.next (ap (λ (x : Drawn). x.cells) k) (ap (λ (x : Drawn). x.goes) k) u (ap (λ (x : Drawn). x.chosen) k) (ap (λ (x : Drawn). x.sites) k);
      has_cells = λ m. ap (map (value m d)) i ∙ grows_values old d od m s.cells h.cells.there;
      has_path = λ m. ap truth_of (grows_value old d od m s.path h.path.there);
      is_taken = λ m. ap truth_of (grows_value old d od m s.taken h.taken.there);
      is_other = λ m.
          ap truth_of (t.means m) ∙ ap (λ v. truth_of v && truth_of (value m c negation)) (grows_value old c oc m s.taken h.taken.there)
          ∙ ap (λ v. truth_of (value m old s.taken) && truth_of v) (grows_value b c r.grown m negation q.there ∙ q.means m)
          ∙ ap (λ v. truth_of (value m old s.taken) && not (truth_of v)) (sym (now m));
    }

-- the cells so far
pub record MergedTo (old now : List Node) (types : List Ty) (condition : ℕ) (xs ys zs : List ℕ) (k : ℕ) : Type 0 where
  pub grown : Grows old now
  pub there : All (λ t. t < length now) zs
  pub typed : map (type_at now) zs ≡ take k types
  pub same : (m : Model) → map (value m now) zs ≡ take k (either (truth_of (value m old condition)) (map (value m old) xs) (map (value m old) ys))

pub merged_none : (old : List Node) (types : List Ty) (condition : ℕ) (xs ys : List ℕ) → MergedTo old old types condition xs ys [] 0
merged_none old types condition xs ys = record { grown = grows_not old old refl; there = λ k d l. absurd (omega (arith, l)); typed = refl; same = λ m. refl }

length_cells : (old : List Node) (types : List Ty) (xs : List ℕ) → AreCells old types xs → length xs ≡ length types
length_cells old types xs a = sym (length-map xs (type_at old)) ∙ ap length a.typed

cell_there : (old : List Node) (types : List Ty) (xs : List ℕ) (k x : ℕ) → AreCells old types xs → k < length xs → x ≡ get_or xs k x → x < length old
cell_there old types xs k x a l i = omega (arith, a.there k x l, i)

cell_typed : (old : List Node) (types : List Ty) (xs : List ℕ) (k x : ℕ) → AreCells old types xs → k < length xs → x ≡ get_or xs k x → type_at old x ≡ get_or types k (type_at old x)
cell_typed old types xs k x a l i = ap (type_at old) i ∙ sym (get_or-map (type_at old) xs k x) ∙ ap (λ ts. get_or ts k (type_at old x)) a.typed

pub merged_there : (old now : List Node) (types : List Ty) (condition : ℕ) (xs ys zs : List ℕ) (k x y : ℕ) → AreCells old types xs → AreCells old types ys → MergedTo old now types condition xs ys zs k
    → k < length xs → x ≡ get_or xs k x → y ≡ get_or ys k y → (x < length now) × (y < length now)
merged_there old now types condition xs ys zs k x y a b m l i j = (
  omega (arith, cell_there old types xs k x a l i, grows_length old now m.grown),
  omega (arith, cell_there old types ys k y b (omega (arith, l, length_cells old types xs a, length_cells old types ys b)) j, grows_length old now m.grown),
)

alike : (old : List Node) (types : List Ty) (xs ys : List ℕ) (k x y : ℕ) → AreCells old types xs → AreCells old types ys → k < length xs → x ≡ get_or xs k x → y ≡ get_or ys k y → type_at old x ≡ type_at old y
alike old types xs ys k x y a b l i j =
    let h : k < length ys = omega (arith, l, length_cells old types xs a, length_cells old types ys b) in
    let g : k < length types = omega (arith, l, length_cells old types xs a) in
    cell_typed old types xs k x a l i ∙ get_or_default types k (type_at old x) (type_at old y) g ∙ sym (cell_typed old types ys k y b h j)

pub merged_alike : (old now : List Node) (types : List Ty) (condition : ℕ) (xs ys zs : List ℕ) (k x y : ℕ) → AreCells old types xs → AreCells old types ys → MergedTo old now types condition xs ys zs k
    → k < length xs → x ≡ get_or xs k x → y ≡ get_or ys k y → type_at now x ≡ type_at now y
merged_alike old now types condition xs ys zs k x y a b m l i j =
    let h : k < length ys = omega (arith, l, length_cells old types xs a, length_cells old types ys b) in
    grows_type old now m.grown x (cell_there old types xs k x a l i) ∙ alike old types xs ys k x y a b l i j ∙ sym (grows_type old now m.grown y (cell_there old types ys k y b h j))

either_place : (c : Truth) (vs ws : List Value) (k : ℕ) (v w : Value) → k < length vs → k < length ws → v ≡ get_or vs k v → w ≡ get_or ws k w → take (k + 1) (either c vs ws) ≡ take k (either c vs ws) ++ either c v w ∷ []
either_place true vs ws k v w l h i j = take_more vs k v l ∙ ap (λ x. take k vs ++ x ∷ []) (sym i)
either_place false vs ws k v w l h i j = take_more ws k w h ∙ ap (λ x. take k ws ++ x ∷ []) (sym j)

value_place : (m : Model) (old : List Node) (xs : List ℕ) (k x : ℕ) → k < length xs → x ≡ get_or xs k x → value m old x ≡ get_or (map (value m old) xs) k (value m old x)
value_place m old xs k x l i = ap (value m old) i ∙ sym (get_or-map (value m old) xs k x)

pub merged_more : (old now new : List Node) (types : List Ty) (condition : ℕ) (xs ys zs ws : List ℕ) (k x y z : ℕ)
    → IsTruth old condition → AreCells old types xs → AreCells old types ys → MergedTo old now types condition xs ys zs k
    → k < length xs → x ≡ get_or xs k x → y ≡ get_or ys k y
    → IsTerm now new z (type_at now y) (λ m. either (truth_of (value m now condition)) (value m now x) (value m now y))
    → ws ≡ zs ++ z ∷ []
    → MergedTo old new types condition xs ys ws (k + 1)
merged_more old now new types condition xs ys zs ws k x y z t a b m l i j e w =
    let h : k < length ys = omega (arith, l, length_cells old types xs a, length_cells old types ys b) in
    let g : k < length types = omega (arith, l, length_cells old types xs a) in
    let x_there = cell_there old types xs k x a l i in
    let y_there = cell_there old types ys k y b h j in
    let typed : type_at new z ≡ get_or types k (type_at old y) =
    e.typed ∙ grows_type old now m.grown y y_there ∙ cell_typed old types ys k y b h j in
    record {
      grown = grows_on old now new m.grown e.grown;
      there = subst (All (λ u. u < length new)) (sym w) (All-push (λ u. u < length new) zs z (λ p d q. omega (arith, m.there p d q, grows_length now new e.grown)) e.there);
      typed =
          ap (map (type_at new)) w ∙ map-append (type_at new) zs (z ∷ [])
          ∙ ap (λ ts. ts ++ type_at new z ∷ []) (grows_types now new e.grown zs m.there ∙ m.typed)
          ∙ ap (λ ty. take k types ++ ty ∷ []) typed
          ∙ sym (take_more types k (type_at old y) g);
      same = λ n.
          let c : truth_of (value n now condition) ≡ truth_of (value n old condition) = ap truth_of (grows_value old now m.grown n condition t.there) in
          let here : value n new z ≡ either (truth_of (value n old condition)) (value n old x) (value n old y) =
          e.means n ∙ ap (λ q. either q (value n now x) (value n now y)) c
          ∙ ap (λ v. either (truth_of (value n old condition)) v (value n now y)) (grows_value old now m.grown n x x_there)
          ∙ ap (λ v. either (truth_of (value n old condition)) (value n old x) v) (grows_value old now m.grown n y y_there) in
          ap (map (value n new)) w ∙ map-append (value n new) zs (z ∷ [])
          ∙ ap (λ vs. vs ++ value n new z ∷ []) (grows_values now new e.grown n zs m.there ∙ m.same n)
          ∙ ap (λ v. take k (either (truth_of (value n old condition)) (map (value n old) xs) (map (value n old) ys)) ++ v ∷ []) here
          ∙ sym (either_place (truth_of (value n old condition)) (map (value n old) xs) (map (value n old) ys) k (value n old x) (value n old y)
          (omega (arith, l, length-map xs (value n old))) (omega (arith, h, length-map ys (value n old))) (value_place n old xs k x l i) (value_place n old ys k y h j));
    }

either_all : (c : Truth) (vs ws : List Value) (k : ℕ) → length vs ≤ k → length ws ≤ k → take k (either c vs ws) ≡ either c vs ws
either_all true vs ws k l h = take_all k vs l
either_all false vs ws k l h = take_all k ws h

pub merged_end : (old now : List Node) (types : List Ty) (condition : ℕ) (xs ys zs : List ℕ) (k : ℕ) → AreCells old types xs → AreCells old types ys → MergedTo old now types condition xs ys zs k
    → length xs ≤ k → Merges old now types condition xs ys zs
merged_end old now types condition xs ys zs k a b m l =
    let h = length_cells old types xs a in
    let g = length_cells old types ys b in
    record {
      grown = m.grown;
      cells = record { there = m.there; typed = m.typed ∙ take_all k types (omega (arith, l, h)) };
      same = λ n. m.same n ∙ either_all (truth_of (value n old condition)) (map (value n old) xs) (map (value n old) ys) k (omega (arith, l, length-map xs (value n old))) (omega (arith, l, h, g, length-map ys (value n old)));
    }

either_truth : (c : Truth) (v w : Value) → truth_of (either c v w) ≡ either c (truth_of v) (truth_of w)
either_truth true v w = refl
either_truth false v w = refl

-- the state after a conditional
pub joins : (old mid new : List Node) (types : List Ty) (condition taken : ℕ) (cells zs : List ℕ) (path end : ℕ) (second : Symbolic)
    → IsState old types second → IsTruth old condition → IsTruth old taken → IsTruth old path
    → Merges old mid types condition cells second.cells zs
    → IsTerm mid new end (type_at mid second.path) (λ m. either (truth_of (value m mid condition)) (value m mid path) (value m mid second.path))
    → Joins old new types condition taken cells path second (record { cells = zs; path = end; taken = taken; choices = second.choices; sites = second.sites; next = second.next })
joins old mid new types condition taken cells zs path end second h c t p m e =
    let all = grows_on old mid new m.grown e.grown in
    let g = state_grows old new types second all h in
    let boolean : type_at mid second.path ≡ Bool = (truth_grows old mid second.path m.grown h.path).typed in
    record {
      grown = all;
      state = record {
        cells = cells_grow mid new types zs e.grown m.cells;
        path = record { there = e.there; typed = e.typed ∙ boolean };
        taken = truth_grows old new taken all t;
        choices = g.choices;
        sites = g.sites;
      };
      same = λ n.
          let k = stands_grows old new types second all h n in
          let v = value n old in
          let paths =
          ap truth_of (e.means n) ∙ either_truth (truth_of (value n mid condition)) (value n mid path) (value n mid second.path)
          ∙ ap (λ b. either (truth_of b) (truth_of (value n mid path)) (truth_of (value n mid second.path))) (grows_value old mid m.grown n condition c.there)
          ∙ ap (λ b. either (truth_of (v condition)) (truth_of b) (truth_of (value n mid second.path))) (grows_value old mid m.grown n path p.there)
          ∙ ap (λ b. either (truth_of (v condition)) (truth_of (v path)) (truth_of b)) (grows_value old mid m.grown n second.path h.path.there) in
          same_drawn _ _ _ _ _ _ _ _ _ _ second.next (grows_values mid new e.grown n zs m.cells.there ∙ m.same n) paths (ap truth_of (grows_value old new all n taken t.there)) (ap (λ (d : Drawn). d.chosen) k) (ap (λ (d : Drawn). d.sites) k);
    }

-- what the second arm begins with
pub second_state : (new late : List Node) (types : List Ty) (code : Model → Drawn → Drawn) (o : Open) (first : Symbolic)
    → AreCells new types o.cells → IsTruth new o.path → IsTruth new o.other → Follows new late types code o.first first
    → IsState late types (record { cells = o.cells; path = o.path; taken = o.other; choices = first.choices; sites = first.sites; next = first.next })
second_state new late types code o first c p q f = record {
  cells = cells_grow new late types o.cells f.grown c;
  path = truth_grows new late o.path f.grown p;
  taken = truth_grows new late o.other f.grown q;
  choices = f.state.choices;
  sites = f.state.sites;
}

joined_same : (c d : Truth) (r first second : Drawn) (cells : List Value) (goes taken : Truth) → c ≡ d → cells ≡ first.cells → goes ≡ first.goes → taken ≡ r.taken
    → make (either c cells second.cells) (either c goes second.goes) taken second.chosen second.sites second.next ≡ joined d r first second
joined_same c d r first second cells goes taken p q s t =
    same_drawn _ _ _ _ _ _ _ _ _ _ second.next (ap (λ x. either x cells second.cells) p ∙ ap (λ x. either d x second.cells) q) (ap (λ x. either x goes second.goes) p ∙ ap (λ x. either d x second.goes) s) t refl refl

-- a conditional, from the runs of its arms
pub branch_follows : (old new late later last : List Node) (types : List Ty) (e : Expression) (xs ys : Model → Drawn → Drawn) (s : Symbolic) (o : Open) (first second t : Symbolic)
    → IsState old types s → Opens old new types e s o → Follows new late types xs o.first first
    → Follows late later types ys (record { cells = o.cells; path = o.path; taken = o.other; choices = first.choices; sites = first.sites; next = first.next }) second
    → Joins later last types o.condition o.taken first.cells first.path second t
    → Follows old last types (λ m r. either_arm (is_true m types r.cells e) (xs m) (ys m) r) s t
branch_follows old new late later last types e xs ys s o first second t h p f g j =
    let nl = f.grown in
    let ll = g.grown in
    let nlr = grows_on new late later nl ll in
    record {
      grown = grows_on old new last p.grown (grows_on new later last nlr j.grown);
      state = j.state;
      same = λ m.
          let r = stands m old s in
          let c = is_true m types r.cells e in
          let condition : truth_of (value m later o.condition) ≡ c = ap truth_of (grows_value new later nlr m o.condition p.condition.there) ∙ p.decides m in
          let begins : stands m new o.first ≡ arm c r = p.begins m ∙ ap (λ x. arm x r) (p.decides m) in
          let ran : stands m late first ≡ xs m (arm c r) = f.same m ∙ ap (xs m) begins in
          let start : stands m late (record { cells = o.cells; path = o.path; taken = o.other; choices = first.choices; sites = first.sites; next = first.next }) ≡ other_arm c r (stands m late first) =
          same_drawn _ _ _ _ _ _ _ _ _ _ first.next (grows_values new late nl m o.cells p.cells.there ∙ p.has_cells m) (ap truth_of (grows_value new late nl m o.path p.path.there) ∙ p.has_path m)
          (ap truth_of (grows_value new late nl m o.other p.other.there) ∙ p.is_other m ∙ ap (λ x. r.taken && not x) (p.decides m)) refl refl in
          let ran_other : stands m later second ≡ ys m (other_arm c r (xs m (arm c r))) = g.same m ∙ ap (ys m) (start ∙ ap (other_arm c r) ran) in
          let kept = stands_grows late later types first ll f.state m in
          j.same m
          ∙ joined_same (truth_of (value m later o.condition)) c r (stands m late first) (stands m later second) (map (value m later) first.cells) (truth_of (value m later first.path)) (truth_of (value m later o.taken))
          condition (ap (λ (d : Drawn). d.cells) kept) (ap (λ (d : Drawn). d.goes) kept) (ap truth_of (grows_value new later nlr m o.taken p.taken.there) ∙ p.is_taken m)
          ∙ ap (λ x. joined c r x (stands m later second)) ran
          ∙ ap (λ x. joined c r (xs m (arm c r)) x) ran_other;
    }

pub same_lengths : (old : List Node) (types : List Ty) (xs ys : List ℕ) → AreCells old types xs → AreCells old types ys → length xs ≡ length ys
same_lengths old types xs ys a b = length_cells old types xs a ∙ sym (length_cells old types ys b)

pub join_ready : (old mid : List Node) (condition p q : ℕ) → Grows old mid → IsTruth old condition → IsTruth old p → IsTruth old q → (type_at mid condition ≡ Bool) × (type_at mid p ≡ type_at mid q)
join_ready old mid condition p q g c a b =
    ((truth_grows old mid condition g c).typed, (truth_grows old mid p g a).typed ∙ sym (truth_grows old mid q g b).typed)
