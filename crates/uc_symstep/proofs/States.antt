-- What a symbolic state keeps when the table grows, and what each simple statement makes of it.
use Rattle.std.proofs.Common.{◌≡◌, ℕ, ◌+◌, ◌<◌, List, [], ◌∷◌, ◌++◌, length, map, Some, refl, sym, ap, ◌∙◌, subst, arith, slice_get, slice_set, zero, suc, append-nil, append_assoc, get_or}
use Rattle.std.specs.Prelude.{All, Bool as Truth, true, false, not, ◌&&◌}
use Rattle.std.specs.List.{flat_map}
use Rattle.std.proofs.lemmas.List.{map-append}
use Rattle.std.proofs.lemmas.List.Elements.{All-head, All-tail, All-cons, All-append}
use Rattle.std.proofs.lemmas.Option.{slice_get-get_or}
use Rattle.uc_values.specs.declared.ty.Ty.{Ty}
use Rattle.uc_values.specs.declared.ty.Ty.TheVariants.{Bool}
use Rattle.uc_values.specs.declared.value.Value.{Value}
use Rattle.uc_values.specs.declared.value.Value.TheVariants.{Bool as Boolean}
use Rattle.uc_values.specs.Values.{truth_of}
use Rattle.uc_ops.specs.declared.model.Model.{Model}
use Rattle.uc_ops.specs.declared.node.Node.{Node}
use Rattle.uc_ops.specs.Typing.{Valid, type_at, type_or, part_type}
use Rattle.uc_ops.proofs.Lists.{slice_get-within}
use Rattle.uc_terms.specs.Values.{value}
use Rattle.uc_flat.specs.declared.expression.Expression.{Expression}
use Rattle.uc_flat.specs.Reading.{type_of, is_true}
use Rattle.uc_flat.specs.Fine.{IsTest}
use Rattle.uc_flat.specs.Drawn.{Drawn, listed_if, assigns, assumes, asserts, takes, free}
use Rattle.uc_flat.specs.Flats.{wider_types}
use Rattle.uc_flat.specs.Unrolled.{wider}
use Rattle.uc_symstep.specs.declared.state.Choice.{Choice}
use Rattle.uc_symstep.specs.declared.state.Hit.{Hit}
use Rattle.uc_symstep.specs.declared.state.Symbolic.{Symbolic}
use Rattle.uc_symstep.specs.Growing.{Grows, IsTerm, AreTerms, AreCells}
use Rattle.uc_symstep.specs.Stands.{stands, holds, choice_in, hit_in, IsTruth, IsChoice, IsHit, IsState, Follows, IsSymbol, IsHavocked}
use Rattle.uc_symstep.proofs.Grown.{grows_on, grows_value, grows_type, grows_values, grows_length, cells_grow, and_true_is}
use Rattle.uc_symstep.proofs.Formulas.{Meaning, Meanings}

abbrev pub make : List Value → Truth → Truth → List Value → List ℕ → ℕ → Drawn
make cells goes taken chosen sites next = record { cells = cells; goes = goes; taken = taken; chosen = chosen; sites = sites; next = next }

pub same_drawn : (a b : List Value) (c d e f : Truth) (g h : List Value) (i j : List ℕ) (n : ℕ) → a ≡ b → c ≡ d → e ≡ f → g ≡ h → i ≡ j → make a c e g i n ≡ make b d f h j n
same_drawn a b c d e f g h i j n p q r s t = λ x. make (p x) (q x) (r x) (s x) (t x) n

pub same_all : (a b : List Value) (c d e f : Truth) (g h : List Value) (i j : List ℕ) (n k : ℕ) → a ≡ b → c ≡ d → e ≡ f → g ≡ h → i ≡ j → n ≡ k → make a c e g i n ≡ make b d f h j k
same_all a b c d e f g h i j n k p q r s t u = λ x. make (p x) (q x) (r x) (s x) (t x) (u x)

pub choices_keep : (old new : List Node) → Grows old new → (m : Model) (cs : List Choice) → All (IsChoice old) cs → flat_map (choice_in m new) cs ≡ flat_map (choice_in m old) cs
choices_keep old new g m [] h = refl
choices_keep old new g m (c ∷ cs) h =
    let i = All-head (IsChoice old) c cs h in
    let here = ap (λ v. listed_if (truth_of v) (value m new c.term)) (grows_value old new g m c.taken i.taken) ∙ ap (λ v. listed_if (truth_of (value m old c.taken)) v) (grows_value old new g m c.term i.term) in
    ap (λ vs. vs ++ flat_map (choice_in m new) cs) here ∙ ap (λ vs. choice_in m old c ++ vs) (choices_keep old new g m cs (All-tail (IsChoice old) c cs h))

pub sites_keep : (old new : List Node) → Grows old new → (m : Model) (hs : List Hit) → All (IsHit old) hs → flat_map (hit_in m new) hs ≡ flat_map (hit_in m old) hs
sites_keep old new g m [] h = refl
sites_keep old new g m (x ∷ hs) h =
    let i = All-head (IsHit old) x hs h in
    let here = ap (λ v. listed_if (truth_of v) x.site) (grows_value old new g m x.failed i.failed) in
    ap (λ vs. vs ++ flat_map (hit_in m new) hs) here ∙ ap (λ vs. hit_in m old x ++ vs) (sites_keep old new g m hs (All-tail (IsHit old) x hs h))

pub truth_grows : (old new : List Node) (t : ℕ) → Grows old new → IsTruth old t → IsTruth new t
truth_grows old new t g h = record { there = omega (arith, h.there, grows_length old new g); typed = grows_type old new g t h.there ∙ h.typed }

choice_grows : (old new : List Node) → Grows old new → (c : Choice) → IsChoice old c → IsChoice new c
choice_grows old new g c h = record { term = omega (arith, h.term, grows_length old new g); taken = omega (arith, h.taken, grows_length old new g) }

hit_grows : (old new : List Node) → Grows old new → (x : Hit) → IsHit old x → IsHit new x
hit_grows old new g x h = record { failed = omega (arith, h.failed, grows_length old new g) }

pub choices_grow : (old new : List Node) (cs : List Choice) → Grows old new → All (IsChoice old) cs → All (IsChoice new) cs
choices_grow old new cs g h = λ k d l. choice_grows old new g _ (h k d l)

pub sites_grow : (old new : List Node) (hs : List Hit) → Grows old new → All (IsHit old) hs → All (IsHit new) hs
sites_grow old new hs g h = λ k d l. hit_grows old new g _ (h k d l)

pub state_grows : (old new : List Node) (types : List Ty) (s : Symbolic) → Grows old new → IsState old types s → IsState new types s
state_grows old new types s g h = record {
  cells = cells_grow old new types s.cells g h.cells;
  path = truth_grows old new s.path g h.path;
  taken = truth_grows old new s.taken g h.taken;
  choices = choices_grow old new s.choices g h.choices;
  sites = sites_grow old new s.sites g h.sites;
}

pub stands_grows : (old new : List Node) (types : List Ty) (s : Symbolic) → Grows old new → IsState old types s → (m : Model) → stands m new s ≡ stands m old s
stands_grows old new types s g h m =
    same_drawn _ _ _ _ _ _ _ _ _ _ s.next (grows_values old new g m s.cells h.cells.there) (ap truth_of (grows_value old new g m s.path h.path.there)) (ap truth_of (grows_value old new g m s.taken h.taken.there))
    (choices_keep old new g m s.choices h.choices) (sites_keep old new g m s.sites h.sites)

pub map_set : {A B : Type 0} (f : A → B) (xs : List A) (k : ℕ) (x : A) → map f (slice_set xs k x) ≡ slice_set (map f xs) k (f x)
map_set f [] k x = refl
map_set f (y ∷ xs) zero x = refl
map_set f (y ∷ xs) (suc k) x = ap (λ ys. f y ∷ ys) (map_set f xs k x)

set_same : {A : Type 0} (xs : List A) (k : ℕ) (x : A) → slice_get xs k ≡ Some x → slice_set xs k x ≡ xs
set_same [] k x h = cc
set_same (y ∷ xs) zero x h = let e : y ≡ x = cc in ap (λ z. z ∷ xs) (sym e)
set_same (y ∷ xs) (suc k) x h = ap (λ ys. y ∷ ys) (set_same xs k x h)

all_set : (high : ℕ) (xs : List ℕ) (k x : ℕ) → x < high → All (λ t. t < high) xs → All (λ t. t < high) (slice_set xs k x)
all_set high [] k x l h = h
all_set high (y ∷ xs) zero x l h = All-cons (λ t. t < high) x xs l (All-tail (λ t. t < high) y xs h)
all_set high (y ∷ xs) (suc k) x l h = All-cons (λ t. t < high) y (slice_set xs k x) (All-head (λ t. t < high) y xs h) (all_set high xs k x l (All-tail (λ t. t < high) y xs h))

-- a cell gets a term of its type
pub cells_set : (nodes : List Node) (types : List Ty) (cells : List ℕ) (k t : ℕ) → AreCells nodes types cells → t < length nodes → slice_get types k ≡ Some (type_at nodes t) → AreCells nodes types (slice_set cells k t)
cells_set nodes types cells k t c l h = record {
  there = all_set (length nodes) cells k t l c.there;
  typed = map_set (type_at nodes) cells k t ∙ ap (λ ts. slice_set ts k (type_at nodes t)) c.typed ∙ set_same types k (type_at nodes t) h;
}

pub assign_follows : (old new : List Node) (types : List Ty) (s : Symbolic) (e : Expression) (k t : ℕ) (cells : List ℕ)
    → IsState old types s → slice_get types k ≡ Some (type_of types e) → IsTerm old new t (type_of types e) (Meaning old types s.cells e)
    → cells ≡ slice_set s.cells k t
    → Follows old new types (λ m. assigns m types k e) s (record { cells = cells; path = s.path; taken = s.taken; choices = s.choices; sites = s.sites; next = s.next })
assign_follows old new types s e k t cells h f a i =
    let g = state_grows old new types s a.grown h in
    let typed = f ∙ ap Some (sym a.typed) in
    record {
      grown = a.grown;
      state = record { cells = subst (AreCells new types) (sym i) (cells_set new types s.cells k t g.cells a.there typed); path = g.path; taken = g.taken; choices = g.choices; sites = g.sites };
      same = λ m.
          let r = stands_grows old new types s a.grown h m in
          same_drawn _ _ _ _ _ _ _ _ _ _ s.next
          (ap (map (value m new)) i ∙ map_set (value m new) s.cells k t ∙ ap (λ v. slice_set (map (value m new) s.cells) k v) (a.means m) ∙ ap (λ (d : Drawn). slice_set d.cells k (Meaning old types s.cells e m)) r)
          (ap (λ (d : Drawn). d.goes) r) (ap (λ (d : Drawn). d.taken) r) (ap (λ (d : Drawn). d.chosen) r) (ap (λ (d : Drawn). d.sites) r);
    }

-- further cells behind the others, with terms of what they begin with
pub widened_follows : (old new : List Node) (types : List Ty) (further : List Expression) (s : Symbolic) (own more cells : List ℕ)
    → IsState old types s → own ≡ s.cells → AreTerms old new more (map (type_of types) further) (Meanings old types own further) → cells ≡ s.cells ++ more
    → Follows old new (wider_types types further) (λ m. wider m types further) s (record { cells = cells; path = s.path; taken = s.taken; choices = s.choices; sites = s.sites; next = s.next })
widened_follows old new types further s own more cells h o b i =
    let a = subst (λ xs. AreTerms old new more (map (type_of types) further) (Meanings old types xs further)) o b in
    let g = state_grows old new types s a.grown h in
    let all : AreCells new (wider_types types further) (s.cells ++ more) = record {
      there = All-append (λ t. t < length new) s.cells more g.cells.there a.there;
      typed = map-append (type_at new) s.cells more ∙ ap (λ ts. ts ++ map (type_at new) more) g.cells.typed ∙ ap (λ ts. types ++ ts) a.typed;
    } in
    record {
      grown = a.grown;
      state = record { cells = subst (AreCells new (wider_types types further)) (sym i) all; path = g.path; taken = g.taken; choices = g.choices; sites = g.sites };
      same = λ m.
          let r = stands_grows old new types s a.grown h m in
          same_drawn _ _ _ _ _ _ _ _ _ _ s.next
          (ap (map (value m new)) i ∙ map-append (value m new) s.cells more ∙ ap (λ (d : Drawn). d.cells ++ map (value m new) more) r ∙ ap (λ vs. map (value m old) s.cells ++ vs) (a.means m))
          (ap (λ (d : Drawn). d.goes) r) (ap (λ (d : Drawn). d.taken) r) (ap (λ (d : Drawn). d.chosen) r) (ap (λ (d : Drawn). d.sites) r);
    }

pub truth_term : (old new : List Node) (types : List Ty) (cells : List ℕ) (e : Expression) (t : ℕ) → IsTest types e → IsTerm old new t (type_of types e) (Meaning old types cells e) → IsTruth new t
truth_term old new types cells e t h a = record { there = a.there; typed = a.typed ∙ h.boolean }

pub assume_ready : (old new : List Node) (types : List Ty) (s : Symbolic) (e : Expression) (t : ℕ) → IsState old types s → IsTest types e → IsTerm old new t (type_of types e) (Meaning old types s.cells e)
    → (type_at new s.path ≡ Bool) × (type_at new t ≡ Bool)
assume_ready old new types s e t h f a = ((truth_grows old new s.path a.grown h.path).typed, a.typed ∙ f.boolean)

pub assume_follows : (old mid new : List Node) (types : List Ty) (s : Symbolic) (e : Expression) (t path : ℕ)
    → IsState old types s → IsTerm old mid t (type_of types e) (Meaning old types s.cells e)
    → IsTerm mid new path Bool (λ m. Boolean (truth_of (value m mid s.path) && truth_of (value m mid t)))
    → Follows old new types (λ m. assumes m types e) s (record { cells = s.cells; path = path; taken = s.taken; choices = s.choices; sites = s.sites; next = s.next })
assume_follows old mid new types s e t path h a b =
    let all = grows_on old mid new a.grown b.grown in
    let g = state_grows old new types s all h in
    record {
      grown = all;
      state = record { cells = g.cells; path = record { there = b.there; typed = b.typed }; taken = g.taken; choices = g.choices; sites = g.sites };
      same = λ m.
          let r = stands_grows old new types s all h m in
          let p = ap truth_of (b.means m) ∙ ap (λ v. truth_of v && truth_of (value m mid t)) (grows_value old mid a.grown m s.path h.path.there) ∙ ap (λ v. truth_of (value m old s.path) && truth_of v) (a.means m) in
          same_drawn _ _ _ _ _ _ _ _ _ _ s.next (ap (λ (d : Drawn). d.cells) r) p (ap (λ (d : Drawn). d.taken) r) (ap (λ (d : Drawn). d.chosen) r) (ap (λ (d : Drawn). d.sites) r);
    }

pub flat_map_push : {A B : Type 0} (f : A → List B) (xs : List A) (x : A) → flat_map f (xs ++ x ∷ []) ≡ flat_map f xs ++ f x
flat_map_push f [] x = append-nil (f x)
flat_map_push f (y ∷ xs) x = ap (λ ys. f y ++ ys) (flat_map_push f xs x) ∙ sym (append_assoc (f y) (flat_map f xs) (f x))

all_push : {A : Type 0} (P : A → Type 0) (xs : List A) (x : A) → All P xs → P x → All P (xs ++ x ∷ [])
all_push P [] x h p = All-cons P x [] p h
all_push P (y ∷ xs) x h p = All-cons P y (xs ++ x ∷ []) (All-head P y xs h) (all_push P xs x (All-tail P y xs h) p)

pub assert_ready : (old mid late : List Node) (types : List Ty) (s : Symbolic) (e : Expression) (t negation : ℕ) → IsState old types s → IsTerm old mid t (type_of types e) (Meaning old types s.cells e)
    → IsTerm mid late negation Bool (λ m. Boolean (not (truth_of (value m mid t))))
    → (s.taken < length late) × (type_at late s.taken ≡ Bool) × (type_at late negation ≡ Bool)
assert_ready old mid late types s e t negation h a b =
    let g = truth_grows old late s.taken (grows_on old mid late a.grown b.grown) h.taken in
    (g.there, g.typed, b.typed)

pub failing_term : (old mid late new : List Node) (types : List Ty) (s : Symbolic) (e : Expression) (t negation failed : ℕ)
    → IsState old types s → IsTerm old mid t (type_of types e) (Meaning old types s.cells e)
    → IsTerm mid late negation Bool (λ m. Boolean (not (truth_of (value m mid t))))
    → IsTerm late new failed Bool (λ m. Boolean (truth_of (value m late s.taken) && truth_of (value m late negation)))
    → IsTerm old new failed Bool (λ m. Boolean (holds m old s.taken && not (is_true m types (map (value m old) s.cells) e)))
failing_term old mid late new types s e t negation failed h a b c =
    let ol = grows_on old mid late a.grown b.grown in
    record {
      grown = grows_on old late new ol c.grown;
      there = c.there;
      typed = c.typed;
      means = λ m.
          c.means m
          ∙ ap (λ v. Boolean (truth_of v && truth_of (value m late negation))) (grows_value old late ol m s.taken h.taken.there)
          ∙ ap (λ v. Boolean (truth_of (value m old s.taken) && truth_of v)) (b.means m)
          ∙ ap (λ v. Boolean (truth_of (value m old s.taken) && not (truth_of v))) (a.means m);
    }

pub assert_follows : (old new : List Node) (types : List Ty) (s : Symbolic) (site : ℕ) (e : Expression) (failed : ℕ) (sites : List Hit)
    → IsState old types s → IsTerm old new failed Bool (λ m. Boolean (holds m old s.taken && not (is_true m types (map (value m old) s.cells) e)))
    → sites ≡ s.sites ++ (record { site = site; failed = failed }) ∷ []
    → Follows old new types (λ m. asserts m types site e) s (record { cells = s.cells; path = s.path; taken = s.taken; choices = s.choices; sites = sites; next = s.next })
assert_follows old new types s site e failed sites h a i =
    let g = state_grows old new types s a.grown h in
    let hit : Hit = record { site = site; failed = failed } in
    record {
      grown = a.grown;
      state = record { cells = g.cells; path = g.path; taken = g.taken; choices = g.choices; sites = subst (All (IsHit new)) (sym i) (all_push (IsHit new) s.sites hit g.sites (record { failed = a.there })) };
      same = λ m.
          let r = stands_grows old new types s a.grown h m in
          same_drawn _ _ _ _ _ _ _ _ _ _ s.next (ap (λ (d : Drawn). d.cells) r) (ap (λ (d : Drawn). d.goes) r) (ap (λ (d : Drawn). d.taken) r) (ap (λ (d : Drawn). d.chosen) r)
          (ap (flat_map (hit_in m new)) i ∙ flat_map_push (hit_in m new) s.sites hit ∙ ap (λ b'. flat_map (hit_in m new) s.sites ++ listed_if b' site) (ap truth_of (a.means m)) ∙ ap (λ (d : Drawn). d.sites ++ listed_if (holds m old s.taken && not (is_true m types (map (value m old) s.cells) e)) site) r);
    }

-- one more choice, where it is listed
chosen_more : (m : Model) (nodes : List Node) (listed : Truth) (cs : List Choice) (c : Choice)
    → flat_map (choice_in m nodes) (cs ++ listed_if listed c) ≡ flat_map (choice_in m nodes) cs ++ listed_if (holds m nodes c.taken && listed) (value m nodes c.term)
chosen_more m nodes true cs c = flat_map_push (choice_in m nodes) cs c ∙ ap (λ b. flat_map (choice_in m nodes) cs ++ listed_if b (value m nodes c.term)) (sym (and_true_is (holds m nodes c.taken)))
chosen_more m nodes false cs c = ap (flat_map (choice_in m nodes)) (append-nil cs) ∙ sym (append-nil (flat_map (choice_in m nodes) cs)) ∙ ap (λ b. flat_map (choice_in m nodes) cs ++ listed_if b (value m nodes c.term)) (sym (and_false_is (holds m nodes c.taken)))
  where
    and_false_is : (b : Truth) → (b && false) ≡ false
    and_false_is true = refl
    and_false_is false = refl

choices_more : (nodes : List Node) (listed : Truth) (cs : List Choice) (c : Choice) → All (IsChoice nodes) cs → IsChoice nodes c → All (IsChoice nodes) (cs ++ listed_if listed c)
choices_more nodes true cs c h i = all_push (IsChoice nodes) cs c h i
choices_more nodes false cs c h i = subst (All (IsChoice nodes)) (sym (append-nil cs)) h

pub read_type : (types : List Ty) (k : ℕ) (ty : Ty) → IsHavocked types k → ty ≡ get_or types k ty → (slice_get types k ≡ Some ty) × Valid ty
read_type types k ty h i =
    let e : slice_get types k ≡ Some ty = slice_get-get_or types k ty (slice_get-within types k h.0 h.1) ∙ ap Some (sym i) in
    let f : Some h.0 ≡ Some ty = sym h.1 ∙ e in
    (e, subst (λ o. Valid (type_or o)) f h.2)

pub cell_number : (nodes : List Node) (types : List Ty) (cells : List ℕ) (k : ℕ) (ty : Ty) → AreCells nodes types cells → slice_get types k ≡ Some ty → k < length types
cell_number nodes types cells k ty c h = slice_get-within types k ty h

pub havoc_follows : (old new : List Node) (types : List Ty) (s : Symbolic) (k t next : ℕ) (listed : Truth) (ty : Ty) (cells : List ℕ) (choices : List Choice)
    → IsState old types s → slice_get types k ≡ Some ty → IsSymbol old new t ty s.next
    → cells ≡ slice_set s.cells k t → choices ≡ s.choices ++ listed_if listed (record { term = t; taken = s.taken }) → next ≡ s.next + 1
    → Follows old new types (λ m r. takes listed (free m.symbols (part_type types k) r.next) k r) s (record { cells = cells; path = s.path; taken = s.taken; choices = choices; sites = s.sites; next = next })
havoc_follows old new types s k t next listed ty cells choices h j a i c n =
    let g = state_grows old new types s a.grown h in
    let choice : Choice = record { term = t; taken = s.taken } in
    record {
      grown = a.grown;
      state = record {
        cells = subst (AreCells new types) (sym i) (cells_set new types s.cells k t g.cells a.there (j ∙ ap Some (sym a.typed)));
        path = g.path;
        taken = g.taken;
        choices = subst (All (IsChoice new)) (sym c) (choices_more new listed s.choices choice g.choices (record { term = a.there; taken = g.taken.there }));
        sites = g.sites;
      };
      same = λ m.
          let r = stands_grows old new types s a.grown h m in
          let w = free m.symbols (part_type types k) s.next in
          let v : value m new t ≡ w = a.means m ∙ ap (λ x. free m.symbols x s.next) (sym (ap type_or j)) in
          ap (λ x. make (map (value m new) cells) (holds m new s.path) (holds m new s.taken) (flat_map (choice_in m new) choices) (flat_map (hit_in m new) s.sites) x) n
          ∙ same_drawn _ _ _ _ _ _ _ _ _ _ (s.next + 1)
          (ap (map (value m new)) i ∙ map_set (value m new) s.cells k t ∙ ap (λ x. slice_set (map (value m new) s.cells) k x) v ∙ ap (λ (d : Drawn). slice_set d.cells k w) r)
          (ap (λ (d : Drawn). d.goes) r) (ap (λ (d : Drawn). d.taken) r)
          (ap (flat_map (choice_in m new)) c ∙ chosen_more m new listed s.choices choice ∙ ap (λ x. flat_map (choice_in m new) s.choices ++ listed_if (holds m new s.taken && listed) x) v ∙ ap (λ (d : Drawn). d.chosen ++ listed_if (d.taken && listed) w) r)
          (ap (λ (d : Drawn). d.sites) r);
    }
