-- What is read of states under a model.
use Rattle.std.proofs.Common.{◌≡◌, ℕ, ◌+◌, ◌<◌, ◌≤◌, List, [], ◌∷◌, ◌++◌, length, map, take, drop, Option, Some, None, refl, sym, ap, ◌∙◌, subst, arith, get_or, slice_get, zero, suc, inl, inr}
use Rattle.std.specs.Prelude.{All, IsTrue, Bool as Truth, true, false}
use Rattle.std.specs.Option.{option_map}
use Rattle.std.specs.List.{flat_map}
use Rattle.std.proofs.lemmas.List.{take_more, take_all, length-map, map-append}
use Rattle.std.proofs.lemmas.Option.{slice_get-map, get_or_from_slice_get}
use Rattle.std.proofs.lemmas.Bool.Decides.{leb_tells}
use Rattle.std.proofs.lemmas.List.Elements.{All-nil, All-cons, All-head, All-tail, All-push}
use Rattle.uc_values.specs.declared.ty.Ty.{Ty}
use Rattle.uc_values.specs.declared.value.Value.{Value}
use Rattle.uc_values.specs.declared.value.Value.TheVariants.{Bool as TruthOf}
use Rattle.uc_values.specs.Values.{fits, truth_of, nothing}
use Rattle.uc_ops.specs.declared.model.Model.{Model}
use Rattle.uc_ops.specs.declared.node.Node.{Node}
use Rattle.uc_ops.specs.Meaning.{part, fitting}
use Rattle.uc_ops.specs.Typing.{Valid, AllValid}
use Rattle.uc_ops.proofs.Lists.{same_map}
use Rattle.uc_ops.proofs.Fitting.{fitting-fits}
use Rattle.uc_terms.specs.Values.{value, values_at}
use Rattle.uc_flat.specs.declared.flat.Flat.{Flat}
use Rattle.uc_flat.specs.declared.flat.Constant.{Constant}
use Rattle.uc_flat.specs.Drawn.{listed_if}
use Rattle.uc_flat.specs.Executions.{FitAll}
use Rattle.uc_symstep.specs.declared.state.Choice.{Choice}
use Rattle.uc_symstep.specs.declared.state.Hit.{Hit}
use Rattle.uc_symstep.specs.declared.state.SymState.{SymState}
use Rattle.uc_symstep.specs.Stands.{choice_in, hit_in, IsChoice, IsHit}
use Rattle.uc_symstep.specs.Designs.{AreStates}
use Rattle.uc_symstep.proofs.States.{flat_map_push}
use Rattle.uc_flat.specs.declared.trace.FlatPosition.{FlatPosition}
use Rattle.uc_flat.specs.Traces.{constant_types}
use Rattle.uc_flat_copies.specs.declared.trace.Start.{Start}
use Rattle.uc_flat_copies.specs.Laws.{ArePlaces}
use Rattle.uc_obligations.specs.Reading.{choice_read, hit_read, position_read, IsFitting, AreRead, beginning_with, AreNumbers, AreValues, IsTraceOf}

pub part_some : (values : List Value) (k : ℕ) (v : Value) → slice_get values k ≡ Some v → part values k ≡ v
part_some [] k v h = cc
part_some (w ∷ values) zero v h = let e : w ≡ v = cc in e
part_some (w ∷ values) (suc k) v h = part_some values k v h

pub part_none : (values : List Value) (k : ℕ) → slice_get values k ≡ None → part values k ≡ nothing
part_none [] zero h = refl
part_none [] (suc k) h = refl
part_none (w ∷ values) zero h = cc
part_none (w ∷ values) (suc k) h = part_none values k h

pub truth_none : (v : Value) → ((b : Truth) → v ≡ TruthOf b → ⊥) → false ≡ truth_of v
truth_none (TruthOf b) n = absurd (n b refl)
truth_none other n = refl

-- numbers in order
pub numbers_none : (ts : List ℕ) → ts ≡ [] → AreNumbers 0 ts
numbers_none ts i = subst (AreNumbers 0) (sym i) (record { count = refl; each = λ k l. absurd (omega (arith, l)); below = λ k d l. absurd (omega (arith, l)) })

pub get_front : {A : Type 0} (xs ys : List A) (k : ℕ) → k < length xs → slice_get (xs ++ ys) k ≡ slice_get xs k
get_front [] ys k h = absurd (omega (arith, h))
get_front (x ∷ xs) ys zero h = refl
get_front (x ∷ xs) ys (suc k) h = get_front xs ys k (omega (arith, h))

get_end : {A : Type 0} (xs : List A) (x : A) → slice_get (xs ++ x ∷ []) (length xs) ≡ Some x
get_end [] x = refl
get_end (y ∷ xs) x = get_end xs x

get_in : {A : Type 0} (xs : List A) (k : ℕ) (x : A) → slice_get xs k ≡ Some x → k < length xs
get_in [] k x h = cc
get_in (y ∷ xs) zero x h = omega arith
get_in (y ∷ xs) (suc k) x h = omega (arith, get_in xs k x h)

all_below : (n : ℕ) (ts : List ℕ) → All (λ t. t < n) ts → All (λ t. t < n + 1) ts
all_below n ts h k d l = omega (arith, h k d l)

length_end : {A : Type 0} (xs : List A) (x : A) → length (xs ++ x ∷ []) ≡ length xs + 1
length_end [] x = refl
length_end (y ∷ xs) x = omega (arith, length_end xs x)

pub numbers_more : (n : ℕ) (ts us : List ℕ) (t : ℕ) → AreNumbers n ts → t ≡ n → us ≡ ts ++ t ∷ [] → AreNumbers (n + 1) us
numbers_more n ts us t a i j = subst (AreNumbers (n + 1)) (sym (j ∙ ap (λ x. ts ++ x ∷ []) i)) (record {
  count = omega (arith, a.count, length_end ts n);
  each = λ k l. elim (leb_tells n k) [
    | inl x ↦
        let e : k ≡ length ts = omega (arith, l, x.1, a.count) in
        let c : length ts ≡ n = a.count in
        ap (slice_get (ts ++ n ∷ [])) e ∙ get_end ts n ∙ ap Some (sym (e ∙ c))
    | inr x ↦ get_front ts (n ∷ []) k (omega (arith, x.1, a.count)) ∙ a.each k x.1
  ];
  below = All-push (λ x. x < n + 1) ts n (all_below n ts a.below) (omega arith);
})

pub numbers_end : (n k : ℕ) (ts : List ℕ) → AreNumbers k ts → k ≤ n → n ≤ k → AreNumbers n ts
numbers_end n k ts a l h = let e : k ≡ n = omega (arith, l, h) in subst (λ x. AreNumbers x ts) e a

-- the values of all terms, by number
pub values_are : (m : Model) (nodes : List Node) (n : ℕ) (ts own : List ℕ) (values : List Value) → n ≡ length nodes → AreNumbers n ts → own ≡ ts → values ≡ values_at m nodes own → AreValues m nodes values
values_are m nodes n ts own values i a j e t l =
    part_some values t (value m nodes t)
    (ap (λ vs. slice_get vs t) (e ∙ ap (values_at m nodes) j) ∙ slice_get-map (value m nodes) ts t ∙ ap (option_map (value m nodes)) (a.each t (omega (arith, l, i))))

pub numbers_within : (nodes : List Node) (n : ℕ) (ts own : List ℕ) → n ≡ length nodes → AreNumbers n ts → own ≡ ts → All (λ t. t < length nodes) own
numbers_within nodes n ts own i a j = subst (λ k. All (λ t. t < k) own) i (subst (All (λ t. t < n)) (sym j) a.below)

-- constants
fit_end : (types : List Ty) (values : List Value) (ty : Ty) (v : Value) → FitAll types values → IsTrue (fits ty v) → FitAll (types ++ ty ∷ []) (values ++ v ∷ [])
unfolding FitAll
fit_end [] [] ty v h f = (f, tt)
fit_end [] (w ∷ values) ty v h f = absurd h
fit_end (t ∷ types) [] ty v h f = absurd h
fit_end (t ∷ types) (w ∷ values) ty v h f = (h.0, fit_end types values ty v h.1 f)

abbrev pub types_to : List Constant → ℕ → List Ty
types_to constants k = map (λ (c : Constant). c.ty) (take k constants)

fit_more : (constants : List Constant) (k : ℕ) (c : Constant) (values more : List Value) (v : Value) → FitAll (types_to constants k) values → k < length constants → c ≡ get_or constants k c → IsTrue (fits (get_or constants k c).ty v)
    → more ≡ values ++ v ∷ [] → FitAll (types_to constants (k + 1)) more
fit_more constants k c values more v h l i f j =
    let own : IsTrue (fits c.ty v) = subst (λ (x : Constant). IsTrue (fits x.ty v)) (sym i) f in
    let front : take (k + 1) constants ≡ take k constants ++ c ∷ [] = take_more constants k c l ∙ ap (λ y. take k constants ++ y ∷ []) (sym i) in
    let types : types_to constants (k + 1) ≡ types_to constants k ++ c.ty ∷ [] = ap (map (λ (x : Constant). x.ty)) front ∙ map-append (λ (x : Constant). x.ty) (take k constants) (c ∷ []) in
    subst (FitAll (types_to constants (k + 1))) (sym j) (subst (λ ts. FitAll ts (values ++ v ∷ [])) (sym types) (fit_end (types_to constants k) values c.ty v h own))

-- the values of the first k constants
pub record AreReadTo (constants : List Constant) (symbols : List Value) (k : ℕ) (values : List Value) : Type 0 where
  pub fit : FitAll (types_to constants k) values
  pub count : length values ≡ k
  pub each : (n : ℕ) (c : Constant) → slice_get constants n ≡ Some c → n < k → slice_get values n ≡ Some (fitting c.ty (slice_get symbols n))

pub read_none : (constants : List Constant) (symbols values : List Value) → values ≡ [] → AreReadTo constants symbols 0 values
unfolding FitAll
read_none constants symbols values i = subst (AreReadTo constants symbols 0) (sym i) (record { fit = tt; count = refl; each = λ n c at l. absurd (omega (arith, l)) })

pub read_more : (constants : List Constant) (symbols own : List Value) (k : ℕ) (c : Constant) (values more : List Value) (given : Option Value) (v : Value) → AreReadTo constants symbols k values → k < length constants
    → c ≡ get_or constants k c → own ≡ symbols → given ≡ slice_get own k → IsFitting (get_or constants k c).ty given (Some v) → more ≡ values ++ v ∷ [] → AreReadTo constants symbols (k + 1) more
read_more constants symbols own k c values more given v h l i e g f j = record {
  fit = fit_more constants k c values more v h.fit l i f.0 j;
  count = ap length j ∙ length_end values v ∙ ap (λ n. n + 1) h.count;
  each = λ n d at b. elim (leb_tells k n) [
    | inl x ↦
        let here : k ≡ n = omega (arith, b, x.1) in
        let last : n ≡ length values = omega (arith, b, x.1, h.count) in
        let same : get_or constants k c ≡ d = get_or_from_slice_get constants k d c (ap (slice_get constants) here ∙ at) in
        ap (λ vs. slice_get vs n) j ∙ ap (slice_get (values ++ v ∷ [])) last ∙ get_end values v
        ∙ ap Some (f.1 ∙ ap (λ (y : Constant). fitting y.ty given) same ∙ ap (fitting d.ty) (g ∙ ap (λ vs. slice_get vs k) e ∙ ap (slice_get symbols) here))
    | inr x ↦ ap (λ vs. slice_get vs n) j ∙ get_front values (v ∷ []) n (omega (arith, x.1, h.count)) ∙ h.each n d at x.1
  ];
}

pub read_all : (f : Flat) (m : Model) (constants : List Constant) (k : ℕ) (values : List Value) → constants ≡ f.constants → k ≤ length constants → length constants ≤ k → AreReadTo constants m.symbols k values → AreRead f m values
read_all f m constants k values i low high h = record {
  fit = subst (λ ts. FitAll ts values) (ap (map (λ (c : Constant). c.ty)) (take_all k constants high ∙ i)) h.fit;
  count = omega (arith, h.count, low, high, ap length i);
  each = λ n c at.
      let own : slice_get constants n ≡ Some c = ap (λ cs. slice_get cs n) i ∙ at in
      h.each n c own (omega (arith, high, get_in constants n c own));
}

-- a value that does not fit is that of no valid type
pub never_fits : (ty : Ty) (o : Option Value) (v : Value) → v ≡ fitting ty o → false ≡ fits ty v → Valid ty → ⊥
never_fits ty o v i n valid = let e : false ≡ true = n ∙ ap (fits ty) i ∙ fitting-fits ty o valid in cc

from_map : {A B : Type 0} (P : B → Type 0) (g : A → B) (xs : List A) → All P (map g xs) → All (λ x. P (g x)) xs
from_map P g [] h = All-nil (λ x. P (g x))
from_map P g (x ∷ xs) h = All-cons (λ x. P (g x)) x xs (All-head P (g x) (map g xs) h) (from_map P g xs (All-tail P (g x) (map g xs) h))

-- a constant for which no value is read
pub unread : (f : Flat) (constants : List Constant) (k : ℕ) (c : Constant) → constants ≡ f.constants → k < length constants → (Valid (get_or constants k c).ty → ⊥) → AllValid (constant_types f) → ⊥
unread f constants k c i l never valid =
    never (from_map Valid (λ (x : Constant). x.ty) constants (subst (λ cs. AllValid (map (λ (x : Constant). x.ty) cs)) (sym i) valid) k c l)

-- lists of what is read
pub listed_more : {A B : Type 0} (g : A → List B) (xs : List A) (k : ℕ) (x : A) (ys zs more : List B) → ys ≡ flat_map g (take k xs) → k < length xs → x ≡ get_or xs k x → more ≡ g x → zs ≡ ys ++ more → zs ≡ flat_map g (take (k + 1) xs)
listed_more g xs k x ys zs more h l i e j =
    let front : take (k + 1) xs ≡ take k xs ++ x ∷ [] = take_more xs k x l ∙ ap (λ y. take k xs ++ y ∷ []) (sym i) in
    j ∙ ap (λ y. y ++ more) h ∙ ap (λ y. flat_map g (take k xs) ++ y) e ∙ sym (ap (flat_map g) front ∙ flat_map_push g (take k xs) x)

pub listed_end : {A B : Type 0} (g : A → List B) (xs own : List A) (k : ℕ) (ys : List B) → ys ≡ flat_map g (take k xs) → length xs ≤ k → xs ≡ own → ys ≡ flat_map g own
listed_end g xs own k ys h l i = h ∙ ap (flat_map g) (take_all k xs l ∙ i)

pub mapped_more : {A B : Type 0} (g : A → B) (xs : List A) (k : ℕ) (x : A) (ys zs : List B) (y : B) → ys ≡ map g (take k xs) → k < length xs → x ≡ get_or xs k x → y ≡ g x → zs ≡ ys ++ y ∷ [] → zs ≡ map g (take (k + 1) xs)
mapped_more g xs k x ys zs y h l i e j =
    let front : take (k + 1) xs ≡ take k xs ++ x ∷ [] = take_more xs k x l ∙ ap (λ z. take k xs ++ z ∷ []) (sym i) in
    j ∙ ap (λ z. z ++ y ∷ []) h ∙ ap (λ z. map g (take k xs) ++ z ∷ []) e ∙ sym (ap (map g) front ∙ map-append g (take k xs) (x ∷ []))

pub mapped_end : {A B : Type 0} (g : A → B) (xs own : List A) (k : ℕ) (ys : List B) → ys ≡ map g (take k xs) → length xs ≤ k → xs ≡ own → ys ≡ map g own
mapped_end g xs own k ys h l i = h ∙ ap (map g) (take_all k xs l ∙ i)

-- what is read of a state is what the state shows
read_cells : (m : Model) (nodes : List Node) (values : List Value) → AreValues m nodes values → (ts : List ℕ) → All (λ t. t < length nodes) ts → map (value m nodes) ts ≡ map (part values) ts
read_cells m nodes values a ts h = same_map (value m nodes) (part values) (λ t. t < length nodes) ts (λ t l. sym (a t l)) h

read_choices : (m : Model) (nodes : List Node) (values : List Value) → AreValues m nodes values → (cs : List Choice) → All (IsChoice nodes) cs → flat_map (choice_in m nodes) cs ≡ flat_map (choice_read values) cs
read_choices m nodes values a [] h = refl
read_choices m nodes values a (c ∷ cs) h =
    let one = All-head (IsChoice nodes) c cs h in
    let rest = read_choices m nodes values a cs (All-tail (IsChoice nodes) c cs h) in
    let first : choice_in m nodes c ≡ choice_read values c =
    ap (λ v. listed_if (truth_of v) (value m nodes c.term)) (sym (a c.taken one.taken)) ∙ ap (listed_if (truth_of (part values c.taken))) (sym (a c.term one.term)) in
    ap (λ vs. vs ++ flat_map (choice_in m nodes) cs) first ∙ ap (λ vs. choice_read values c ++ vs) rest

read_sites : (m : Model) (nodes : List Node) (values : List Value) → AreValues m nodes values → (hs : List Hit) → All (IsHit nodes) hs → flat_map (hit_in m nodes) hs ≡ flat_map (hit_read values) hs
read_sites m nodes values a [] h = refl
read_sites m nodes values a (x ∷ hs) h =
    let one = All-head (IsHit nodes) x hs h in
    let rest = read_sites m nodes values a hs (All-tail (IsHit nodes) x hs h) in
    let first : hit_in m nodes x ≡ hit_read values x = ap (λ v. listed_if (truth_of v) x.site) (sym (a x.failed one.failed)) in
    ap (λ ns. ns ++ flat_map (hit_in m nodes) hs) first ∙ ap (λ ns. hit_read values x ++ ns) rest

pub listed_true : {A : Type 0} (b : Truth) (xs ys : List A) (v x : A) → b ≡ true → xs ≡ [] → v ≡ x → ys ≡ xs ++ v ∷ [] → ys ≡ listed_if b x
listed_true b xs ys v x t e i j = j ∙ ap (λ zs. zs ++ v ∷ []) e ∙ ap (λ y. y ∷ []) i ∙ sym (ap (λ c. listed_if c x) t)

pub listed_false : {A : Type 0} (b : Truth) (xs : List A) (x : A) → b ≡ false → xs ≡ [] → xs ≡ listed_if b x
listed_false b xs x t e = e ∙ sym (ap (λ c. listed_if c x) t)

pub position_is : (values : List Value) (s : SymState) (cells choices : List Value) (sites : List ℕ) → cells ≡ map (part values) s.cells → choices ≡ flat_map (choice_read values) s.choices → sites ≡ flat_map (hit_read values) s.sites
    → record { cells = cells; choices = choices; sites = sites } ≡ position_read values s
position_is values s cells choices sites a b c = λ i. record { cells = a i; choices = b i; sites = c i }

pub trace_is : (f : Flat) (nodes : List Node) (goal n : ℕ) (states : List SymState) (constants own vs all : List Value) (ts others : List ℕ) (m b : Model) (positions : List FlatPosition) (copies : List (List FlatPosition))
    → AreRead f m constants → own ≡ constants → b ≡ beginning_with own m → n ≡ length nodes → AreNumbers n ts → others ≡ ts → vs ≡ values_at b nodes others → all ≡ vs
    → goal < length nodes → truth_of (part all goal) ≡ true → positions ≡ map (position_read all) states → copies ≡ positions ∷ []
    → IsTraceOf f nodes goal states (record { constants = constants; copies = copies })
trace_is f nodes goal n states constants own vs all ts others m b positions copies r i is j a e v g l t p c =
    let are : AreValues b nodes all = subst (AreValues b nodes) (sym g) (values_are b nodes n ts others vs j a e v) in
    record {
      model = b;
      values = all;
      constants = record {
        fit = r.fit;
        others = drop (length own) m.symbols;
        symbols = ap (λ (x : Model). x.symbols) is ∙ ap (λ ws. ws ++ drop (length own) m.symbols) i;
      };
      are = are;
      goal_true = ap truth_of (sym (are goal l)) ∙ t;
      copies = c ∙ ap (λ ps. ps ∷ []) p;
    }

record Mapped (values : List Value) (states : List SymState) (k : ℕ) (p : FlatPosition) : Type 0 where
  state : SymState
  at : slice_get states k ≡ Some state
  read : position_read values state ≡ p

mapped_at : (values : List Value) (states : List SymState) (k : ℕ) (p : FlatPosition) → slice_get (map (position_read values) states) k ≡ Some p → Mapped values states k p
mapped_at values [] k p h = cc
mapped_at values (s ∷ states) zero p h = record { state = s; at = refl; read = (let e : position_read values s ≡ p = cc in e) }
mapped_at values (s ∷ states) (suc k) p h =
    let r = mapped_at values states k p h in
    record { state = r.state; at = r.at; read = r.read }

pub positions_are : (f : Flat) (start : Start) (m : Model) (n : ℕ) (nodes : List Node) (values : List Value) (states : List SymState) (positions : List FlatPosition) → AreStates f start (length f.constants) nodes n states → AreValues m nodes values
    → positions ≡ map (position_read values) states → ArePlaces f start n m positions
positions_are f start m n nodes values states positions a v i = record {
  count = ap length i ∙ length-map states (position_read values) ∙ a.count;
  each = λ k p at.
      let r = mapped_at values states k p (ap (λ ps. slice_get ps k) (sym i) ∙ at) in
      let b = a.each k r.state r.at in
      let same = b.same m in
      record {
        cells = sym same.cells ∙ read_cells m nodes values v r.state.cells b.state.cells.there ∙ ap (λ (q : FlatPosition). q.cells) r.read;
        choices = sym same.chosen ∙ read_choices m nodes values v r.state.choices b.state.choices ∙ ap (λ (q : FlatPosition). q.choices) r.read;
        sites = sym same.sites ∙ read_sites m nodes values v r.state.sites b.state.sites ∙ ap (λ (q : FlatPosition). q.sites) r.read;
      };
}
