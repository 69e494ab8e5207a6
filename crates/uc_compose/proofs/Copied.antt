-- Copies of terms, where tables grow.
use Rattle.std.specs.Prelude.{◌≡◌, ◌⊎◌, ℕ, ◌+◌, ◌<◌, ◌≤◌, if◌then◌else◌, cond, nat_eq, take, drop, Bool, true, false, Option, Result, Ok, Err, IfOk, IsSome, List, [], ◌∷◌, ◌++◌, map, length, slice_index, slice_get, Some, All, Contains}
use Rattle.std.proofs.Common.{refl, sym, ap, ◌∙◌, arith, subst, inl, inr, length-append, get_or, append_assoc, append-nil, zero, suc}
use Rattle.std.proofs.lemmas.Bool.Decides.{leb_tells, nat_tests}
use Rattle.std.proofs.lemmas.List.{get_or_default}
use Rattle.std.proofs.lemmas.List.Elements.{All-head, All-tail, All-weaker, All-nil, All-cons, Contains-get_or}
use Rattle.uc_ops.specs.declared.op.Op.{Op}
use Rattle.uc_ops.specs.declared.model.Model.{Model}
use Rattle.uc_ops.specs.declared.node.Node.{Node}
use Rattle.uc_ops.specs.Typing.{Suits, type_of, type_at, types_at}
use Rattle.uc_ops.specs.Meaning.{apply}
use Rattle.uc_terms.specs.Tables.{WellTyped, Makes, Adds, Holds, node_of, parts_at}
use Rattle.uc_terms.specs.Values.{value, values_at}
use Rattle.uc_terms.specs.Laws.{SameUnderEveryModel}
use Rattle.uc_terms.specs.Subterms.{itself, deeper}
use Rattle.uc_terms.proofs.Grown.{type-keeps, type-node, parts-node}
use Rattle.uc_terms.proofs.Sharing.{made-within, made-type}
use Rattle.uc_terms.proofs.Values.{value-keeps, value-node}
use Rattle.uc_simplify_steps.specs.Features.{Feature, symbol, function, integer, array, difference, Shows, Brings, OneBrings, BringsNoMore}
use Rattle.uc_simplify_steps.proofs.Features.{part_before, brings-keeps, brings-below, brings-made}
use Rattle.uc_compose.specs.Below.{AreBelow, AddsNoMore}
use Rattle.uc_compose.specs.Copies.{Grows, IsCopy, ComesFrom, AreCopies, none, one, IsCopied, moved, moved_op, moved_feature, read_by}
use Rattle.uc_compose.proofs.Moved.{moved_apply, moved_type, moved_suits, moved_shows}
use Rattle.uc_compose.proofs.Listing.{below_there, falls_behind}

pub Grows-none : (nodes : List Node) → Grows nodes nodes
Grows-none nodes = record { more = []; is = sym (append-nil nodes) }

pub Grows-trans : (a b c : List Node) → Grows a b → Grows b c → Grows a c
Grows-trans a b c g h = record { more = g.more ++ h.more; is = h.is ∙ ap (λ ns. ns ++ h.more) g.is ∙ append_assoc a g.more h.more }

pub Grows-length : (a b : List Node) → Grows a b → length a ≤ length b
Grows-length a b g = omega (arith, ap length g.is, length-append a g.more)

pub value-same : (a b : List Node) (m : Model) (t : ℕ) → Grows a b → t < length a → value m b t ≡ value m a t
value-same a b m t g h = ap (λ ns. value m ns t) g.is ∙ value-keeps m a g.more t h

pub type-same : (a b : List Node) (t : ℕ) → Grows a b → t < length a → type_at b t ≡ type_at a t
type-same a b t g h = ap (λ ns. type_at ns t) g.is ∙ type-keeps a g.more t h

brings-back : (a b : List Node) (t : ℕ) (f : Feature) → WellTyped a → Grows a b → t < length a → Brings b t f → Brings a t f
brings-back a b t f w g h x = brings-keeps a g.more t f w h (subst (λ ns. Brings ns t f) g.is x)

-- a copy stays one when its table grows
pub IsCopy-grows : (shared by : ℕ) (old a b : List Node) (r t : ℕ) → WellTyped a → Grows a b → IsCopy shared by a r old t → IsCopy shared by b r old t
IsCopy-grows shared by old a b r t w g s = record {
  there = omega (arith, s.there, Grows-length a b g);
  same = λ m. value-same a b m r g s.there ∙ s.same m;
  ty = type-same a b r g s.there ∙ s.ty;
  features = λ f x. s.features f (brings-back a b r f w g s.there x);
}

pub copied_types : (shared by : ℕ) (new old : List Node) (rs ts : List ℕ) → AreCopies shared by new old rs ts → types_at new rs ≡ types_at old ts
copied_types shared by new old _ _ none = refl
copied_types shared by new old _ _ (one r t rs ts s a) = λ i. s.ty i ∷ copied_types shared by new old rs ts a i

pub copied_values : (shared by : ℕ) (new old : List Node) (m : Model) (rs ts : List ℕ) → AreCopies shared by new old rs ts → values_at m new rs ≡ values_at (read_by shared by m) old ts
copied_values shared by new old m _ _ none = refl
copied_values shared by new old m _ _ (one r t rs ts s a) = λ i. s.same m i ∷ copied_values shared by new old m rs ts a i

copied_there : (shared by : ℕ) (new old : List Node) (rs ts : List ℕ) → AreCopies shared by new old rs ts → All (λ p. p < length new) rs
copied_there shared by new old _ _ none = All-nil (λ p. p < length new)
copied_there shared by new old _ _ (one r t rs ts s a) = All-cons (λ p. p < length new) r rs s.there (copied_there shared by new old rs ts a)

Contains-cons : (x y : ℕ) (xs : List ℕ) → Contains (x ∷ xs) y → (y ≡ x) ⊎ Contains xs y
Contains-cons x y xs (zero, h, e) = inl (sym e)
Contains-cons x y xs (suc k, h, e) = inr (k, omega (arith, h), e)

-- what one of the copies brings comes from one of the terms
record OneComesFrom (shared by : ℕ) (old : List Node) (ts : List ℕ) (f : Feature) : Type 0 where
  term : ℕ
  listed : Contains ts term
  comes : ComesFrom shared by old term f

copied_brings : (shared by : ℕ) (new old : List Node) (rs ts : List ℕ) (f : Feature) → AreCopies shared by new old rs ts → OneBrings new rs f → OneComesFrom shared by old ts f
copied_brings shared by new old _ _ f none o = absurd (omega (arith, o.listed.1))
copied_brings shared by new old _ _ f (one r t rs ts s a) o =
    elim (Contains-cons r o.one rs o.listed) [
      | inl e ↦ record { term = t; listed = (0, omega arith, refl); comes = s.features f (subst (λ i. Brings new i f) e o.brings) }
      | inr c ↦
          let x = copied_brings shared by new old rs ts f a (record { one = o.one; listed = c; brings = o.brings }) in
          record { term = x.term; listed = (suc x.listed.0, omega (arith, x.listed.1), x.listed.2); comes = x.comes }
    ]

-- the moved operation on the copies of the parts is the copy of the term
pub made_copy : (shared by : ℕ) (from now new : List Node) (t r : ℕ) (node : Node) (rs : List ℕ) → WellTyped from → WellTyped now → WellTyped new → slice_get from t ≡ Some node → AreCopies shared by now from rs node.parts
    → Makes now new r (moved_op shared by node.op) rs → ((m : Model) → value m new r ≡ apply m (moved_op shared by node.op) (types_at now rs) (values_at m now rs)) → IsCopy shared by new r from t
made_copy shared by from now new t r node rs w u v h a b same =
    let fine = w t node h in
    let types = copied_types shared by now from rs node.parts a in
    let op = moved_op shared by node.op in
    let ty : type_of op (types_at now rs) ≡ node.ty = ap (type_of op) types ∙ moved_type shared by node.op (types_at from node.parts) ∙ sym fine.typed in
    record {
      there = made-within now new r op rs b;
      same = λ m.
          same m ∙ ap (λ ts. apply m op ts (values_at m now rs)) types ∙ ap (apply m op (types_at from node.parts)) (copied_values shared by now from m rs node.parts a)
          ∙ moved_apply shared by node.op m (types_at from node.parts) (values_at (read_by shared by m) from node.parts) ∙ sym (value-node (read_by shared by m) from t node w h);
      ty = made-type now new r op rs b ∙ ty ∙ sym (type-node from t node h);
      features = λ f x. elim (brings-made now new r op rs f u b (copied_there shared by now from rs node.parts a) x) [
        | inl s ↦
            let y = moved_shows shared by node.op node.ty (types_at from node.parts) f (subst (λ ts. Shows op ts node.ty f) types (subst (λ z. Shows op (types_at now rs) z f) ty s)) in
            record { feature = y.feature; brings = record { place = t; below = itself; bears = record { node = node; there = h; shows = y.shows } }; is = y.is }
        | inr o ↦
            let p = copied_brings shared by now from rs node.parts f a o in
            record {
              feature = p.comes.feature;
              brings = brings-below from t p.term p.comes.feature (deeper t p.term itself (subst (λ ps. Contains ps p.term) (sym (parts-node from t node h)) p.listed)) p.comes.brings;
              is = p.comes.is;
            }
      ];
    }

-- the term has a copy, and the term by which it is known is that copy
known_copy : (shared by : ℕ) (new old : List Node) (copies : ℕ → Option ℕ) (t r : ℕ) → IsCopied shared by new old copies t → Some r ≡ copies t → IsCopy shared by new r old t
known_copy shared by new old copies t r c e =
    let same : Some r ≡ Some c.copy = e ∙ c.has in
    let is : c.copy ≡ r = cc in
    subst (λ x. IsCopy shared by new x old t) is c.is

all_copied : (shared by : ℕ) (new old : List Node) (copies : ℕ → Option ℕ) (rs ts : List ℕ) → All (IsCopied shared by new old copies) ts → map Some rs ≡ map copies ts → AreCopies shared by new old rs ts
all_copied shared by new old copies [] [] h e = none
all_copied shared by new old copies [] (t ∷ ts) h e = absurd (cc)
all_copied shared by new old copies (r ∷ rs) [] h e = absurd (cc)
all_copied shared by new old copies (r ∷ rs) (t ∷ ts) h e =
    let first : Some r ≡ copies t = cc in
    let rest : map Some rs ≡ map copies ts = cc in
    one r t rs ts (known_copy shared by new old copies t r (All-head (IsCopied shared by new old copies) t ts h) first)
    (all_copied shared by new old copies rs ts (All-tail (IsCopied shared by new old copies) t ts h) rest)

-- each has a copy that is known
pub copies_known : (shared by : ℕ) (new old : List Node) (copies : ℕ → Option ℕ) (ts : List ℕ) → All (IsCopied shared by new old copies) ts → All (λ t. IsSome (copies t)) ts
copies_known shared by new old copies ts h =
    All-weaker (IsCopied shared by new old copies) (λ t. IsSome (copies t)) (λ t c. subst IsSome (sym c.has) refl) ts h

pub record CopiedNode (shared by : ℕ) (from now : List Node) (rs ts : List ℕ) (op : Op) : Type 0 where
  pub copies : AreCopies shared by now from rs ts
  pub there : All (λ p. p < length now) rs
  pub suits : Suits op (types_at now rs)

-- the parts of the node of a term have copies
pub parts_copied : (shared by : ℕ) (from now : List Node) (copies : ℕ → Option ℕ) (t : ℕ) (node : Node) → slice_get from t ≡ Some node → All (IsCopied shared by now from copies) (parts_at from t) → All (IsCopied shared by now from copies) node.parts
parts_copied shared by from now copies t node h a = subst (All (IsCopied shared by now from copies)) (parts-node from t node h) a

pub node_copied : (shared by : ℕ) (from now : List Node) (copies : ℕ → Option ℕ) (t : ℕ) (node : Node) (rs : List ℕ) (op : Op) → WellTyped from → slice_get from t ≡ Some node → All (IsCopied shared by now from copies) (parts_at from t)
    → map Some rs ≡ map copies node.parts → op ≡ moved_op shared by node.op → CopiedNode shared by from now rs node.parts op
node_copied shared by from now copies t node rs op w h a e f =
    let s = all_copied shared by now from copies rs node.parts (parts_copied shared by from now copies t node h a) e in
    record {
      copies = s;
      there = copied_there shared by now from rs node.parts s;
      suits = subst (λ o. Suits o (types_at now rs)) (sym f)
          (subst (Suits (moved_op shared by node.op)) (sym (copied_types shared by now from rs node.parts s)) (moved_suits shared by node.op (types_at from node.parts) (w t node h).suits));
    }

-- the same as made_copy, for the answer of a call
pub made_copy_here : {E : Type 0} (shared by : ℕ) (from now new : List Node) (t : ℕ) (node : Node) (rs : List ℕ) (op : Op) (ps : List ℕ) (o : Result ℕ E) → WellTyped from → WellTyped now → WellTyped new → slice_get from t ≡ Some node
    → AreCopies shared by now from rs node.parts → op ≡ moved_op shared by node.op → ps ≡ rs → IfOk o (λ r. Makes now new r op ps)
    → IfOk o (λ r. (m : Model) → value m new r ≡ apply m op (types_at now ps) (values_at m now ps)) → IfOk o (λ r. IsCopy shared by new r from t)
made_copy_here shared by from now new t node rs op ps (Err e) w u v h a f g b c = tt
made_copy_here shared by from now new t node rs op ps (Ok r) w u v h a f g b c =
    made_copy shared by from now new t r node rs w u v h a (subst (λ xs. Makes now new r (moved_op shared by node.op) xs) g (subst (λ o. Makes now new r o ps) f b))
    (λ m. subst (λ xs. value m new r ≡ apply m (moved_op shared by node.op) (types_at now xs) (values_at m now xs)) g (subst (λ o. value m new r ≡ apply m o (types_at now ps) (values_at m now ps)) f (c m)))

-- a table has at most one term more where an operation was made
pub short_by_one : (old new : List Node) (op : Op) (parts : List ℕ) → Adds old new op parts → length new ≤ length old + 1
short_by_one old new op parts a = elim (leb_tells (length new) (length old + 1)) [
  | inl x ↦ x.1
  | inr x ↦
      let none : ¬ Holds old op parts = λ h. absurd (omega (arith, x.1, ap length (a.shared h))) in
      absurd (omega (arith, x.1, ap length (a.added none), length-append old (node_of old op parts ∷ [])))
]

-- the number at a place
place_of : (xs : List ℕ) (k x : ℕ) → k < length xs → get_or xs k x ≡ x → slice_index xs k ≡ x
place_of xs k x l e = get_or_default xs k 0 x l ∙ e

-- Copies in another table, from those of the smallest numbers on.

-- What stands from a place of the list on has a copy. There is at most one term more for each.
pub record Transferred (shared by : ℕ) (from begin now : List Node) (listed : List ℕ) (copies : ℕ → Option ℕ) (place : ℕ) : Type 0 where
  pub grown : Grows begin now
  pub well : WellTyped now
  pub within : place ≤ length listed
  pub few : length now + place ≤ length begin + length listed
  pub each : (j : ℕ) → place ≤ j → j < length listed → IsCopied shared by now from copies (slice_index listed j)

pub transferred_start : (shared by : ℕ) (from begin : List Node) (listed : List ℕ) (copies : ℕ → Option ℕ) (place : ℕ) → WellTyped begin → place ≡ length listed → Transferred shared by from begin begin listed copies place
transferred_start shared by from begin listed copies place w e = record { grown = Grows-none begin; well = w; within = omega (arith, e); few = omega (arith, e); each = λ j l h. absurd (omega (arith, e, l, h)) }

-- the term before it has one too
pub transferred_turn : (shared by : ℕ) (from begin now new : List Node) (listed : List ℕ) (copies after : ℕ → Option ℕ) (place term r : ℕ) → WellTyped new → Grows now new → length new ≤ length now + 1 → place < length listed → term ≡ get_or listed place term
    → IsCopy shared by new r from term → ((q : ℕ) → after q ≡ cond (nat_eq term q) (Some r) (copies q)) → Transferred shared by from begin now listed copies (place + 1) → Transferred shared by from begin new listed after place
transferred_turn shared by from begin now new listed copies after place term r w g short l e c u b = record {
  grown = Grows-trans begin now new b.grown g;
  well = w;
  within = omega (arith, b.within);
  few = omega (arith, short, b.few);
  each = λ j low h. elim (leb_tells (suc j) (place + 1)) [
    | inl x ↦ let here : j ≡ place = omega (arith, x.1, low) in subst (IsCopied shared by new from after) (sym (place_of listed place term l (sym e)) ∙ ap (slice_index listed) (sym here)) own
    | inr x ↦ other (slice_index listed j) (b.each j (omega (arith, x.1)) h)
  ];
}
  where
    own : IsCopied shared by new from after term
    own = record { copy = r; has = u term ∙ ap (λ t. cond t (Some r) (copies term)) (itself_equal term); is = c }
      where
        itself_equal : (n : ℕ) → nat_eq n n ≡ true
        itself_equal n = grind (arith, nat_tests)

    other : (q : ℕ) → IsCopied shared by now from copies q → IsCopied shared by new from after q
    other q d = by_test (nat_eq term q) refl
      where
        by_test : (t : Bool) → nat_eq term q ≡ t → IsCopied shared by new from after q
        by_test true e = let same : term ≡ q = grind (arith, nat_tests, e) in subst (IsCopied shared by new from after) same own
        by_test false e = record { copy = d.copy; has = u q ∙ ap (λ t. cond t (Some r) (copies q)) e ∙ d.has; is = IsCopy-grows shared by from now new d.copy q b.well g d.is }

-- what is listed is there
pub listed_there : (from : List Node) (roots listed : List ℕ) (place term : ℕ) → WellTyped from → All (λ t. t < length from) roots → AreBelow from roots listed → place < length listed → term ≡ get_or listed place term → term < length from
listed_there from roots listed place term w h a l e = below_there from roots term w h (a.sound term (place, l, sym e))

-- the parts of the term before the place have copies, as they stand behind it
pub parts_transferred : (shared by : ℕ) (from begin now : List Node) (roots listed : List ℕ) (copies : ℕ → Option ℕ) (place term : ℕ) → WellTyped from → All (λ t. t < length from) roots → AreBelow from roots listed → place < length listed
    → term ≡ get_or listed place term → Transferred shared by from begin now listed copies (place + 1) → All (IsCopied shared by now from copies) (parts_at from term)
parts_transferred shared by from begin now roots listed copies place term w h a l e b k d i =
    let p = get_or (parts_at from term) k d in
    let c : Contains (parts_at from term) p = Contains-get_or (parts_at from term) k d i in
    let own = a.sound term (place, l, sym e) in
    let at : Contains listed p = a.complete p (record { root = own.root; listed = own.listed; below = deeper term p own.below c }) in
    let before : p < term = part_before from term p w (listed_there from roots listed place term w h a l e) c in
    let found : slice_index listed at.0 ≡ p = place_of listed at.0 p at.1 at.2 in
    let here : slice_index listed place ≡ term = place_of listed place term l (sym e) in
    let behind = falls_behind listed place at.0 a.falls l at.1 (omega (arith, found, here, before)) in
    subst (IsCopied shared by now from copies) found (b.each at.0 (omega (arith, behind)) at.1)

-- and so do the roots at the end
pub roots_transferred : (shared by : ℕ) (from begin now : List Node) (roots listed : List ℕ) (copies : ℕ → Option ℕ) (place : ℕ) → AreBelow from roots listed → place ≡ 0 → Transferred shared by from begin now listed copies place
    → All (IsCopied shared by now from copies) roots
roots_transferred shared by from begin now roots listed copies place a e b k d i =
    let t = get_or roots k d in
    let at : Contains listed t = a.complete t (record { root = t; listed = Contains-get_or roots k d i; below = itself }) in
    subst (IsCopied shared by now from copies) (place_of listed at.0 t at.1 at.2) (b.each at.0 (omega (arith, e)) at.1)

pub roots_known : (shared by : ℕ) (from begin now : List Node) (roots listed : List ℕ) (copies : ℕ → Option ℕ) (place : ℕ) → AreBelow from roots listed → place ≡ 0 → Transferred shared by from begin now listed copies place
    → All (λ t. IsSome (copies t)) roots
roots_known shared by from begin now roots listed copies place a e b = copies_known shared by now from copies roots (roots_transferred shared by from begin now roots listed copies place a e b)

-- the same, for the answer of a call
pub roots_answered : {E : Type 0} (shared by : ℕ) (from begin now : List Node) (roots listed : List ℕ) (copies : ℕ → Option ℕ) (place : ℕ) (o : Result (List ℕ) E) → AreBelow from roots listed → place ≡ 0 → Transferred shared by from begin now listed copies place
    → IfOk o (λ rs. map Some rs ≡ map copies roots) → IfOk o (λ rs. AreCopies shared by now from rs roots)
roots_answered shared by from begin now roots listed copies place (Err e) a z b h = tt
roots_answered shared by from begin now roots listed copies place (Ok rs) a z b h = all_copied shared by now from copies rs roots (roots_transferred shared by from begin now roots listed copies place a z b) h

-- there is at most one term more for each that is listed
pub roots_few : {A E : Type 0} (shared by : ℕ) (from begin now : List Node) (roots listed : List ℕ) (copies : ℕ → Option ℕ) (place : ℕ) (o : Result A E) → AreBelow from roots listed → place ≡ 0
    → Transferred shared by from begin now listed copies place → IfOk o (λ r. AddsNoMore from roots begin now)
roots_few shared by from begin now roots listed copies place (Err e) a z b = tt
roots_few shared by from begin now roots listed copies place (Ok r) a z b = record { terms = listed; below = a; few = omega (arith, z, b.few) }

one_copy : (shared by : ℕ) (new old : List Node) (rs : List ℕ) (t : ℕ) → AreCopies shared by new old rs (t ∷ []) → (r : ℕ) × (rs ≡ r ∷ []) × IsCopy shared by new r old t
one_copy shared by new old _ t (one r _ _ _ c none) = (r, refl, c)

-- Slices: copies in which no symbol moves.

all_taken : {A : Type 0} (n : ℕ) (xs : List A) → take n xs ++ drop n xs ≡ xs
all_taken zero [] = refl
all_taken zero (x ∷ xs) = refl
all_taken (suc n) [] = refl
all_taken (suc n) (x ∷ xs) = ap (λ ys. x ∷ ys) (all_taken n xs)

read_all : (m : Model) → read_by 0 0 m ≡ m
read_all m = λ i. record { symbols = all_taken 0 m.symbols i; tables = m.tables }

unmoved : (f : Feature) → moved_feature 0 0 f ≡ f
unmoved (symbol s ty) = ap (λ n. symbol n ty) (stays s)
  where
    added : (s : ℕ) → s + 0 ≡ s
    added s = omega arith

    stays : (s : ℕ) → moved 0 0 s ≡ s
    stays s = elim (leb_tells (suc s) 0) [ inl x ↦ absurd (omega (arith, x.1)) | inr x ↦ ap (λ b. if b then s else s + 0) x.0 ∙ added s ]
unmoved (function n types ty) = refl
unmoved integer = refl
unmoved array = refl
unmoved difference = refl

pub record IsSlice (new : List Node) (r : ℕ) (old : List Node) (t : ℕ) : Type 0 where
  pub there : r < length new
  pub same : SameUnderEveryModel new r old t
  pub ty : type_at new r ≡ type_at old t
  pub features : BringsNoMore new r old t

slice_of : (new old : List Node) (r t : ℕ) → IsCopy 0 0 new r old t → IsSlice new r old t
slice_of new old r t c = record {
  there = c.there;
  same = λ m. c.same m ∙ ap (λ n. value n old t) (read_all m);
  ty = c.ty;
  features = λ f b. let y = c.features f b in subst (Brings old t) (sym (y.is ∙ unmoved y.feature)) y.brings;
}

-- the copy of one term
pub some_copy : (new old : List Node) (rs own : List ℕ) (t : ℕ) → AreCopies 0 0 new old rs (t ∷ []) → own ≡ rs → 0 < length own
some_copy new old rs own t a i = let x = one_copy 0 0 new old rs t a in omega (arith, ap length (i ∙ x.1))

pub first_slice : (new old : List Node) (rs own : List ℕ) (t r : ℕ) → AreCopies 0 0 new old rs (t ∷ []) → own ≡ rs → r ≡ get_or own 0 r → IsSlice new r old t
first_slice new old rs own t r a i h =
    let x = one_copy 0 0 new old rs t a in
    let same : r ≡ x.0 = h ∙ ap (λ xs. get_or xs 0 r) (i ∙ x.1) in
    subst (λ k. IsSlice new k old t) (sym same) (slice_of new old x.0 t x.2)
