-- Terms that stand for others, where tables grow.
use Rattle.std.specs.Prelude.{◌≡◌, ◌⊎◌, ℕ, ◌+◌, ◌<◌, ◌≤◌, Bool, Result, Ok, Err, IfOk, List, [], ◌∷◌, ◌++◌, map, length, slice_index, slice_get, Some, All, Contains}
use Rattle.std.proofs.Common.{refl, sym, ap, ◌∙◌, arith, subst, inl, inr, length-append, get_or, append_assoc, append-nil, zero, suc}
use Rattle.std.proofs.lemmas.Bool.Decides.{leb_tells}
use Rattle.std.proofs.lemmas.List.{get_or_default}
use Rattle.std.proofs.lemmas.List.Elements.{All-head, All-tail, All-weaker, All-nil, All-cons}
use Rattle.std.proofs.Math.ListN.{get_or-append}
use Rattle.std.proofs.Math.Seq.{get_or-append_seam}
use Rattle.uc_ops.specs.declared.op.Op.{Op}
use Rattle.uc_ops.specs.declared.model.Model.{Model}
use Rattle.uc_ops.specs.declared.node.Node.{Node}
use Rattle.uc_ops.specs.Typing.{Suits, type_of, type_at, types_at}
use Rattle.uc_ops.specs.Meaning.{apply}
use Rattle.uc_terms.specs.Tables.{WellTyped, parts_at}
use Rattle.uc_terms.specs.Values.{value, values_at}
use Rattle.uc_terms.specs.Laws.{KeepsValues}
use Rattle.uc_terms.specs.Subterms.{itself, deeper, Marked, AreSubterms}
use Rattle.uc_terms.proofs.Grown.{type-keeps, type-node, parts-node}
use Rattle.uc_terms.proofs.Values.{value-keeps, value-node}
use Rattle.uc_terms.proofs.Walk.{marked_within}
use Rattle.uc_simplify_steps.specs.Features.{Feature, Shows, Brings, OneBrings}
use Rattle.uc_simplify.specs.Simplified.{Grows, StandsFor, Rebuilds}
use Rattle.uc_simplify.specs.Walking.{PartsAnswered, Answered, AllAnswered}
use Rattle.uc_simplify_steps.proofs.Features.{part_before, parts-keep, brings-keeps, brings-grows, brings-below}

pub Grows-none : (nodes : List Node) → Grows nodes nodes
Grows-none nodes = record { more = []; is = sym (append-nil nodes) }

pub Grows-trans : (a b c : List Node) → Grows a b → Grows b c → Grows a c
Grows-trans a b c g h = record { more = g.more ++ h.more; is = h.is ∙ ap (λ ns. ns ++ h.more) g.is ∙ append_assoc a g.more h.more }

pub Grows-length : (a b : List Node) → Grows a b → length a ≤ length b
Grows-length a b g = omega (arith, ap length g.is, length-append a g.more)

pub value-same : (a b : List Node) (m : Model) (t : ℕ) → Grows a b → t < length a → value m b t ≡ value m a t
value-same a b m t g h = ap (λ ns. value m ns t) g.is ∙ value-keeps m a g.more t h

pub values_kept : (a b : List Node) → Grows a b → KeepsValues a b
values_kept a b g m t h = value-same a b m t g h

pub type-same : (a b : List Node) (t : ℕ) → Grows a b → t < length a → type_at b t ≡ type_at a t
type-same a b t g h = ap (λ ns. type_at ns t) g.is ∙ type-keeps a g.more t h

pub brings-back : (a b : List Node) (t : ℕ) (f : Feature) → WellTyped a → Grows a b → t < length a → Brings b t f → Brings a t f
brings-back a b t f w g h x = brings-keeps a g.more t f w h (subst (λ ns. Brings ns t f) g.is x)

pub brings-on : (a b : List Node) (t : ℕ) (f : Feature) → WellTyped a → Grows a b → t < length a → Brings a t f → Brings b t f
brings-on a b t f w g h x = subst (λ ns. Brings ns t f) (sym g.is) (brings-grows a g.more t f w h x)

-- a term stands for itself
pub StandsFor-itself : (nodes : List Node) (t : ℕ) → t < length nodes → StandsFor nodes t nodes t
StandsFor-itself nodes t h = record { there = h; same = λ m. refl; ty = refl; features = λ f b. b }

-- a stand-in stays one when its table grows
pub StandsFor-grows : (old a b : List Node) (r t : ℕ) → WellTyped a → Grows a b → StandsFor a r old t → StandsFor b r old t
StandsFor-grows old a b r t w g s = record {
  there = omega (arith, s.there, Grows-length a b g);
  same = λ m. value-same a b m r g s.there ∙ s.same m;
  ty = type-same a b r g s.there ∙ s.ty;
  features = λ f x. s.features f (brings-back a b r f w g s.there x);
}

-- a stand-in for a term of a table is one for that term of the table when that has grown
pub StandsFor-later : (a b new : List Node) (r t : ℕ) → WellTyped a → Grows a b → t < length a → StandsFor new r a t → StandsFor new r b t
StandsFor-later a b new r t w g h s = record {
  there = s.there;
  same = λ m. s.same m ∙ sym (value-same a b m t g h);
  ty = s.ty ∙ sym (type-same a b t g h);
  features = λ f x. brings-on a b t f w g h (s.features f x);
}

-- and back
pub StandsFor-earlier : (a b new : List Node) (r t : ℕ) → WellTyped a → Grows a b → t < length a → StandsFor new r b t → StandsFor new r a t
StandsFor-earlier a b new r t w g h s = record {
  there = s.there;
  same = λ m. s.same m ∙ value-same a b m t g h;
  ty = s.ty ∙ type-same a b t g h;
  features = λ f x. brings-back a b t f w g h (s.features f x);
}

-- each of the answers stands for the term beside it
pub data AllStand (nodes : List Node) : List ℕ → List ℕ → Type 0 where
  none : AllStand nodes [] []
  one : (r t : ℕ) (rs ts : List ℕ) → StandsFor nodes r nodes t → AllStand nodes rs ts → AllStand nodes (r ∷ rs) (t ∷ ts)

pub stand_types : (nodes : List Node) (rs ts : List ℕ) → AllStand nodes rs ts → types_at nodes rs ≡ types_at nodes ts
stand_types nodes _ _ none = refl
stand_types nodes _ _ (one r t rs ts s a) = λ i. s.ty i ∷ stand_types nodes rs ts a i

pub stand_values : (nodes : List Node) (m : Model) (rs ts : List ℕ) → AllStand nodes rs ts → values_at m nodes rs ≡ values_at m nodes ts
stand_values nodes m _ _ none = refl
stand_values nodes m _ _ (one r t rs ts s a) = λ i. s.same m i ∷ stand_values nodes m rs ts a i

Contains-cons : (x y : ℕ) (xs : List ℕ) → Contains (x ∷ xs) y → (y ≡ x) ⊎ Contains xs y
Contains-cons x y xs (zero, h, e) = inl (sym e)
Contains-cons x y xs (suc k, h, e) = inr (k, omega (arith, h), e)

Contains-first : (x : ℕ) (xs : List ℕ) → Contains (x ∷ xs) x
Contains-first x xs = (0, omega arith, refl)

Contains-later : (x y : ℕ) (xs : List ℕ) → Contains xs y → Contains (x ∷ xs) y
Contains-later x y xs c = (suc c.0, omega (arith, c.1), c.2)

pub stand_brings : (nodes : List Node) (rs ts : List ℕ) (f : Feature) → AllStand nodes rs ts → OneBrings nodes rs f → OneBrings nodes ts f
stand_brings nodes _ _ f none o = absurd (omega (arith, o.listed.1))
stand_brings nodes _ _ f (one r t rs ts s a) o =
    elim (Contains-cons r o.one rs o.listed) [
      | inl e ↦ record { one = t; listed = Contains-first t ts; brings = s.features f (subst (λ i. Brings nodes i f) e o.brings) }
      | inr c ↦ let x = stand_brings nodes rs ts f a (record { one = o.one; listed = c; brings = o.brings }) in record { one = x.one; listed = Contains-later t x.one ts x.listed; brings = x.brings }
    ]

-- a rebuilt node stands for the node
pub rebuilt_stands : (nodes new : List Node) (t r : ℕ) (node : Node) (rs : List ℕ) → WellTyped nodes → slice_get nodes t ≡ Some node → AllStand nodes rs node.parts
    → Rebuilds new r nodes node.op rs → StandsFor new r nodes t
rebuilt_stands nodes new t r node rs w h a b =
    let fine = w t node h in
    let types = stand_types nodes rs node.parts a in
    let ty : type_of node.op (types_at nodes rs) ≡ node.ty = ap (type_of node.op) types ∙ sym fine.typed in
    record {
      there = b.there;
      same = λ m. b.same m ∙ ap (λ ts. apply m node.op ts (values_at m nodes rs)) types ∙ ap (apply m node.op (types_at nodes node.parts)) (stand_values nodes m rs node.parts a) ∙ sym (value-node m nodes t node w h);
      ty = b.ty ∙ ty ∙ sym (type-node nodes t node h);
      features = λ f x. elim (b.features f x) [
        | inl s ↦ record { place = t; below = itself; bears = record { node = node; there = h; shows = subst (λ ts. Shows node.op ts node.ty f) types (subst (λ y. Shows node.op (types_at nodes rs) y f) ty s) } }
        | inr o ↦
            let p = stand_brings nodes rs node.parts f a o in
            brings-below nodes t p.one f (deeper t p.one itself (subst (λ ps. Contains ps p.one) (sym (parts-node nodes t node h)) p.listed)) p.brings
      ];
    }

-- an answer is there and stands for the part
abbrev Fine : List Node → List ℕ → ℕ → Type 0
Fine nodes answers p = (p < length answers) × StandsFor nodes (slice_index answers p) nodes p

-- the answers to the parts of a term stand for them
all_answered : (nodes : List Node) (answers parts : List ℕ) → All (Fine nodes answers) parts → AllStand nodes (map (slice_index answers) parts) parts
all_answered nodes answers [] h = none
all_answered nodes answers (p ∷ ps) h =
    let first = All-head (Fine nodes answers) p ps h in
    one (slice_index answers p) p (map (slice_index answers) ps) ps first.1 (all_answered nodes answers ps (All-tail (Fine nodes answers) p ps h))

pub record AnsweredNode (nodes : List Node) (rs ts : List ℕ) (op : Op) : Type 0 where
  pub stand : AllStand nodes rs ts
  pub there : All (λ p. p < length nodes) rs
  pub suits : Suits op (types_at nodes rs)

stand_there : (nodes : List Node) (rs ts : List ℕ) → AllStand nodes rs ts → All (λ p. p < length nodes) rs
stand_there nodes _ _ none = All-nil (λ p. p < length nodes)
stand_there nodes _ _ (one r t rs ts s a) = All-cons (λ p. p < length nodes) r rs s.there (stand_there nodes rs ts a)

pub parts_within : (nodes : List Node) (answers : List ℕ) (place : ℕ) (node : Node) → slice_get nodes place ≡ Some node → PartsAnswered nodes answers place → All (λ p. p < length answers) node.parts
parts_within nodes answers place node h a =
    All-weaker (Fine nodes answers) (λ p. p < length answers) (λ p x. x.0) node.parts
    (subst (All (Fine nodes answers)) (parts-node nodes place node h) a)

pub node_answered : (nodes : List Node) (answers : List ℕ) (place : ℕ) (node : Node) (rs : List ℕ) (op : Op) → WellTyped nodes → slice_get nodes place ≡ Some node → PartsAnswered nodes answers place
    → rs ≡ map (slice_index answers) node.parts → op ≡ node.op → AnsweredNode nodes rs node.parts op
node_answered nodes answers place node rs op w h a e f =
    let s = subst (λ xs. AllStand nodes xs node.parts) (sym e) (all_answered nodes answers node.parts
    (subst (All (Fine nodes answers)) (parts-node nodes place node h) a)) in
    record {
      stand = s;
      there = stand_there nodes rs node.parts s;
      suits = subst (λ o. Suits o (types_at nodes rs)) (sym f) (subst (Suits node.op) (sym (stand_types nodes rs node.parts s)) (w place node h).suits);
    }

pub Answered-start : (nodes : List Node) (marks : List Bool) → Answered nodes nodes marks [] 0
Answered-start nodes marks = record { grown = Grows-none nodes; size = refl; each = λ k l. absurd (omega (arith, l)) }

-- one answer more, which counts where the term is marked
pub Answered-push : (old now new : List Node) (marks : List Bool) (answers after : List ℕ) (place a : ℕ) → WellTyped old → WellTyped now → length marks ≤ length old → Grows now new
    → (Marked marks place → StandsFor new a now place) → after ≡ answers ++ a ∷ [] → Answered old now marks answers place → Answered old new marks after (place + 1)
Answered-push old now new marks answers after place a w v l g s e b = record {
  grown = Grows-trans old now new b.grown g;
  size = omega (arith, ap length e, length-append answers (a ∷ []), b.size);
  each = λ k h m. elim (leb_tells (suc k) place) [
    | inl x ↦
        let same : slice_index after k ≡ slice_index answers k = ap (λ xs. slice_index xs k) e ∙ get_or-append answers (a ∷ []) 0 k (omega (arith, x.1, b.size)) in
        subst (λ r. StandsFor new r old k) (sym same) (StandsFor-grows old now new (slice_index answers k) k v g (b.each k x.1 m))
    | inr x ↦
        let here : k ≡ place = omega (arith, h, x.1) in
        let same : slice_index after k ≡ a = ap (λ xs. slice_index xs k) e ∙ ap (slice_index (answers ++ a ∷ [])) (here ∙ sym b.size) ∙ get_or-append_seam answers a [] 0 in
        let within = marked_within marks k m in
        subst (λ r. StandsFor new r old k) (sym same)
        (StandsFor-earlier old now new a k w b.grown (omega (arith, within, l)) (subst (StandsFor new a now) (sym here) (s (subst (Marked marks) here m))))
  ];
}

-- the parts of a marked term are marked, and have answers
pub parts_known : (old now : List Node) (roots : List ℕ) (marks : List Bool) (answers : List ℕ) (place : ℕ) → WellTyped old → AreSubterms old roots marks → Marked marks place
    → Answered old now marks answers place → PartsAnswered now answers place
parts_known old now roots marks answers place w a h b =
    let r = a.sound place h in
    let within : place < length old = omega (arith, marked_within marks place h, a.within) in
    let same : parts_at now place ≡ parts_at old place = ap (λ ns. parts_at ns place) b.grown.is ∙ parts-keep old b.grown.more place within in
    subst (All (Fine now answers)) (sym same)
    (λ k d l.
    let p = get_or (parts_at old place) k d in
    let c : Contains (parts_at old place) p = (k, l, get_or_default (parts_at old place) k p d l) in
    let before = part_before old place p w within c in
    let stands = b.each p before (a.complete p (record { root = r.root; listed = r.listed; below = deeper place p r.below c })) in
    (omega (arith, before, b.size), StandsFor-later old now now (slice_index answers p) p w b.grown (omega (arith, before, within)) stands))

-- the last answer stands for the root
pub root_stands : (old now : List Node) (t : ℕ) (marks : List Bool) (answers : List ℕ) (place : ℕ) → AreSubterms old (t ∷ []) marks → length marks ≤ place → Answered old now marks answers place
    → (t < length answers) × StandsFor now (slice_index answers t) old t
root_stands old now t marks answers place a l b =
    let m = a.complete t (record { root = t; listed = Contains-first t []; below = itself }) in
    let within = marked_within marks t m in
    (omega (arith, within, l, b.size), b.each t (omega (arith, within, l)) m)

-- the same, for the answer of a call
pub rebuilt_stands_here : {E : Type 0} (nodes new : List Node) (t : ℕ) (node : Node) (rs : List ℕ) (op : Op) (ps : List ℕ) (o : Result ℕ E) → WellTyped nodes → slice_get nodes t ≡ Some node → AllStand nodes rs node.parts
    → op ≡ node.op → ps ≡ rs → IfOk o (λ r. Rebuilds new r nodes op ps) → IfOk o (λ r. StandsFor new r nodes t)
rebuilt_stands_here nodes new t node rs op ps (Err e) w h a f g b = tt
rebuilt_stands_here nodes new t node rs op ps (Ok r) w h a f g b =
    rebuilt_stands nodes new t r node rs w h a (subst (λ xs. Rebuilds new r nodes node.op xs) g (subst (λ o. Rebuilds new r nodes o ps) f b))

-- Where every term has an answer.

pub AllAnswered-start : (nodes : List Node) (answers : List ℕ) → answers ≡ [] → AllAnswered nodes nodes answers 0
AllAnswered-start nodes answers e = record { grown = Grows-none nodes; size = ap length e; each = λ k l. absurd (omega (arith, l)) }

-- one answer more
pub AllAnswered-push : (old now new : List Node) (answers after : List ℕ) (place a : ℕ) → WellTyped old → WellTyped now → place < length old → Grows now new → StandsFor new a now place → after ≡ answers ++ a ∷ []
    → AllAnswered old now answers place → AllAnswered old new after (place + 1)
AllAnswered-push old now new answers after place a w v l g s e b = record {
  grown = Grows-trans old now new b.grown g;
  size = omega (arith, ap length e, length-append answers (a ∷ []), b.size);
  each = λ k h. elim (leb_tells (suc k) place) [
    | inl x ↦
        let same : slice_index after k ≡ slice_index answers k = ap (λ xs. slice_index xs k) e ∙ get_or-append answers (a ∷ []) 0 k (omega (arith, x.1, b.size)) in
        subst (λ r. StandsFor new r old k) (sym same) (StandsFor-grows old now new (slice_index answers k) k v g (b.each k x.1))
    | inr x ↦
        let here : k ≡ place = omega (arith, h, x.1) in
        let same : slice_index after k ≡ a = ap (λ xs. slice_index xs k) e ∙ ap (slice_index (answers ++ a ∷ [])) (here ∙ sym b.size) ∙ get_or-append_seam answers a [] 0 in
        subst (λ r. StandsFor new r old k) (sym same)
        (StandsFor-earlier old now new a k w b.grown (omega (arith, here, l)) (subst (StandsFor new a now) (sym here) s))
  ];
}

-- the parts of a term have answers
pub all_parts_known : (old now : List Node) (answers : List ℕ) (place : ℕ) → WellTyped old → place < length old → AllAnswered old now answers place → PartsAnswered now answers place
all_parts_known old now answers place w within b =
    let same : parts_at now place ≡ parts_at old place = ap (λ ns. parts_at ns place) b.grown.is ∙ parts-keep old b.grown.more place within in
    subst (All (Fine now answers)) (sym same)
    (λ k d l.
    let p = get_or (parts_at old place) k d in
    let c : Contains (parts_at old place) p = (k, l, get_or_default (parts_at old place) k p d l) in
    let before = part_before old place p w within c in
    (omega (arith, before, b.size), StandsFor-later old now now (slice_index answers p) p w b.grown (omega (arith, before, within)) (b.each p before)))

pub stands_for_itself : (nodes : List Node) (t r : ℕ) → t < length nodes → r ≡ t → StandsFor nodes r nodes t
stands_for_itself nodes t r h e = subst (λ k. StandsFor nodes k nodes t) (sym e) (StandsFor-itself nodes t h)

pub grown_by_none : (nodes : List Node) → Grows nodes nodes
grown_by_none nodes = Grows-none nodes
