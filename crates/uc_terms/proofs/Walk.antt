-- Marks on the subterms of terms.
use Rattle.std.specs.Prelude.{◌≡◌, ℕ, ◌+◌, ◌<◌, ◌≤◌, Bool, true, false, List, [], ◌∷◌, ◌++◌, length, slice_index_or, slice_set, All, Contains}
use Rattle.std.proofs.Common.{refl, sym, ap, ◌∙◌, arith, subst, ◌⊎◌, inl, inr, get_or, length-append, get_or-set_same, get_or-set_other, length-set, suc, zero, take, replicate}
use Rattle.std.proofs.lemmas.List.{take_more}
use Rattle.std.proofs.Math.ListN.{get_or-append}
use Rattle.std.proofs.lemmas.Bool.{false≢true}
use Rattle.std.proofs.lemmas.Bool.Decides.{eqb_tells, leb_tells}
use Rattle.std.proofs.Math.Seq.{get_or-append_seam}
use Rattle.std.proofs.lemmas.List.Elements.{All-contains, All-weaker, All-push}
use Rattle.uc_ops.specs.declared.node.Node.{Node}
use Rattle.uc_terms.specs.Tables.{parts_at}
use Rattle.uc_terms.specs.Subterms.{IsSubterm, itself, deeper, IsBelow, Marked, AreSubterms}
use Rattle.uc_terms.specs.Marks.{MarksMore}

-- what is marked is a place of the list
pub marked_within : (marks : List Bool) (k : ℕ) → Marked marks k → k < length marks
marked_within [] k h = absurd (false≢true h)
marked_within (b ∷ marks) zero h = omega arith
marked_within (b ∷ marks) (suc k) h = omega (arith, marked_within marks k h)

pub MarksMore-none : (marks : List Bool) → MarksMore marks marks []
MarksMore-none marks = record { length = refl; kept = λ k h. h; set = λ k c. absurd (omega (arith, c.1)); only = λ k h. inl h }

pub Contains-front : (xs ys : List ℕ) (k : ℕ) → Contains xs k → Contains (xs ++ ys) k
Contains-front xs ys k c = (c.0, omega (arith, c.1, length-append xs ys), get_or-append xs ys k c.0 c.1 ∙ c.2)

pub Contains-last : (xs : List ℕ) (k : ℕ) → Contains (xs ++ k ∷ []) k
Contains-last xs k = (length xs, omega (arith, length-append xs (k ∷ [])), get_or-append_seam xs k [] k)

pub Contains-push : (xs : List ℕ) (p k : ℕ) → Contains (xs ++ p ∷ []) k → Contains xs k ⊎ (k ≡ p)
Contains-push xs p k c =
    elim (leb_tells (suc c.0) (length xs)) [
      | inl x ↦ inl (c.0, x.1, sym (get_or-append xs (p ∷ []) k c.0 x.1) ∙ c.2)
      | inr x ↦
          let last : c.0 ≡ length xs = omega (arith, x.1, c.1, length-append xs (p ∷ [])) in
          inr (sym c.2 ∙ ap (λ i. get_or (xs ++ p ∷ []) i k) last ∙ get_or-append_seam xs p [] k)
    ]

pub Marked-here : (marks : List Bool) (p : ℕ) → p < length marks → Marked (slice_set marks p true) p
Marked-here marks p h = get_or-set_same marks p true false h

pub Marked-set : (marks : List Bool) (p k : ℕ) → p < length marks → Marked marks k → Marked (slice_set marks p true) k
Marked-set marks p k h m =
    elim (eqb_tells k p) [
      | inl x ↦ subst (λ i. Marked (slice_set marks p true) i) (sym x.1) (Marked-here marks p h)
      | inr x ↦ get_or-set_other marks p k true false x.1 ∙ m
    ]

pub Marked-only : (marks : List Bool) (p k : ℕ) → Marked (slice_set marks p true) k → Marked marks k ⊎ (k ≡ p)
Marked-only marks p k m =
    elim (eqb_tells k p) [ inl x ↦ inr x.1 | inr x ↦ inl (sym (get_or-set_other marks p k true false x.1) ∙ m) ]

-- one more part is marked
pub MarksMore-push : (old new : List Bool) (parts : List ℕ) (p : ℕ) → p < length new → MarksMore old new parts → MarksMore old (slice_set new p true) (parts ++ p ∷ [])
MarksMore-push old new parts p h m = record {
  length = length-set new p true ∙ m.length;
  kept = λ k o. Marked-set new p k h (m.kept k o);
  set = λ k c. elim (Contains-push parts p k c) [ inl x ↦ Marked-set new p k h (m.set k x) | inr x ↦ subst (λ i. Marked (slice_set new p true) i) (sym x) (Marked-here new p h) ];
  only = λ k o. elim (Marked-only new p k o) [
    | inl x ↦ elim (m.only k x) [ inl y ↦ inl y | inr y ↦ inr (Contains-front parts (p ∷ []) k y) ]
    | inr x ↦ inr (subst (λ i. Contains (parts ++ p ∷ []) i) (sym x) (Contains-last parts p))
  ];
}

-- the part at a place is marked
pub MarksMore-next : (old new : List Bool) (parts : List ℕ) (i p q : ℕ) → i < length parts → p ≡ get_or parts i p → q ≡ p → All (λ x. x < length old) parts
    → MarksMore old new (take i parts) → MarksMore old (slice_set new q true) (take (i + 1) parts)
MarksMore-next old new parts i p q h e f b m =
    let within : p < length new = omega (arith, b i p h, e, m.length) in
    subst (λ x. MarksMore old (slice_set new x true) (take (i + 1) parts)) (sym f)
    (subst (MarksMore old (slice_set new p true)) (sym (take_more parts i p h ∙ ap (λ x. take i parts ++ x ∷ []) (sym e))) (MarksMore-push old new (take i parts) p within m))

pub none_marked : (n k : ℕ) → slice_index_or (replicate n false) k false ≡ false
none_marked zero k = refl
none_marked (suc n) zero = refl
none_marked (suc n) (suc k) = none_marked n k

-- the marks so far, where those of the numbers from place on are followed
pub record Walking (nodes : List Node) (roots : List ℕ) (marks : List Bool) (place : ℕ) : Type 0 where
  pub size : length marks ≤ length nodes
  pub within : place ≤ length marks
  pub top : (t : ℕ) → Contains roots t → Marked marks t
  pub sound : (k : ℕ) → Marked marks k → IsBelow nodes roots k
  pub closed : (k p : ℕ) → place ≤ k → Marked marks k → Contains (parts_at nodes k) p → Marked marks p

-- the terms themselves are marked
pub Walking-start : (nodes : List Node) (roots : List ℕ) (none marks : List Bool) → length none ≤ length nodes → ((k : ℕ) → slice_index_or none k false ≡ false) → MarksMore none marks roots
    → Walking nodes roots marks (length none)
Walking-start nodes roots none marks h empty m =
    let listed : (k : ℕ) → Marked marks k → Contains roots k = λ k o. elim (m.only k o) [ inl x ↦ absurd (false≢true (sym (empty k) ∙ x)) | inr x ↦ x ] in
    record {
      size = omega (arith, h, m.length);
      within = omega (arith, m.length);
      top = m.set;
      sound = λ k o. record { root = k; listed = listed k o; below = itself };
      closed = λ k p l o c. absurd (omega (arith, l, marked_within marks k o, m.length));
    }

pub Walking-skip : (nodes : List Node) (roots : List ℕ) (marks : List Bool) (place : ℕ) → slice_index_or marks place false ≡ false → Walking nodes roots marks (place + 1) → Walking nodes roots marks place
Walking-skip nodes roots marks place h w = record {
  size = w.size;
  within = omega (arith, w.within);
  top = w.top;
  sound = w.sound;
  closed = λ k p l m c. elim (eqb_tells k place) [
    | inl x ↦ absurd (false≢true (sym h ∙ subst (Marked marks) x.1 m))
    | inr x ↦ w.closed k p (omega (arith, l, x.1)) m c
  ];
}

pub Walking-mark : (nodes : List Node) (roots : List ℕ) (old new : List Bool) (place : ℕ) → Marked old place → MarksMore old new (parts_at nodes place) → All (λ p. p < place) (parts_at nodes place)
    → Walking nodes roots old (place + 1) → Walking nodes roots new place
Walking-mark nodes roots old new place h m b w = record {
  size = omega (arith, m.length, w.size);
  within = omega (arith, m.length, w.within);
  top = λ t c. m.kept t (w.top t c);
  sound = λ k o. elim (m.only k o) [
    | inl x ↦ w.sound k x
    | inr x ↦ let r = w.sound place h in record { root = r.root; listed = r.listed; below = deeper place k r.below x }
  ];
  closed = λ k p l o c. elim (eqb_tells k place) [
    | inl x ↦ m.set p (subst (λ i. Contains (parts_at nodes i) p) x.1 c)
    | inr x ↦ elim (m.only k o) [
      | inl y ↦ m.kept p (w.closed k p (omega (arith, l, x.1)) y c)
      | inr y ↦ absurd (omega (arith, l, All-contains (λ i. i < place) (parts_at nodes place) k b y))
    ]
  ];
}

followed : (nodes : List Node) (roots : List ℕ) (marks : List Bool) → Walking nodes roots marks 0 → (t : ℕ) → Contains roots t → (k : ℕ) → IsSubterm nodes t k → Marked marks k
followed nodes roots marks w t r k itself = w.top t r
followed nodes roots marks w t r k (deeper j p s c) = w.closed j p (omega arith) (followed nodes roots marks w t r j s) c

pub Walking-end : (nodes : List Node) (roots : List ℕ) (marks : List Bool) → Walking nodes roots marks 0 → AreSubterms nodes roots marks
Walking-end nodes roots marks w = record { within = w.size; sound = w.sound; complete = λ k b. followed nodes roots marks w b.root b.listed k b.below }

-- a bound on the first numbers of a list, raised above the next
pub bounded-next : (xs : List ℕ) (i x a b : ℕ) → i < length xs → x ≡ get_or xs i x → a ≤ b → x < b → All (λ t. t < a) (take i xs) → All (λ t. t < b) (take (i + 1) xs)
bounded-next xs i x a b h e l g f =
    let raised : All (λ t. t < b) (take i xs) = All-weaker (λ t. t < a) (λ t. t < b) (λ t k. omega (arith, k, l)) (take i xs) f in
    subst (All (λ t. t < b)) (sym (take_more xs i x h ∙ ap (λ y. take i xs ++ y ∷ []) (sym e))) (All-push (λ t. t < b) (take i xs) x raised g)
