-- How the terms at and below some terms are listed.
use Rattle.std.specs.Prelude.{◌≡◌, ◌⊎◌, ℕ, ◌+◌, ◌<◌, ◌≤◌, max, true, false, Option, Some, None, MatchOption, IsSome, IfSome, ◌↔◌, List, [], ◌∷◌, ◌++◌, take, length, slice_index, All, Contains, zero, suc}
use Rattle.std.proofs.Common.{refl, sym, ap, ◌∙◌, arith, subst, inl, inr, length-append, get_or}
use Rattle.std.specs.declared.cmp.Ordering.{Ordering}
use Rattle.std.specs.declared.cmp.Ordering.TheVariants.{Less, Equal, Greater}
use Rattle.std.specs.Ordering.{MatchOrdering, match_ordering, nat_cmp}
use Rattle.std.specs.BTreeSet.{insert_key}
use Rattle.std.proofs.lemmas.Cmp.{ranked}
use Rattle.std.proofs.lemmas.Bool.Decides.{leb_tells}
use Rattle.std.proofs.lemmas.List.{take_more, take_all}
use Rattle.std.proofs.lemmas.List.Elements.{All-contains, Contains-append_left, Contains-push, Contains-push_cases, Contains-get_or}
use Rattle.std.proofs.Math.ListN.{get_or-append}
use Rattle.std.proofs.Math.Seq.{get_or-append_seam}
use Rattle.uc_ops.specs.declared.node.Node.{Node}
use Rattle.uc_terms.specs.Tables.{WellTyped, parts_at}
use Rattle.uc_terms.specs.Subterms.{IsSubterm, itself, deeper, IsBelow}
use Rattle.uc_simplify_steps.proofs.Features.{sub-below}
use Rattle.uc_compose.specs.Below.{Falls, AreBelow, Joins}

-- Numbers that wait.

first_listed : (x : ℕ) (xs : List ℕ) → Contains (x ∷ xs) x
first_listed x xs = (0, omega arith, refl)

later_listed : (x y : ℕ) (xs : List ℕ) → Contains xs y → Contains (x ∷ xs) y
later_listed x y xs c = (suc c.0, omega (arith, c.1), c.2)

listed_cases : (x y : ℕ) (xs : List ℕ) → Contains (x ∷ xs) y → (x ≡ y) ⊎ Contains xs y
listed_cases x y xs (zero, h, e) = inl e
listed_cases x y xs (suc k, h, e) = inr (k, omega (arith, h), e)

none_listed : (y : ℕ) → Contains [] y → ⊥
none_listed y c = omega (arith, c.1)

one_listed : (x y : ℕ) → Contains (x ∷ []) y → y ≡ x
one_listed x y c = elim (listed_cases x y [] c) [ inl e ↦ sym e | inr d ↦ absurd (none_listed y d) ]

inserted : (xs : List ℕ) (k n : ℕ) → Contains (insert_key nat_cmp xs k) n → Contains xs n ⊎ (n ≡ k)
inserted [] k n c = inr (one_listed k n c)
inserted (x ∷ xs) k n c = by_case (inserted xs k n) (nat_cmp k x) (ranked k x (nat_cmp k x) refl) c
  where
    by_case : (Contains (insert_key nat_cmp xs k) n → Contains xs n ⊎ (n ≡ k)) → (o : Ordering) → MatchOrdering o (k < x) (k ≡ x) (x < k) → Contains (match_ordering o (k ∷ x ∷ xs) (x ∷ xs) (x ∷ insert_key nat_cmp xs k)) n
        → Contains (x ∷ xs) n ⊎ (n ≡ k)
    by_case rest Less h d = elim (listed_cases k n (x ∷ xs) d) [ inl e ↦ inr (sym e) | inr r ↦ inl r ]
    by_case rest Equal h d = inl d
    by_case rest Greater h d = elim (listed_cases x n (insert_key nat_cmp xs k) d) [
      | inl e ↦ inl (subst (Contains (x ∷ xs)) e (first_listed x xs))
      | inr r ↦ elim (rest r) [ inl y ↦ inl (later_listed x n xs y) | inr y ↦ inr y ]
    ]

stays_inserted : (xs : List ℕ) (k n : ℕ) → Contains xs n → Contains (insert_key nat_cmp xs k) n
stays_inserted [] k n c = absurd (none_listed n c)
stays_inserted (x ∷ xs) k n c = by_case (stays_inserted xs k n) (nat_cmp k x)
  where
    by_case : (Contains xs n → Contains (insert_key nat_cmp xs k) n) → (o : Ordering) → Contains (match_ordering o (k ∷ x ∷ xs) (x ∷ xs) (x ∷ insert_key nat_cmp xs k)) n
    by_case rest Less = later_listed k n (x ∷ xs) c
    by_case rest Equal = c
    by_case rest Greater = elim (listed_cases x n xs c) [
      | inl e ↦ subst (Contains (x ∷ insert_key nat_cmp xs k)) e (first_listed x (insert_key nat_cmp xs k))
      | inr d ↦ later_listed x n (insert_key nat_cmp xs k) (rest d)
    ]

is_inserted : (xs : List ℕ) (k : ℕ) → Contains (insert_key nat_cmp xs k) k
is_inserted [] k = first_listed k []
is_inserted (x ∷ xs) k = by_case (is_inserted xs k) (nat_cmp k x) (ranked k x (nat_cmp k x) refl)
  where
    by_case : Contains (insert_key nat_cmp xs k) k → (o : Ordering) → MatchOrdering o (k < x) (k ≡ x) (x < k) → Contains (match_ordering o (k ∷ x ∷ xs) (x ∷ xs) (x ∷ insert_key nat_cmp xs k)) k
    by_case rest Less h = first_listed k (x ∷ xs)
    by_case rest Equal h = subst (Contains (x ∷ xs)) (sym h) (first_listed x xs)
    by_case rest Greater h = later_listed x k (insert_key nat_cmp xs k) rest

pub joins_one : (before now : List ℕ) (k : ℕ) → now ≡ insert_key nat_cmp before k → Joins before (k ∷ []) now
joins_one before now k e = record {
  kept = λ n c. subst (λ xs. Contains xs n) (sym e) (stays_inserted before k n c);
  added = λ n c. subst (λ xs. Contains xs n) (sym e) (subst (Contains (insert_key nat_cmp before k)) (sym (one_listed k n c)) (is_inserted before k));
  only = λ n c. elim (inserted before k n (subst (λ xs. Contains xs n) e c)) [
    | inl d ↦ inl d
    | inr i ↦ inr (subst (Contains (k ∷ [])) (sym i) (first_listed k []))
  ];
}

pub joins_none : (before : List ℕ) → Joins before [] before
joins_none before = record { kept = λ n c. c; added = λ n c. absurd (none_listed n c); only = λ n c. inl c }

joins_more : (before middle now xs : List ℕ) (y : ℕ) → Joins before xs middle → Joins middle (y ∷ []) now → Joins before (xs ++ y ∷ []) now
joins_more before middle now xs y j k = record {
  kept = λ n c. k.kept n (j.kept n c);
  added = λ n c. elim (Contains-push_cases xs y n c) [
    | inl d ↦ k.kept n (j.added n d)
    | inr e ↦ k.added n (subst (Contains (y ∷ [])) e (first_listed y []))
  ];
  only = λ n c. elim (k.only n c) [
    | inl d ↦ elim (j.only n d) [ inl e ↦ inl e | inr e ↦ inr (Contains-append_left xs (y ∷ []) n e) ]
    | inr d ↦ inr (subst (Contains (xs ++ y ∷ [])) (sym (one_listed y n d)) (Contains-push xs y))
  ];
}

-- the next of a list is added
pub joins_next : (before middle now xs : List ℕ) (i x y : ℕ) → i < length xs → x ≡ get_or xs i x → y ≡ x → Joins before (take i xs) middle → Joins middle (y ∷ []) now → Joins before (take (i + 1) xs) now
joins_next before middle now xs i x y l at e j k =
    subst (λ ys. Joins before ys now) (sym (take_more xs i x l ∙ ap (λ z. take i xs ++ z ∷ []) (sym at)))
    (joins_more before middle now (take i xs) x j (subst (λ z. Joins middle (z ∷ []) now) e k))

pub joins_end : (before now xs : List ℕ) (i : ℕ) → length xs ≤ i → Joins before (take i xs) now → Joins before xs now
joins_end before now xs i l j = subst (λ ys. Joins before ys now) (take_all i xs l) j

below_greatest : (xs : List ℕ) (k : ℕ) → All (λ q. nat_cmp q k ≡ Less) xs → All (λ q. q < k) xs
below_greatest xs k h i d l = by_case (nat_cmp (get_or xs i d) k) (h i d l) (ranked (get_or xs i d) k (nat_cmp (get_or xs i d) k) refl)
  where
    by_case : (o : Ordering) → o ≡ Less → MatchOrdering o (get_or xs i d < k) (get_or xs i d ≡ k) (k < get_or xs i d) → get_or xs i d < k
    by_case Less e m = m
    by_case Equal e m = absurd (cc)
    by_case Greater e m = absurd (cc)

pub greatest_taken : (o : Option ℕ) (old new : List ℕ) → (IsSome o ↔ (0 < length old)) → IfSome o (λ k. old ≡ new ++ k ∷ []) → IfSome o (λ k. All (λ q. nat_cmp q k ≡ Less) new)
    → MatchOption o (old ≡ []) (λ k. (old ≡ new ++ k ∷ []) × All (λ q. q < k) new)
greatest_taken None [] new v r a = refl
greatest_taken None (x ∷ old) new v r a = absurd (let e : false ≡ true = v.1 (omega arith) in cc)
greatest_taken (Some k) old new v r a = (r, below_greatest new k a)

-- A number above all that wait, which falls.

unfoldable pub above : List ℕ → ℕ
above [] = 0
above (x ∷ xs) = max (x + 1) (above xs)

above_listed : (xs : List ℕ) (n : ℕ) → Contains xs n → n < above xs
unfolding above
above_listed [] n c = absurd (none_listed n c)
above_listed (x ∷ xs) n c = elim (listed_cases x n xs c) [ inl e ↦ omega (arith, e) | inr d ↦ omega (arith, above_listed xs n d) ]

above_least : (xs : List ℕ) (n : ℕ) → ((k : ℕ) → Contains xs k → k < n) → above xs ≤ n
unfolding above
above_least [] n h = omega arith
above_least (x ∷ xs) n h = omega (arith, h x (first_listed x xs), above_least xs n (λ k c. h k (later_listed x k xs c)))

pub taken_listed : (old rest : List ℕ) (n : ℕ) → old ≡ rest ++ n ∷ [] → Contains old n
taken_listed old rest n e = subst (λ xs. Contains xs n) (sym e) (Contains-push rest n)

pub above_falls : (old rest now parts : List ℕ) (n : ℕ) → old ≡ rest ++ n ∷ [] → All (λ k. k < n) rest → Joins rest parts now → All (λ k. k < n) parts → above now < above old
above_falls old rest now parts n e r j p =
    let least : above now ≤ n = above_least now n (λ k c. elim (j.only k c) [ inl d ↦ All-contains (λ i. i < n) rest k r d | inr d ↦ All-contains (λ i. i < n) parts k p d ]) in
    omega (arith, least, above_listed old n (taken_listed old rest n e))

-- Falling numbers.

falls_none : Falls []
falls_none i j l h = absurd (omega (arith, h))

falls_push : (xs : List ℕ) (n : ℕ) → Falls xs → ((k : ℕ) → Contains xs k → n < k) → Falls (xs ++ n ∷ [])
falls_push xs n f h i j l b =
    let long : length (xs ++ n ∷ []) ≡ length xs + 1 = length-append xs (n ∷ []) in
    let first : slice_index (xs ++ n ∷ []) i ≡ slice_index xs i = get_or-append xs (n ∷ []) 0 i (omega (arith, l, b, long)) in
    elim (leb_tells (suc j) (length xs)) [
      | inl x ↦
          let second : slice_index (xs ++ n ∷ []) j ≡ slice_index xs j = get_or-append xs (n ∷ []) 0 j (omega (arith, x.1)) in
          omega (arith, first, second, f i j l (omega (arith, x.1)))
      | inr x ↦
          let last : j ≡ length xs = omega (arith, x.1, b, long) in
          let second : slice_index (xs ++ n ∷ []) j ≡ n = ap (slice_index (xs ++ n ∷ [])) last ∙ get_or-append_seam xs n [] 0 in
          omega (arith, first, second, h (slice_index xs i) (Contains-get_or xs i 0 (omega (arith, l, last))))
    ]

-- of two numbers of the list, the smaller one stands behind
pub falls_behind : (xs : List ℕ) (i j : ℕ) → Falls xs → i < length xs → j < length xs → slice_index xs j < slice_index xs i → i < j
falls_behind xs i j f li lj h = elim (leb_tells (suc i) j) [
  | inl x ↦ x.1
  | inr x ↦ elim (leb_tells (suc j) i) [
    | inl y ↦ absurd (omega (arith, h, f j i y.1 li))
    | inr y ↦ let same : i ≡ j = omega (arith, x.1, y.1) in absurd (omega (arith, h, ap (slice_index xs) same))
  ]
]

-- The walk.

-- where a root is there, so is what is below it
pub below_there : (nodes : List Node) (roots : List ℕ) (k : ℕ) → WellTyped nodes → All (λ t. t < length nodes) roots → IsBelow nodes roots k → k < length nodes
below_there nodes roots k w h b =
    let root = All-contains (λ t. t < length nodes) roots b.root h b.listed in
    omega (arith, root, sub-below nodes b.root w root k b.below)

-- What is listed and what waits is at or below the roots. The parts of what is listed are listed or wait, and what waits is smaller.
pub record Walking (nodes : List Node) (roots listed waiting : List ℕ) : Type 0 where
  pub top : (t : ℕ) → Contains roots t → Contains listed t ⊎ Contains waiting t
  pub sound : (k : ℕ) → Contains listed k ⊎ Contains waiting k → IsBelow nodes roots k
  pub closed : (k p : ℕ) → Contains listed k → Contains (parts_at nodes k) p → Contains listed p ⊎ Contains waiting p
  pub falls : Falls listed
  pub smaller : (k n : ℕ) → Contains listed k → Contains waiting n → n < k

pub walking_start : (nodes : List Node) (roots listed none waiting : List ℕ) → listed ≡ [] → none ≡ [] → Joins none roots waiting → Walking nodes roots listed waiting
walking_start nodes roots listed none waiting e i j =
    let nothing : (k : ℕ) → Contains listed k → ⊥ = λ k c. none_listed k (subst (λ xs. Contains xs k) e c) in
    record {
      top = λ t c. inr (j.added t c);
      sound = λ k c. elim c [
        | inl d ↦ absurd (nothing k d)
        | inr d ↦ elim (j.only k d) [
          | inl x ↦ absurd (none_listed k (subst (λ xs. Contains xs k) i x))
          | inr x ↦ record { root = k; listed = x; below = itself }
        ]
      ];
      closed = λ k p c d. absurd (nothing k c);
      falls = subst Falls (sym e) falls_none;
      smaller = λ k n c d. absurd (nothing k c);
    }

pub walking_turn : (nodes : List Node) (roots listed after old rest now parts : List ℕ) (n : ℕ) → old ≡ rest ++ n ∷ [] → All (λ k. k < n) rest → parts ≡ parts_at nodes n → All (λ k. k < n) parts → Joins rest parts now
    → after ≡ listed ++ n ∷ [] → Walking nodes roots listed old → Walking nodes roots after now
walking_turn nodes roots listed after old rest now parts n e r is p j a w =
    subst (λ xs. Walking nodes roots xs now) (sym a) (record {
      top = λ t c. moved t (w.top t c);
      sound = λ k c. elim c [
        | inl d ↦ elim (Contains-push_cases listed n k d) [ inl x ↦ w.sound k (inl x) | inr x ↦ subst (IsBelow nodes roots) x own ]
        | inr d ↦ elim (j.only k d) [ inl x ↦ w.sound k (inr (waited k x)) | inr x ↦ record { root = own.root; listed = own.listed; below = deeper n k own.below (subst (λ ps. Contains ps k) is x) } ]
      ];
      closed = λ k q c d. elim (Contains-push_cases listed n k c) [
        | inl x ↦ moved q (w.closed k q x d)
        | inr x ↦ inr (j.added q (subst (λ ps. Contains ps q) (sym is) (subst (λ i. Contains (parts_at nodes i) q) (sym x) d)))
      ];
      falls = falls_push listed n w.falls (λ k c. w.smaller k n c (taken_listed old rest n e));
      smaller = λ k m c d.
          let low : m < n = elim (j.only m d) [ inl x ↦ All-contains (λ i. i < n) rest m r x | inr x ↦ All-contains (λ i. i < n) parts m p x ] in
          elim (Contains-push_cases listed n k c) [
            | inl x ↦ omega (arith, low, w.smaller k n x (taken_listed old rest n e))
            | inr x ↦ omega (arith, low, x)
          ];
    })
  where
    own : IsBelow nodes roots n
    own = w.sound n (inr (taken_listed old rest n e))

    waited : (k : ℕ) → Contains rest k → Contains old k
    waited k c = subst (λ xs. Contains xs k) (sym e) (Contains-append_left rest (n ∷ []) k c)

    moved : (k : ℕ) → Contains listed k ⊎ Contains old k → Contains (listed ++ n ∷ []) k ⊎ Contains now k
    moved k (inl c) = inl (Contains-append_left listed (n ∷ []) k c)
    moved k (inr c) = elim (Contains-push_cases rest n k (subst (λ xs. Contains xs k) e c)) [
      | inl x ↦ inr (j.kept k x)
      | inr x ↦ inl (subst (Contains (listed ++ n ∷ [])) x (Contains-push listed n))
    ]

pub walking_end : (nodes : List Node) (roots listed waiting : List ℕ) → waiting ≡ [] → Walking nodes roots listed waiting → AreBelow nodes roots listed
walking_end nodes roots listed waiting e w = record { sound = λ k c. w.sound k (inl c); complete = λ k b. followed b.root b.listed k b.below; falls = w.falls }
  where
    is_listed : (k : ℕ) → Contains listed k ⊎ Contains waiting k → Contains listed k
    is_listed k (inl c) = c
    is_listed k (inr c) = absurd (none_listed k (subst (λ xs. Contains xs k) e c))

    followed : (t : ℕ) → Contains roots t → (k : ℕ) → IsSubterm nodes t k → Contains listed k
    followed t r k itself = is_listed t (w.top t r)
    followed t r k (deeper i p s c) = is_listed k (w.closed i k (followed t r i s) c)
