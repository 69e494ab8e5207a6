-- The statements that are listed for a part are all that write what overlaps it.
use Rattle.std.proofs.Common.{◌≡◌, ℕ, zero, suc, ◌+◌, ◌%◌, ◌<◌, ◌≤◌, List, [], ◌∷◌, ◌++◌, length, take, get_or, refl, sym, ap, ◌∙◌, subst, true, false, Bool, Some, ◌⊎◌, inl, inr, ⊎_elim, arith, get_or-set_same, get_or-set_other}
use Rattle.std.specs.Prelude.{not, ◌&&◌, ◌||◌, nat_eq, slice_get, slice_index_or, slice_set, replicate}
use Rattle.std.specs.List.{list_any}
use Rattle.std.proofs.Math.Nat.{mod-lt}
use Rattle.std.proofs.lemmas.Bool.Decides.{nat_tests}
use Rattle.std.proofs.lemmas.List.{length-set, length-replicate, take_more, take_all}
use Rattle.std.proofs.lemmas.List.Folds.{list_any-append, list_all-append}
use Rattle.uc_meaning.specs.Steps.{is_prefix}
use Rattle.uc_graph.specs.Order.{has}
use Rattle.uc_graph.proofs.Arranged.{and_true, true_and}
use Rattle.uc_flat_code.specs.declared.once.Part.{Part}
use Rattle.uc_flat_code.specs.Once.{overlaps, touched}
use Rattle.uc_flat_order.specs.declared.uses.Uses.{Uses}
use Rattle.uc_flat_order.specs.Uses.{spared}
use Rattle.uc_flat_order.specs.Writers.{is_listed, AreListed, Grown, over, writes_over}
use Rattle.uc_flat_order.proofs.Used.{within, same, here_or_before}

true_false : true ≡ false → ⊥
true_false h = cc

same_or_not : (n m : ℕ) → (n ≡ m) ⊎ (n ≡ m → ⊥)
same_or_not zero zero = inl refl
same_or_not zero (suc m) = inr (λ e. absurd (omega (arith, e)))
same_or_not (suc n) zero = inr (λ e. absurd (omega (arith, e)))
same_or_not (suc n) (suc m) = ⊎_elim (λ e. inl (ap suc e)) (λ k. inr (λ e. k (omega (arith, e)))) (same_or_not n m)

-- ---- lists that grow

has_left : (a b : List ℕ) (n : ℕ) → has a n ≡ true → has (a ++ b) n ≡ true
has_left a b n h = list_any-append (nat_eq n) a b ∙ or_first (has a n) (has b n) h
  where
    or_first : (c d : Bool) → c ≡ true → (c || d) ≡ true
    or_first true d e = refl
    or_first false d e = absurd (true_false (sym e))

has_last : (a : List ℕ) (n : ℕ) → has (a ++ n ∷ []) n ≡ true
has_last a n = list_any-append (nat_eq n) a (n ∷ []) ∙ ap (λ c. has a n || (c || false)) (same n) ∙ or_second (has a n)
  where
    or_second : (c : Bool) → (c || true) ≡ true
    or_second true = refl
    or_second false = refl

-- what is listed stays listed where one is added
stays : (now new : List (List ℕ)) (b n : ℕ) → new ≡ slice_set now b (slice_index_or now b [] ++ n ∷ []) → b < length now → (c m : ℕ) → has (slice_index_or now c []) m ≡ true → has (slice_index_or new c []) m ≡ true
stays now new b n is l c m h = ⊎_elim
    (λ e. ap (λ ls. has (slice_index_or ls c []) m) is ∙ ap (λ k. has (slice_index_or (slice_set now b (slice_index_or now b [] ++ n ∷ [])) k []) m) e
    ∙ ap (λ ns. has ns m) (get_or-set_same now b (slice_index_or now b [] ++ n ∷ []) [] l) ∙ has_left (slice_index_or now b []) (n ∷ []) m (ap (λ k. has (slice_index_or now k []) m) (sym e) ∙ h))
    (λ ne. ap (λ ls. has (slice_index_or ls c []) m) is ∙ ap (λ ns. has ns m) (get_or-set_other now b c (slice_index_or now b [] ++ n ∷ []) [] ne) ∙ h)
    (same_or_not c b)

-- all that were listed stay so
all_stay : (now new : List (List ℕ)) (count n : ℕ) (ps : List Part) → ((c m : ℕ) → has (slice_index_or now c []) m ≡ true → has (slice_index_or new c []) m ≡ true) → is_listed now count n ps ≡ true → is_listed new count n ps ≡ true
all_stay now new count n [] h k = refl
all_stay now new count n (p ∷ ps) h k =
    let s = and_true (has (slice_index_or now (p.cell % count) []) n) (is_listed now count n ps) k in
    true_and (has (slice_index_or new (p.cell % count) []) n) (is_listed new count n ps) (h (p.cell % count) n s.0) (all_stay now new count n ps h s.1)

pub grown_begin : (lists : List (List ℕ)) (count n : ℕ) → Grown lists lists count [] n
grown_begin lists count n = record { even = refl; kept = λ b m h. h; listed = refl }

pub grown_more : (old now new : List (List ℕ)) (count n k : ℕ) (ps : List Part) (p : Part) → 0 < count → length old ≡ count → Grown old now count (take k ps) n → k < length ps → p ≡ get_or ps k p
    → new ≡ slice_set now (p.cell % count) (slice_index_or now (p.cell % count) [] ++ n ∷ []) → Grown old new count (take (k + 1) ps) n
grown_more old now new count n k ps p pos size s l at is =
    let b : ℕ = p.cell % count in
    let inside : b < length now = omega (arith, mod-lt p.cell pos, size, s.even) in
    let keep = stays now new b n is inside in
    record {
      even = ap length is ∙ length-set now b (slice_index_or now b [] ++ n ∷ []) ∙ s.even;
      kept = λ c m h. keep c m (s.kept c m h);
      listed = ap (is_listed new count n) (take_more ps k p l ∙ ap (λ q. take k ps ++ q ∷ []) (sym at)) ∙ list_all-append (λ q. has (slice_index_or new (q.cell % count) []) n) (take k ps) (p ∷ [])
          ∙ true_and (is_listed new count n (take k ps)) (has (slice_index_or new b []) n && true) (all_stay now new count n (take k ps) keep s.listed)
          (true_and (has (slice_index_or new b []) n) true (ap (λ ls. has (slice_index_or ls b []) n) is ∙ ap (λ ns. has ns n) (get_or-set_same now b (slice_index_or now b [] ++ n ∷ []) [] inside) ∙ has_last (slice_index_or now b []) n) refl);
    }

pub grown_end : (old now : List (List ℕ)) (count n k : ℕ) (ps : List Part) → Grown old now count (take k ps) n → length ps ≤ k → Grown old now count ps n
grown_end old now count n k ps s l = subst (λ qs. Grown old now count qs n) (take_all k ps l) s

-- the first statements are listed
pub record ListedUpTo (uses : List Uses) (k : ℕ) (lists : List (List ℕ)) : Type 0 where
  pub even : length lists ≡ length uses + 1
  pub are : (n : ℕ) (u : Uses) → n < k → slice_get uses n ≡ Some u → is_listed lists (length uses + 1) n u.writes ≡ true

pub listed_begin : (uses : List Uses) (lists : List (List ℕ)) (count : ℕ) → lists ≡ replicate count [] → count ≡ length uses + 1 → ListedUpTo uses 0 lists
listed_begin uses lists count is e = record { even = ap length is ∙ length-replicate count [] ∙ e; are = λ n u l h. absurd (omega (arith, l)) }

some_same : {A : Type 0} (x y : A) → Some x ≡ Some y → x ≡ y
some_same x y h = cc

pub listed_more : (uses : List Uses) (k count : ℕ) (lists more : List (List ℕ)) (u : Uses) (ps : List Part) → ListedUpTo uses k lists → slice_get uses k ≡ Some u → ps ≡ u.writes → count ≡ length uses + 1 → Grown lists more count ps k → ListedUpTo uses (k + 1) more
listed_more uses k count lists more u ps s at own e g = record {
  even = g.even ∙ s.even;
  are = λ n v l h. ⊎_elim
      (λ b. all_stay lists more (length uses + 1) n v.writes g.kept (s.are n v b h))
      (λ b. ap (λ c. is_listed more c n v.writes) (sym e) ∙ ap (λ m. is_listed more count m v.writes) b ∙ ap (is_listed more count k) (ap (λ (w : Uses). w.writes) (some_same v u (sym h ∙ ap (slice_get uses) b ∙ at)) ∙ sym own) ∙ g.listed)
      (here_or_before n k l);
}

pub listed_end : (uses : List Uses) (k : ℕ) (lists : List (List ℕ)) → ListedUpTo uses k lists → length uses ≤ k → AreListed uses lists
listed_end uses k lists s l n u h = s.are n u (omega (arith, within uses n u h, l)) h

-- ---- the writers of one part

-- what is found among the first listed places
abbrev pub FoundUpTo : List Uses → List ℕ → Part → List ℕ → ℕ → List ℕ → Type 0
FoundUpTo uses listed p old k now = (n : ℕ) → has now n ≡ (has old n || (has (take k listed) n && writes_over uses n p))

none_found : (b c : Bool) → b ≡ (b || (false && c))
none_found true c = refl
none_found false c = refl

pub found_begin : (uses : List Uses) (listed : List ℕ) (p : Part) (old : List ℕ) → FoundUpTo uses listed p old 0 old
found_begin uses listed p old n = none_found (has old n) (writes_over uses n p)

more_taken : (listed : List ℕ) (k x n : ℕ) → k < length listed → x ≡ get_or listed k x → has (take (k + 1) listed) n ≡ (has (take k listed) n || (nat_eq n x || false))
more_taken listed k x n l at = ap (λ ns. has ns n) (take_more listed k x l ∙ ap (λ q. take k listed ++ q ∷ []) (sym at)) ∙ list_any-append (nat_eq n) (take k listed) (x ∷ [])

equal : (n m : ℕ) → nat_eq n m ≡ true → n ≡ m
equal n m h = grind (arith, nat_tests)

pub found_push : (uses : List Uses) (listed : List ℕ) (p : Part) (old now more : List ℕ) (k x : ℕ) → FoundUpTo uses listed p old k now → k < length listed → x ≡ get_or listed k x → writes_over uses x p ≡ true → more ≡ now ++ x ∷ [] → FoundUpTo uses listed p old (k + 1) more
found_push uses listed p old now more k x s l at w added n =
    ap (λ ns. has ns n) added ∙ list_any-append (nat_eq n) now (x ∷ []) ∙ ap (λ b. b || (nat_eq n x || false)) (s n)
    ∙ by_test (nat_eq n x) refl (has old n) (has (take k listed) n)
    ∙ ap (λ b. has old n || (b && writes_over uses n p)) (sym (more_taken listed k x n l at))
  where
    here : (o c d : Bool) → d ≡ true → ((o || (c && d)) || true) ≡ (o || ((c || true) && d))
    here true c d e = refl
    here false true true e = refl
    here false true false e = absurd (true_false (sym e))
    here false false true e = refl
    here false false false e = absurd (true_false (sym e))

    other : (o c d : Bool) → ((o || (c && d)) || false) ≡ (o || ((c || false) && d))
    other true c d = refl
    other false true true = refl
    other false true false = refl
    other false false d = refl

    by_test : (b : Bool) → nat_eq n x ≡ b → (o c : Bool) → ((o || (c && writes_over uses n p)) || (b || false)) ≡ (o || ((c || (b || false)) && writes_over uses n p))
    by_test true e o c = here o c (writes_over uses n p) (ap (λ m. writes_over uses m p) (equal n x e) ∙ w)
    by_test false e o c = other o c (writes_over uses n p)

pub found_skip : (uses : List Uses) (listed : List ℕ) (p : Part) (old now : List ℕ) (k x : ℕ) → FoundUpTo uses listed p old k now → k < length listed → x ≡ get_or listed k x → writes_over uses x p ≡ false → FoundUpTo uses listed p old (k + 1) now
found_skip uses listed p old now k x s l at w n =
    s n ∙ by_test (nat_eq n x) refl (has old n) (has (take k listed) n) ∙ ap (λ b. has old n || (b && writes_over uses n p)) (sym (more_taken listed k x n l at))
  where
    here : (o c d : Bool) → d ≡ false → (o || (c && d)) ≡ (o || ((c || true) && d))
    here true c d e = refl
    here false c true e = absurd (true_false e)
    here false true false e = refl
    here false false false e = refl

    other : (o c d : Bool) → (o || (c && d)) ≡ (o || ((c || false) && d))
    other true c d = refl
    other false true d = refl
    other false false d = refl

    by_test : (b : Bool) → nat_eq n x ≡ b → (o c : Bool) → (o || (c && writes_over uses n p)) ≡ (o || ((c || (b || false)) && writes_over uses n p))
    by_test true e o c = here o c (writes_over uses n p) (ap (λ m. writes_over uses m p) (equal n x e) ∙ w)
    by_test false e o c = other o c (writes_over uses n p)

pub found_end : (uses : List Uses) (listed : List ℕ) (p : Part) (old now : List ℕ) (k : ℕ) → FoundUpTo uses listed p old k now → length listed ≤ k → (n : ℕ) → has now n ≡ (has old n || (has listed n && writes_over uses n p))
found_end uses listed p old now k s l n = s n ∙ ap (λ ns. has old n || (has ns n && writes_over uses n p)) (take_all k listed l)

-- ---- the writers of all parts

-- a listed statement writes what overlaps a part
abbrev pub found_for : List Uses → List (List ℕ) → ℕ → Part → Bool
found_for uses lists n p = has (slice_index_or lists (p.cell % (length uses + 1)) []) n && writes_over uses n p

abbrev pub NeedsUpTo : List Uses → List (List ℕ) → List Part → ℕ → List ℕ → Type 0
NeedsUpTo uses lists ps k ns = (n : ℕ) → has ns n ≡ list_any (found_for uses lists n) (take k ps)

pub needs_begin : (uses : List Uses) (lists : List (List ℕ)) (ps : List Part) → NeedsUpTo uses lists ps 0 []
needs_begin uses lists ps n = refl

pub needs_more : (uses : List Uses) (lists : List (List ℕ)) (ps : List Part) (k count : ℕ) (ns more listed : List ℕ) (p : Part) → NeedsUpTo uses lists ps k ns → k < length ps → p ≡ get_or ps k p → count ≡ length uses + 1 → listed ≡ slice_index_or lists (p.cell % count) []
    → ((n : ℕ) → has more n ≡ (has ns n || (has listed n && writes_over uses n p))) → NeedsUpTo uses lists ps (k + 1) more
needs_more uses lists ps k count ns more listed p s l at e is h n =
    h n ∙ ap (λ b. b || (has listed n && writes_over uses n p)) (s n)
    ∙ ap (λ ms. list_any (found_for uses lists n) (take k ps) || (has ms n && writes_over uses n p)) (is ∙ ap (λ c. slice_index_or lists (p.cell % c) []) e)
    ∙ ap (λ b. list_any (found_for uses lists n) (take k ps) || b) (or_none (found_for uses lists n p))
    ∙ sym (ap (list_any (found_for uses lists n)) (take_more ps k p l ∙ ap (λ q. take k ps ++ q ∷ []) (sym at)) ∙ list_any-append (found_for uses lists n) (take k ps) (p ∷ []))
  where
    or_none : (b : Bool) → b ≡ (b || false)
    or_none true = refl
    or_none false = refl

-- overlapping goes both ways
turned : (a b : Part) → overlaps a b ≡ overlaps b a
turned a b = ap (λ c. c && (is_prefix a.fields b.fields || is_prefix b.fields a.fields)) (swapped a.cell b.cell) ∙ ap (λ c. nat_eq b.cell a.cell && c) (or_swapped (is_prefix a.fields b.fields) (is_prefix b.fields a.fields))
  where
    swapped : (x y : ℕ) → nat_eq x y ≡ nat_eq y x
    swapped x y = grind (arith, nat_tests)

    or_swapped : (x y : Bool) → (x || y) ≡ (y || x)
    or_swapped true true = refl
    or_swapped true false = refl
    or_swapped false true = refl
    or_swapped false false = refl

-- written parts are spared by one more part
not_spared : (p : Part) (ps ws : List Part) → not (spared (p ∷ ps) ws) ≡ (touched ws p || not (spared ps ws))
unfolding touched
not_spared p ps [] = refl
not_spared p ps (w ∷ ws) =
    mixed (overlaps p w) (touched ps w) (spared (p ∷ ps) ws) (touched ws p) (spared ps ws) (not_spared p ps ws)
    ∙ ap (λ b. (b || touched ws p) || not (not (touched ps w) && spared ps ws)) (turned p w)
  where
    mixed : (a b c d e : Bool) → not c ≡ (d || not e) → not (not (a || b) && c) ≡ ((a || d) || not (not b && e))
    mixed true b c d e h = refl
    mixed false true c true e h = refl
    mixed false true c false e h = refl
    mixed false false c true e h = h
    mixed false false c false e h = h

any_touched : (ps ws : List Part) → list_any (touched ws) ps ≡ not (spared ps ws)
unfolding touched
any_touched [] ws = sym (ap not (all_spared ws))
  where
    all_spared : (xs : List Part) → spared [] xs ≡ true
    all_spared [] = refl
    all_spared (x ∷ xs) = all_spared xs
any_touched (p ∷ ps) ws = ap (λ b. touched ws p || b) (any_touched ps ws) ∙ sym (not_spared p ps ws)

-- a statement that writes what overlaps a part is listed for it
listed_over : (lists : List (List ℕ)) (count n : ℕ) (ws : List Part) (p : Part) → is_listed lists count n ws ≡ true → touched ws p ≡ true → has (slice_index_or lists (p.cell % count) []) n ≡ true
unfolding touched
listed_over lists count n [] p h t = absurd (true_false (sym t))
listed_over lists count n (w ∷ ws) p h t =
    let s = and_true (has (slice_index_or lists (w.cell % count) []) n) (is_listed lists count n ws) h in
    by_test (overlaps w p) refl (touched ws p) (λ r. listed_over lists count n ws p s.1 r) t s.0
  where
    by_test : (b : Bool) → overlaps w p ≡ b → (c : Bool) → (c ≡ true → has (slice_index_or lists (p.cell % count) []) n ≡ true) → (b || c) ≡ true → has (slice_index_or lists (w.cell % count) []) n ≡ true → has (slice_index_or lists (p.cell % count) []) n ≡ true
    by_test true e c rest k own = ap (λ x. has (slice_index_or lists (x % count) []) n) (sym (equal w.cell p.cell (and_true (nat_eq w.cell p.cell) (is_prefix w.fields p.fields || is_prefix p.fields w.fields) e).0)) ∙ own
    by_test false e c rest k own = rest k

each_found : (uses : List Uses) (lists : List (List ℕ)) (n : ℕ) (u : Uses) (ps : List Part) → AreListed uses lists → slice_get uses n ≡ Some u → list_any (found_for uses lists n) ps ≡ list_any (touched u.writes) ps
each_found uses lists n u [] a h = refl
each_found uses lists n u (p ∷ ps) a h =
    ap (λ o. (has (slice_index_or lists (p.cell % (length uses + 1)) []) n && over p o) || list_any (found_for uses lists n) ps) h
    ∙ ap (λ b. b || list_any (found_for uses lists n) ps) (by_test (touched u.writes p) (has (slice_index_or lists (p.cell % (length uses + 1)) []) n) (λ t. listed_over lists (length uses + 1) n u.writes p (a n u h) t))
    ∙ ap (λ b. touched u.writes p || b) (each_found uses lists n u ps a h)
  where
    by_test : (b c : Bool) → (b ≡ true → c ≡ true) → (c && b) ≡ b
    by_test true true g = refl
    by_test true false g = g refl
    by_test false true g = refl
    by_test false false g = refl

pub needs_end : (uses : List Uses) (lists : List (List ℕ)) (ps : List Part) (k : ℕ) (ns : List ℕ) → AreListed uses lists → NeedsUpTo uses lists ps k ns → length ps ≤ k → (j : ℕ) (u : Uses) → slice_get uses j ≡ Some u → has ns j ≡ not (spared ps u.writes)
needs_end uses lists ps k ns a s l j u h = s j ∙ ap (list_any (found_for uses lists j)) (take_all k ps l) ∙ each_found uses lists j u ps a h ∙ any_touched ps u.writes
