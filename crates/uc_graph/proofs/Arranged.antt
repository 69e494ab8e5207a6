-- What is arranged has the same items, and is in order where they can be put in order at all.
use Rattle.std.proofs.Common.{◌≡◌, ℕ, zero, suc, Bool, true, false, List, [], ◌∷◌, ◌++◌, map, length, refl, sym, ap, ◌∙◌, subst, Option, Some, None, ◌⊎◌, inl, inr, arith, append_assoc, length-append}
use Rattle.std.specs.Prelude.{◌&&◌, if◌then◌else◌}
use Rattle.std.specs.Option.{option_map}
use Rattle.std.specs.List.{list_all}
use Rattle.std.proofs.lemmas.List.{map-append, length-map}
use Rattle.std.proofs.lemmas.List.Folds.{list_all-append, list_all-map}
use Rattle.uc_graph.specs.Arranged.{first_free, led_by, arranged_in, arranged, in_order, IsReordered}

pub none_some : {A : Type 0} (x : A) → None ≡ Some x → ⊥
none_some x h = cc

some_same : {A : Type 0} (x y : A) → Some x ≡ Some y → x ≡ y
some_same x y h = cc

true_false : true ≡ false → ⊥
true_false h = cc

pub and_true : (b c : Bool) → (b && c) ≡ true → (b ≡ true) × (c ≡ true)
and_true true c h = (refl, h)
and_true false c h = absurd (true_false (sym h))

pub true_and : (b c : Bool) → b ≡ true → c ≡ true → (b && c) ≡ true
true_and true c h k = k
true_and false c h k = absurd (true_false (sym h))

turned : (a p b : Bool) → (a && (p && b)) ≡ (p && (a && b))
turned true p b = refl
turned false true b = refl
turned false false b = refl

-- ---- lists of the same items

-- what is true of each item is so of each in any order
all_moved : {A : Type 0} (p : A → Bool) (front behind : List A) (x : A) → list_all p (front ++ x ∷ behind) ≡ (p x && list_all p (front ++ behind))
all_moved p front behind x =
    list_all-append p front (x ∷ behind) ∙ turned (list_all p front) (p x) (list_all p behind) ∙ ap (λ b. p x && b) (sym (list_all-append p front behind))

pub all_reordered : {A : Type 0} (p : A → Bool) (xs ys : List A) → IsReordered xs ys → list_all p xs ≡ list_all p ys
unfolding IsReordered
all_reordered p [] ys h = ap (list_all p) (sym h)
all_reordered p (x ∷ xs) ys h = ap (λ b. p x && b) (all_reordered p xs (h.0 ++ h.1) h.3) ∙ sym (all_moved p h.0 h.1 x) ∙ ap (list_all p) (sym h.2)

pub as_it_is : {A : Type 0} (xs : List A) → IsReordered xs xs
unfolding IsReordered
as_it_is [] = refl
as_it_is (x ∷ xs) = ([], xs, refl, as_it_is xs)

abbrev pub Meets : {A : Type 0} → List A → List A → List A → List A → A → A → Type 0
Meets {A} f1 b1 f b y x =
    ((y ≡ x) × (f1 ++ b1 ≡ f ++ b)) ⊎ (((c : List A) × (f1 ≡ f ++ x ∷ c) × (b ≡ c ++ y ∷ b1)) ⊎ ((c : List A) × (f ≡ f1 ++ y ∷ c) × (b1 ≡ c ++ x ∷ b)))

-- one item and another in the same list
meet : {A : Type 0} (f1 b1 f b : List A) (y x : A) → f1 ++ y ∷ b1 ≡ f ++ x ∷ b → Meets f1 b1 f b y x
meet [] b1 [] b y x h = inl (cc, cc)
meet [] b1 (z ∷ f) b y x h = inr (inr (f, ap (λ w. w ∷ f) (firsts h), rests h))
  where
    firsts : y ∷ b1 ≡ z ∷ (f ++ x ∷ b) → z ≡ y
    firsts e = cc

    rests : y ∷ b1 ≡ z ∷ (f ++ x ∷ b) → b1 ≡ f ++ x ∷ b
    rests e = cc
meet (z ∷ f1) b1 [] b y x h = inr (inl (f1, ap (λ w. w ∷ f1) (firsts h), sym (rests h)))
  where
    firsts : z ∷ (f1 ++ y ∷ b1) ≡ x ∷ b → z ≡ x
    firsts e = cc

    rests : z ∷ (f1 ++ y ∷ b1) ≡ x ∷ b → f1 ++ y ∷ b1 ≡ b
    rests e = cc
meet (z ∷ f1) b1 (w ∷ f) b y x h = onward (firsts h) (meet f1 b1 f b y x (rests h))
  where
    firsts : z ∷ (f1 ++ y ∷ b1) ≡ w ∷ (f ++ x ∷ b) → z ≡ w
    firsts e = cc

    rests : z ∷ (f1 ++ y ∷ b1) ≡ w ∷ (f ++ x ∷ b) → f1 ++ y ∷ b1 ≡ f ++ x ∷ b
    rests e = cc

    onward : z ≡ w → Meets f1 b1 f b y x → Meets (z ∷ f1) b1 (w ∷ f) b y x
    onward e (inl m) = inl (m.0, ap (λ v. v ∷ (f1 ++ b1)) e ∙ ap (λ vs. w ∷ vs) m.1)
    onward e (inr (inl m)) = inr (inl (m.0, ap (λ v. v ∷ f1) e ∙ ap (λ vs. w ∷ vs) m.1, m.2))
    onward e (inr (inr m)) = inr (inr (m.0, ap (λ v. v ∷ f) (sym e) ∙ ap (λ vs. z ∷ vs) m.1, m.2))

-- a list without an item that another of the same items has
pub record Without {A : Type 0} (ys : List A) (x : A) (others : List A) : Type 0 where
  pub before : List A
  pub after : List A
  pub is : ys ≡ before ++ x ∷ after
  pub same : IsReordered (before ++ after) others

pub without : {A : Type 0} (ys front behind : List A) (x : A) → IsReordered ys (front ++ x ∷ behind) → Without ys x (front ++ behind)
unfolding IsReordered
without {A} [] front behind x h = absurd (no_end front h)
  where
    no_end : (f : List A) → f ++ x ∷ behind ≡ [] → ⊥
    no_end [] e = cc
    no_end (z ∷ f) e = cc
without {A} (y ∷ ys) front behind x h = by_case (λ f b r. without ys f b x r) (meet h.0 h.1 front behind y x (sym h.2))
  where
    by_case : ((f b : List A) → IsReordered ys (f ++ x ∷ b) → Without ys x (f ++ b)) → Meets h.0 h.1 front behind y x → Without (y ∷ ys) x (front ++ behind)
    by_case rest (inl m) = record { before = []; after = ys; is = ap (λ z. z ∷ ys) m.0; same = subst (IsReordered ys) m.1 h.3 }
    by_case rest (inr (inl m)) =
        let moved : h.0 ++ h.1 ≡ front ++ x ∷ (m.0 ++ h.1) = ap (λ f. f ++ h.1) m.1 ∙ append_assoc front (x ∷ m.0) h.1 in
        let w = rest front (m.0 ++ h.1) (subst (IsReordered ys) moved h.3) in
        record {
          before = y ∷ w.before;
          after = w.after;
          is = ap (λ zs. y ∷ zs) w.is;
          same = (front ++ m.0, h.1, ap (λ b. front ++ b) m.2 ∙ sym (append_assoc front m.0 (y ∷ h.1)), subst (IsReordered (w.before ++ w.after)) (sym (append_assoc front m.0 h.1)) w.same);
        }
    by_case rest (inr (inr m)) =
        let moved : h.0 ++ h.1 ≡ (h.0 ++ m.0) ++ x ∷ behind = ap (λ b. h.0 ++ b) m.2 ∙ sym (append_assoc h.0 m.0 (x ∷ behind)) in
        let w = rest (h.0 ++ m.0) behind (subst (IsReordered ys) moved h.3) in
        record {
          before = y ∷ w.before;
          after = w.after;
          is = ap (λ zs. y ∷ zs) w.is;
          same = (h.0, m.0 ++ behind, ap (λ f. f ++ behind) m.1 ∙ append_assoc h.0 (y ∷ m.0) behind, subst (IsReordered (w.before ++ w.after)) (append_assoc h.0 m.0 behind) w.same);
        }

-- ---- the first free item

-- the item that is taken may go before all others
pub record Taken {A : Type 0} (goes : A → A → Bool) (all : List A) (p : A × List A) : Type 0 where
  pub front : List A
  pub behind : List A
  pub whole : all ≡ front ++ p.0 ∷ behind
  pub others : p.1 ≡ front ++ behind
  pub free : list_all (goes p.0) p.1 ≡ true

pub taken : {A : Type 0} (goes : A → A → Bool) (passed xs : List A) (p : A × List A) → first_free goes passed xs ≡ Some p → Taken goes (passed ++ xs) p
unfolding first_free
taken goes passed [] p h = absurd (none_some p h)
taken {A} goes passed (x ∷ xs) p h = by_test (taken goes (passed ++ x ∷ []) xs p) (list_all (goes x) (passed ++ xs)) refl h
  where
    by_test : (first_free goes (passed ++ x ∷ []) xs ≡ Some p → Taken goes ((passed ++ x ∷ []) ++ xs) p) → (b : Bool) → list_all (goes x) (passed ++ xs) ≡ b → (if b then Some (x, passed ++ xs) else first_free goes (passed ++ x ∷ []) xs) ≡ Some p → Taken goes (passed ++ x ∷ xs) p
    by_test rest true e k =
        let q : A × List A = (x, passed ++ xs) in
        let same : q ≡ p = some_same q p k in
        subst (Taken goes (passed ++ x ∷ xs)) same (record { front = passed; behind = xs; whole = refl; others = refl; free = e })
    by_test rest false e k = subst (λ zs. Taken goes zs p) (append_assoc passed (x ∷ []) xs) (rest k)

-- where an item may go before all others, one is taken
pub there_is_one : {A : Type 0} (goes : A → A → Bool) (passed front behind : List A) (y : A) → list_all (goes y) (passed ++ (front ++ behind)) ≡ true → (p : A × List A) × (first_free goes passed (front ++ y ∷ behind) ≡ Some p)
unfolding first_free
there_is_one goes passed [] behind y h = ((y, passed ++ behind), ap (λ b. if b then Some (y, passed ++ behind) else first_free goes (passed ++ y ∷ []) behind) h)
there_is_one {A} goes passed (f ∷ front) behind y h =
    by_test (there_is_one goes (passed ++ f ∷ []) front behind y (ap (list_all (goes y)) (append_assoc passed (f ∷ []) (front ++ behind)) ∙ h)) (list_all (goes f) (passed ++ (front ++ y ∷ behind)))
  where
    by_test : ((p : A × List A) × (first_free goes (passed ++ f ∷ []) (front ++ y ∷ behind) ≡ Some p)) → (b : Bool) → (p : A × List A) × ((if b then Some (f, passed ++ (front ++ y ∷ behind)) else first_free goes (passed ++ f ∷ []) (front ++ y ∷ behind)) ≡ Some p)
    by_test rest true = ((f, passed ++ (front ++ y ∷ behind)), refl)
    by_test rest false = rest

-- the first one has to wait where none is taken
pub first_waits : {A : Type 0} (goes : A → A → Bool) (x : A) (xs : List A) → first_free goes [] (x ∷ xs) ≡ None → list_all (goes x) xs ≡ false
unfolding first_free
first_waits goes x xs h = by_test (list_all (goes x) xs) h
  where
    by_test : (b : Bool) → (if b then Some (x, xs) else first_free goes (x ∷ []) xs) ≡ None → b ≡ false
    by_test true k = absurd (none_some (x, xs) (sym k))
    by_test false k = refl

-- ---- what is arranged

module _ {A : Type 0} (goes : A → A → Bool) where
  pub keeps_items : (n : ℕ) (xs : List A) → IsReordered (arranged_in goes n xs) xs
  unfolding arranged_in IsReordered
  keeps_items zero xs = as_it_is xs
  keeps_items (suc n) xs = by_case (λ ys. keeps_items n ys) (first_free goes [] xs) refl
    where
      by_case : ((ys : List A) → IsReordered (arranged_in goes n ys) ys) → (o : Option (A × List A)) → first_free goes [] xs ≡ o → IsReordered (led_by (arranged_in goes n) xs o) xs
      by_case rest None e = as_it_is xs
      by_case rest (Some p) e = let t = taken goes [] xs p e in (t.front, t.behind, t.whole, subst (IsReordered (arranged_in goes n p.1)) t.others (rest p.1))

  -- one is taken
  pub arranged_on : (n : ℕ) (xs : List A) (p : A × List A) → first_free goes [] xs ≡ Some p → arranged_in goes (suc n) xs ≡ p.0 ∷ arranged_in goes n p.1
  unfolding arranged_in
  arranged_on n xs p h = ap (led_by (arranged_in goes n) xs) h

  pub ordered_on : (n : ℕ) (xs : List A) (p : A × List A) → first_free goes [] xs ≡ Some p → in_order goes (arranged_in goes (suc n) xs) ≡ in_order goes (arranged_in goes n p.1)
  unfolding in_order
  ordered_on n xs p h =
      ap (in_order goes) (arranged_on n xs p h)
      ∙ ap (λ b. b && in_order goes (arranged_in goes n p.1)) (all_reordered (goes p.0) (arranged_in goes n p.1) p.1 (keeps_items n p.1) ∙ (taken goes [] xs p h).free)

  -- none is taken
  pub arranged_stuck : (n : ℕ) (xs : List A) → first_free goes [] xs ≡ None → arranged_in goes n xs ≡ xs
  unfolding arranged_in
  arranged_stuck zero xs h = refl
  arranged_stuck (suc n) xs h = ap (led_by (arranged_in goes n) xs) h

  pub ordered_stuck : (x : A) (xs : List A) → first_free goes [] (x ∷ xs) ≡ None → in_order goes (x ∷ xs) ≡ false
  unfolding in_order
  ordered_stuck x xs h = ap (λ b. b && in_order goes xs) (first_waits goes x xs h)

  -- items that are in order are arranged as they are
  pub in_order_stays : (n : ℕ) (xs : List A) → in_order goes xs ≡ true → arranged_in goes n xs ≡ xs
  unfolding arranged_in in_order first_free
  in_order_stays zero xs h = refl
  in_order_stays (suc n) [] h = refl
  in_order_stays (suc n) (x ∷ xs) h =
      let a = and_true (list_all (goes x) xs) (in_order goes xs) h in
      ap (λ b. led_by (arranged_in goes n) (x ∷ xs) (if b then Some (x, xs) else first_free goes (x ∷ []) xs)) a.0 ∙ ap (λ ys. x ∷ ys) (in_order_stays n xs a.1)

  -- items without one stay in order
  order_without : (before after : List A) (x : A) → in_order goes (before ++ x ∷ after) ≡ true → in_order goes (before ++ after) ≡ true
  unfolding in_order
  order_without [] after x h = (and_true (list_all (goes x) after) (in_order goes after) h).1
  order_without (y ∷ before) after x h =
      let s = and_true (list_all (goes y) (before ++ x ∷ after)) (in_order goes (before ++ x ∷ after)) h in
      let t = and_true (goes y x) (list_all (goes y) (before ++ after)) (sym (all_moved (goes y) before after x) ∙ s.0) in
      true_and (list_all (goes y) (before ++ after)) (in_order goes (before ++ after)) t.1 (order_without before after x s.1)

  no_items : (xs : List A) → length xs ≡ 0 → xs ≡ []
  no_items [] h = refl
  no_items (x ∷ xs) h = absurd (omega (arith, h))

  -- Where the items are in order in some order, so they are as they are arranged.
  pub ordered_if_any : (n : ℕ) (xs ys : List A) → length xs ≡ n → IsReordered ys xs → in_order goes ys ≡ true → in_order goes (arranged_in goes n xs) ≡ true
  unfolding arranged_in in_order IsReordered
  ordered_if_any zero xs ys e r h = ap (in_order goes) (no_items xs e)
  ordered_if_any (suc n) xs [] e r h = absurd (no_reordering r)
    where
      no_reordering : IsReordered [] xs → ⊥
      no_reordering k = omega (arith, e, ap length k)
  ordered_if_any (suc n) xs (y ∷ ys) e r h = onward (λ zs us k q o. ordered_if_any n zs us k q o) (one_left r)
    where
      one_left : IsReordered (y ∷ ys) xs → (p : A × List A) × (first_free goes [] xs ≡ Some p)
      one_left k =
          let s = and_true (list_all (goes y) ys) (in_order goes ys) h in
          let z = there_is_one goes [] k.0 k.1 y (sym (all_reordered (goes y) ys (k.0 ++ k.1) k.3) ∙ s.0) in
          (z.0, ap (first_free goes []) k.2 ∙ z.1)

      onward : ((zs us : List A) → length zs ≡ n → IsReordered us zs → in_order goes us ≡ true → in_order goes (arranged_in goes n zs) ≡ true) → (p : A × List A) × (first_free goes [] xs ≡ Some p) → in_order goes (arranged_in goes (suc n) xs) ≡ true
      onward rest z =
          let t = taken goes [] xs z.0 z.1 in
          let w = without (y ∷ ys) t.front t.behind (z.0).0 (subst (IsReordered (y ∷ ys)) t.whole r) in
          let left : length (z.0).1 ≡ n = ap length t.others ∙ omega (arith, e, ap length t.whole, length-append t.front ((z.0).0 ∷ t.behind), length-append t.front t.behind) in
          ordered_on n xs z.0 z.1
          ∙ rest (z.0).1 (w.before ++ w.after) left (subst (IsReordered (w.before ++ w.after)) (sym t.others) w.same)
          (order_without w.before w.after (z.0).0 (sym (ap (in_order goes) w.is) ∙ h))

-- ---- items that stand for others

module _ {A B : Type 0} (f : B → A) (goes : A → A → Bool) where
  abbrev pub through : B → B → Bool
  through i j = goes (f i) (f j)

  first_mapped : (passed xs : List B) → first_free goes (map f passed) (map f xs) ≡ option_map (λ (p : B × List B). (f p.0, map f p.1)) (first_free through passed xs)
  unfolding first_free
  first_mapped passed [] = refl
  first_mapped passed (x ∷ xs) =
      ap (λ ys. if list_all (goes (f x)) ys then Some (f x, ys) else first_free goes (map f passed ++ f x ∷ []) (map f xs)) (sym (map-append f passed xs))
      ∙ ap (λ b. if b then Some (f x, map f (passed ++ xs)) else first_free goes (map f passed ++ f x ∷ []) (map f xs)) (list_all-map (goes (f x)) f (passed ++ xs))
      ∙ by_test (first_mapped (passed ++ x ∷ []) xs) (list_all (λ y. goes (f x) (f y)) (passed ++ xs))
    where
      by_test : first_free goes (map f (passed ++ x ∷ [])) (map f xs) ≡ option_map (λ (p : B × List B). (f p.0, map f p.1)) (first_free through (passed ++ x ∷ []) xs) → (b : Bool) → (if b then Some (f x, map f (passed ++ xs)) else first_free goes (map f passed ++ f x ∷ []) (map f xs))
          ≡ option_map (λ (p : B × List B). (f p.0, map f p.1)) (if b then Some (x, passed ++ xs) else first_free through (passed ++ x ∷ []) xs)
      by_test rest true = refl
      by_test rest false = ap (λ ys. first_free goes ys (map f xs)) (sym (map-append f passed (x ∷ []))) ∙ rest

  arranged_in_mapped : (n : ℕ) (xs : List B) → arranged_in goes n (map f xs) ≡ map f (arranged_in through n xs)
  unfolding arranged_in
  arranged_in_mapped zero xs = refl
  arranged_in_mapped (suc n) xs = ap (led_by (arranged_in goes n) (map f xs)) (first_mapped [] xs) ∙ by_case (λ ys. arranged_in_mapped n ys) (first_free through [] xs)
    where
      by_case : ((ys : List B) → arranged_in goes n (map f ys) ≡ map f (arranged_in through n ys)) → (o : Option (B × List B)) → led_by (arranged_in goes n) (map f xs) (option_map (λ (p : B × List B). (f p.0, map f p.1)) o) ≡ map f (led_by (arranged_in through n) xs o)
      by_case rest None = refl
      by_case rest (Some p) = ap (λ ys. f p.0 ∷ ys) (rest p.1)

  pub arranged_mapped : (xs : List B) → arranged goes (map f xs) ≡ map f (arranged through xs)
  arranged_mapped xs = ap (λ n. arranged_in goes n (map f xs)) (length-map xs f) ∙ arranged_in_mapped (length xs) xs

  pub order_mapped : (xs : List B) → in_order goes (map f xs) ≡ in_order through xs
  unfolding in_order
  order_mapped [] = refl
  order_mapped (x ∷ xs) = ap (λ b. b && in_order goes (map f xs)) (list_all-map (goes (f x)) f xs) ∙ ap (λ b. list_all (λ y. goes (f x) (f y)) xs && b) (order_mapped xs)
