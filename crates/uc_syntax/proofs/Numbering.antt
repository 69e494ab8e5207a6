-- What the numbers of names keep, and how a set of keys stands for a list of names.
use Rattle.std.proofs.Common.{◌≡◌, ◌≢◌, ◌+◌, ◌<◌, ◌≤◌, ℕ, zero, suc, Bool, true, false, cond, not, ◌||◌, List, [], ◌∷◌, ◌++◌, map, take, length, slice_get, Option, None, Some, is_some, Result, Ok, Err, OnOk, OnErr, refl, sym, ap, subst, ◌∙◌, arith, true≢false, if◌then◌else◌, nat_lt, get_or, IsTrue}
use Rattle.std.specs.List.{list_any, position, position_or_len, IsDistinct, AllByRecursion}
use Rattle.std.specs.Str.{bytes_eq}
use Rattle.std.proofs.lemmas.Slice.Eq.{bytes_eq-Decides}
use Rattle.std.proofs.lemmas.List.{length-map, get_or-map, take_more}
use Rattle.std.proofs.Math.Seq.{take-length, take-append_seam}
use Rattle.std.proofs.lemmas.Option.{slice_get-get_or}
use Rattle.std.proofs.lemmas.Map.Keys.{IsDistinct-head, IsDistinct-tail}
use Rattle.uc_syntax.specs.Numbering.{has_text, number_of, with_text, AreDistinct, KeepNumbers}

module _ {K : Type 0} (view : K → List ℕ) (test : List ℕ → Bool) where
  -- a test on keys and on their texts
  any_key : (ks : List K) → list_any (λ k. test (view k)) ks ≡ list_any test (map view ks)
  any_key [] = refl
  any_key (k ∷ ks) = ap (λ b. test (view k) || b) (any_key ks)

  key_place : (ks : List K) → position_or_len (λ k. test (view k)) ks ≡ position_or_len test (map view ks)
  key_place [] = refl
  key_place (k ∷ ks) = ap (λ n. cond (not (test (view k))) (1 + n) 0) (key_place ks)

map_append : {A B : Type 0} (f : A → B) (xs ys : List A) → map f (xs ++ ys) ≡ map f xs ++ map f ys
map_append f [] ys = refl
map_append f (x ∷ xs) ys = ap (λ zs. f x ∷ zs) (map_append f xs ys)

pub has_text_by_keys : {K : Type 0} (view : K → List ℕ) (ks : List K) (names : List (List ℕ)) (text : List ℕ) → map view ks ≡ names →
    has_text names text ≡ list_any (λ k. bytes_eq text (view k)) ks
unfolding has_text
has_text_by_keys view ks names text e = ap (list_any (bytes_eq text)) (sym e) ∙ sym (any_key view (bytes_eq text) ks)

pub number_by_keys : {K : Type 0} (view : K → List ℕ) (ks : List K) (names : List (List ℕ)) (text : List ℕ) → map view ks ≡ names →
    number_of names text ≡ position_or_len (λ k. bytes_eq text (view k)) ks
unfolding number_of
number_by_keys view ks names text e = ap (position_or_len (bytes_eq text)) (sym e) ∙ sym (key_place view (bytes_eq text) ks)

-- the place that a search among the keys gives
pub number_is : {K : Type 0} (view : K → List ℕ) (ks : List K) (names : List (List ℕ)) (text : List ℕ) (n : ℕ) → map view ks ≡ names →
    Some n ≡ position (λ k. bytes_eq text (view k)) ks → n ≡ number_of names text
number_is view ks names text n is e = by (position_or_len (λ k. bytes_eq text (view k)) ks) (length ks) refl e ∙ sym (number_by_keys view ks names text is)
  where
    by : (p size : ℕ) → p ≡ p → Some n ≡ cond (nat_lt p size) (Some p) None → n ≡ p
    by p size same e = cases (nat_lt p size) e
      where
        cases : (b : Bool) → Some n ≡ cond b (Some p) None → n ≡ p
        cases true e = cc
        cases false e = cc

-- a search among the keys that finds nothing
pub is_new : {K : Type 0} (view : K → List ℕ) (ks : List K) (names : List (List ℕ)) (text : List ℕ) (found : Option ℕ) → map view ks ≡ names →
    ((n : ℕ) → found ≡ Some n → ⊥) → is_some found ≡ list_any (λ k. bytes_eq text (view k)) ks → has_text names text ≡ false
is_new view ks names text None is none e = has_text_by_keys view ks names text is ∙ sym e
is_new view ks names text (Some n) is none e = absurd (none n refl)

-- the names after a new key is put in
pub names_with_key : {K : Type 0} (view : K → List ℕ) (ks : List K) (k : K) (after : List K) (names : List (List ℕ)) (text : List ℕ) → map view ks ≡ names →
    view k ≡ text → has_text names text ≡ false → after ≡ (if list_any (λ y. bytes_eq (view k) (view y)) ks then ks else ks ++ k ∷ []) →
    map view after ≡ names ++ text ∷ []
names_with_key view ks k after names text is own new e =
    let none : list_any (λ y. bytes_eq (view k) (view y)) ks ≡ false = sym (has_text_by_keys view ks names (view k) is) ∙ ap (has_text names) own ∙ new in
    let end : after ≡ ks ++ k ∷ [] = e ∙ ap (λ b. if b then ks else ks ++ k ∷ []) none in
    ap (map view) end ∙ map_append view ks (k ∷ []) ∙ (λ i. is i ++ own i ∷ [])

get_behind : (x : List ℕ) (xs : List (List ℕ)) (n : ℕ) → slice_get (x ∷ xs) (1 + n) ≡ slice_get xs n
get_behind x xs n = let e : 1 + n ≡ suc n = omega arith in rw e refl

-- the place of a text that is there
pub text_at : (names : List (List ℕ)) (text : List ℕ) → has_text names text ≡ true → slice_get names (number_of names text) ≡ Some text
unfolding has_text number_of
text_at [] text h = absurd (true≢false (sym h))
text_at (x ∷ xs) text h = by (text_at xs text) (bytes_eq text x) refl
  where
    by : (list_any (bytes_eq text) xs ≡ true → slice_get xs (position_or_len (bytes_eq text) xs) ≡ Some text) → (b : Bool) → bytes_eq text x ≡ b →
        slice_get (x ∷ xs) (cond (not (bytes_eq text x)) (1 + position_or_len (bytes_eq text) xs) 0) ≡ Some text
    by rest true e = rw e (ap Some (sym ((bytes_eq-Decides text x).0 e)))
    by rest false e = rw e (get_behind x xs _ ∙ rest (sym (ap (λ b. b || list_any (bytes_eq text) xs) e) ∙ h))

-- the number of a new text
pub new_number : (names : List (List ℕ)) (text : List ℕ) → has_text names text ≡ false → number_of names text ≡ length names
unfolding has_text number_of
new_number [] text h = refl
new_number (x ∷ xs) text h = by (new_number xs text) (bytes_eq text x) refl
  where
    by : (list_any (bytes_eq text) xs ≡ false → position_or_len (bytes_eq text) xs ≡ length xs) → (b : Bool) → bytes_eq text x ≡ b →
        cond (not (bytes_eq text x)) (1 + position_or_len (bytes_eq text) xs) 0 ≡ length (x ∷ xs)
    by rest true e = absurd (true≢false (sym (ap (λ b. b || list_any (bytes_eq text) xs) e) ∙ h))
    by rest false e = let r : position_or_len (bytes_eq text) xs ≡ length xs = rest (sym (ap (λ b. b || list_any (bytes_eq text) xs) e) ∙ h) in rw e (omega (arith, r))

pub known_stays : (names : List (List ℕ)) (text : List ℕ) → has_text names text ≡ true → with_text names text ≡ names
unfolding with_text
known_stays names text h = rw h refl

pub new_at_end : (names : List (List ℕ)) (text : List ℕ) → has_text names text ≡ false → with_text names text ≡ names ++ text ∷ []
unfolding with_text
new_at_end names text h = rw h refl

-- the text behind the names
pub last_at : (names : List (List ℕ)) (text : List ℕ) → slice_get (names ++ text ∷ []) (length names) ≡ Some text
last_at [] text = refl
last_at (x ∷ xs) text = last_at xs text

-- names keep their numbers
pub keep_same : (names : List (List ℕ)) → KeepNumbers names names
keep_same names = take-length names

pub keep_with_more : (names more : List (List ℕ)) → KeepNumbers names (names ++ more)
keep_with_more names more = take-append_seam names more

pub keep_with_text : (names : List (List ℕ)) (text : List ℕ) → KeepNumbers names (with_text names text)
keep_with_text names text = by (has_text names text) refl
  where
    by : (b : Bool) → has_text names text ≡ b → KeepNumbers names (with_text names text)
    by true h = subst (KeepNumbers names) (sym (known_stays names text h)) (keep_same names)
    by false h = subst (KeepNumbers names) (sym (new_at_end names text h)) (keep_with_more names (text ∷ []))

-- names keep their numbers, whether or not a text was added
pub keep_either : {T E : Type 0} (r : Result T E) (names after : List (List ℕ)) (text : List ℕ) → OnOk r (after ≡ with_text names text) →
    OnErr r (after ≡ names) → KeepNumbers names after
keep_either (Ok n) names after text ok err = subst (KeepNumbers names) (sym ok) (keep_with_text names text)
keep_either (Err e) names after text ok err = subst (KeepNumbers names) (sym err) (keep_same names)

module _ {K : Type 0} (view : K → List ℕ) where
  absent : (ks : List K) (text : List ℕ) → AllByRecursion (λ k. bytes_eq text (view k) ≡ false) ks → (j : ℕ) → slice_get (map view ks) j ≡ Some text → ⊥
  absent [] text none j e = cc
  absent (k ∷ ks) text none zero e =
      let same : text ≡ view k = cc in
      true≢false (sym ((bytes_eq-Decides text (view k)).1 same) ∙ none.0)
  absent (k ∷ ks) text none (suc j) e = absent ks text none.1 j e

  -- keys that differ stand for names that differ
  pub distinct_by_keys : (ks : List K) → IsDistinct (λ a b. bytes_eq (view a) (view b)) ks → AreDistinct (map view ks)
  distinct_by_keys [] d i j text a b = cc
  distinct_by_keys (k ∷ ks) d zero zero text a b = refl
  distinct_by_keys (k ∷ ks) d zero (suc j) text a b =
      let own : view k ≡ text = cc in
      absurd (absent ks (view k) (IsDistinct-head _ k ks d) j (b ∙ ap Some (sym own)))
  distinct_by_keys (k ∷ ks) d (suc i) zero text a b =
      let own : view k ≡ text = cc in
      absurd (absent ks (view k) (IsDistinct-head _ k ks d) i (a ∙ ap Some (sym own)))
  distinct_by_keys (k ∷ ks) d (suc i) (suc j) text a b = ap suc (distinct_by_keys ks (IsDistinct-tail _ k ks d) i j text a b)

get_in_front : {A : Type 0} (xs : List A) (n k : ℕ) (x : A) → slice_get (take n xs) k ≡ Some x → (k < n) × (slice_get xs k ≡ Some x)
get_in_front [] zero k x e = cc
get_in_front [] (suc n) k x e = cc
get_in_front (y ∷ ys) zero k x e = cc
get_in_front (y ∷ ys) (suc n) zero x e = (omega arith, e)
get_in_front (y ∷ ys) (suc n) (suc k) x e = let rest = get_in_front ys n k x e in (omega (arith, rest.0), rest.1)

-- in a list in which no text stands twice, a name is not among those in front of it
pub next_is_new : (names : List (List ℕ)) (i : ℕ) (text : List ℕ) → AreDistinct names → slice_get names i ≡ Some text → has_text (take i names) text ≡ false
next_is_new names i text distinct e = by (has_text (take i names) text) refl
  where
    by : (b : Bool) → has_text (take i names) text ≡ b → has_text (take i names) text ≡ false
    by true h =
        let front = get_in_front names i (number_of (take i names) text) text (text_at (take i names) text h) in
        let same : number_of (take i names) text ≡ i = distinct _ i text front.1 e in
        absurd (omega (arith, front.0, same))
    by false h = h

-- the names so far, and the next one
pub copy_more : {K : Type 0} (view : K → List ℕ) (ks : List K) (i : ℕ) (k : K) (before after : List (List ℕ)) (text : List ℕ) → AreDistinct (map view ks) →
    before ≡ take i (map view ks) → i < length ks → k ≡ get_or ks i k → text ≡ view k → after ≡ with_text before text → after ≡ take (i + 1) (map view ks)
copy_more view ks i k before after text distinct so_far within is own e =
    let at : get_or (map view ks) i text ≡ text = get_or-map view ks i k text within ∙ sym (own ∙ ap view is) in
    let here : i < length (map view ks) = omega (arith, within, length-map ks view) in
    let new : has_text before text ≡ false =
    ap (λ ns. has_text ns text) so_far ∙ next_is_new (map view ks) i text distinct (slice_get-get_or (map view ks) i text here ∙ ap Some at) in
    e ∙ new_at_end before text new ∙ (λ j. so_far j ++ sym at j ∷ []) ∙ sym (take_more (map view ks) i text here)
