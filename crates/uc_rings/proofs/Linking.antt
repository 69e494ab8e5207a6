-- How the watches stay linked.
use Rattle.std.proofs.Common.{◌≡◌, ◌≢◌, ℕ, zero, suc, ◌+◌, ◌-◌, ◌*◌, ◌/◌, ◌%◌, ◌<◌, ◌≤◌, ◌⊎◌, inl, inr, Bool, List, [], ◌∷◌, ◌++◌, Option, None, Some, length, get_or, set, replicate, refl, sym, ◌∙◌, ap, subst, arith, get_or-set_same, get_or-set_other}
use Rattle.std.specs.Prelude.{All, Contains}
use Rattle.std.proofs.lemmas.Bool.{cases_eq, cases_lt}
use Rattle.std.proofs.lemmas.List.{get_or_default, get_or_past, get_or_push, get_or_append_left, length_push, length-append, length-replicate, length-set, length-map}
use Rattle.std.proofs.lemmas.List.Elements.{All-contains, All-push, All-nil, Contains-append_left, Contains-get_or, Contains-push, Contains-push_cases}
use Rattle.uc_circuit.specs.declared.literal.Lit.{Lit}
use Rattle.uc_circuit.specs.Values.{IsFalse}
use Rattle.uc_rings.specs.Lists.{Lists, place_of, slots_of, with_front, without, grown, InNoList}
use Rattle.uc_rings.proofs.Slots.{others}
use Rattle.uc_rings.specs.declared.watches.Watches.{Watches}
use Rattle.uc_rings.specs.Pairs.{HasTwo, TwoOf, partner}
use Rattle.uc_rings.specs.Watched.{WatchFits, Linked, IsWatched, StandsInTwo, OtherIsTrue, AllGuard}
use Rattle.uc_rings.proofs.WatchesSlots.{place_at, place_inside, in_no_list, front_here, front_keeps, front_cases, without_keeps, without_has}

some_same : {A : Type 0} {a b : A} → Some a ≡ Some b → a ≡ b
some_same e = cc

none_some : {A : Type 0} {a : A} → None ≡ Some a → ⊥
none_some e = cc

-- a slot that watches a literal is there
pub value_inside : (xs : List (Option Lit)) (s : ℕ) (l : Lit) → get_or xs s None ≡ Some l → s < length xs
value_inside xs s l is =
    elim (cases_lt s (length xs)) [
      | inl h ↦ h
      | inr past ↦ absurd (none_some (sym (get_or_past xs s None past) ∙ is))
    ]

pub linked_new :
    (w : Watches) → w.watched.items ≡ [] → w.narrow.items ≡ [] → w.rings ≡ record { clauses = 0; lists = [] } → w.literals ≡ 0 → Linked [] 0 w
linked_new w bare_slots none empty few =
    let short : length w.rings.lists ≡ 0 = ap (λ (r : Lists). length r.lists) empty in
    let bare : length w.watched.items ≡ 0 = ap length bare_slots in
    record {
      slots = omega (arith, bare);
      count = ap (λ (r : Lists). r.clauses) empty;
      lists = short ∙ sym few;
      literals = omega (arith, few);
      stands = λ s l is. absurd (let h : s < length w.watched.items = value_inside w.watched.items s l is in omega (arith, bare, h));
      watches = λ s l there. absurd (let h : place_of l < length w.rings.lists = place_inside w.rings l s there in omega (arith, short, h));
      fits = λ c h. absurd (omega (arith, h));
      narrow = λ c h is. absurd (omega (arith, h));
      narrow_inside = subst (All (λ c. c < 0)) (sym none) (All-nil (λ c. c < 0));
      narrow_none = subst (All (λ c. get_or w.watched.items (2 * c) None ≡ None)) (sym none) (All-nil (λ c. get_or w.watched.items (2 * c) None ≡ None));
    }

-- empty lists more are no lists with slots
padded_none : (e : List ℕ) (k i : ℕ) → get_or (replicate k e) i e ≡ e
padded_none e zero i = get_or_past [] i e (omega arith)
padded_none e (suc k) zero = refl
padded_none e (suc k) (suc i) = padded_none e k i

padded : (xs : List (List ℕ)) (k i : ℕ) → get_or (xs ++ replicate k []) i [] ≡ get_or xs i []
padded [] k i = padded_none [] k i ∙ sym (get_or_past [] i [] (omega arith))
padded (x ∷ xs) k zero = refl
padded (x ∷ xs) k (suc i) = padded xs k i

pub grown_slots : (r : Lists) (clauses lits : ℕ) (l : Lit) → slots_of (grown r clauses lits) l ≡ slots_of r l
grown_slots r clauses lits l = padded r.lists (lits - length r.lists) (place_of l)

pub grown_long : (r : Lists) (clauses lits : ℕ) → length r.lists ≤ lits → length (grown r clauses lits).lists ≡ lits
grown_long r clauses lits le =
    let e : length (r.lists ++ replicate (lits - length r.lists) []) ≡ length r.lists + (lits - length r.lists) =
    length-append r.lists (replicate (lits - length r.lists) []) ∙ ap (λ k. length r.lists + k) (length-replicate (lits - length r.lists) []) in
    omega (arith, e, le)

pub linked_grown :
    (cs : List (List Lit)) (n variables : ℕ) (w w' : Watches)
    → Linked cs n w → w'.watched.items ≡ w.watched.items → w'.narrow.items ≡ w.narrow.items
    → w'.rings ≡ grown w.rings (length cs) (2 * variables) → w'.literals ≡ 2 * variables → w.literals ≤ 2 * variables
    → Linked cs variables w'
linked_grown cs n variables w w' linked watched narrow rings literals le =
    let same : (l : Lit) → slots_of w'.rings l ≡ slots_of w.rings l = λ l. ap (λ (r : Lists). slots_of r l) rings ∙ grown_slots w.rings (length cs) (2 * variables) l in
    let read : (s : ℕ) → get_or w'.watched.items s None ≡ get_or w.watched.items s None = λ s. ap (λ xs. get_or xs s None) watched in
    record {
      slots = ap length watched ∙ linked.slots;
      count = ap (λ (r : Lists). r.clauses) rings;
      lists = ap (λ (r : Lists). length r.lists) rings ∙ grown_long w.rings (length cs) (2 * variables) (omega (arith, linked.lists, le)) ∙ sym literals;
      literals = literals;
      stands = λ s l is. subst (λ (xs : List ℕ). Contains xs s) (sym (same l)) (linked.stands s l (sym (read s) ∙ is));
      watches = λ s l there. read s ∙ linked.watches s l (subst (λ (xs : List ℕ). Contains xs s) (same l) there);
      fits = λ c h. subst (λ (xs : List (Option Lit)). WatchFits (get_or cs c []) (get_or xs (2 * c) None) (get_or xs (2 * c + 1) None)) (sym watched) (linked.fits c h);
      narrow = λ c h is. subst (λ (xs : List ℕ). Contains xs c) (sym narrow) (linked.narrow c h (sym (read (2 * c)) ∙ is));
      narrow_inside = subst (All (λ c. c < length cs)) (sym narrow) linked.narrow_inside;
      narrow_none =
          subst (λ (xs : List (Option Lit)). All (λ c. get_or xs (2 * c) None ≡ None) w'.narrow.items) (sym watched)
          (subst (All (λ c. get_or w.watched.items (2 * c) None ≡ None)) (sym narrow) linked.narrow_none);
    }

-- two slots more
pairs : List (Option Lit) → Option Lit → Option Lit → List (Option Lit)
pairs xs a b = (xs ++ a ∷ []) ++ b ∷ []

read_old : (xs : List (Option Lit)) (a b : Option Lit) (s : ℕ) → s < length xs → get_or ((xs ++ a ∷ []) ++ b ∷ []) s None ≡ get_or xs s None
read_old xs a b s h =
    get_or_append_left (xs ++ a ∷ []) (b ∷ []) None s (omega (arith, length_push xs a, h)) ∙ get_or_append_left xs (a ∷ []) None s h

read_first : (xs : List (Option Lit)) (a b : Option Lit) (s : ℕ) → length xs ≡ s → get_or ((xs ++ a ∷ []) ++ b ∷ []) s None ≡ a
read_first xs a b s is =
    get_or_append_left (xs ++ a ∷ []) (b ∷ []) None s (omega (arith, length_push xs a, is)) ∙ get_or_push xs a None s is

read_second : (xs : List (Option Lit)) (a b : Option Lit) (s : ℕ) → length xs + 1 ≡ s → get_or ((xs ++ a ∷ []) ++ b ∷ []) s None ≡ b
read_second xs a b s is = get_or_push (xs ++ a ∷ []) b None s (length_push xs a ∙ is)

-- what a slot watches was there, or is one of the two that are new
pub data NewOrOld (xs : List (Option Lit)) (a b : Option Lit) (s : ℕ) (l : Lit) : Type 0 where
  Old : s < length xs → get_or xs s None ≡ Some l → NewOrOld xs a b s l
  First : s ≡ length xs → a ≡ Some l → NewOrOld xs a b s l
  Second : s ≡ length xs + 1 → b ≡ Some l → NewOrOld xs a b s l

read_cases : (xs : List (Option Lit)) (a b : Option Lit) (s : ℕ) (l : Lit) → get_or ((xs ++ a ∷ []) ++ b ∷ []) s None ≡ Some l → NewOrOld xs a b s l
read_cases xs a b s l is =
    elim (cases_lt s (length xs)) [
      | inl h ↦ Old h (sym (read_old xs a b s h) ∙ is)
      | inr past ↦ elim (cases_eq s (length xs)) [
        | inl here ↦ First here (sym (read_first xs a b s (sym here)) ∙ is)
        | inr later ↦
            let inside : s < length ((xs ++ a ∷ []) ++ b ∷ []) = value_inside ((xs ++ a ∷ []) ++ b ∷ []) s l is in
            let at : s ≡ length xs + 1 = omega (arith, inside, length_push (xs ++ a ∷ []) b, length_push xs a, past, later) in
            Second at (sym (read_second xs a b s (sym at)) ∙ is)
      ]
    ]

fits_same : {clause clause' : List Lit} {a a' b b' : Option Lit} → clause' ≡ clause → a' ≡ a → b' ≡ b → WatchFits clause a b → WatchFits clause' a' b'
fits_same {clause} {clause'} {a} {a'} {b} {b'} c p q fits =
    subst (λ k. WatchFits k a' b') (sym c) (subst (λ o. WatchFits clause o b') (sym p) (subst (λ o. WatchFits clause a o) (sym q) fits))

-- a slot's place after two slots more
pub data Placed (r : Lists) (a b : Option Lit) (number s : ℕ) (l : Lit) : Type 0 where
  Before : Contains (slots_of r l) s → Placed r a b number s l
  AtFirst : s ≡ 2 * number → a ≡ Some l → Placed r a b number s l
  AtSecond : s ≡ 2 * number + 1 → b ≡ Some l → Placed r a b number s l

pub linked_more :
    (cs : List (List Lit)) (n : ℕ) (clause : List Lit) (a b : Option Lit) (w w' : Watches)
    → Linked cs n w
    → w'.watched.items ≡ (w.watched.items ++ a ∷ []) ++ b ∷ []
    → w'.literals ≡ w.literals
    → w'.rings.clauses ≡ length cs + 1
    → length w'.rings.lists ≡ length w.rings.lists
    → WatchFits clause a b
    → ((l : Lit) (s : ℕ) → Contains (slots_of w.rings l) s → Contains (slots_of w'.rings l) s)
    → ((l : Lit) → a ≡ Some l → Contains (slots_of w'.rings l) (2 * length cs))
    → ((l : Lit) → b ≡ Some l → Contains (slots_of w'.rings l) (2 * length cs + 1))
    → ((l : Lit) (s : ℕ) → Contains (slots_of w'.rings l) s → Placed w.rings a b (length cs) s l)
    → ((c : ℕ) → Contains w.narrow.items c → Contains w'.narrow.items c)
    → (a ≡ None → Contains w'.narrow.items (length cs))
    → ((c : ℕ) → Contains w'.narrow.items c → Contains w.narrow.items c ⊎ ((c ≡ length cs) × (a ≡ None)))
    → Linked (cs ++ clause ∷ []) n w'
linked_more cs n clause a b w w' linked watched literals count long fits keeps has_first has_second placed narrow_keeps narrow_new narrow_cases =
    let xs : List (Option Lit) = w.watched.items in
    let all : List (List Lit) = cs ++ clause ∷ [] in
    let many : length all ≡ length cs + 1 = length_push cs clause in
    let size : length xs ≡ 2 * length cs = linked.slots in
    let read : (s : ℕ) → get_or w'.watched.items s None ≡ get_or ((xs ++ a ∷ []) ++ b ∷ []) s None = λ s. ap (λ ys. get_or ys s None) watched in
    let old : (c : ℕ) → c < length cs → get_or w'.watched.items (2 * c) None ≡ get_or xs (2 * c) None = λ c h. read (2 * c) ∙ read_old xs a b (2 * c) (omega (arith, size, h)) in
    let inside : (c : ℕ) → Contains w.narrow.items c → c < length cs = λ c there. All-contains (λ k. k < length cs) w.narrow.items c linked.narrow_inside there in
    record {
      slots = ap length watched ∙ omega (arith, length_push (xs ++ a ∷ []) b, length_push xs a, size, many);
      count = count ∙ sym many;
      lists = long ∙ linked.lists ∙ sym literals;
      literals = literals ∙ linked.literals;
      stands = λ s l is. elim (read_cases xs a b s l (sym (read s) ∙ is)) [
        | Old h was ↦ keeps l s (linked.stands s l was)
        | First here is_a ↦ subst (Contains (slots_of w'.rings l)) (sym (here ∙ size)) (has_first l is_a)
        | Second here is_b ↦ subst (Contains (slots_of w'.rings l)) (sym (here ∙ ap (λ k. k + 1) size)) (has_second l is_b)
      ];
      watches = λ s l there. elim (placed l s there) [
        | Before was ↦
            let e : get_or xs s None ≡ Some l = linked.watches s l was in
            read s ∙ read_old xs a b s (value_inside xs s l e) ∙ e
        | AtFirst here is_a ↦ read s ∙ read_first xs a b s (size ∙ sym here) ∙ is_a
        | AtSecond here is_b ↦ read s ∙ read_second xs a b s (ap (λ k. k + 1) size ∙ sym here) ∙ is_b
      ];
      fits = λ c h. elim (cases_lt c (length cs)) [
        | inl before ↦ fits_same (get_or_append_left cs (clause ∷ []) [] c before) (old c before) (read (2 * c + 1) ∙ read_old xs a b (2 * c + 1) (omega (arith, size, before))) (linked.fits c before)
        | inr past ↦
            let here : c ≡ length cs = omega (arith, h, many, past) in
            fits_same (get_or_push cs clause [] c (sym here)) (read (2 * c) ∙ read_first xs a b (2 * c) (omega (arith, size, here))) (read (2 * c + 1) ∙ read_second xs a b (2 * c + 1) (omega (arith, size, here))) fits
      ];
      narrow = λ c h is. elim (cases_lt c (length cs)) [
        | inl before ↦ narrow_keeps c (linked.narrow c before (sym (old c before) ∙ is))
        | inr past ↦
            let here : c ≡ length cs = omega (arith, h, many, past) in
            subst (Contains w'.narrow.items) (sym here) (narrow_new (sym (read (2 * c) ∙ read_first xs a b (2 * c) (omega (arith, size, here))) ∙ is))
      ];
      narrow_inside = λ k d h. elim (narrow_cases (get_or w'.narrow.items k d) (Contains-get_or w'.narrow.items k d h)) [
        | inl was ↦ omega (arith, inside (get_or w'.narrow.items k d) was, many)
        | inr new ↦ omega (arith, new.0, many)
      ];
      narrow_none = λ k d h. elim (narrow_cases (get_or w'.narrow.items k d) (Contains-get_or w'.narrow.items k d h)) [
        | inl was ↦ old (get_or w'.narrow.items k d) (inside (get_or w'.narrow.items k d) was) ∙ All-contains (λ c. get_or xs (2 * c) None ≡ None) w.narrow.items (get_or w'.narrow.items k d) linked.narrow_none was
        | inr new ↦ read (2 * get_or w'.narrow.items k d) ∙ read_first xs a b (2 * get_or w'.narrow.items k d) (omega (arith, size, new.0)) ∙ new.1
      ];
    }

pub linked_narrow :
    (cs : List (List Lit)) (n : ℕ) (clause : List Lit) (w w' : Watches) (number : ℕ)
    → Linked cs n w → number ≡ length cs → (HasTwo clause → ⊥)
    → w'.watched.items ≡ (w.watched.items ++ None ∷ []) ++ None ∷ []
    → w'.narrow.items ≡ w.narrow.items ++ number ∷ []
    → w'.rings ≡ grown w.rings (number + 1) w.literals
    → w'.literals ≡ w.literals
    → Linked (cs ++ clause ∷ []) n w'
linked_narrow cs n clause w w' number linked is_number fits watched narrow rings literals =
    let same : (l : Lit) → slots_of w'.rings l ≡ slots_of w.rings l = λ l. ap (λ (r : Lists). slots_of r l) rings ∙ grown_slots w.rings (number + 1) w.literals l in
    linked_more cs n clause None None w w' linked watched literals (ap (λ (r : Lists). r.clauses) rings ∙ ap (λ k. k + 1) is_number)
    (ap (λ (r : Lists). length r.lists) rings ∙ grown_long w.rings (number + 1) w.literals (omega (arith, linked.lists)) ∙ sym linked.lists)
    fits
    (λ l s there. subst (λ (xs : List ℕ). Contains xs s) (sym (same l)) there)
    (λ l e. absurd (none_some e))
    (λ l e. absurd (none_some e))
    (λ l s there. Before (subst (λ (xs : List ℕ). Contains xs s) (same l) there))
    (λ c there. subst (λ (xs : List ℕ). Contains xs c) (sym narrow) (Contains-append_left w.narrow.items (number ∷ []) c there))
    (λ _. subst (λ (xs : List ℕ). Contains xs (length cs)) (sym narrow) (subst (Contains (w.narrow.items ++ number ∷ [])) is_number (Contains-push w.narrow.items number)))
    (λ c there. elim (Contains-push_cases w.narrow.items number c (subst (λ (xs : List ℕ). Contains xs c) narrow there)) [
      | inl was ↦ inl was
      | inr new ↦ inr (sym new ∙ is_number, refl)
    ])

pub linked_pair :
    (cs : List (List Lit)) (n : ℕ) (clause : List Lit) (first second : Lit) (w w' : Watches) (number : ℕ)
    → Linked cs n w → number ≡ length cs → Contains clause first × Contains clause second × (first ≢ second)
    → place_of first < w.literals → place_of second < w.literals
    → w'.watched.items ≡ (w.watched.items ++ Some first ∷ []) ++ Some second ∷ []
    → w'.narrow.items ≡ w.narrow.items
    → w'.rings ≡ with_front (with_front (grown w.rings (number + 1) w.literals) first (2 * number)) second (2 * number + 1)
    → w'.literals ≡ w.literals
    → Linked (cs ++ clause ∷ []) n w'
linked_pair cs n clause first second w w' number linked is_number fits first_in second_in watched narrow rings literals =
    let r : Lists = grown w.rings (number + 1) w.literals in
    let r1 : Lists = with_front r first (2 * number) in
    let r2 : Lists = with_front r1 second (2 * number + 1) in
    let long : length r.lists ≡ w.literals = grown_long w.rings (number + 1) w.literals (omega (arith, linked.lists)) in
    let long1 : length r1.lists ≡ length r.lists = length-set r.lists (place_of first) ((2 * number) ∷ slots_of r first) in
    let long2 : length r2.lists ≡ length r1.lists = length-set r1.lists (place_of second) ((2 * number + 1) ∷ slots_of r1 second) in
    let h1 : place_of first < length r.lists = omega (arith, long, first_in) in
    let h2 : place_of second < length r1.lists = omega (arith, long, long1, second_in) in
    let same : (l : Lit) → slots_of r l ≡ slots_of w.rings l = λ l. grown_slots w.rings (number + 1) w.literals l in
    let to : (l : Lit) (s : ℕ) → Contains (slots_of r2 l) s → Contains (slots_of w'.rings l) s = λ l s there. subst (λ (q : Lists). Contains (slots_of q l) s) (sym rings) there in
    linked_more cs n clause (Some first) (Some second) w w' linked watched literals (ap (λ (q : Lists). q.clauses) rings ∙ ap (λ k. k + 1) is_number)
    (ap (λ (q : Lists). length q.lists) rings ∙ long2 ∙ long1 ∙ long ∙ sym linked.lists)
    fits
    (λ l s there. to l s (front_keeps r1 second l (2 * number + 1) s h2 (front_keeps r first l (2 * number) s h1 (subst (λ (xs : List ℕ). Contains xs s) (sym (same l)) there))))
    (λ l e. to l (2 * length cs) (subst (λ (k : Lit). Contains (slots_of r2 k) (2 * length cs)) (some_same e) (subst (λ k. Contains (slots_of r2 first) (2 * k)) is_number (front_keeps r1 second first (2 * number + 1) (2 * number) h2 (front_here r first (2 * number) h1)))))
    (λ l e. to l (2 * length cs + 1) (subst (λ (k : Lit). Contains (slots_of r2 k) (2 * length cs + 1)) (some_same e) (subst (λ k. Contains (slots_of r2 second) (2 * k + 1)) is_number (front_here r1 second (2 * number + 1) h2))))
    (λ l s there. elim (front_cases r1 second l (2 * number + 1) s h2 (subst (λ (q : Lists). Contains (slots_of q l) s) rings there)) [
      | inl p ↦ AtSecond (p.1 ∙ ap (λ k. 2 * k + 1) is_number) (ap (λ (k : Lit). Some k) (sym p.0))
      | inr there1 ↦ elim (front_cases r first l (2 * number) s h1 there1) [
        | inl p ↦ AtFirst (p.1 ∙ ap (λ k. 2 * k) is_number) (ap (λ (k : Lit). Some k) (sym p.0))
        | inr there0 ↦ Before (subst (λ (xs : List ℕ). Contains xs s) (same l) there0)
      ]
    ])
    (λ c there. subst (λ (xs : List ℕ). Contains xs c) (sym narrow) there)
    (λ e. absurd (none_some (sym e)))
    (λ c there. inl (subst (λ (xs : List ℕ). Contains xs c) narrow there))

-- what a clause watches, seen from one of its slots
pub record SlotOf (cs : List (List Lit)) (watched : List (Option Lit)) (s : ℕ) (l : Lit) (other : Lit) : Type 0 where
  pub inside : s / 2 < length cs
  pub partner : get_or watched (partner s) None ≡ Some other
  pub there : Contains (get_or cs (s / 2) []) l
  pub other_there : Contains (get_or cs (s / 2) []) other
  pub different : l ≢ other

fits_left : (clause : List Lit) (o p : Option Lit) (a : Lit) → WatchFits clause o p → o ≡ Some a → (b : Lit) × (p ≡ Some b) × Contains clause a × Contains clause b × (a ≢ b)
fits_left clause None None a fits is = absurd (none_some is)
fits_left clause None (Some b) a fits is = absurd fits
fits_left clause (Some c) None a fits is = absurd fits
fits_left clause (Some c) (Some b) a fits is =
    let same : c ≡ a = some_same is in
    (b, refl, subst (Contains clause) same fits.0, fits.1, λ e. fits.2 (same ∙ e))

fits_right : (clause : List Lit) (o p : Option Lit) (b : Lit) → WatchFits clause o p → p ≡ Some b → (a : Lit) × (o ≡ Some a) × Contains clause a × Contains clause b × (b ≢ a)
fits_right clause None None b fits is = absurd (none_some is)
fits_right clause (Some a) None b fits is = absurd (none_some is)
fits_right clause None (Some c) b fits is = absurd fits
fits_right clause (Some a) (Some c) b fits is =
    let same : c ≡ b = some_same is in
    (a, refl, fits.0, subst (Contains clause) same fits.1, λ e. fits.2 (sym e ∙ sym same))

pub slot_of : (cs : List (List Lit)) (n : ℕ) (w : Watches) (s : ℕ) (l : Lit) → Linked cs n w → get_or w.watched.items s None ≡ Some l → (other : Lit) × SlotOf cs w.watched.items s l other
slot_of cs n w s l linked is =
    let xs : List (Option Lit) = w.watched.items in
    let h : s < length xs = value_inside xs s l is in
    let inside : s / 2 < length cs = omega (arith, h, linked.slots) in
    let fits : WatchFits (get_or cs (s / 2) []) (get_or xs (2 * (s / 2)) None) (get_or xs (2 * (s / 2) + 1) None) = linked.fits (s / 2) inside in
    elim (cases_eq (s % 2) 0) [
      | inl even ↦
          let here : 2 * (s / 2) ≡ s = omega (arith, even) in
          let there : 2 * (s / 2) + 1 ≡ partner s = omega (arith, even) in
          let found : (b : Lit) × (get_or xs (2 * (s / 2) + 1) None ≡ Some b) × Contains (get_or cs (s / 2) []) l × Contains (get_or cs (s / 2) []) b × (l ≢ b) =
          fits_left (get_or cs (s / 2) []) (get_or xs (2 * (s / 2)) None) (get_or xs (2 * (s / 2) + 1) None) l fits (ap (λ k. get_or xs k None) here ∙ is) in
          (found.0, record { inside = inside; partner = ap (λ k. get_or xs k None) (sym there) ∙ found.1; there = found.2; other_there = found.3; different = found.4 })
      | inr odd ↦
          let here : 2 * (s / 2) + 1 ≡ s = omega (arith, odd) in
          let there : 2 * (s / 2) ≡ partner s = omega (arith, odd) in
          let found : (a : Lit) × (get_or xs (2 * (s / 2)) None ≡ Some a) × Contains (get_or cs (s / 2) []) a × Contains (get_or cs (s / 2) []) l × (l ≢ a) =
          fits_right (get_or cs (s / 2) []) (get_or xs (2 * (s / 2)) None) (get_or xs (2 * (s / 2) + 1) None) l fits (ap (λ k. get_or xs k None) here ∙ is) in
          (found.0, record { inside = inside; partner = ap (λ k. get_or xs k None) (sym there) ∙ found.1; there = found.3; other_there = found.2; different = found.4 })
    ]

-- a slot watches another literal of its clause
pub linked_moved :
    (cs : List (List Lit)) (n : ℕ) (w w' : Watches) (s : ℕ) (l other m : Lit)
    → Linked cs n w → get_or w.watched.items s None ≡ Some l → SlotOf cs w.watched.items s l other
    → Contains (get_or cs (s / 2) []) m → (m ≢ other) → place_of m < w.literals
    → w'.watched.items ≡ set w.watched.items s (Some m)
    → w'.rings ≡ with_front (without w.rings s) m s
    → w'.narrow.items ≡ w.narrow.items
    → w'.literals ≡ w.literals
    → Linked cs n w'
linked_moved cs n w w' s l other m linked is slot there ne inside watched rings narrow literals =
    let xs : List (Option Lit) = w.watched.items in
    let h : s < length xs = value_inside xs s l is in
    let r : Lists = without w.rings s in
    let long : length r.lists ≡ length w.rings.lists = length-map w.rings.lists (others s) in
    let place : place_of m < length r.lists = omega (arith, long, linked.lists, inside) in
    let here : get_or w'.watched.items s None ≡ Some m = ap (λ ys. get_or ys s None) watched ∙ get_or-set_same xs s (Some m) None h in
    let elsewhere : (t : ℕ) → t ≢ s → get_or w'.watched.items t None ≡ get_or xs t None = λ t off. ap (λ ys. get_or ys t None) watched ∙ get_or-set_other xs s t (Some m) None off in
    let to : (k : Lit) (t : ℕ) → Contains (slots_of (with_front r m s) k) t → Contains (slots_of w'.rings k) t = λ k t c. subst (λ (q : Lists). Contains (slots_of q k) t) (sym rings) c in
    let other_value : (c : ℕ) → 2 * c ≡ s → get_or w'.watched.items (2 * c + 1) None ≡ Some other =
    λ c e. elsewhere (2 * c + 1) (λ f. omega (arith, e, f)) ∙ ap (λ k. get_or xs k None) (let p : 2 * c + 1 ≡ partner s = omega (arith, e) in p) ∙ slot.partner in
    let first_value : (c : ℕ) → 2 * c + 1 ≡ s → get_or w'.watched.items (2 * c) None ≡ Some other =
    λ c e. elsewhere (2 * c) (λ f. omega (arith, e, f)) ∙ ap (λ k. get_or xs k None) (let p : 2 * c ≡ partner s = omega (arith, e) in p) ∙ slot.partner in
    record {
      slots = ap length watched ∙ length-set xs s (Some m) ∙ linked.slots;
      count = ap (λ (q : Lists). q.clauses) rings ∙ linked.count;
      lists = ap (λ (q : Lists). length q.lists) rings ∙ length-set r.lists (place_of m) (s ∷ slots_of r m) ∙ long ∙ linked.lists ∙ sym literals;
      literals = literals ∙ linked.literals;
      stands = λ t k value. elim (cases_eq t s) [
        | inl same ↦
            let is_m : m ≡ k = some_same (sym here ∙ ap (λ i. get_or w'.watched.items i None) (sym same) ∙ value) in
            subst (λ (q : Lit). Contains (slots_of w'.rings q) t) is_m (subst (Contains (slots_of w'.rings m)) (sym same) (to m s (front_here r m s place)))
        | inr off ↦ to k t (front_keeps r m k s t place (without_keeps w.rings k s t off (linked.stands t k (sym (elsewhere t off) ∙ value))))
      ];
      watches = λ t k c. elim (front_cases r m k s t place (subst (λ (q : Lists). Contains (slots_of q k) t) rings c)) [
        | inl p ↦ ap (λ i. get_or w'.watched.items i None) p.1 ∙ here ∙ ap (λ (q : Lit). Some q) (sym p.0)
        | inr was ↦
            let before : (t ≢ s) × Contains (slots_of w.rings k) t = without_has w.rings k s t was in
            elsewhere t before.0 ∙ linked.watches t k before.1
      ];
      fits = λ c inside'. elim (cases_eq (2 * c) s) [
        | inl first ↦
            let same : c ≡ s / 2 = omega (arith, first) in
            fits_same (ap (λ k. get_or cs k []) same) (ap (λ k. get_or w'.watched.items k None) first ∙ here) (other_value c first) (there, slot.other_there, ne)
        | inr not_first ↦ elim (cases_eq (2 * c + 1) s) [
          | inl second ↦
              let same : c ≡ s / 2 = omega (arith, second) in
              fits_same (ap (λ k. get_or cs k []) same) (first_value c second) (ap (λ k. get_or w'.watched.items k None) second ∙ here) (slot.other_there, there, λ e. ne (sym e))
          | inr not_second ↦ fits_same refl (elsewhere (2 * c) not_first) (elsewhere (2 * c + 1) not_second) (linked.fits c inside')
        ]
      ];
      narrow = λ c inside' none. elim (cases_eq (2 * c) s) [
        | inl first ↦ absurd (none_some (sym none ∙ ap (λ k. get_or w'.watched.items k None) first ∙ here))
        | inr not_first ↦ subst (λ (ys : List ℕ). Contains ys c) (sym narrow) (linked.narrow c inside' (sym (elsewhere (2 * c) not_first) ∙ none))
      ];
      narrow_inside = subst (All (λ c. c < length cs)) (sym narrow) linked.narrow_inside;
      narrow_none = λ k d h.
          let c : ℕ = get_or w'.narrow.items k d in
          let before : get_or xs (2 * c) None ≡ None = subst (All (λ i. get_or xs (2 * i) None ≡ None)) (sym narrow) linked.narrow_none k d h in
          elsewhere (2 * c) (λ first. none_some (sym before ∙ ap (λ i. get_or xs i None) first ∙ is)) ∙ before;
    }

-- a slot that watches no literal is in no list
pub slot_free : (cs : List (List Lit)) (n : ℕ) (w : Watches) (s : ℕ) → Linked cs n w → get_or w.watched.items s None ≡ None → InNoList w.rings s
slot_free cs n w s linked is = in_no_list w.rings s (λ l there. none_some (sym is ∙ linked.watches s l there))

watched_by : (w : Watches) (clause : List Lit) (c : ℕ) (o p : Option Lit) → WatchFits clause o p
    → ((l : Lit) → o ≡ Some l → Contains (slots_of w.rings l) (2 * c)) → ((l : Lit) → p ≡ Some l → Contains (slots_of w.rings l) (2 * c + 1))
    → (o ≡ None → InNoList w.rings (2 * c)) → (p ≡ None → InNoList w.rings (2 * c + 1))
    → IsWatched clause w.rings c
watched_by w clause c None None fits f g u v = record { two = λ two. absurd (fits two); none = λ _. (u refl, v refl) }
watched_by w clause c (Some a) None fits f g u v = absurd fits
watched_by w clause c None (Some b) fits f g u v = absurd fits
watched_by w clause c (Some a) (Some b) fits f g u v = record {
  two = λ _. record {
    first = a;
    second = b;
    first_there = fits.0;
    second_there = fits.1;
    different = fits.2;
    first_stands = f a refl;
    second_stands = g b refl;
  };
  none = λ not_two. absurd (not_two (record { one = a; other = b; one_there = fits.0; other_there = fits.1; different = fits.2 }));
}

-- what watches say of a clause
pub is_watched : (cs : List (List Lit)) (n : ℕ) (w : Watches) (c : ℕ) → Linked cs n w → c < length cs → IsWatched (get_or cs c []) w.rings c
is_watched cs n w c linked h =
    watched_by w (get_or cs c []) c (get_or w.watched.items (2 * c) None) (get_or w.watched.items (2 * c + 1) None) (linked.fits c h)
    (λ l is. linked.stands (2 * c) l is) (λ l is. linked.stands (2 * c + 1) l is)
    (λ is. slot_free cs n w (2 * c) linked is) (λ is. slot_free cs n w (2 * c + 1) linked is)

pub no_two : (clause : List Lit) (l : Lit) → All (λ m. m ≡ l) clause → HasTwo clause → ⊥
no_two clause l same two =
    two.different (All-contains (λ m. m ≡ l) clause two.one same two.one_there ∙ sym (All-contains (λ m. m ≡ l) clause two.other same two.other_there))

-- where lists have grown, each slot is below those of the next clause
pub fresh_grown :
    (cs : List (List Lit)) (n : ℕ) (w : Watches) (r : Lists) (a b number : ℕ)
    → Linked cs n w → r ≡ grown w.rings a b → number ≡ length w.watched.items / 2 → All (λ xs. All (λ s. s < 2 * number) xs) r.lists
fresh_grown cs n w r a b number linked is is_number = λ k d h i e h'.
    let at : (l : Lit) × (place_of l ≡ k) = place_at k in
    let s : ℕ = get_or (get_or r.lists k d) i e in
    let same : get_or r.lists k d ≡ slots_of w.rings at.0 =
    get_or_default r.lists k d [] h ∙ ap (λ j. get_or r.lists j []) (sym at.1) ∙ ap (λ (q : Lists). slots_of q at.0) is ∙ grown_slots w.rings a b at.0 in
    let there : Contains (slots_of w.rings at.0) s = subst (λ (xs : List ℕ). Contains xs s) same (Contains-get_or (get_or r.lists k d) i e h') in
    omega (arith, value_inside w.watched.items s at.0 (linked.watches s at.0 there), linked.slots, is_number)

-- where all slots guard, and the two of one clause more, all do
pub guards_more :
    (p now : List (Option Bool)) (watched : List (Option Lit)) (o q : Option Lit) (k : ℕ)
    → length watched ≡ 2 * k
    → AllGuard p now watched
    → ((l : Lit) → o ≡ Some l → IsFalse p l → OtherIsTrue now q)
    → ((l : Lit) → q ≡ Some l → IsFalse p l → OtherIsTrue now o)
    → AllGuard p now ((watched ++ o ∷ []) ++ q ∷ [])
guards_more p now watched o q k even guards first second = λ s l is f.
    elim (read_cases watched o q s l is) [
      | Old h was ↦
          let inside : partner s < length watched = omega (arith, h, even) in
          subst (OtherIsTrue now) (sym (read_old watched o q (partner s) inside)) (guards s l was f)
      | First here is_l ↦
          let across : length watched + 1 ≡ partner s = omega (arith, here, even) in
          subst (OtherIsTrue now) (sym (read_second watched o q (partner s) across)) (first l is_l f)
      | Second here is_l ↦
          let across : length watched ≡ partner s = omega (arith, here, even) in
          subst (OtherIsTrue now) (sym (read_first watched o q (partner s) across)) (second l is_l f)
    ]
