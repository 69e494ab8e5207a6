-- The parts of the links after a change, and what they keep then.
use Rattle.std.proofs.Common.{◌≡◌, ℕ, inl, inr, zero, suc, ◌-◌, ◌*◌, ◌/◌, ◌<◌, ◌≤◌, ◌^◌, List, [], ◌∷◌, ◌++◌, Option, None, Some, length, get_or, map, replicate, set, take, drop, refl, sym, ◌∙◌, ap, subst, arith}
use Rattle.std.specs.Prelude.{All, Contains}
use Rattle.std.proofs.lemmas.List.{get_or_default, get_or_past, take_all, take_at, length-append, length-map, length-replicate, length-set, map-append, map-set, set-get_or}
use Rattle.std.proofs.lemmas.Bool.{cases_lt}
use Rattle.std.proofs.lemmas.List.Elements.{All-contains, Contains-append_right}
use Rattle.uc_rings.specs.declared.rings.Slot.{Slot}
use Rattle.uc_rings.specs.Lists.{Lists, AreApart, InAList, InNoList, first_of}
use Rattle.uc_rings.specs.Links.{AreLinked, IsChain, KeepsList, KeepLists, LinksBack, Within, first_without, free_slot, list_parts, lists_from, lists_in, next_parts, previous_parts, with_next, with_previous}
use Rattle.uc_rings.proofs.Slots.{All-left, Contains-here, Split, others, split}
use Rattle.uc_rings.proofs.Chaining.{Contains-last, back_at, chain_from, chain_start, chain_within, last_of, last_or, relink}
use Rattle.uc_rings.proofs.Keeping.{kept_apart, kept_lists}
use Rattle.uc_rings.proofs.Fronts.{linked_front}
use Rattle.uc_rings.proofs.Outs.{length-first_without, unlinked}
use Rattle.uc_rings.proofs.Growing.{grown_links}

pub part_at : {X Y : Type 0} (f : X → Y) (xs : List X) (i : ℕ) (d : X) → get_or (map f xs) i (f d) ≡ f (get_or xs i d)
part_at f [] i d = refl
part_at f (x ∷ xs) zero d = refl
part_at f (x ∷ xs) (suc i) d = part_at f xs i d

-- a change of one part leaves another as it is
part_same : {Y : Type 0} (f : Slot → Y) (slots : List Slot) (s : ℕ) (new : Slot) → f new ≡ f (get_or slots s free_slot) → map f (set slots s new) ≡ map f slots
part_same f slots s new same =
    map-set f slots s new ∙ ap (λ y. set (map f slots) s y) (same ∙ sym (part_at f slots s free_slot)) ∙ set-get_or (map f slots) s (f free_slot)

length-with_next : (slots : List Slot) (o v : Option ℕ) → length (with_next slots o v) ≡ length slots
length-with_next slots None v = refl
length-with_next slots (Some s) v = length-set slots s (record (get_or slots s free_slot) { next = v })

length-with_previous : (slots : List Slot) (o v : Option ℕ) → length (with_previous slots o v) ≡ length slots
length-with_previous slots None v = refl
length-with_previous slots (Some s) v = length-set slots s (record (get_or slots s free_slot) { previous = v })

list_parts-with_next : (slots : List Slot) (o v : Option ℕ) → list_parts (with_next slots o v) ≡ list_parts slots
list_parts-with_next slots None v = refl
list_parts-with_next slots (Some s) v = part_same (λ (x : Slot). x.list) slots s (record (get_or slots s free_slot) { next = v }) refl

next_parts-with_next : (slots : List Slot) (o v : Option ℕ) → next_parts (with_next slots o v) ≡ relink (next_parts slots) o v
next_parts-with_next slots None v = refl
next_parts-with_next slots (Some s) v = map-set (λ (x : Slot). x.next) slots s (record (get_or slots s free_slot) { next = v })

previous_parts-with_next : (slots : List Slot) (o v : Option ℕ) → previous_parts (with_next slots o v) ≡ previous_parts slots
previous_parts-with_next slots None v = refl
previous_parts-with_next slots (Some s) v = part_same (λ (x : Slot). x.previous) slots s (record (get_or slots s free_slot) { next = v }) refl

list_parts-with_previous : (slots : List Slot) (o v : Option ℕ) → list_parts (with_previous slots o v) ≡ list_parts slots
list_parts-with_previous slots None v = refl
list_parts-with_previous slots (Some s) v = part_same (λ (x : Slot). x.list) slots s (record (get_or slots s free_slot) { previous = v }) refl

next_parts-with_previous : (slots : List Slot) (o v : Option ℕ) → next_parts (with_previous slots o v) ≡ next_parts slots
next_parts-with_previous slots None v = refl
next_parts-with_previous slots (Some s) v = part_same (λ (x : Slot). x.next) slots s (record (get_or slots s free_slot) { previous = v }) refl

previous_parts-with_previous : (slots : List Slot) (o v : Option ℕ) → previous_parts (with_previous slots o v) ≡ relink (previous_parts slots) o v
previous_parts-with_previous slots None v = refl
previous_parts-with_previous slots (Some s) v = map-set (λ (x : Slot). x.previous) slots s (record (get_or slots s free_slot) { previous = v })

-- the links after a change keep these lists, and are seen as them
pub record Keeping (first : List (Option ℕ)) (slots : List Slot) (r : Lists) : Type 0 where
  pub linked : AreLinked first slots
  pub seen : lists_in first slots ≡ r

keeping :
    (first : List (Option ℕ)) (slots : List Slot) (list next previous : List (Option ℕ)) (lists : List (List ℕ)) (clauses : ℕ)
    → list_parts slots ≡ list → next_parts slots ≡ next → previous_parts slots ≡ previous
    → KeepLists first list next previous lists
    → length slots ≡ 2 * clauses → length slots ≤ 2 ^ 32 → length first < 2 ^ 32
    → Keeping first slots (record { clauses = clauses; lists = lists })
keeping first slots list next previous lists clauses list_is next_is previous_is keep long fits literals =
    let kept : KeepLists first (list_parts slots) (next_parts slots) (previous_parts slots) lists =
    subst (λ (xs : List (Option ℕ)). KeepLists first xs (next_parts slots) (previous_parts slots) lists) (sym list_is)
    (subst (λ (xs : List (Option ℕ)). KeepLists first list xs (previous_parts slots) lists) (sym next_is)
    (subst (λ (xs : List (Option ℕ)). KeepLists first list next xs lists) (sym previous_is) keep)) in
    let same : lists_from (length slots) first (next_parts slots) ≡ lists =
    kept_lists first (list_parts slots) (next_parts slots) (previous_parts slots) lists (length slots) kept (omega (arith, length-map slots (λ (x : Slot). x.next))) in
    let half : length slots / 2 ≡ clauses = omega arith in
    record {
      linked = record {
        keep = subst (λ (xs : List (List ℕ)). KeepLists first (list_parts slots) (next_parts slots) (previous_parts slots) xs) (sym same) kept;
        pairs = omega arith;
        numbered = fits;
        literals = literals;
      };
      seen = ap (λ (n : ℕ). record { clauses = n; lists = lists_from (length slots) first (next_parts slots) }) half
          ∙ ap (λ (xs : List (List ℕ)). record { clauses = clauses; lists = xs }) same;
    }

list_long : (slots : List Slot) → length (list_parts slots) ≡ length (next_parts slots)
list_long slots = length-map slots (λ (x : Slot). x.list) ∙ sym (length-map slots (λ (x : Slot). x.next))

previous_long : (slots : List Slot) → length (previous_parts slots) ≡ length (next_parts slots)
previous_long slots = length-map slots (λ (x : Slot). x.previous) ∙ sym (length-map slots (λ (x : Slot). x.next))

-- a slot that no list has names none
free_at : (first : List (Option ℕ)) (slots : List Slot) (s : ℕ) → AreLinked first slots → InNoList (lists_in first slots) s → get_or (list_parts slots) s None ≡ None
free_at first slots s linked free = by_case (get_or (list_parts slots) s None) refl where
  by_case : (o : Option ℕ) → get_or (list_parts slots) s None ≡ o → get_or (list_parts slots) s None ≡ None
  by_case None is = is
  by_case (Some q) is =
      let inside : q < length first = linked.keep.places s q is in
      absurd (free q [] (omega (arith, linked.keep.each)) ((linked.keep.keeps q inside).all s is))

pub front_keeps :
    (first : List (Option ℕ)) (slots : List Slot) (place s : ℕ) (start : Option ℕ) (slots' : List Slot)
    → AreLinked first slots → place < length first → s < length slots → InNoList (lists_in first slots) s
    → start ≡ get_or first place None
    → slots' ≡ set (with_previous slots start (Some s)) s (record { list = Some place; next = start; previous = None })
    → Keeping (set first place (Some s)) slots' (record (lists_in first slots) { lists = set (lists_in first slots).lists place (s ∷ get_or (lists_in first slots).lists place []) })
front_keeps first slots place s start slots' linked at inside free start_is is =
    let now : List Slot = with_previous slots start (Some s) in
    let new : Slot = record { list = Some place; next = start; previous = None } in
    let long : length slots' ≡ length slots = ap length is ∙ length-set now s new ∙ length-with_previous slots start (Some s) in
    let old_start : start ≡ get_or first place None = start_is in
    keeping (set first place (Some s)) slots'
    (set (list_parts slots) s (Some place)) (set (next_parts slots) s (get_or first place None)) (set (relink (previous_parts slots) (get_or first place None) (Some s)) s None)
    (set (lists_in first slots).lists place (s ∷ get_or (lists_in first slots).lists place [])) (length slots / 2)
    (ap list_parts is ∙ map-set (λ (x : Slot). x.list) now s new ∙ ap (λ (xs : List (Option ℕ)). set xs s (Some place)) (list_parts-with_previous slots start (Some s)))
    (ap next_parts is ∙ map-set (λ (x : Slot). x.next) now s new ∙ ap (λ (xs : List (Option ℕ)). set xs s start) (next_parts-with_previous slots start (Some s))
    ∙ ap (λ (o : Option ℕ). set (next_parts slots) s o) start_is)
    (ap previous_parts is ∙ map-set (λ (x : Slot). x.previous) now s new ∙ ap (λ (xs : List (Option ℕ)). set xs s None) (previous_parts-with_previous slots start (Some s))
    ∙ ap (λ (o : Option ℕ). set (relink (previous_parts slots) o (Some s)) s None) start_is)
    (linked_front first (list_parts slots) (next_parts slots) (previous_parts slots) (lists_in first slots).lists place s (list_long slots) (previous_long slots)
    linked.keep at (omega (arith, length-map slots (λ (x : Slot). x.next))) (free_at first slots s linked free))
    (omega (arith, linked.pairs)) (omega (arith, linked.numbered)) (omega (arith, linked.literals, length-set first place (Some s)))

pub start_within : (next : List (Option ℕ)) (start : Option ℕ) (xs : List ℕ) → IsChain next start xs → Within start (length next)
start_within next start [] chain = subst (λ (o : Option ℕ). Within o (length next)) (sym chain) tt
start_within next start (x ∷ xs) chain = subst (λ (o : Option ℕ). Within o (length next)) (sym chain.0) chain.1

last_within : (n : ℕ) (xs : List ℕ) → All (λ x. x < n) xs → Within (last_or None xs) n
last_within n [] all = tt
last_within n (x ∷ xs) all = All-contains (λ y. y < n) (x ∷ xs) (last_of x xs) all (Contains-last x xs)

-- where a slot of a list stands
pub record Standing (first : List (Option ℕ)) (slots : List Slot) (s : ℕ) : Type 0 where
  pub place : ℕ
  pub names : get_or (list_parts slots) s None ≡ Some place
  pub at : place < length first
  pub inside : s < length slots
  pub next_within : Within (get_or (next_parts slots) s None) (length slots)
  pub previous_within : Within (get_or (previous_parts slots) s None) (length slots)

pub standing : (first : List (Option ℕ)) (slots : List Slot) (s : ℕ) → AreLinked first slots → InAList (lists_in first slots) s → Standing first slots s
standing first slots s linked (k, xs, h, read, there) =
    let next : List (Option ℕ) = next_parts slots in
    let at : k < length first = omega (arith, linked.keep.each) in
    let here : Contains (get_or (lists_in first slots).lists k []) s =
    subst (λ (ys : List ℕ). Contains ys s) (sym (get_or_default (lists_in first slots).lists k [] xs h ∙ read)) there in
    let keeps : KeepsList first (list_parts slots) next (previous_parts slots) k (get_or (lists_in first slots).lists k []) = linked.keep.keeps k at in
    let parts : Split (get_or (lists_in first slots).lists k []) s = split (get_or (lists_in first slots).lists k []) s here in
    let chain : IsChain next (get_or first k None) (parts.before ++ s ∷ parts.after) = subst (λ (ys : List ℕ). IsChain next (get_or first k None) ys) parts.is keeps.chain in
    let back : LinksBack (previous_parts slots) None (parts.before ++ s ∷ parts.after) = subst (λ (ys : List ℕ). LinksBack (previous_parts slots) None ys) parts.is keeps.back in
    let within : All (λ x. x < length next) (parts.before ++ s ∷ parts.after) = chain_within next (get_or first k None) (parts.before ++ s ∷ parts.after) chain in
    let long : length next ≡ length slots = length-map slots (λ (x : Slot). x.next) in
    record {
      place = k;
      names = All-contains (λ t. get_or (list_parts slots) t None ≡ Some k) (get_or (lists_in first slots).lists k []) s keeps.named here;
      at = at;
      inside = subst (λ (n : ℕ). s < n) long (All-contains (λ x. x < length next) (parts.before ++ s ∷ parts.after) s within (Contains-append_right parts.before (s ∷ parts.after) s (Contains-here s parts.after)));
      next_within = subst (λ (n : ℕ). Within (get_or next s None) n) long (start_within next (get_or next s None) parts.after (chain_from next (get_or first k None) parts.before s parts.after chain));
      previous_within =
          subst (λ (o : Option ℕ). Within o (length slots)) (sym (back_at (previous_parts slots) None parts.before s parts.after back))
          (subst (λ (n : ℕ). Within (last_or None parts.before) n) long (last_within (length next) parts.before (All-left (λ x. x < length next) parts.before (s ∷ parts.after) within)));
    }

pub out_keeps :
    (first : List (Option ℕ)) (slots : List Slot) (s : ℕ) (list o n : Option ℕ) (slots' : List Slot)
    → AreLinked first slots → InAList (lists_in first slots) s
    → list ≡ get_or (list_parts slots) s None → o ≡ get_or (previous_parts slots) s None → n ≡ get_or (next_parts slots) s None
    → slots' ≡ set (with_next (with_previous slots n o) o n) s free_slot
    → Keeping (first_without first list o n) slots' (record (lists_in first slots) { lists = map (others s) (lists_in first slots).lists })
out_keeps first slots s list o n slots' linked there list_is o_is n_is is =
    let stands : Standing first slots s = standing first slots s linked there in
    let place : ℕ = stands.place in
    let now : List Slot = with_next (with_previous slots n o) o n in
    let old_o : Option ℕ = get_or (previous_parts slots) s None in
    let old_n : Option ℕ = get_or (next_parts slots) s None in
    let long : length slots' ≡ length slots = ap length is ∙ length-set now s free_slot ∙ length-with_next (with_previous slots n o) o n ∙ length-with_previous slots n o in
    let named : list ≡ Some place = list_is ∙ stands.names in
    let kept : Keeping (first_without first (Some place) o n) slots' (record (lists_in first slots) { lists = map (others s) (lists_in first slots).lists }) =
    keeping (first_without first (Some place) o n) slots'
    (set (list_parts slots) s None) (set (relink (next_parts slots) old_o old_n) s None) (set (relink (previous_parts slots) old_n old_o) s None)
    (map (others s) (lists_in first slots).lists) (length slots / 2)
    (ap list_parts is ∙ map-set (λ (x : Slot). x.list) now s free_slot
    ∙ ap (λ (xs : List (Option ℕ)). set xs s None) (list_parts-with_next (with_previous slots n o) o n ∙ list_parts-with_previous slots n o))
    (ap next_parts is ∙ map-set (λ (x : Slot). x.next) now s free_slot
    ∙ ap (λ (xs : List (Option ℕ)). set xs s None) (next_parts-with_next (with_previous slots n o) o n ∙ ap (λ (xs : List (Option ℕ)). relink xs o n) (next_parts-with_previous slots n o))
    ∙ ap (λ (k : Option ℕ). set (relink (next_parts slots) k n) s None) o_is ∙ ap (λ (k : Option ℕ). set (relink (next_parts slots) old_o k) s None) n_is)
    (ap previous_parts is ∙ map-set (λ (x : Slot). x.previous) now s free_slot
    ∙ ap (λ (xs : List (Option ℕ)). set xs s None) (previous_parts-with_next (with_previous slots n o) o n ∙ previous_parts-with_previous slots n o)
    ∙ ap (λ (k : Option ℕ). set (relink (previous_parts slots) k o) s None) n_is ∙ ap (λ (k : Option ℕ). set (relink (previous_parts slots) old_n k) s None) o_is)
    (subst (λ (p : Option ℕ). KeepLists (first_without first (Some place) p n) (set (list_parts slots) s None) (set (relink (next_parts slots) old_o old_n) s None) (set (relink (previous_parts slots) old_n old_o) s None) (map (others s) (lists_in first slots).lists)) (sym o_is)
    (subst (λ (p : Option ℕ). KeepLists (first_without first (Some place) old_o p) (set (list_parts slots) s None) (set (relink (next_parts slots) old_o old_n) s None) (set (relink (previous_parts slots) old_n old_o) s None) (map (others s) (lists_in first slots).lists)) (sym n_is)
    (unlinked first (list_parts slots) (next_parts slots) (previous_parts slots) (lists_in first slots).lists place s (list_long slots) (previous_long slots) linked.keep
    (omega (arith, stands.inside, length-map slots (λ (x : Slot). x.next))) stands.names)))
    (omega (arith, linked.pairs)) (omega (arith, linked.numbered)) (omega (arith, linked.literals, length-first_without first place o n)) in
    subst (λ (l : Option ℕ). Keeping (first_without first l o n) slots' (record (lists_in first slots) { lists = map (others s) (lists_in first slots).lists })) (sym named) kept

pub grown_keeps :
    (first : List (Option ℕ)) (slots : List Slot) (clauses lits : ℕ)
    → AreLinked first slots → length slots ≤ 2 * clauses → length first ≤ lits → 2 * clauses ≤ 2 ^ 32 → lits < 2 ^ 32
    → Keeping (first ++ replicate (lits - length first) None) (slots ++ replicate (2 * clauses - length slots) free_slot)
    (record { clauses = clauses; lists = (lists_in first slots).lists ++ replicate (lits - length (lists_in first slots).lists) [] })
grown_keeps first slots clauses lits linked more_slots more_lits fits literals =
    let m : ℕ = 2 * clauses - length slots in
    let k : ℕ = lits - length first in
    let lists : List (List ℕ) = (lists_in first slots).lists in
    let as_many : length first ≡ length lists = sym linked.keep.each in
    let free : Option ℕ = None in
    subst (λ (n : ℕ). Keeping (first ++ replicate k None) (slots ++ replicate m free_slot) (record { clauses = clauses; lists = lists ++ replicate (lits - n) [] })) as_many
    (keeping (first ++ replicate k None) (slots ++ replicate m free_slot)
    (list_parts slots ++ replicate m None) (next_parts slots ++ replicate m None) (previous_parts slots ++ replicate m None) (lists ++ replicate k []) clauses
    (more_parts (λ (x : Slot). x.list) m) (more_parts (λ (x : Slot). x.next) m) (more_parts (λ (x : Slot). x.previous) m)
    (grown_links first (list_parts slots) (next_parts slots) (previous_parts slots) lists k m (list_long slots) (previous_long slots) linked.keep)
    (length-append slots (replicate m free_slot) ∙ omega (arith, length-replicate m free_slot))
    (omega (arith, length-append slots (replicate m free_slot), length-replicate m free_slot))
    (omega (arith, length-append first (replicate k free), length-replicate k free))) where
      map-replicate : {Y : Type 0} (f : Slot → Y) (n : ℕ) → map f (replicate n free_slot) ≡ replicate n (f free_slot)
      map-replicate f zero = refl
      map-replicate f (suc n) = ap (λ ys. f free_slot ∷ ys) (map-replicate f n)

      more_parts : {Y : Type 0} (f : Slot → Y) (n : ℕ) → map f (slots ++ replicate n free_slot) ≡ map f slots ++ replicate n (f free_slot)
      more_parts f n = map-append f slots (replicate n free_slot) ∙ ap (λ ys. map f slots ++ ys) (map-replicate f n)

-- what stands first, and what stands behind a slot
pub first_seen : (first : List (Option ℕ)) (slots : List Slot) (place : ℕ) → AreLinked first slots → place < length first → get_or first place None ≡ first_of (get_or (lists_in first slots).lists place [])
first_seen first slots place linked at = chain_start (next_parts slots) (get_or first place None) (get_or (lists_in first slots).lists place []) (linked.keep.keeps place at).chain

pub after_seen :
    (first : List (Option ℕ)) (slots : List Slot) (place s : ℕ) (before rest : List ℕ)
    → AreLinked first slots → get_or (lists_in first slots).lists place [] ≡ before ++ s ∷ rest → get_or (next_parts slots) s None ≡ first_of rest
after_seen first slots place s before rest linked is = elim (cases_lt place (length first)) [
  | inl at ↦
      let keeps : KeepsList first (list_parts slots) (next_parts slots) (previous_parts slots) place (get_or (lists_in first slots).lists place []) = linked.keep.keeps place at in
      let chain : IsChain (next_parts slots) (get_or first place None) (before ++ s ∷ rest) = subst (λ (xs : List ℕ). IsChain (next_parts slots) (get_or first place None) xs) is keeps.chain in
      chain_start (next_parts slots) (get_or (next_parts slots) s None) rest (chain_from (next_parts slots) (get_or first place None) before s rest chain)
  | inr past ↦
      let none : [] ≡ before ++ s ∷ rest = sym (get_or_past (lists_in first slots).lists place [] (omega (arith, linked.keep.each))) ∙ is in
      let long : 0 ≡ length (before ++ s ∷ rest) = ap length none in
      absurd (omega (arith, length-append before (s ∷ rest)))
]

pub apart_seen : (first : List (Option ℕ)) (slots : List Slot) → AreLinked first slots → AreApart (lists_in first slots)
apart_seen first slots linked =
    kept_apart first (list_parts slots) (next_parts slots) (previous_parts slots) (lists_in first slots) linked.keep
    (length-map slots (λ (x : Slot). x.next) ∙ sym linked.pairs)

-- a list after its elements were written as a slice, which keeps the length
abbrev pub refilled : {X : Type 0} → ℕ → List X → List X → List X
refilled n ws xs = take n (ws ++ drop (length ws) xs)

refilled_is : {X : Type 0} (n : ℕ) (ws xs : List X) → length ws ≡ n → refilled n ws xs ≡ ws
refilled_is n ws xs long = take_at ws (drop (length ws) xs) n long

pub front_done :
    (first : List (Option ℕ)) (slots w : List Slot) (len place s : ℕ) (start : Option ℕ)
    → AreLinked first slots → len ≡ length slots → place < length first → s < length slots → InNoList (lists_in first slots) s
    → start ≡ get_or first place None → w ≡ with_previous slots start (Some s)
    → Keeping (set first place (Some s)) (set (refilled len w slots) s (record { list = Some place; next = start; previous = None }))
    (record (lists_in first slots) { lists = set (lists_in first slots).lists place (s ∷ get_or (lists_in first slots).lists place []) })
front_done first slots w len place s start linked len_is at inside free start_is is =
    let new : Slot = record { list = Some place; next = start; previous = None } in
    let long : length w ≡ len = ap length is ∙ length-with_previous slots start (Some s) ∙ sym len_is in
    front_keeps first slots place s start (set (refilled len w slots) s new) linked at inside free start_is
    (ap (λ (xs : List Slot). set xs s new) (refilled_is len w slots long ∙ is))

length-first_after : (first : List (Option ℕ)) (list o n : Option ℕ) → length (first_without first list o n) ≡ length first
length-first_after first None o n = refl
length-first_after first (Some place) o n = length-first_without first place o n

pub out_done :
    (first f : List (Option ℕ)) (slots w1 w2 : List Slot) (flen len s : ℕ) (list o n : Option ℕ)
    → AreLinked first slots → InAList (lists_in first slots) s → flen ≡ length first → len ≡ length slots
    → list ≡ get_or (list_parts slots) s None → o ≡ get_or (previous_parts slots) s None → n ≡ get_or (next_parts slots) s None
    → w1 ≡ with_previous slots n o → w2 ≡ with_next (refilled len w1 slots) o n → f ≡ first_without first list o n
    → Keeping (refilled flen f first) (set (refilled len w2 (refilled len w1 slots)) s free_slot)
    (record (lists_in first slots) { lists = map (others s) (lists_in first slots).lists })
out_done first f slots w1 w2 flen len s list o n linked there flen_is len_is list_is o_is n_is w1_is w2_is f_is =
    let long1 : length w1 ≡ len = ap length w1_is ∙ length-with_previous slots n o ∙ sym len_is in
    let one : refilled len w1 slots ≡ w1 = refilled_is len w1 slots long1 in
    let long2 : length w2 ≡ len = ap length w2_is ∙ length-with_next (refilled len w1 slots) o n ∙ ap length one ∙ long1 in
    let two : refilled len w2 (refilled len w1 slots) ≡ with_next (with_previous slots n o) o n =
    refilled_is len w2 (refilled len w1 slots) long2 ∙ w2_is ∙ ap (λ (xs : List Slot). with_next xs o n) (one ∙ w1_is) in
    let same : refilled flen f first ≡ first_without first list o n =
    refilled_is flen f first (ap length f_is ∙ length-first_after first list o n ∙ sym flen_is) ∙ f_is in
    subst (λ (fs : List (Option ℕ)). Keeping fs (set (refilled len w2 (refilled len w1 slots)) s free_slot) (record (lists_in first slots) { lists = map (others s) (lists_in first slots).lists })) (sym same)
    (out_keeps first slots s list o n (set (refilled len w2 (refilled len w1 slots)) s free_slot) linked there list_is o_is n_is
    (ap (λ (xs : List Slot). set xs s free_slot) two))

pub grow_done :
    (first first' : List (Option ℕ)) (slots slots' : List Slot) (clauses lits flen len : ℕ)
    → AreLinked first slots → flen ≡ length first → len ≡ length slots
    → length slots ≤ 2 * clauses → length first ≤ lits → 2 * clauses ≤ 2 ^ 32 → lits < 2 ^ 32
    → first' ≡ take lits first ++ replicate (lits - flen) None → slots' ≡ take (2 * clauses) slots ++ replicate (2 * clauses - len) free_slot
    → Keeping first' slots' (record { clauses = clauses; lists = (lists_in first slots).lists ++ replicate (lits - length (lists_in first slots).lists) [] })
grow_done first first' slots slots' clauses lits flen len linked flen_is len_is more_slots more_lits fits literals first_is slots_is =
    let f_is : first' ≡ first ++ replicate (lits - length first) None =
    first_is ∙ ap (λ (xs : List (Option ℕ)). xs ++ replicate (lits - flen) None) (take_all lits first more_lits)
    ∙ ap (λ (k : ℕ). first ++ replicate (lits - k) None) flen_is in
    let s_is : slots' ≡ slots ++ replicate (2 * clauses - length slots) free_slot =
    slots_is ∙ ap (λ (xs : List Slot). xs ++ replicate (2 * clauses - len) free_slot) (take_all (2 * clauses) slots more_slots)
    ∙ ap (λ (k : ℕ). slots ++ replicate (2 * clauses - k) free_slot) len_is in
    subst (λ (fs : List (Option ℕ)). Keeping fs slots' (record { clauses = clauses; lists = (lists_in first slots).lists ++ replicate (lits - length (lists_in first slots).lists) [] })) (sym f_is)
    (subst (λ (ss : List Slot). Keeping (first ++ replicate (lits - length first) None) ss (record { clauses = clauses; lists = (lists_in first slots).lists ++ replicate (lits - length (lists_in first slots).lists) [] })) (sym s_is)
    (grown_keeps first slots clauses lits linked more_slots more_lits fits literals))

-- the parts of a slot that was read
pub read_slot : (slots : List Slot) (s : ℕ) (x : Slot) → s < length slots → x ≡ get_or slots s x → get_or slots s free_slot ≡ x
read_slot slots s x h is = get_or_default slots s free_slot x h ∙ sym is

pub next_read : (slots : List Slot) (s : ℕ) (x : Slot) → s < length slots → x ≡ get_or slots s x → x.next ≡ get_or (next_parts slots) s None
next_read slots s x h is = ap (λ (y : Slot). y.next) (sym (read_slot slots s x h is)) ∙ sym (part_at (λ (y : Slot). y.next) slots s free_slot)

pub previous_read : (slots : List Slot) (s : ℕ) (x : Slot) → s < length slots → x ≡ get_or slots s x → x.previous ≡ get_or (previous_parts slots) s None
previous_read slots s x h is = ap (λ (y : Slot). y.previous) (sym (read_slot slots s x h is)) ∙ sym (part_at (λ (y : Slot). y.previous) slots s free_slot)

pub list_read : (slots : List Slot) (s : ℕ) (x : Slot) → s < length slots → x ≡ get_or slots s x → x.list ≡ get_or (list_parts slots) s None
list_read slots s x h is = ap (λ (y : Slot). y.list) (sym (read_slot slots s x h is)) ∙ sym (part_at (λ (y : Slot). y.list) slots s free_slot)

-- a list is within the numbers of literals, and its first slot within those of slots
pub place_within : (first : List (Option ℕ)) (slots : List Slot) (place : ℕ) → AreLinked first slots → place < length (lists_in first slots).lists → place < length first
place_within first slots place linked h = omega (arith, linked.keep.each)

pub first_within : (first : List (Option ℕ)) (slots : List Slot) (place : ℕ) → AreLinked first slots → place < length first → Within (get_or first place None) (length slots)
first_within first slots place linked at =
    subst (λ (n : ℕ). Within (get_or first place None) n) (length-map slots (λ (x : Slot). x.next))
    (start_within (next_parts slots) (get_or first place None) (get_or (lists_in first slots).lists place []) (linked.keep.keeps place at).chain)

-- what a caller may ask for, in terms of the links
pub slot_within : (first : List (Option ℕ)) (slots : List Slot) (r : Lists) (s : ℕ) → AreLinked first slots → lists_in first slots ≡ r → s < 2 * r.clauses → s < length slots
slot_within first slots r s linked seen h =
    let here : s < 2 * (length slots / 2) = subst (λ (q : Lists). s < 2 * q.clauses) (sym seen) h in
    omega (arith, linked.pairs)

pub literal_within : (first : List (Option ℕ)) (slots : List Slot) (r : Lists) (place : ℕ) → AreLinked first slots → lists_in first slots ≡ r → place < length r.lists → place < length first
literal_within first slots r place linked seen h = place_within first slots place linked (subst (λ (q : Lists). place < length q.lists) (sym seen) h)

pub slots_fewer : (first : List (Option ℕ)) (slots : List Slot) (r : Lists) (clauses : ℕ) → AreLinked first slots → lists_in first slots ≡ r → r.clauses ≤ clauses → length slots ≤ 2 * clauses
slots_fewer first slots r clauses linked seen h =
    let here : length slots / 2 ≤ clauses = subst (λ (q : Lists). q.clauses ≤ clauses) (sym seen) h in
    omega (arith, linked.pairs)

pub literals_fewer : (first : List (Option ℕ)) (slots : List Slot) (r : Lists) (lits : ℕ) → AreLinked first slots → lists_in first slots ≡ r → length r.lists ≤ lits → length first ≤ lits
literals_fewer first slots r lits linked seen h =
    let here : length (lists_in first slots).lists ≤ lits = subst (λ (q : Lists). length q.lists ≤ lits) (sym seen) h in
    omega (arith, linked.keep.each)
