-- What links keep: the lists that they lead through, and the lists that a change leaves alone.
use Rattle.std.proofs.Common.{◌≡◌, ◌≢◌, ℕ, ◌*◌, ◌<◌, ◌≤◌, inl, inr, List, [], Option, None, Some, length, get_or, set, refl, sym, ◌∙◌, ap, subst, arith, get_or-set_same, get_or-set_other}
use Rattle.std.specs.Prelude.{All, AllPairs, Contains}
use Rattle.std.proofs.lemmas.Bool.{cases_eq, cases_lt}
use Rattle.std.proofs.lemmas.List.{get_or-map, length-map, length-set, same_lists, get_or_default, get_or_past}
use Rattle.std.proofs.lemmas.List.Elements.{All-contains}
use Rattle.uc_rings.specs.Lists.{Lists, AreApart}
use Rattle.uc_rings.specs.Links.{follow, IsChain, LinksBack, KeepsList, KeepLists, lists_from}
use Rattle.uc_rings.proofs.Slots.{Away, all_pairs, few}
use Rattle.uc_rings.proofs.Chaining.{back_frame, chain_frame, chain_within, follow_chain, relink}

pub some_same : {a b : ℕ} → Some a ≡ Some b → a ≡ b
some_same e = cc

pub length-relink : (links : List (Option ℕ)) (o v : Option ℕ) → length (relink links o v) ≡ length links
length-relink links None v = refl
length-relink links (Some s) v = length-set links s v

-- the slots of a list name its place
abbrev pub NamedBy : List (Option ℕ) → ℕ → List ℕ → Type 0
NamedBy list place xs = All (λ s. get_or list s None ≡ Some place) xs

-- the slot, if there is one, names the place
abbrev pub Names : List (Option ℕ) → ℕ → Option ℕ → Type 0
Names list place None = Unit {0}
Names list place (Some s) = get_or list s None ≡ Some place

-- a slot that names another place, or none, is not in the list
pub away_of_other : (list : List (Option ℕ)) (place q : ℕ) (ys : List ℕ) (s : ℕ) → (place ≡ q → ⊥) → get_or list s None ≡ Some place → NamedBy list q ys → Away s ys
away_of_other list place q ys s ne is named k d h e =
    let both : Some place ≡ Some q = sym is ∙ ap (λ t. get_or list t None) (sym e) ∙ named k d h in
    ne (some_same both)

pub away_of_free : (list : List (Option ℕ)) (q : ℕ) (ys : List ℕ) (s : ℕ) → get_or list s None ≡ None → NamedBy list q ys → Away s ys
away_of_free list q ys s is named k d h e =
    let both : None ≡ Some q = sym is ∙ ap (λ t. get_or list t None) (sym e) ∙ named k d h in
    cc

pub chain_relink : (list next : List (Option ℕ)) (start o v : Option ℕ) (place q : ℕ) (ys : List ℕ) → (place ≡ q → ⊥) → Names list place o → NamedBy list q ys → IsChain next start ys → IsChain (relink next o v) start ys
chain_relink list next start None v place q ys ne names named chain = chain
chain_relink list next start (Some s) v place q ys ne names named chain = chain_frame next start ys s v (away_of_other list place q ys s ne names named) chain

pub back_relink : (list previous : List (Option ℕ)) (before o v : Option ℕ) (place q : ℕ) (ys : List ℕ) → (place ≡ q → ⊥) → Names list place o → NamedBy list q ys → LinksBack previous before ys → LinksBack (relink previous o v) before ys
back_relink list previous before None v place q ys ne names named links = links
back_relink list previous before (Some s) v place q ys ne names named links = back_frame previous before ys s v (away_of_other list place q ys s ne names named) links

pub named_set : (list : List (Option ℕ)) (q : ℕ) (ys : List ℕ) (s : ℕ) (v : Option ℕ) → Away s ys → NamedBy list q ys → NamedBy (set list s v) q ys
named_set list q ys s v away named k d h = get_or-set_other list s (get_or ys k d) v None (away k d h) ∙ named k d h

-- a list that a change leaves alone
pub keeps_still :
    (first list next previous first' next' previous' : List (Option ℕ)) (q : ℕ) (ys : List ℕ) (s : ℕ) (v : Option ℕ)
    → KeepsList first list next previous q ys
    → s < length list → (v ≡ Some q → ⊥) → Away s ys
    → get_or first' q None ≡ get_or first q None
    → IsChain next' (get_or first q None) ys → LinksBack previous' None ys
    → KeepsList first' (set list s v) next' previous' q ys
keeps_still first list next previous first' next' previous' q ys s v keeps inside ne away same chain back = record {
  chain = subst (λ (o : Option ℕ). IsChain next' o ys) (sym same) chain;
  back = back;
  named = named_set list q ys s v away keeps.named;
  all = λ t is. elim (cases_eq t s) [
    | inl e ↦ absurd (ne (sym (get_or-set_same list s v None inside) ∙ ap (λ k. get_or (set list s v) k None) (sym e) ∙ is))
    | inr other ↦ keeps.all t (sym (get_or-set_other list s t v None other) ∙ is)
  ];
  apart = keeps.apart;
}

-- the lists that are kept are those that the links lead through
pub kept_lists : (first list next previous : List (Option ℕ)) (lists : List (List ℕ)) (n : ℕ) → KeepLists first list next previous lists → length next ≤ n → lists_from n first next ≡ lists
kept_lists first list next previous lists n keep enough =
    same_lists (lists_from n first next) lists (length-map first (follow n next) ∙ sym keep.each)
    (λ k d h.
    let inside : k < length first = omega (arith, length-map first (follow n next)) in
    let keeps : KeepsList first list next previous k (get_or lists k []) = keep.keeps k inside in
    let short : length (get_or lists k []) ≤ length next = few (get_or lists k []) (length next) keeps.apart (chain_within next (get_or first k None) (get_or lists k []) keeps.chain) in
    get_or-map (follow n next) first k None d inside
    ∙ follow_chain n next (get_or first k None) (get_or lists k []) (omega arith) keeps.chain
    ∙ get_or_default lists k [] d (omega (arith, keep.each)))

-- no slot stands twice, nor in two lists
pub kept_apart : (first list next previous : List (Option ℕ)) (r : Lists) → KeepLists first list next previous r.lists → length next ≡ 2 * r.clauses → AreApart r
kept_apart first list next previous r keep long = record {
  slots = λ k d h.
      let inside : k < length first = omega (arith, keep.each) in
      let keeps : KeepsList first list next previous k (get_or r.lists k []) = keep.keeps k inside in
      let within : All (λ s. s < length next) (get_or r.lists k []) = chain_within next (get_or first k None) (get_or r.lists k []) keeps.chain in
      subst (λ (xs : List ℕ). All (λ s. s < 2 * r.clauses) xs) (get_or_default r.lists k [] d h) (subst (λ (n : ℕ). All (λ s. s < n) (get_or r.lists k [])) long within);
  once = λ k d h.
      let inside : k < length first = omega (arith, keep.each) in
      subst (λ (xs : List ℕ). AllPairs (λ a b. a ≢ b) xs) (get_or_default r.lists k [] d h) (all_pairs (get_or r.lists k []) (keep.keeps k inside).apart);
  one_list = λ i j s here there.
      some_same (sym (name_at i s here) ∙ name_at j s there);
} where
  name_at : (i s : ℕ) → Contains (get_or r.lists i []) s → get_or list s None ≡ Some i
  name_at i s here = elim (cases_lt i (length first)) [
    | inl inside ↦ All-contains (λ t. get_or list t None ≡ Some i) (get_or r.lists i []) s (keep.keeps i inside).named here
    | inr past ↦
        let empty : get_or r.lists i [] ≡ [] = get_or_past r.lists i [] (omega (arith, keep.each)) in
        let none : Contains [] s = subst (λ (xs : List ℕ). Contains xs s) empty here in
        absurd (let h = none.1 in omega arith)
  ]
