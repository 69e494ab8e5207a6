-- The lists of slots that are walked.
use Rattle.std.specs.Prelude.{◌≡◌, ◌≢◌, ◌⊎◌, ℕ, zero, suc, ◌+◌, ◌*◌, ◌<◌, ◌≤◌, Bool, true, List, [], ◌∷◌, ◌++◌, Option, Some, length, get_or, Contains, IfSome}
use Rattle.std.proofs.Common.{refl, sym, ap, ◌∙◌, subst, arith, inl, inr, cond}
use Rattle.std.proofs.lemmas.List.Elements.{Contains-append_right}
use Rattle.uc_circuit.specs.declared.literal.Lit.{Lit}
use Rattle.uc_log.specs.declared.entry.Entry.{Entry}
use Rattle.uc_log.specs.Problems.{Question}
use Rattle.uc_log.specs.Entries.{clauses_of, known_of, known_after}
use Rattle.uc_log.proofs.Growth.{clauses_stay}
use Rattle.uc_rings.specs.Lists.{Lists, InAList, first_of, place_of, slots_of}
use Rattle.uc_rings.proofs.Slots.{Split, split, Contains-here, Contains-later}
use Rattle.uc_rings.specs.Pairs.{HasTwo}
use Rattle.uc_rings.specs.Watched.{IsWatched, StandsInTwo}
use Rattle.uc_rings.proofs.WatchesSlots.{place_inside, in_a_list}
use Rattle.uc_learner.specs.Learners.{Learning, HasTaken, HasTakenFor}

-- the place, if there is one, is a slot of the list
abbrev pub Listed : List ℕ → Option ℕ → Type 0
Listed xs place = IfSome place (Contains xs)

pub first_listed : (xs : List ℕ) (place : Option ℕ) → place ≡ first_of xs → Listed xs place
first_listed [] place is = subst (Listed []) (sym is) tt
first_listed (x ∷ xs) place is = subst (Listed (x ∷ xs)) (sym is) (Contains-here x xs)

first_behind : (xs before rest : List ℕ) (s : ℕ) (place : Option ℕ) → xs ≡ before ++ s ∷ rest → place ≡ first_of rest → Listed xs place
first_behind xs before [] s place list is = subst (Listed xs) (sym is) tt
first_behind xs before (t ∷ rest) s place list is =
    subst (Listed xs) (sym is) (subst (λ (ys : List ℕ). Contains ys t) (sym list) (Contains-append_right before (s ∷ t ∷ rest) t (Contains-later s (t ∷ rest) t (Contains-here t rest))))

-- what follows a slot of the list is one too
pub next_listed :
    (r : Lists) (l : Lit) (s : ℕ) (place next : Option ℕ) → place ≡ Some s → Listed (slots_of r l) place
    → ((m : Lit) (before rest : List ℕ) → slots_of r m ≡ before ++ s ∷ rest → next ≡ first_of rest) → Listed (slots_of r l) next
next_listed r l s place next is listed follows =
    let there : Contains (slots_of r l) s = subst (Listed (slots_of r l)) is listed in
    let at : Split (slots_of r l) s = split (slots_of r l) s there in
    first_behind (slots_of r l) at.before at.after s next at.is (follows l at.before at.after at.is)

pub listed_somewhere : (r : Lists) (l : Lit) (s : ℕ) (place : Option ℕ) → place ≡ Some s → Listed (slots_of r l) place → InAList r s
listed_somewhere r l s place is listed = in_a_list r l s (subst (Listed (slots_of r l)) is listed)

one_of_two : (a b l : Lit) → Contains (a ∷ b ∷ []) l → (l ≡ a) ⊎ (l ≡ b)
one_of_two a b l there = by_place there.0 there.1 there.2 where
  by_place : (k : ℕ) → k < length (a ∷ b ∷ []) → get_or (a ∷ b ∷ []) k l ≡ l → (l ≡ a) ⊎ (l ≡ b)
  by_place zero h e = inl (sym e)
  by_place (suc zero) h e = inr (sym e)
  by_place (suc (suc k)) h e = absurd (omega arith)

-- a clause that is two different literals watches the first, which so has a list
first_has_list : (a b : Lit) (r : Lists) (c : ℕ) → a ≢ b → IsWatched (a ∷ b ∷ []) r c → place_of a < length r.lists
first_has_list a b r c ne watched =
    let two : HasTwo (a ∷ b ∷ []) = record { one = a; other = b; one_there = (0, omega arith, refl); other_there = (1, omega arith, refl); different = ne } in
    let stands : StandsInTwo (a ∷ b ∷ []) r c = watched.two two in
    elim (one_of_two a b stands.first stands.first_there) [
      | inl here ↦ place_inside r a (2 * c) (subst (λ (l : Lit). Contains (slots_of r l) (2 * c)) here stands.first_stands)
      | inr there ↦ elim (one_of_two a b stands.second stands.second_there) [
        | inl here ↦ place_inside r a (2 * c + 1) (subst (λ (l : Lit). Contains (slots_of r l) (2 * c + 1)) here stands.second_stands)
        | inr same ↦ absurd (stands.different (there ∙ sym same))
      ]
    ]

-- where the first literal is negated, each variable up to its own has two lists
pub variables_listed :
    (clause : List Lit) (d : Lit) (r : Lists) (c n : ℕ)
    → 2 ≤ length clause → length clause < 3 → (get_or clause 0 d).neg ≡ true → get_or clause 0 d ≢ get_or clause 1 d → n ≤ (get_or clause 0 d).var + 1
    → IsWatched clause r c → 2 * n ≤ length r.lists
variables_listed [] d r c n some few negated ne le watched = absurd (omega arith)
variables_listed (a ∷ []) d r c n some few negated ne le watched = absurd (omega arith)
variables_listed (a ∷ b ∷ e ∷ rest) d r c n some few negated ne le watched = absurd (omega arith)
variables_listed (a ∷ b ∷ []) d r c n some few negated ne le watched =
    let inside : place_of a < length r.lists = first_has_list a b r c ne watched in
    let place : place_of a ≡ 2 * a.var + 1 = ap (λ (s : Bool). 2 * a.var + cond s 1 0) negated in
    omega (arith, inside, place, le)

-- the clauses of the opened problem are the first ones of a learner that has taken over the log, so they are watched
pub watched_first :
    (opened : Option Question) (q : Question) (log : List Entry) (l : Learning) (r : Lists) (clauses : List (List Lit))
    → opened ≡ Some q → HasTakenFor opened log l → clauses ≡ clauses_of q
    → ((c : ℕ) → c < length l.clauses → IsWatched (get_or l.clauses c []) r c)
    → (c : ℕ) → c < length clauses → IsWatched (get_or clauses c []) r c
watched_first opened q log l r clauses is taken_for first watched c h =
    let taken : HasTaken q log l = subst (λ (o : Option Question). HasTakenFor o log l) is taken_for in
    let h' : c < length (clauses_of q) = subst (λ (cs : List (List Lit)). c < length cs) first h in
    let stays : (c < length (known_after (known_of q) log).clauses) × (get_or (known_after (known_of q) log).clauses c [] ≡ get_or (clauses_of q) c []) = clauses_stay (known_of q) log c h' in
    let inside : c < length l.clauses = subst (λ (cs : List (List Lit)). c < length cs) (sym taken.clauses) stays.0 in
    let same : get_or l.clauses c [] ≡ get_or clauses c [] = ap (λ (cs : List (List Lit)). get_or cs c []) taken.clauses ∙ stays.1 ∙ ap (λ (cs : List (List Lit)). get_or cs c []) (sym first) in
    subst (λ (clause : List Lit). IsWatched clause r c) same (watched c inside)
