-- A slot is taken out of its list.
use Rattle.std.proofs.Common.{◌≡◌, ◌≢◌, ℕ, ◌<◌, inl, inr, List, [], ◌∷◌, ◌++◌, Option, None, Some, length, get_or, map, set, refl, sym, ◌∙◌, ap, subst, arith, get_or-set_same, get_or-set_other}
use Rattle.std.specs.Prelude.{All}
use Rattle.std.proofs.lemmas.Bool.{cases_eq}
use Rattle.std.proofs.lemmas.List.{get_or-map, length-map, length-set}
use Rattle.std.proofs.lemmas.List.Elements.{All-append, All-contains, All-head, All-tail}
use Rattle.uc_rings.specs.Lists.{first_of}
use Rattle.uc_rings.specs.Links.{IsChain, LinksBack, NoneTwice, KeepsList, KeepLists, first_without}
use Rattle.uc_rings.proofs.Slots.{Away, All-left, All-right, Contains-out, Split, apart_after, apart_before, apart_out, others, others_away, others_out, split}
use Rattle.uc_rings.proofs.Chaining.{back_at, back_frame, back_out, chain_frame, chain_from, chain_out, chain_start, chain_within, last_of, last_or, relink, Contains-last}
use Rattle.uc_rings.proofs.Keeping.{Names, NamedBy, away_of_other, back_relink, chain_relink, keeps_still, named_set}

pub length-first_without : (first : List (Option ℕ)) (place : ℕ) (o next : Option ℕ) → length (first_without first (Some place) o next) ≡ length first
length-first_without first place None next = length-set first place next
length-first_without first place (Some p) next = refl

first_elsewhere : (first : List (Option ℕ)) (place q : ℕ) (o next : Option ℕ) → q ≢ place → get_or (first_without first (Some place) o next) q None ≡ get_or first q None
first_elsewhere first place q None next ne = get_or-set_other first place q next None ne
first_elsewhere first place q (Some p) next ne = refl

last_names : (list : List (Option ℕ)) (place : ℕ) (before : List ℕ) → NamedBy list place before → Names list place (last_or None before)
last_names list place [] named = tt
last_names list place (x ∷ before) named = All-contains (λ t. get_or list t None ≡ Some place) (x ∷ before) (last_of x before) named (Contains-last x before)

first_names : (list : List (Option ℕ)) (place : ℕ) (after : List ℕ) → NamedBy list place after → Names list place (first_of after)
first_names list place [] named = tt
first_names list place (x ∷ after) named = All-head (λ t. get_or list t None ≡ Some place) x after named

-- the links on without the slot
chain_without :
    (first next : List (Option ℕ)) (place : ℕ) (before : List ℕ) (s : ℕ) (after : List ℕ)
    → place < length first → NoneTwice (before ++ s ∷ after) → IsChain next (get_or first place None) (before ++ s ∷ after)
    → IsChain (relink next (last_or None before) (get_or next s None)) (get_or (first_without first (Some place) (last_or None before) (get_or next s None)) place None) (before ++ after)
chain_without first next place [] s after at apart chain =
    subst (λ (o : Option ℕ). IsChain next o after) (sym (get_or-set_same first place (get_or next s None) None at)) chain.2
chain_without first next place (x ∷ before) s after at apart chain = chain_out next (get_or first place None) x before s after apart chain

-- the list that had the slot
keeps_out :
    (first list next previous : List (Option ℕ)) (place s : ℕ) (before after : List ℕ)
    → length list ≡ length next → length previous ≡ length next
    → place < length first → s < length next
    → KeepsList first list next previous place (before ++ s ∷ after)
    → KeepsList (first_without first (Some place) (get_or previous s None) (get_or next s None)) (set list s None)
    (set (relink next (get_or previous s None) (get_or next s None)) s None)
    (set (relink previous (get_or next s None) (get_or previous s None)) s None) place (before ++ after)
keeps_out first list next previous place s before after list_long previous_long at inside old =
    let front : Away s before = apart_before before s after old.apart in
    let rest : Away s after = apart_after before s after old.apart in
    let clear : Away s (before ++ after) = All-append (λ x. x ≢ s) before after front rest in
    let is_last : get_or previous s None ≡ last_or None before = back_at previous None before s after old.back in
    let is_next : get_or next s None ≡ first_of after = chain_start next (get_or next s None) after (chain_from next (get_or first place None) before s after old.chain) in
    let within : All (λ x. x < length next) (before ++ s ∷ after) = chain_within next (get_or first place None) (before ++ s ∷ after) old.chain in
    let within_after : All (λ x. x < length previous) after =
    subst (λ (n : ℕ). All (λ x. x < n) after) (sym previous_long)
    (All-tail (λ x. x < length next) s after (All-right (λ x. x < length next) before (s ∷ after) within)) in
    let named_before : NamedBy list place before = All-left (λ t. get_or list t None ≡ Some place) before (s ∷ after) old.named in
    let named_after : NamedBy list place after = All-tail (λ t. get_or list t None ≡ Some place) s after (All-right (λ t. get_or list t None ≡ Some place) before (s ∷ after) old.named) in
    let chained : IsChain (relink next (get_or previous s None) (get_or next s None)) (get_or (first_without first (Some place) (get_or previous s None) (get_or next s None)) place None) (before ++ after) =
    subst (λ (o : Option ℕ). IsChain (relink next o (get_or next s None)) (get_or (first_without first (Some place) o (get_or next s None)) place None) (before ++ after)) (sym is_last)
    (chain_without first next place before s after at old.apart old.chain) in
    let backed : LinksBack (relink previous (get_or next s None) (get_or previous s None)) None (before ++ after) =
    subst (λ (o : Option ℕ). LinksBack (relink previous o (get_or previous s None)) None (before ++ after)) (sym is_next)
    (back_out previous None before s after old.apart within_after old.back) in
    record {
      chain = chain_frame (relink next (get_or previous s None) (get_or next s None)) (get_or (first_without first (Some place) (get_or previous s None) (get_or next s None)) place None) (before ++ after) s None clear chained;
      back = back_frame (relink previous (get_or next s None) (get_or previous s None)) None (before ++ after) s None clear backed;
      named = named_set list place (before ++ after) s None clear (All-append (λ t. get_or list t None ≡ Some place) before after named_before named_after);
      all = λ t is. elim (cases_eq t s) [
        | inl e ↦
            let none : None ≡ Some place = sym (get_or-set_same list s None None (omega arith)) ∙ ap (λ k. get_or (set list s None) k None) (sym e) ∙ is in
            cc
        | inr other ↦ Contains-out before s after t other (old.all t (sym (get_or-set_other list s t None None other) ∙ is))
      ];
      apart = apart_out before s after old.apart;
    }

pub unlinked :
    (first list next previous : List (Option ℕ)) (lists : List (List ℕ)) (place s : ℕ)
    → length list ≡ length next → length previous ≡ length next
    → KeepLists first list next previous lists → s < length next → get_or list s None ≡ Some place
    → KeepLists (first_without first (Some place) (get_or previous s None) (get_or next s None)) (set list s None)
    (set (relink next (get_or previous s None) (get_or next s None)) s None)
    (set (relink previous (get_or next s None) (get_or previous s None)) s None) (map (others s) lists)
unlinked first list next previous lists place s list_long previous_long keep inside names =
    let o : Option ℕ = get_or previous s None in
    let n : Option ℕ = get_or next s None in
    let first' : List (Option ℕ) = first_without first (Some place) o n in
    let next' : List (Option ℕ) = set (relink next o n) s None in
    let previous' : List (Option ℕ) = set (relink previous n o) s None in
    let at : place < length first = keep.places s place names in
    let xs : List ℕ = get_or lists place [] in
    let old : KeepsList first list next previous place xs = keep.keeps place at in
    let parts : Split xs s = split xs s (old.all s names) in
    let was : KeepsList first list next previous place (parts.before ++ s ∷ parts.after) = subst (λ (ys : List ℕ). KeepsList first list next previous place ys) parts.is old in
    let here : KeepsList first' (set list s None) next' previous' place (parts.before ++ parts.after) =
    keeps_out first list next previous place s parts.before parts.after list_long previous_long at inside was in
    let left : others s xs ≡ parts.before ++ parts.after = ap (others s) parts.is ∙ others_out parts.before s parts.after was.apart in
    let named_before : NamedBy list place parts.before = All-left (λ t. get_or list t None ≡ Some place) parts.before (s ∷ parts.after) was.named in
    let named_after : NamedBy list place parts.after =
    All-tail (λ t. get_or list t None ≡ Some place) s parts.after (All-right (λ t. get_or list t None ≡ Some place) parts.before (s ∷ parts.after) was.named) in
    let o_names : Names list place o = subst (λ (k : Option ℕ). Names list place k) (sym (back_at previous None parts.before s parts.after was.back)) (last_names list place parts.before named_before) in
    let n_names : Names list place n =
    subst (λ (k : Option ℕ). Names list place k) (sym (chain_start next n parts.after (chain_from next (get_or first place None) parts.before s parts.after was.chain)))
    (first_names list place parts.after named_after) in
    record {
      each = length-map lists (others s) ∙ keep.each ∙ sym (length-first_without first place o n);
      keeps = λ q h.
          let q_at : q < length first = omega (arith, h, length-first_without first place o n) in
          subst (λ (zs : List ℕ). KeepsList first' (set list s None) next' previous' q zs) (sym (get_or-map (others s) lists q [] [] (omega (arith, keep.each))))
          (elim (cases_eq q place) [
            | inl e ↦
                subst (λ (k : ℕ). KeepsList first' (set list s None) next' previous' k (others s (get_or lists k []))) (sym e)
                (subst (λ (zs : List ℕ). KeepsList first' (set list s None) next' previous' place zs) (sym left) here)
            | inr other ↦
                let ys : List ℕ = get_or lists q [] in
                let still : KeepsList first list next previous q ys = keep.keeps q q_at in
                let ne : place ≡ q → ⊥ = λ e. other (sym e) in
                let clear : Away s ys = away_of_other list place q ys s ne names still.named in
                subst (λ (zs : List ℕ). KeepsList first' (set list s None) next' previous' q zs) (sym (others_away s ys clear))
                (keeps_still first list next previous first' next' previous' q ys s None still (omega arith)
                (λ e. absurd (cc)) clear (first_elsewhere first place q o n other)
                (chain_frame (relink next o n) (get_or first q None) ys s None clear (chain_relink list next (get_or first q None) o n place q ys ne o_names still.named still.chain))
                (back_frame (relink previous n o) None ys s None clear (back_relink list previous None n o place q ys ne n_names still.named still.back)))
          ]);
      places = λ t q is. elim (cases_eq t s) [
        | inl e ↦
            let none : None ≡ Some q = sym (get_or-set_same list s None None (omega arith)) ∙ ap (λ k. get_or (set list s None) k None) (sym e) ∙ is in
            absurd (cc)
        | inr other ↦
            let h : q < length first = keep.places t q (sym (get_or-set_other list s t None None other) ∙ is) in
            omega (arith, length-first_without first place o n)
      ];
    }
