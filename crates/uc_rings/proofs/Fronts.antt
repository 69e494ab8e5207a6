-- A slot is put at the front of a list.
use Rattle.std.proofs.Common.{◌≡◌, ℕ, ◌<◌, inl, inr, List, [], ◌∷◌, Option, None, Some, length, get_or, set, sym, ◌∙◌, ap, subst, arith, get_or-set_same, get_or-set_other}
use Rattle.std.specs.Prelude.{Contains}
use Rattle.std.proofs.lemmas.Bool.{cases_eq}
use Rattle.std.proofs.lemmas.List.{length-set}
use Rattle.std.proofs.lemmas.List.Elements.{All-cons, All-head}
use Rattle.uc_rings.specs.Links.{IsChain, LinksBack, NoneTwice, KeepsList, KeepLists}
use Rattle.uc_rings.proofs.Slots.{Away, Contains-here, Contains-later}
use Rattle.uc_rings.proofs.Chaining.{back_frame, chain_frame, chain_front, relink}
use Rattle.uc_rings.proofs.Keeping.{Names, NamedBy, away_of_free, back_relink, keeps_still, length-relink, named_set, some_same}

-- the first slot of a list names its place
first_names : (list next : List (Option ℕ)) (start : Option ℕ) (place : ℕ) (xs : List ℕ) → IsChain next start xs → NamedBy list place xs → Names list place start
first_names list next start place [] chain named = subst (λ (o : Option ℕ). Names list place o) (sym chain) tt
first_names list next start place (s ∷ xs) chain named =
    subst (λ (o : Option ℕ). Names list place o) (sym chain.0) (All-head (λ t. get_or list t None ≡ Some place) s xs named)

-- the links back of the list with its new first slot
back_front : (next previous : List (Option ℕ)) (start : Option ℕ) (xs : List ℕ) (s : ℕ) → length previous ≡ length next → s < length previous → Away s xs → NoneTwice xs → IsChain next start xs → LinksBack previous None xs → LinksBack (set (relink previous start (Some s)) s None) None (s ∷ xs)
back_front next previous start [] s same inside away apart chain back =
    (get_or-set_same (relink previous start (Some s)) s None None (subst (λ (n : ℕ). s < n) (sym (length-relink previous start (Some s))) inside), tt)
back_front next previous start (h ∷ xs) s same inside away apart chain back =
    let links : List (Option ℕ) = set previous h (Some s) in
    let one : LinksBack links (Some s) (h ∷ xs) = (
      get_or-set_same previous h (Some s) None (omega (arith, chain.1)),
      back_frame previous (Some h) xs h (Some s) apart.0 back.1,
    ) in
    let wide : s < length links = subst (λ (n : ℕ). s < n) (sym (length-set previous h (Some s))) inside in
    subst (λ (o : Option ℕ). LinksBack (set (relink previous o (Some s)) s None) None (s ∷ h ∷ xs)) (sym chain.0)
    (get_or-set_same links s None None wide, back_frame links (Some s) (h ∷ xs) s None away one)

pub linked_front :
    (first list next previous : List (Option ℕ)) (lists : List (List ℕ)) (place s : ℕ)
    → length list ≡ length next → length previous ≡ length next
    → KeepLists first list next previous lists → place < length first → s < length next → get_or list s None ≡ None
    → KeepLists (set first place (Some s)) (set list s (Some place)) (set next s (get_or first place None))
    (set (relink previous (get_or first place None) (Some s)) s None) (set lists place (s ∷ get_or lists place []))
linked_front first list next previous lists place s list_long previous_long keep at inside free =
    let start : Option ℕ = get_or first place None in
    let xs : List ℕ = get_or lists place [] in
    let old : KeepsList first list next previous place xs = keep.keeps place at in
    let away : Away s xs = away_of_free list place xs s free old.named in
    let names : Names list place start = first_names list next start place xs old.chain old.named in
    let in_list : s < length list = omega arith in
    let here : KeepsList (set first place (Some s)) (set list s (Some place)) (set next s start) (set (relink previous start (Some s)) s None) place (s ∷ xs) = record {
      chain = subst (λ (o : Option ℕ). IsChain (set next s start) o (s ∷ xs)) (sym (get_or-set_same first place (Some s) None at)) (chain_front next start xs s inside away old.chain);
      back = back_front next previous start xs s previous_long (omega arith) away old.apart old.chain old.back;
      named = All-cons (λ t. get_or (set list s (Some place)) t None ≡ Some place) s xs (get_or-set_same list s (Some place) None in_list) (named_set list place xs s (Some place) away old.named);
      all = λ t is. elim (cases_eq t s) [
        | inl e ↦ subst (λ (k : ℕ). Contains (s ∷ xs) k) (sym e) (Contains-here s xs)
        | inr other ↦ Contains-later s xs t (old.all t (sym (get_or-set_other list s t (Some place) None other) ∙ is))
      ];
      apart = (away, old.apart);
    } in
    record {
      each = length-set lists place (s ∷ xs) ∙ keep.each ∙ sym (length-set first place (Some s));
      keeps = λ q h. elim (cases_eq q place) [
        | inl e ↦
            subst (λ (k : ℕ). KeepsList (set first place (Some s)) (set list s (Some place)) (set next s start) (set (relink previous start (Some s)) s None) k (get_or (set lists place (s ∷ xs)) k [])) (sym e)
            (subst (λ (ys : List ℕ). KeepsList (set first place (Some s)) (set list s (Some place)) (set next s start) (set (relink previous start (Some s)) s None) place ys)
            (sym (get_or-set_same lists place (s ∷ xs) [] (omega (arith, keep.each)))) here)
        | inr other ↦
            let ys : List ℕ = get_or lists q [] in
            let was : KeepsList first list next previous q ys = keep.keeps q (omega (arith, h, length-set first place (Some s))) in
            let clear : Away s ys = away_of_free list q ys s free was.named in
            let ne : place ≡ q → ⊥ = λ e. other (sym e) in
            let still : KeepsList (set first place (Some s)) (set list s (Some place)) (set next s start) (set (relink previous start (Some s)) s None) q ys =
            keeps_still first list next previous (set first place (Some s)) (set next s start) (set (relink previous start (Some s)) s None) q ys s (Some place)
            was in_list (λ e. ne (some_same e)) clear (get_or-set_other first place q (Some s) None other)
            (chain_frame next (get_or first q None) ys s start clear was.chain)
            (back_frame (relink previous start (Some s)) None ys s None clear (back_relink list previous None start (Some s) place q ys ne names was.named was.back)) in
            subst (λ (zs : List ℕ). KeepsList (set first place (Some s)) (set list s (Some place)) (set next s start) (set (relink previous start (Some s)) s None) q zs)
            (sym (get_or-set_other lists place q (s ∷ xs) [] other)) still
      ];
      places = λ t q is. elim (cases_eq t s) [
        | inl e ↦
            let same : Some place ≡ Some q = sym (get_or-set_same list s (Some place) None in_list) ∙ ap (λ k. get_or (set list s (Some place)) k None) (sym e) ∙ is in
            let there : place ≡ q = some_same same in
            omega (arith, there, length-set first place (Some s))
        | inr other ↦
            let h : q < length first = keep.places t q (sym (get_or-set_other list s t (Some place) None other) ∙ is) in
            omega (arith, length-set first place (Some s))
      ];
    }
