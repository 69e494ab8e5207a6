-- More slots and more lists.
use Rattle.std.proofs.Common.{◌≡◌, ℕ, ◌-◌, ◌<◌, ◌≤◌, inl, inr, List, [], ◌++◌, Option, None, Some, length, get_or, replicate, refl, sym, ◌∙◌, subst, arith}
use Rattle.std.specs.Prelude.{All}
use Rattle.std.proofs.lemmas.Bool.{cases_lt}
use Rattle.std.proofs.lemmas.List.{get_or-append_right, get_or_append_left, get_or_past, get_or-replicate, length-append, length-replicate}
use Rattle.std.proofs.lemmas.List.Elements.{All-nil}
use Rattle.uc_rings.specs.Links.{IsChain, KeepsList, KeepLists}
use Rattle.uc_rings.proofs.Chaining.{back_more, chain_more, chain_within}

-- what stands behind a list that grew by copies
get_or-more : {X : Type 0} (xs : List X) (k : ℕ) (v : X) (i : ℕ) → length xs ≤ i → get_or (xs ++ replicate k v) i v ≡ v
get_or-more xs k v i h =
    get_or-append_right xs (replicate k v) (length xs) i v refl h ∙ elim (cases_lt (i - length xs) k) [
      | inl inside ↦ get_or-replicate k (i - length xs) v v inside
      | inr past ↦ get_or_past (replicate k v) (i - length xs) v (omega (arith, length-replicate k v))
    ]

named_before : (list : List (Option ℕ)) (m s place : ℕ) → get_or (list ++ replicate m None) s None ≡ Some place → get_or list s None ≡ Some place
named_before list m s place is = elim (cases_lt s (length list)) [
  | inl inside ↦ sym (get_or_append_left list (replicate m None) None s inside) ∙ is
  | inr past ↦
      let none : None ≡ Some place = sym (get_or-more list m None s past) ∙ is in
      absurd (cc)
]

pub grown_links :
    (first list next previous : List (Option ℕ)) (lists : List (List ℕ)) (k m : ℕ)
    → length list ≡ length next → length previous ≡ length next
    → KeepLists first list next previous lists
    → KeepLists (first ++ replicate k None) (list ++ replicate m None) (next ++ replicate m None) (previous ++ replicate m None) (lists ++ replicate k [])
grown_links first list next previous lists k m list_long previous_long keep = record {
  each =
      let free : Option ℕ = None in
      let empty : List ℕ = [] in
      omega (arith, keep.each, length-append first (replicate k free), length-append lists (replicate k empty), length-replicate k free, length-replicate k empty);
  keeps = λ q h. elim (cases_lt q (length first)) [
    | inl inside ↦
        let xs : List ℕ = get_or lists q [] in
        let was : KeepsList first list next previous q xs = keep.keeps q inside in
        let within : All (λ s. s < length next) xs = chain_within next (get_or first q None) xs was.chain in
        subst (λ (ys : List ℕ). KeepsList (first ++ replicate k None) (list ++ replicate m None) (next ++ replicate m None) (previous ++ replicate m None) q ys)
        (sym (get_or_append_left lists (replicate k []) [] q (omega (arith, keep.each)))) (record {
          chain = subst (λ (o : Option ℕ). IsChain (next ++ replicate m None) o xs) (sym (get_or_append_left first (replicate k None) None q inside)) (chain_more next (replicate m None) (get_or first q None) xs was.chain);
          back = back_more previous (replicate m None) None xs (subst (λ (n : ℕ). All (λ s. s < n) xs) (sym previous_long) within) was.back;
          named = λ i d at.
              get_or_append_left list (replicate m None) None (get_or xs i d) (let below : get_or xs i d < length next = within i d at in omega arith) ∙ was.named i d at;
          all = λ s is. was.all s (named_before list m s q is);
          apart = was.apart;
        })
    | inr past ↦
        subst (λ (ys : List ℕ). KeepsList (first ++ replicate k None) (list ++ replicate m None) (next ++ replicate m None) (previous ++ replicate m None) q ys)
        (sym (get_or-more lists k [] q (omega (arith, keep.each)))) (record {
          chain = get_or-more first k None q past;
          back = tt;
          named = All-nil (λ s. get_or (list ++ replicate m None) s None ≡ Some q);
          all = λ s is. let inside : q < length first = keep.places s q (named_before list m s q is) in absurd (omega arith);
          apart = tt;
        })
  ];
  places = λ s q is.
      let inside : q < length first = keep.places s q (named_before list m s q is) in
      omega (arith, length-append first (replicate k None));
}
