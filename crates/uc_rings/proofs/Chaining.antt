-- Links by index: what a change of one of them does to a list.
use Rattle.std.proofs.Common.{◌≡◌, ◌≢◌, ℕ, zero, suc, ◌<◌, ◌≤◌, List, [], ◌∷◌, ◌++◌, Option, None, Some, length, get_or, set, refl, sym, ◌∙◌, ap, subst, arith, get_or-set_same, get_or-set_other}
use Rattle.std.specs.Prelude.{All, Contains}
use Rattle.std.proofs.lemmas.List.{length-set, length-append, get_or_append_left}
use Rattle.std.proofs.lemmas.List.Elements.{All-nil, All-cons, All-head, All-tail, All-contains, Contains-append_left, Contains-append_right}
use Rattle.uc_rings.specs.Lists.{first_of}
use Rattle.uc_rings.specs.Links.{follow, IsChain, LinksBack, NoneTwice}
use Rattle.uc_rings.proofs.Slots.{Away, Contains-here, Contains-later}

-- with steps enough the list is what the links give
pub follow_chain : (n : ℕ) (next : List (Option ℕ)) (start : Option ℕ) (xs : List ℕ) → length xs ≤ n → IsChain next start xs → follow n next start ≡ xs
follow_chain zero next start [] long chain = refl
follow_chain zero next start (s ∷ xs) long chain = absurd (omega arith)
follow_chain (suc n) next start [] long chain = ap (follow (suc n) next) chain
follow_chain (suc n) next start (s ∷ xs) long chain =
    ap (follow (suc n) next) chain.0 ∙ ap (λ k. s ∷ k) (follow_chain n next (get_or next s None) xs (omega arith) chain.2)

pub chain_within : (next : List (Option ℕ)) (start : Option ℕ) (xs : List ℕ) → IsChain next start xs → All (λ s. s < length next) xs
chain_within next start [] chain = All-nil (λ s. s < length next)
chain_within next start (s ∷ xs) chain = All-cons (λ s. s < length next) s xs chain.1 (chain_within next (get_or next s None) xs chain.2)

pub chain_start : (next : List (Option ℕ)) (start : Option ℕ) (xs : List ℕ) → IsChain next start xs → start ≡ first_of xs
chain_start next start [] chain = chain
chain_start next start (s ∷ xs) chain = chain.0

-- the links behind a slot of the list
pub chain_from : (next : List (Option ℕ)) (start : Option ℕ) (before : List ℕ) (s : ℕ) (after : List ℕ) → IsChain next start (before ++ s ∷ after) → IsChain next (get_or next s None) after
chain_from next start [] s after chain = chain.2
chain_from next start (x ∷ before) s after chain = chain_from next (get_or next x None) before s after chain.2

-- a change at a slot that the list does not have
pub chain_frame : (next : List (Option ℕ)) (start : Option ℕ) (xs : List ℕ) (s : ℕ) (v : Option ℕ) → Away s xs → IsChain next start xs → IsChain (set next s v) start xs
chain_frame next start [] s v away chain = chain
chain_frame next start (x ∷ xs) s v away chain =
    let same : get_or (set next s v) x None ≡ get_or next x None = get_or-set_other next s x v None (All-head (λ y. y ≢ s) x xs away) in
    let rest : IsChain (set next s v) (get_or next x None) xs = chain_frame next (get_or next x None) xs s v (All-tail (λ y. y ≢ s) x xs away) chain.2 in
    (chain.0, rw length-set chain.1, subst (λ (o : Option ℕ). IsChain (set next s v) o xs) (sym same) rest)

-- a slot is put in front
pub chain_front : (next : List (Option ℕ)) (start : Option ℕ) (xs : List ℕ) (s : ℕ) → s < length next → Away s xs → IsChain next start xs → IsChain (set next s start) (Some s) (s ∷ xs)
chain_front next start xs s inside away chain = (
  refl,
  rw length-set inside,
  subst (λ (o : Option ℕ). IsChain (set next s start) o xs) (sym (get_or-set_same next s start None inside)) (chain_frame next start xs s start away chain),
)

-- the last of some slots
abbrev pub last_of : ℕ → List ℕ → ℕ
last_of x [] = x
last_of x (y ∷ ys) = last_of y ys

pub Contains-last : (x : ℕ) (xs : List ℕ) → Contains (x ∷ xs) (last_of x xs)
Contains-last x [] = Contains-here x []
Contains-last x (y ∷ ys) = Contains-later x (y ∷ ys) (last_of y ys) (Contains-last y ys)

-- a later slot is taken out: the one before it leads to the one behind it
pub chain_out :
    (next : List (Option ℕ)) (start : Option ℕ) (x : ℕ) (before : List ℕ) (s : ℕ) (after : List ℕ)
    → NoneTwice ((x ∷ before) ++ s ∷ after) → IsChain next start ((x ∷ before) ++ s ∷ after)
    → IsChain (set next (last_of x before) (get_or next s None)) start ((x ∷ before) ++ after)
chain_out next start x [] s after apart chain =
    let here : get_or (set next x (get_or next s None)) x None ≡ get_or next s None = get_or-set_same next x (get_or next s None) None chain.1 in
    let rest : IsChain (set next x (get_or next s None)) (get_or next s None) after =
    chain_frame next (get_or next s None) after x (get_or next s None) (All-tail (λ y. y ≢ x) s after apart.0) chain.2.2 in
    (chain.0, rw length-set chain.1, subst (λ (o : Option ℕ). IsChain (set next x (get_or next s None)) o after) (sym here) rest)
chain_out next start x (y ∷ before) s after apart chain =
    let p : ℕ = last_of y before in
    let other : p ≢ x = All-contains (λ z. z ≢ x) ((y ∷ before) ++ s ∷ after) p apart.0 (Contains-append_left (y ∷ before) (s ∷ after) p (Contains-last y before)) in
    let same : get_or (set next p (get_or next s None)) x None ≡ get_or next x None = get_or-set_other next p x (get_or next s None) None (λ e. other (sym e)) in
    let rest : IsChain (set next p (get_or next s None)) (get_or next x None) ((y ∷ before) ++ after) =
    chain_out next (get_or next x None) y before s after apart.1 chain.2 in
    (chain.0, rw length-set chain.1, subst (λ (o : Option ℕ). IsChain (set next p (get_or next s None)) o ((y ∷ before) ++ after)) (sym same) rest)

pub back_frame : (previous : List (Option ℕ)) (before : Option ℕ) (xs : List ℕ) (s : ℕ) (v : Option ℕ) → Away s xs → LinksBack previous before xs → LinksBack (set previous s v) before xs
back_frame previous before [] s v away links = tt
back_frame previous before (x ∷ xs) s v away links =
    (get_or-set_other previous s x v None (All-head (λ y. y ≢ s) x xs away) ∙ links.0, back_frame previous (Some x) xs s v (All-tail (λ y. y ≢ s) x xs away) links.1)

-- the slot before a slot of the list
abbrev pub last_or : Option ℕ → List ℕ → Option ℕ
last_or o [] = o
last_or o (x ∷ xs) = Some (last_of x xs)

pub back_at : (previous : List (Option ℕ)) (o : Option ℕ) (before : List ℕ) (s : ℕ) (after : List ℕ) → LinksBack previous o (before ++ s ∷ after) → get_or previous s None ≡ last_or o before
back_at previous o [] s after links = links.0
back_at previous o (x ∷ []) s after links = links.1.0
back_at previous o (x ∷ (y ∷ before)) s after links = back_at previous (Some x) (y ∷ before) s after links.1

-- a link of the slot there, if there is one
abbrev pub relink : List (Option ℕ) → Option ℕ → Option ℕ → List (Option ℕ)
relink links None v = links
relink links (Some s) v = set links s v

-- a slot is taken out: the slot behind it links back to the one before it
pub back_out :
    (previous : List (Option ℕ)) (o : Option ℕ) (before : List ℕ) (s : ℕ) (after : List ℕ)
    → NoneTwice (before ++ s ∷ after) → All (λ x. x < length previous) after
    → LinksBack previous o (before ++ s ∷ after)
    → LinksBack (relink previous (first_of after) (get_or previous s None)) o (before ++ after)
back_out previous o [] s [] apart within links = tt
back_out previous o [] s (t ∷ after) apart within links = (
  get_or-set_same previous t (get_or previous s None) None (All-head (λ x. x < length previous) t after within) ∙ links.0,
  back_frame previous (Some t) after t (get_or previous s None) apart.1.0 links.1.1,
)
back_out previous o (x ∷ before) s [] apart within links = (links.0, back_out previous (Some x) before s [] apart.1 within links.1)
back_out previous o (x ∷ before) s (t ∷ after) apart within links =
    let other : t ≢ x = All-contains (λ y. y ≢ x) (before ++ s ∷ t ∷ after) t apart.0 (Contains-append_right before (s ∷ t ∷ after) t (Contains-later s (t ∷ after) t (Contains-here t after))) in (
      get_or-set_other previous t x (get_or previous s None) None (λ e. other (sym e)) ∙ links.0,
      back_out previous (Some x) before s (t ∷ after) apart.1 within links.1,
    )

-- more links do not change the lists
pub chain_more : (next more : List (Option ℕ)) (start : Option ℕ) (xs : List ℕ) → IsChain next start xs → IsChain (next ++ more) start xs
chain_more next more start [] chain = chain
chain_more next more start (s ∷ xs) chain =
    let same : get_or (next ++ more) s None ≡ get_or next s None = get_or_append_left next more None s chain.1 in (
      chain.0,
      omega (arith, length-append next more, chain.1),
      subst (λ (o : Option ℕ). IsChain (next ++ more) o xs) (sym same) (chain_more next more (get_or next s None) xs chain.2),
    )

pub back_more : (previous more : List (Option ℕ)) (o : Option ℕ) (xs : List ℕ) → All (λ s. s < length previous) xs → LinksBack previous o xs → LinksBack (previous ++ more) o xs
back_more previous more o [] within links = tt
back_more previous more o (s ∷ xs) within links = (
  get_or_append_left previous more None s (All-head (λ x. x < length previous) s xs within) ∙ links.0,
  back_more previous more (Some s) xs (All-tail (λ x. x < length previous) s xs within) links.1,
)
