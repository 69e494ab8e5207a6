-- Which literals one clause more watches.
use Rattle.std.proofs.Common.{◌≡◌, ◌≢◌, ℕ, zero, suc, ◌+◌, ◌<◌, List, [], ◌∷◌, None, Some, length, get_or, take, refl, sym, ◌∙◌, ap, arith}
use Rattle.std.specs.Prelude.{All}
use Rattle.std.proofs.lemmas.List.Elements.{All-head, All-tail}
use Rattle.uc_circuit.specs.declared.literal.Lit.{Lit}
use Rattle.uc_rings.specs.Pairs.{FirstTwo}
use Rattle.uc_rings.specs.Watched.{WatchesFirst}

pub first_two_empty : (clause : List Lit) → length clause ≡ 0 → FirstTwo clause None
first_two_empty [] none = refl
first_two_empty (a ∷ rest) none = absurd (omega arith)

-- all literals are one
pub first_two_none : (clause : List Lit) (f : Lit) → All (λ m. m ≡ f) clause → FirstTwo clause None
first_two_none [] f all = refl
first_two_none (a ∷ []) f all = refl
first_two_none (a ∷ b ∷ rest) f all = λ ne.
    let here : a ≡ f = All-head (λ m. m ≡ f) a (b ∷ rest) all in
    let next : b ≡ f = All-head (λ m. m ≡ f) b rest (All-tail (λ m. m ≡ f) a (b ∷ rest) all) in
    absurd (ne (here ∙ sym next))

-- the first literal that is not the first one
pub first_two_some :
    (clause : List Lit) (f x : Lit) (i : ℕ)
    → get_or clause 0 f ≡ f → All (λ m. m ≡ f) (take i clause) → i < length clause → x ≡ get_or clause i x → (x ≢ f) → FirstTwo clause (Some (f, x))
first_two_some [] f x i front all h is ne = absurd (omega arith)
first_two_some (a ∷ []) f x zero front all h is ne = absurd (ne (is ∙ front))
first_two_some (a ∷ []) f x (suc i) front all h is ne = absurd (omega arith)
first_two_some (a ∷ b ∷ rest) f x zero front all h is ne = absurd (ne (is ∙ front))
first_two_some (a ∷ b ∷ rest) f x (suc zero) front all h is ne = λ _. ap (λ k. Some (k, x)) (sym front) ∙ ap (λ k. Some (a, k)) is
first_two_some (a ∷ b ∷ rest) f x (suc (suc i)) front all h is ne = λ differ.
    let next : b ≡ f = All-head (λ m. m ≡ f) b (take i rest) (All-tail (λ m. m ≡ f) a (b ∷ take i rest) all) in
    absurd (differ (front ∙ sym next))

pub watches_none : (clause : List Lit) → FirstTwo clause None → WatchesFirst clause None None
watches_none [] first = (refl, refl)
watches_none (a ∷ []) first = (refl, refl)
watches_none (a ∷ b ∷ rest) first = λ ne. absurd (let e : None ≡ Some (a, b) = first ne in cc)

pub watches_two : (clause : List Lit) (a b : Lit) → FirstTwo clause (Some (a, b)) → WatchesFirst clause (Some a) (Some b)
watches_two [] a b first = absurd (cc)
watches_two (x ∷ []) a b first = absurd (cc)
watches_two (x ∷ y ∷ rest) a b first = λ ne.
    let e : Some (a, b) ≡ Some (x, y) = first ne in
    let same : (a, b) ≡ (x, y) = cc in (ap (λ (k : Lit × Lit). Some k.0) same, ap (λ (k : Lit × Lit). Some k.1) same)
