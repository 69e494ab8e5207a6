-- Lists whose elements go to the same things.
use Rattle.std.specs.Prelude.{◌≡◌, ℕ, ◌+◌, ◌<◌, false, List, [], ◌∷◌, map, length, get_or}
use Rattle.std.specs.Bool.{Decides}
use Rattle.std.proofs.Common.{refl, sym, ap, ◌∙◌, subst, arith, suc, zero}
use Rattle.std.proofs.Math.ListN.{get_or-map}
use Rattle.std.proofs.lemmas.Bool.{false≢true}
use Rattle.std.proofs.lemmas.List.{length-map, get_or_default}

-- elements of lists of one length go to the same things below a place
abbrev pub AreAlike : {Y : Type 0} → (ℕ → Y) → List ℕ → List ℕ → ℕ → Type 0
AreAlike f xs ys place = (k d : ℕ) → k < place → f (get_or xs k d) ≡ f (get_or ys k d)

pub same_maps : {Y : Type 0} (f : ℕ → Y) (xs ys : List ℕ) → length xs ≡ length ys → AreAlike f xs ys (length xs) → map f xs ≡ map f ys
same_maps f [] [] e h = refl
same_maps f [] (y ∷ ys) e h = absurd (omega (arith, e))
same_maps f (x ∷ xs) [] e h = absurd (omega (arith, e))
same_maps f (x ∷ xs) (y ∷ ys) e h =
    let head : f x ≡ f y = h 0 0 (omega arith) in
    let rest : map f xs ≡ map f ys = same_maps f xs ys (omega (arith, e)) (λ k d l. h (suc k) d (omega (arith, l))) in
    cc

pub same_at : {Y : Type 0} (f : ℕ → Y) (xs ys : List ℕ) (k d : ℕ) → map f xs ≡ map f ys → f (get_or xs k d) ≡ f (get_or ys k d)
same_at f xs ys k d e = sym (get_or-map f xs k d) ∙ ap (λ zs. get_or zs k (f d)) e ∙ get_or-map f ys k d

same_read : {Y : Type 0} (f : ℕ → Y) (xs ys : List ℕ) (k x y : ℕ) → map f xs ≡ map f ys → k < length xs → f (get_or xs k x) ≡ f (get_or ys k y)
same_read f xs ys k x y e l =
    let long : length ys ≡ length xs = sym (length-map ys f) ∙ ap length (sym e) ∙ length-map xs f in
    same_at f xs ys k x e ∙ ap f (get_or_default ys k x y (omega (arith, l, long)))

pub differ_at : {Y : Type 0} (f : ℕ → Y) (xs ys : List ℕ) (k x y : ℕ) (a b : Y) → k < length xs → x ≡ get_or xs k x → y ≡ get_or ys k y → a ≡ f x → b ≡ f y → Decides false (a ≡ b) → map f xs ≡ map f ys → ⊥
differ_at f xs ys k x y a b l ex ey ea eb d e = false≢true (d.1 (ea ∙ ap f ex ∙ same_read f xs ys k x y e l ∙ ap f (sym ey) ∙ sym eb))
