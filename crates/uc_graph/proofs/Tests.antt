-- Equations of tests.
use Rattle.std.proofs.Common.{◌≡◌, ℕ, zero, suc, ◌+◌, ◌<◌, Bool, true, false, List, [], ◌∷◌, ◌++◌, length, refl, ap, sym, ◌∙◌, arith, ◌⊎◌, inl, inr}
use Rattle.std.specs.Prelude.{nat_eq, nat_lt, not, ◌&&◌, ◌||◌}
use Rattle.std.proofs.lemmas.List.Folds.{list_any-append}
use Rattle.uc_graph.specs.Order.{has, needs}
use Rattle.uc_graph.specs.Reached.{is_left}

pub nothing : {A : Type 0} → true ≡ false → A
nothing h = cc

pub either_way : (b : Bool) → (b ≡ true) ⊎ (b ≡ false)
either_way true = inl refl
either_way false = inr refl

pub either : (b c : Bool) → (b || c) ≡ true → (b ≡ true) ⊎ (c ≡ true)
either true c h = inl refl
either false c h = inr h

pub or_left : (b c : Bool) → b ≡ true → (b || c) ≡ true
or_left true c h = refl
or_left false c h = nothing (sym h)

pub or_right : (b c : Bool) → c ≡ true → (b || c) ≡ true
or_right true c h = refl
or_right false c h = h

pub or_none : (b : Bool) → (b || false) ≡ b
or_none true = refl
or_none false = refl

pub and_left : (b c : Bool) → (b && c) ≡ true → b ≡ true
and_left true c h = refl
and_left false c h = nothing (sym h)

pub and_right : (b c : Bool) → (b && c) ≡ true → c ≡ true
and_right true c h = h
and_right false c h = nothing (sym h)

pub both : (b c : Bool) → b ≡ true → c ≡ true → (b && c) ≡ true
both true c h k = k
both false c h k = nothing (sym h)

pub and_none : (b : Bool) → (b && false) ≡ false
and_none true = refl
and_none false = refl

pub and_all : (b : Bool) → (b && true) ≡ b
and_all true = refl
and_all false = refl

-- what isn't there stays so
pub false_and : (b c : Bool) → b ≡ false → (b && c) ≡ false
false_and true c h = nothing h
false_and false c h = refl

pub cleared : (b c : Bool) → c ≡ true → (b && not c) ≡ false
cleared b true h = and_none b
cleared b false h = nothing (sym h)

pub not_true : (b : Bool) → not b ≡ true → b ≡ false
not_true true h = nothing (sym h)
not_true false h = refl

pub is_not : (b : Bool) → b ≡ false → not b ≡ true
is_not true h = nothing h
is_not false h = refl

-- what was there and isn't any more was taken
pub was_cleared : (b c : Bool) → (b && not c) ≡ false → b ≡ true → c ≡ true
was_cleared true true e k = refl
was_cleared true false e k = nothing e
was_cleared false c e k = nothing (sym k)

pub two_sets : (b a c : Bool) → (b || (a || c)) ≡ ((b || a) || c)
two_sets true a c = refl
two_sets false a c = refl

pub spread : (a c l : Bool) → ((a || c) && l) ≡ ((a && l) || (c && l))
spread true true true = refl
spread true true false = refl
spread true false true = refl
spread true false false = refl
spread false c l = refl

pub two_clears : (b a c : Bool) → ((b && not a) && not c) ≡ (b && not (a || c))
two_clears true true c = refl
two_clears true false c = refl
two_clears false a c = refl

pub same : (n : ℕ) → nat_eq n n ≡ true
same n = grind arith

pub equal : (n m : ℕ) → nat_eq n m ≡ true → n ≡ m
equal n m h = grind (arith, h)

pub below : (n m : ℕ) → n < m → nat_lt n m ≡ true
below n m h = grind (arith, h)

pub has_append : (a b : List ℕ) (n : ℕ) → has (a ++ b) n ≡ (has a n || has b n)
has_append a b n = list_any-append (nat_eq n) a b

pub has_push : (a : List ℕ) (x n : ℕ) → has (a ++ x ∷ []) n ≡ (has a n || nat_eq n x)
has_push a x n = has_append a (x ∷ []) n ∙ ap (λ b. has a n || b) (or_none (nat_eq n x))

-- a flag that is set is one of the flags
pub flag_within : (bs : List Bool) (n : ℕ) → is_left bs n ≡ true → n < length bs
flag_within [] n h = nothing (sym h)
flag_within (b ∷ bs) zero h = omega arith
flag_within (b ∷ bs) (suc n) h = let l = flag_within bs n h in omega (arith, l)

-- a node with an edge is one of the nodes
pub edge_within : (graph : List (List ℕ)) (x y : ℕ) → has (needs graph x) y ≡ true → x < length graph
edge_within [] x y h = nothing (sym h)
edge_within (u ∷ us) zero y h = omega arith
edge_within (u ∷ us) (suc x) y h = let l = edge_within us x y h in omega (arith, l)
