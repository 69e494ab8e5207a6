-- Names that get back what they stood for before.
use Rattle.std.proofs.Common.{◌≡◌, ℕ, zero, suc, ◌≤◌, List, [], ◌∷◌, ◌++◌, length, refl, sym, ap, ◌∙◌, Option, Some, None, arith}
use Rattle.std.specs.Prelude.{slice_get, slice_set}
use Rattle.uc_flat_expressions.specs.declared.typed.Meant.{Meant}
use Rattle.uc_flat_code.specs.declared.locals.Shadowed.{Shadowed}
use Rattle.uc_flat_code.specs.FlatInitWalk.{aside, undone}

pub set_past : (xs : List Meant) (k : ℕ) (v : Meant) → length xs ≤ k → xs ≡ slice_set xs k v
set_past [] k v h = refl
set_past (x ∷ xs) zero v h = absurd (omega (arith, h))
set_past (x ∷ xs) (suc k) v h = ap (λ ys. x ∷ ys) (set_past xs k v (omega (arith, h)))

-- where nothing is at a place, nothing is set there
pub set_nowhere : (xs : List Meant) (k : ℕ) (v : Meant) → slice_get xs k ≡ None → xs ≡ slice_set xs k v
set_nowhere [] k v h = refl
set_nowhere (x ∷ xs) zero v h = cc
set_nowhere (x ∷ xs) (suc k) v h = ap (λ ys. x ∷ ys) (set_nowhere xs k v h)

set_back : (xs : List Meant) (k : ℕ) (v w : Meant) → slice_get xs k ≡ Some w → slice_set (slice_set xs k v) k w ≡ xs
set_back [] k v w h = refl
set_back (x ∷ xs) zero v w h = ap (λ y. y ∷ xs) (same w x h)
  where
    same : (a b : Meant) → Some b ≡ Some a → a ≡ b
    same a b e = cc
set_back (x ∷ xs) (suc k) v w h = ap (λ ys. x ∷ ys) (set_back xs k v w h)

pub undone_last : (front : List Shadowed) (s : Shadowed) (names : List Meant) → undone (front ++ s ∷ []) names ≡ undone front (slice_set names s.name s.meant)
unfolding undone
undone_last [] s names = refl
undone_last (t ∷ front) s names = ap (λ ns. slice_set ns t.name t.meant) (undone_last front s names)

pub undone_none : (names : List Meant) → undone [] names ≡ names
unfolding undone
undone_none names = refl

nil : (ss : List Shadowed) → ss ++ [] ≡ ss
nil [] = refl
nil (s ∷ ss) = ap (λ ts. s ∷ ts) (nil ss)

undone_aside : (names : List Meant) (shadowed : List Shadowed) (name : ℕ) (meant : Meant) (o : Option Meant) → slice_get names name ≡ o → undone (shadowed ++ aside name o) (slice_set names name meant) ≡ undone shadowed names
undone_aside names shadowed name meant None h =
    ap (λ ss. undone ss (slice_set names name meant)) (nil shadowed) ∙ ap (undone shadowed) (sym (set_nowhere names name meant h))
undone_aside names shadowed name meant (Some before) h =
    undone_last shadowed (record { name = name; meant = before }) (slice_set names name meant) ∙ ap (undone shadowed) (set_back names name meant before h)

-- what a name stood for is put aside, and the name is set
pub undone_more : (names after : List Meant) (shadowed more : List Shadowed) (name : ℕ) (meant : Meant) → more ≡ shadowed ++ aside name (slice_get names name) → after ≡ slice_set names name meant → undone more after ≡ undone shadowed names
undone_more names after shadowed more name meant m a =
    ap (λ ss. undone ss after) m ∙ ap (undone (shadowed ++ aside name (slice_get names name))) a ∙ undone_aside names shadowed name meant (slice_get names name) refl
