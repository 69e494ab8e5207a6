-- The types without a definition that declarations name, one declaration at a time.
use Rattle.std.proofs.Common.{◌≡◌, ℕ, ◌≤◌, List, [], ◌∷◌, ◌++◌, length, take, refl, ap, ◌∙◌}
use Rattle.std.specs.Prelude.{Option, Some, None}
use Rattle.std.specs.List.{flat_map, filter_map}
use Rattle.std.proofs.lemmas.List.{take_all}
use Rattle.uc_syntax.specs.declared.declaration.Decl.{Decl}
use Rattle.uc_meaning.specs.Types.{opaque_in}
use Rattle.uc_meaning.specs.Cells.{as_list}

abbrev pub opaque_here : ℕ → Decl → List (ℕ × ℕ)
opaque_here owner decl = as_list (opaque_in owner decl)

by_option : {A : Type 0} (f : Decl → Option A) (o : Option A) (d : Decl) (ds : List Decl) → f d ≡ o → flat_map (λ e. as_list (f e)) ds ≡ filter_map f ds →
    flat_map (λ e. as_list (f e)) (d ∷ ds) ≡ filter_map f (d ∷ ds)
by_option f None d ds e h = rw e h
by_option f (Some x) d ds e h = rw e (ap (λ zs. x ∷ zs) h)

listed : {A : Type 0} (f : Decl → Option A) (ds : List Decl) → flat_map (λ e. as_list (f e)) ds ≡ filter_map f ds
listed f [] = refl
listed f (d ∷ ds) = by_option f (f d) d ds refl (listed f ds)

-- all declarations are read
pub opaque_end : (owner : ℕ) (ds : List Decl) (k : ℕ) (now start : List (ℕ × ℕ)) → length ds ≤ k →
    now ≡ start ++ flat_map (opaque_here owner) (take k ds) → now ≡ start ++ filter_map (opaque_in owner) ds
opaque_end owner ds k now start past h =
    h ∙ ap (λ es. start ++ flat_map (opaque_here owner) es) (take_all k ds past) ∙ ap (λ ts. start ++ ts) (listed (opaque_in owner) ds)
