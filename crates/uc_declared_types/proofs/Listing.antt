-- Listing the aliases of a design.
use Rattle.std.proofs.Common.{◌≡◌, ◌⊎◌, inl, inr, ⊎_elim, ℕ, ◌+◌, ◌<◌, ◌≤◌, List, [], ◌∷◌, ◌++◌, length, get_or, Option, Some, None, refl, ap, sym, subst, ◌∙◌, arith}
use Rattle.std.specs.Prelude.{slice_get}
use Rattle.std.proofs.lemmas.Option.{slice_get_past, slice_get-get_or}
use Rattle.uc_lexer.specs.declared.place.Place.{Place}
use Rattle.uc_syntax.specs.declared.place.Identifier.{Identifier}
use Rattle.uc_syntax.specs.declared.type_expression.TypeExpr.{TypeExpr}
use Rattle.uc_syntax.specs.declared.declaration.Decl.{Decl}
use Rattle.uc_syntax.specs.declared.declaration.Decl.TheVariants.{TypeAlias}
use Rattle.uc_syntax.specs.declared.declaration.Module.{Module}
use Rattle.uc_meaning.specs.Lookup.{System}
use Rattle.uc_meaning.specs.Types.{TypeEntry, Alias, Opaque}
use Rattle.uc_declared_types.specs.AliasLaw.{IsAmong}
use Rattle.uc_declared_types.proofs.Among.{among_left, among_right}
use Rattle.uc_names.specs.declared.senses.DeclaredType.{DeclaredType}
use Rattle.uc_names.specs.Senses.{entry_at, module_in}
use Rattle.uc_declared_types.specs.Aliases.{HasAlias, HasAliases, IsAliasDeclaration, IsKept, entry_of}
use Rattle.uc_declared_types.proofs.Fixed.{opaque_clash}

pub kept_push : (ds es : List DeclaredType) (d : DeclaredType) → es ≡ ds ++ d ∷ [] → IsKept ds es
kept_push ds es d is e h = subst (IsAmong e) (sym is) (among_left e ds (d ∷ []) h)

pub there_push : (ds es : List DeclaredType) (d : DeclaredType) → es ≡ ds ++ d ∷ [] → IsAmong d es
unfolding IsAmong
there_push ds es d is = subst (IsAmong d) (sym is) (among_right d ds (d ∷ []) (inl refl))

pub kept_same : (ds : List DeclaredType) → IsKept ds ds
kept_same ds e h = h

pub no_alias_declared : {A : Type 0} (d : Decl) → ((place : Place) (i : Identifier) (t : TypeExpr) → d ≡ TypeAlias place i t → ⊥) → IsAliasDeclaration d → A
unfolding IsAliasDeclaration
no_alias_declared (TypeAlias place i t) h k = absurd (h place i t refl)
no_alias_declared other h k = absurd k

declares : (d : Decl) (t : TypeExpr) → entry_at (Some d) ≡ Alias t → IsAliasDeclaration d
unfolding IsAliasDeclaration
declares (TypeAlias place i u) t h = tt
declares other t h = opaque_clash t h

abbrev at : ℕ → ℕ → DeclaredType
at home k = record { home = home; declaration = k }

-- The aliases among the first declarations of a module are listed.
pub record ListedUpTo (s : System) (home : ℕ) (old : List DeclaredType) (k : ℕ) (now : List DeclaredType) : Type 0 where
  pub kept : IsKept old now
  pub there : (j : ℕ) (t : TypeExpr) → j < k → entry_of s (at home j) ≡ Alias t → IsAmong (at home j) now

pub listed_begin : (s : System) (home : ℕ) (old : List DeclaredType) → ListedUpTo s home old 0 old
listed_begin s home old = record { kept = λ e h. h; there = λ j t h e. absurd (omega (arith, h)) }

later : (j k : ℕ) → j < k + 1 → (j < k) ⊎ (j ≡ k)
later j k h = grind (arith, h)

pub listed_more : (s : System) (home : ℕ) (ds : List Decl) (old now new : List DeclaredType) (k : ℕ) (d e : Decl) → ListedUpTo s home old k now → k < length ds → d ≡ get_or ds k e → ds ≡ (module_in s.modules home).decls →
    IsKept now new → (IsAliasDeclaration d → IsAmong (at home k) new) → ListedUpTo s home old (k + 1) new
listed_more s home ds old now new k d e held within is same keeps one = record {
  kept = λ x h. keeps x (held.kept x h);
  there = λ j t h a. ⊎_elim (λ l. keeps (at home j) (held.there j t l a)) (λ l. subst (λ i. IsAmong (at home i) new) (sym l) (one (declares d t (sym (found l) ∙ a)))) (later j k h);
}
  where
    found : {j : ℕ} → j ≡ k → entry_of s (at home j) ≡ entry_at (Some d)
    found {j} l =
        ap (λ i. entry_of s (at home i)) l ∙ ap (λ xs. entry_at (slice_get xs k)) (sym same)
        ∙ ap entry_at (slice_get-get_or ds k e within ∙ ap (λ x. Some x) (sym is))

pub listed_end : (s : System) (home : ℕ) (ds : List Decl) (old now : List DeclaredType) (k : ℕ) → ListedUpTo s home old k now → length ds ≤ k → ds ≡ (module_in s.modules home).decls → HasAlias s home now
listed_end s home ds old now k held past same j t a = by (below j (length ds))
  where
    below : (i n : ℕ) → (i < n) ⊎ (n ≤ i)
    below i n = grind arith

    by : (j < length ds) ⊎ (length ds ≤ j) → IsAmong (at home j) now
    by (inl h) = held.there j t (omega (arith, h, past)) a
    by (inr h) = opaque_clash t (sym (ap (λ xs. entry_at (slice_get xs j)) (sym same) ∙ ap entry_at (slice_get_past ds j h)) ∙ a)

pub modules_begin : (s : System) (ds : List DeclaredType) → HasAliases s 0 ds
unfolding HasAliases
modules_begin s ds home h = absurd (omega (arith, h))

pub modules_more : (s : System) (k : ℕ) (old new : List DeclaredType) → HasAliases s k old → IsKept old new → HasAlias s k new → HasAliases s (k + 1) new
unfolding HasAliases
modules_more s k old new held keeps one home h = λ j t a. ⊎_elim (λ l. keeps (at home j) (held home l j t a)) (λ l. subst (λ i. IsAmong (at i j) new) (sym l) (one j t (sym (ap (λ i. entry_of s (at i j)) l) ∙ a))) (later home k h)

pub modules_end : (s : System) (k count : ℕ) (ds : List DeclaredType) → HasAliases s k ds → count ≤ k → HasAliases s count ds
unfolding HasAliases
modules_end s k count ds held past home h = held home (omega (arith, h, past))
