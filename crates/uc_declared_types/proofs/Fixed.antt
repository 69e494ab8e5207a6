-- A table that knows no more than what aliases stand for, and to which nothing can be added, knows all of it.
use Rattle.std.proofs.Common.{◌≡◌, ◌⊎◌, inl, inr, ⊎_elim, ℕ, zero, suc, ◌+◌, ◌<◌, ◌≤◌, Bool, true, false, List, [], ◌∷◌, ◌++◌, length, Option, Some, None, refl, ap, sym, subst, ◌∙◌, arith}
use Rattle.std.specs.Prelude.{slice_get, unwrap_or}
use Rattle.std.proofs.lemmas.Option.{slice_get_cases, slice_get_past}
use Rattle.uc_lexer.specs.declared.place.Place.{Place}
use Rattle.uc_syntax.specs.declared.place.Identifier.{Identifier}
use Rattle.std.specs.Option.{is_some}
use Rattle.uc_syntax.specs.declared.type_expression.TypeExpr.{TypeExpr}
use Rattle.uc_syntax.specs.declared.declaration.Decl.{Decl}
use Rattle.uc_syntax.specs.declared.declaration.Decl.TheVariants.{TypeAlias}
use Rattle.uc_syntax.specs.declared.declaration.Module.{Module}
use Rattle.uc_values.specs.declared.ty.Ty.{Ty}
use Rattle.uc_meaning.specs.Lookup.{System}
use Rattle.uc_meaning.specs.Types.{TypeEntry, Alias, Opaque}
use Rattle.uc_rules.specs.Types.{Aliases, found_by, longest_alias, type_faults, type_found, type_of, type_through}
use Rattle.uc_rules.specs.declared.fault.Fault.{Fault}
use Rattle.uc_rules.specs.Faults.{first_of}
use Rattle.uc_declared_types.specs.AliasLaw.{IsAmong, alias_in, aliases_of, aliases_of_module}
use Rattle.uc_declared_types.proofs.Among.{among_back}
use Rattle.uc_declared_types.proofs.Growing.{Refines, types_refine}
use Rattle.uc_declared_types.proofs.Declared.{alias_declared}
use Rattle.uc_declared_types.proofs.Stable.{alias_read}
use Rattle.uc_names.specs.declared.senses.DeclaredType.{DeclaredType}
use Rattle.uc_names.specs.Senses.{entry_at, module_in, no_module}
use Rattle.uc_names.proofs.Forms.{module_found, module_missing}
use Rattle.uc_declared_types.specs.declared.aliases.AliasTypes.{AliasTypes}
use Rattle.uc_declared_types.specs.Aliases.{Above, Agrees, Below, Follows, HasAliases, IsSettled, IsStuck, KnowsAliases, Related, Same, Side, entry_of, read_to_end, type_at}
use Rattle.uc_declared_types.proofs.Sides.{nothing}

among_at : {A : Type 0} (xs : List A) (k : ℕ) (x : A) → slice_get xs k ≡ Some x → IsAmong x xs
unfolding IsAmong
among_at [] k x e = nothing x (sym (slice_get_past [] k (omega arith)) ∙ e)
among_at (y ∷ xs) zero x e = inl (sym (ap (λ o. unwrap_or o y) e))
among_at (y ∷ xs) (suc k) x e = inr (among_at xs k x e)

pub opaque_clash : {A : Type 0} (t : TypeExpr) → Opaque ≡ Alias t → A
opaque_clash t h = cc

pub same_alias : (t u : TypeExpr) → Alias t ≡ Alias u → t ≡ u
same_alias t u h = cc

-- an alias is one of the declarations of its module
alias_at : (ds : List Decl) (k : ℕ) (t : TypeExpr) → entry_at (slice_get ds k) ≡ Alias t → (p : Place) × (i : Identifier) × IsAmong (TypeAlias p i t) ds
alias_at ds k t h = by (slice_get ds k) refl h
  where
    by : (o : Option Decl) → slice_get ds k ≡ o → entry_at o ≡ Alias t → (p : Place) × (i : Identifier) × IsAmong (TypeAlias p i t) ds
    by None e g = opaque_clash t g
    by (Some (TypeAlias p i u)) e g = (p, i, subst (λ z. IsAmong (TypeAlias p i z) ds) (same_alias u t g) (among_at ds k (TypeAlias p i u) e))
    by (Some other) e g = opaque_clash t g

no_alias : {A : Type 0} (m : Module) (k : ℕ) (t : TypeExpr) → m ≡ no_module → entry_at (slice_get m.decls k) ≡ Alias t → A
no_alias m k t is h = opaque_clash t (sym (ap entry_at (ap (λ (n : Module). slice_get n.decls k) is ∙ slice_get_past [] k (omega arith))) ∙ h)

-- the module of an alias is there
home_at : (s : System) (d : DeclaredType) (t : TypeExpr) → entry_of s d ≡ Alias t → (d.home < length s.modules) × IsAmong (module_in s.modules d.home) s.modules
home_at s d t h =
    ⊎_elim
    (λ w. (w.1, subst (λ m. IsAmong m s.modules) (sym (module_found s.modules d.home w.0 w.2)) (among_at s.modules d.home w.0 w.2)))
    (λ w. no_alias (module_in s.modules d.home) d.declaration t (module_missing s.modules d.home w.1) h)
    (slice_get_cases s.modules d.home).1

alias_among : (s : System) (d : DeclaredType) (t : TypeExpr) → entry_of s d ≡ Alias t → IsAmong (module_in s.modules d.home, t) (aliases_of s)
alias_among s d t h =
    let a = alias_at (module_in s.modules d.home).decls d.declaration t h in
    alias_declared s (module_in s.modules d.home) a.0 a.1 t (home_at s d t h).1 a.2

-- ---- what is known through some aliases

home_of_alias : (m n : Module) (type : TypeExpr) (d : Decl) → IsAmong (m, type) (alias_in n d) → m ≡ n
unfolding IsAmong
home_of_alias m n type (TypeAlias place i t) h = ⊎_elim (λ e. ap (λ (p : Module × TypeExpr). p.0) e) (λ x. absurd x) h
home_of_alias m n type other h = absurd h

home_there : (s : System) (m : Module) (type : TypeExpr) → IsAmong (m, type) (aliases_of s) → IsAmong m s.modules
home_there s m type h =
    let a = among_back aliases_of_module (m, type) s.modules h in
    let b = among_back (alias_in a.0) (m, type) a.0.decls a.2 in
    subst (λ x. IsAmong x s.modules) (sym (home_of_alias m a.0 type b.0 b.2)) a.1

read_found : (s : System) (m : Module) (t : TypeExpr) → type_of s m t ≡ (found_by s (read_to_end s) m t).type
unfolding type_found
read_found s m t = refl

-- an alias stands for what its written type stands for
pub alias_found : (s : System) (d : DeclaredType) (t : TypeExpr) → entry_of s d ≡ Alias t → read_to_end s (module_in s.modules d.home) t ≡ (found_by s (read_to_end s) (module_in s.modules d.home) t).type
alias_found s d t h = alias_read s (module_in s.modules d.home) t (alias_among s d t h) ∙ read_found s (module_in s.modules d.home) t

refines_end : (s : System) (n : ℕ) (m : Module) (t : TypeExpr) → IsAmong (m, t) (aliases_of s) → Refines (type_through n s m t) (read_to_end s m t)
unfolding type_through Refines
refines_end s zero m t h = tt
refines_end s (suc n) m t h =
    subst (λ z. Refines (type_through (suc n) s m t) z) (sym (alias_read s m t h ∙ read_found s m t))
    (types_refine s (type_through n s) (read_to_end s) (refines_end s n) t m (home_there s m t h))

refines_at : {A : Type 0} (o p : Option A) (x : A) → Refines o p → o ≡ Some x → p ≡ Some x
unfolding Refines
refines_at None p x h e = nothing x e
refines_at (Some y) p x h e = h ∙ e

known_one : {A : Type 0} (o : Option A) → is_some o ≡ true → (x : A) × (o ≡ Some x)
known_one None h = cc
known_one (Some x) h = (x, refl)

both : {A : Type 0} (o p : Option A) → Follows o p → Follows p o → o ≡ p
both None None h k = refl
both None (Some x) h k = k x refl
both (Some x) p h k = sym (h x refl)

level : (n : ℕ) (s : System) (m : Module) (t : TypeExpr) → type_through (suc n) s m t ≡ (found_by s (type_through n s) m t).type
unfolding type_through
level n s m t = refl

none_level : (s : System) (m : Module) (t : TypeExpr) → type_through zero s m t ≡ None
unfolding type_through
none_level s m t = refl

module _ (s : System) (table : AliasTypes) (below : Agrees Below s table (read_to_end s)) (fixed : (d : DeclaredType) → IsSettled s table d ⊎ IsStuck s table d) where
  settled_up : (n : ℕ) (d : DeclaredType) (t : TypeExpr) → entry_of s d ≡ Alias t → IsSettled s table d → Follows (type_through n s (module_in s.modules d.home) t) (type_at table d)
  unfolding Agrees Related
  settled_up n d t e settled = λ x h.
      let k = known_one (type_at table d) (settled t e) in
      k.1 ∙ sym (below d t e k.0 k.1) ∙ refines_at (type_through n s (module_in s.modules d.home) t) (read_to_end s (module_in s.modules d.home) t) x (refines_end s n (module_in s.modules d.home) t (alias_among s d t e)) h

  stuck_up : (n : ℕ) (d : DeclaredType) (t : TypeExpr) → entry_of s d ≡ Alias t → Agrees Above s table (type_through n s) → IsStuck s table d → Follows (type_through (suc n) s (module_in s.modules d.home) t) (type_at table d)
  unfolding IsStuck
  stuck_up n d t e above stuck = λ x h. nothing x (sym (level n s (module_in s.modules d.home) t ∙ stuck (type_through n s) t above e) ∙ h)

  -- through some aliases no more is known than the table knows
  up : (n : ℕ) → Agrees Above s table (type_through n s)
  unfolding Agrees Related
  up zero d t e = λ x h. nothing x (sym (none_level s (module_in s.modules d.home) t) ∙ h)
  up (suc n) d t e = ⊎_elim (λ settled. settled_up (suc n) d t e settled) (λ stuck. stuck_up n d t e (up n) stuck) (fixed d)

  pub all_known : KnowsAliases s table
  unfolding Agrees Related
  all_known d t e = both (type_at table d) (read_to_end s (module_in s.modules d.home) t) (below d t e) (up (longest_alias s) d t e)

-- an alias of the design is in a list of all of them
pub covered : (s : System) (table : AliasTypes) (count : ℕ) (ds : List DeclaredType) → HasAliases s count ds → length s.modules ≤ count → (d : DeclaredType) → IsSettled s table d ⊎ IsAmong d ds
unfolding HasAliases
covered s table count ds has all d = by (entry_of s d) refl
  where
    by : (e : TypeEntry) → entry_of s d ≡ e → IsSettled s table d ⊎ IsAmong d ds
    by (Alias t) e = inr (has d.home (omega (arith, (home_at s d t e).0, all)) d.declaration t e)
    by Opaque e = inl (λ t h. opaque_clash t (sym e ∙ h))

-- where all aliases are known, what is found of a written type is what the rules say of it
pub same_type : (s : System) (table : AliasTypes) (m : Module) (ty : TypeExpr) (t : Option Ty) → KnowsAliases s table → ((side : Side) (alias : Aliases) → Agrees side s table alias → Related side t (found_by s alias m ty).type) → t ≡ type_of s m ty
unfolding Related type_found
same_type s table m ty t known found = found Same (read_to_end s) known

pub same_faults : (s : System) (table : AliasTypes) (m : Module) (ty : TypeExpr) (old new : Option Fault) → KnowsAliases s table → ((alias : Aliases) → Agrees Same s table alias → new ≡ first_of old (found_by s alias m ty).faults) →
    new ≡ first_of old (type_faults s m ty)
unfolding type_found
same_faults s table m ty old new known found = found (read_to_end s) known
