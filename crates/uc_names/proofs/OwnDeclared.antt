-- The first type of a name among the declarations of a module.
use Rattle.std.proofs.Common.{◌≡◌, ℕ, ◌+◌, ◌<◌, ◌≤◌, Bool, true, false, List, [], ◌∷◌, length, take, get_or, Option, Some, None, refl, ap, ◌∙◌, sym, subst}
use Rattle.std.specs.Prelude.{nat_eq, slice_get}
use Rattle.std.specs.Option.{option_map}
use Rattle.std.proofs.lemmas.List.{take_all}
use Rattle.indexmap.specs.IndexMap.{get}
use Rattle.uc_lexer.specs.declared.place.Place.{Place}
use Rattle.uc_syntax.specs.declared.declaration.Decl.{Decl}
use Rattle.uc_syntax.specs.declared.declaration.Decl.TheVariants.{OpaqueType, TypeAlias}
use Rattle.uc_syntax.specs.declared.declaration.Module.{Module}
use Rattle.uc_meaning.specs.Lookup.{first_some, is_named, or_else, some_if}
use Rattle.uc_meaning.specs.Types.{TypeEntry, Alias, Opaque, type_in}
use Rattle.uc_rules.specs.Names.{only_if, type_of_module}
use Rattle.uc_rules.proofs.Lists.{take_turn}
use Rattle.uc_names.specs.declared.firsts.Firsts.{Firsts}
use Rattle.uc_names.specs.declared.senses.DeclaredType.{DeclaredType}
use Rattle.uc_names.specs.Senses.{declared_meant, entry_at, module_in}
use Rattle.uc_names.specs.Tables.{AreFirst}
use Rattle.uc_names.proofs.FirstEntries.{first_begin, first_more}
use Rattle.uc_names.specs.OwnTypes.{is_name, name_of_type}

pub kept : {B : Type 0} (o : Option B) → o ≡ or_else o None
kept None = refl
kept (Some y) = refl

abbrev pub is_type : ℕ → Decl → Bool
is_type x d = is_name x (name_of_type d)

-- The table has the types of the first declarations.
abbrev pub HasTypes : List Module → ℕ → Firsts DeclaredType → List Decl → Type 0
HasTypes ms home t ds = AreFirst is_type (declared_meant ms) (λ d. Some (module_in ms home, entry_at (Some d))) (get nat_eq t.things) ds

pub types_begin : (ms : List Module) (home : ℕ) (t : Firsts DeclaredType) (ds : List Decl) → ((x : ℕ) → get nat_eq t.things x ≡ None) → HasTypes ms home t (take 0 ds)
types_begin ms home t ds none = first_begin is_type (declared_meant ms) (λ d. Some (module_in ms home, entry_at (Some d))) _ none

pub types_more : (ms : List Module) (home : ℕ) (old new : Firsts DeclaredType) (ds : List Decl) (k : ℕ) (d : Decl) (name : Option ℕ) → HasTypes ms home old (take k ds) →
    ds ≡ (module_in ms home).decls → slice_get (module_in ms home).decls k ≡ Some d → k < length ds → d ≡ get_or ds k d → name ≡ name_of_type d →
    ((x : ℕ) → get nat_eq new.things x ≡ or_else (get nat_eq old.things x) (only_if (is_name x name) (Some (record { home = home; declaration = k })))) → HasTypes ms home new (take (k + 1) ds)
types_more ms home old new ds k d name held same there within at named says =
    subst (HasTypes ms home new) (sym (take_turn ds k d d within at))
    (first_more is_type (declared_meant ms) (λ e. Some (module_in ms home, entry_at (Some e))) _ _ (take k ds) d (Some (record { home = home; declaration = k })) held
    (ap (λ o. Some (module_in ms home, entry_at o)) there)
    (λ x. says x ∙ ap (λ n. or_else (get nat_eq old.things x) (only_if (is_name x n) (Some (record { home = home; declaration = k })))) named))

pairs : Module → Option TypeEntry → Option (Module × TypeEntry)
pairs m o = option_map (λ e. (m, e)) o

one_pair : (m : Module) (b : Bool) (e : TypeEntry) → only_if b (Some (m, e)) ≡ pairs m (some_if b e)
unfolding pairs
one_pair m true e = refl
one_pair m false e = refl

pair_or : (m : Module) (o p : Option TypeEntry) → pairs m (or_else o p) ≡ or_else (pairs m o) (pairs m p)
unfolding pairs
pair_or m None p = refl
pair_or m (Some e) p = refl

one_type : (m : Module) (x : ℕ) (d : Decl) → only_if (is_type x d) (Some (m, entry_at (Some d))) ≡ pairs m (type_in x d)
unfolding pairs
one_type m x (TypeAlias place i type) = one_pair m (nat_eq i.name x) (Alias type)
one_type m x (OpaqueType place i) = one_pair m (nat_eq i.name x) Opaque
one_type m x other = refl

all_types : (m : Module) (x : ℕ) (ds : List Decl) → first_some (λ d. only_if (is_type x d) (Some (m, entry_at (Some d)))) ds ≡ pairs m (first_some (type_in x) ds)
unfolding pairs first_some
all_types m x [] = refl
all_types m x (d ∷ ds) = (λ k. or_else (one_type m x d k) (all_types m x ds k)) ∙ sym (pair_or m (type_in x d) (first_some (type_in x) ds))

pub types_end : (ms : List Module) (home : ℕ) (t : Firsts DeclaredType) (ds : List Decl) (k : ℕ) → HasTypes ms home t (take k ds) → ds ≡ (module_in ms home).decls → length ds ≤ k →
    (x : ℕ) → option_map (declared_meant ms) (get nat_eq t.things x) ≡ type_of_module (module_in ms home) x
unfolding AreFirst pairs
types_end ms home t ds k held same past x =
    held x ∙ ap (first_some (λ d. only_if (is_type x d) (Some (module_in ms home, entry_at (Some d))))) (take_all k ds past ∙ same)
    ∙ all_types (module_in ms home) x (module_in ms home).decls
