-- Tables that are made one after another, and what stands at a place among them.
use Rattle.std.proofs.Common.{◌≡◌, ℕ, false, zero, suc, ◌+◌, ◌<◌, ◌≤◌, ⊎_elim, List, [], ◌∷◌, ◌++◌, length, Option, Some, None, refl, ap, ◌∙◌, sym, subst, arith}
use Rattle.std.specs.Prelude.{nat_eq, slice_get, unwrap_or}
use Rattle.std.specs.Option.{option_map}
use Rattle.std.specs.List.{list_any}
use Rattle.indexmap.specs.IndexMap.{get}
use Rattle.std.proofs.lemmas.List.{length-append}
use Rattle.std.proofs.lemmas.Option.{slice_get_cases, slice_get_past}
use Rattle.uc_syntax.specs.declared.declaration.Module.{Module}
use Rattle.uc_meaning.specs.Lookup.{System, first_some}
use Rattle.uc_rules.specs.Names.{Entry as Meant, Sense, as_type, first_fitting, is_entry, names_in, type_named, type_of_module}
use Rattle.uc_names.specs.declared.firsts.Firsts.{Firsts}
use Rattle.uc_names.specs.declared.senses.DeclaredType.{DeclaredType}
use Rattle.uc_names.specs.declared.table.NameTable.{NameTable}
use Rattle.uc_names.specs.Senses.{declared_meant, module_in, no_module}
use Rattle.uc_names.specs.Tables.{Holds}
use Rattle.uc_names.proofs.Forms.{module_missing}
use Rattle.uc_names.specs.declared.numbers.OpaqueNumbers.{OpaqueNumbers}
use Rattle.uc_names.specs.TypeHomesNumbers.{KnowsOpaques}
use Rattle.uc_names.specs.Homes.{AllOf, EachFrom, HoldsNames, HoldsOwn}

-- the tables of the first modules
pub record MadeUpTo {A : Type 0} (P : ℕ → A → Type 0) (xs : List A) (k : ℕ) : Type 0 where
  pub each : EachFrom P 0 xs
  pub count : length xs ≡ k

each_push : {A : Type 0} (P : ℕ → A → Type 0) (k n : ℕ) (xs : List A) (y : A) → EachFrom P k xs → n ≡ k + length xs → P n y → EachFrom P k (xs ++ y ∷ [])
unfolding EachFrom
each_push P k n [] y h at p = let e : n ≡ k = omega (arith, at) in (subst (λ i. P i y) e p, tt)
each_push P k n (x ∷ xs) y h at p = let e : n ≡ k + 1 + length xs = omega (arith, at) in (h.0, each_push P (k + 1) n xs y h.1 e p)

nothing : {A B : Type 0} (y : A) → None ≡ Some y → B
nothing y h = cc

each_at : {A : Type 0} (P : ℕ → A → Type 0) (k n : ℕ) (xs : List A) (i : ℕ) (y : A) → EachFrom P k xs → n ≡ k + i → slice_get xs i ≡ Some y → P n y
unfolding EachFrom
each_at P k n [] i y h at e = nothing y (sym (slice_get_past [] i (omega arith)) ∙ e)
each_at P k n (x ∷ xs) zero y h at e =
    let same : x ≡ y = ap (λ o. unwrap_or o x) e in
    let place : k ≡ n = omega (arith, at) in
    subst (λ z. P n z) same (subst (λ j. P j x) place h.0)
each_at P k n (x ∷ xs) (suc i) y h at e = let place : n ≡ k + 1 + i = omega (arith, at) in each_at P (k + 1) n xs i y h.1 place e

pub made_begin : {A : Type 0} (P : ℕ → A → Type 0) (xs : List A) → xs ≡ [] → MadeUpTo P xs 0
unfolding EachFrom
made_begin P xs e = subst (λ ys. MadeUpTo P ys 0) (sym e) (record { each = tt; count = refl })

pub made_more : {A : Type 0} (P : ℕ → A → Type 0) (xs ys : List A) (k : ℕ) (y : A) → MadeUpTo P xs k → P k y → ys ≡ xs ++ y ∷ [] → MadeUpTo P ys (k + 1)
made_more P xs ys k y held p is =
    let at : k ≡ 0 + length xs = omega (arith, held.count) in
    let count : length (xs ++ y ∷ []) ≡ k + 1 = omega (arith, length-append xs (y ∷ []), held.count) in
    subst (λ zs. MadeUpTo P zs (k + 1)) (sym is) (record { each = each_push P 0 k xs y held.each at p; count = count })

pub made_end : {A : Type 0} (P : ℕ → A → Type 0) (xs : List A) (k count : ℕ) → MadeUpTo P xs k → count ≤ k → AllOf P xs count
made_end P xs k count held past = record { each = held.each; enough = omega (arith, held.count, past) }

pub all_at : {A : Type 0} (P : ℕ → A → Type 0) (xs : List A) (count i : ℕ) (y : A) → AllOf P xs count → slice_get xs i ≡ Some y → P i y
all_at P xs count i y held e = let place : i ≡ 0 + i = omega arith in each_at P 0 i xs i y held.each place e

past : {A : Type 0} (xs : List A) (i : ℕ) → slice_get xs i ≡ None → length xs ≤ i
past xs i e = ⊎_elim (λ h. nothing h.0 (sym e ∙ h.2)) (λ h. h.0) (slice_get_cases xs i).1

-- past the tables there is no module
past_modules : {A : Type 0} (P : ℕ → A → Type 0) (xs : List A) (ms : List Module) (i : ℕ) → AllOf P xs (length ms) → None ≡ slice_get xs i → module_in ms i ≡ no_module
past_modules P xs ms i held none = module_missing ms i (slice_get_past ms i (omega (arith, past xs i (sym none), held.enough)))

no_name : (s : System) (x : ℕ) → None ≡ type_named s no_module x
unfolding names_in first_fitting first_some
no_name s x = refl

no_own : (x : ℕ) → None ≡ type_of_module no_module x
unfolding first_some
no_own x = refl

no_fit : {B : Type 0} (fit : Sense → Option B) (s : System) (x : ℕ) → None ≡ first_fitting fit x (names_in s no_module)
unfolding names_in first_fitting first_some
no_fit fit s x = refl

-- no name of a module that isn't there fits
pub missing_fit : {B : Type 0} (fit : Sense → Option B) (s : System) (names : List NameTable) (i x : ℕ) → AllOf (HoldsNames s) names (length s.modules) → None ≡ slice_get names i →
    None ≡ first_fitting fit x (names_in s (module_in s.modules i))
missing_fit fit s names i x held none = no_fit fit s x ∙ ap (λ m. first_fitting fit x (names_in s m)) (sym (past_modules (HoldsNames s) names s.modules i held none))

none_there : (s : System) (x : ℕ) → false ≡ list_any (is_entry x) (names_in s no_module)
unfolding names_in
none_there s x = refl

pub missing_any : (s : System) (names : List NameTable) (i x : ℕ) → AllOf (HoldsNames s) names (length s.modules) → None ≡ slice_get names i → false ≡ list_any (is_entry x) (names_in s (module_in s.modules i))
missing_any s names i x held none = none_there s x ∙ ap (λ m. list_any (is_entry x) (names_in s m)) (sym (past_modules (HoldsNames s) names s.modules i held none))

-- the table of a module that is there holds its names
pub found_names : (s : System) (names : List NameTable) (i : ℕ) (t : NameTable) → AllOf (HoldsNames s) names (length s.modules) → Some t ≡ slice_get names i → Holds s.modules t (names_in s (module_in s.modules i))
found_names s names i t held there = all_at (HoldsNames s) names (length s.modules) i t held (sym there)

pub missing_name : (s : System) (names : List NameTable) (i x : ℕ) → AllOf (HoldsNames s) names (length s.modules) → None ≡ slice_get names i → None ≡ type_named s (module_in s.modules i) x
missing_name s names i x held none = no_name s x ∙ ap (λ m. type_named s m x) (sym (past_modules (HoldsNames s) names s.modules i held none))

pub found_name : (s : System) (names : List NameTable) (i : ℕ) (t : NameTable) (x : ℕ) (r : Option DeclaredType) → AllOf (HoldsNames s) names (length s.modules) → Some t ≡ slice_get names i →
    ((ms : List Module) (es : List Meant) → Holds ms t es → option_map (declared_meant ms) r ≡ first_fitting as_type x es) → option_map (declared_meant s.modules) r ≡ type_named s (module_in s.modules i) x
found_name s names i t x r held there says =
    says s.modules (names_in s (module_in s.modules i)) (all_at (HoldsNames s) names (length s.modules) i t held (sym there))

pub missing_own : (s : System) (own : List (Firsts DeclaredType)) (i x : ℕ) → AllOf (HoldsOwn s) own (length s.modules) → None ≡ slice_get own i → None ≡ type_of_module (module_in s.modules i) x
missing_own s own i x held none = no_own x ∙ ap (λ m. type_of_module m x) (sym (past_modules (HoldsOwn s) own s.modules i held none))

pub found_own : (s : System) (own : List (Firsts DeclaredType)) (i : ℕ) (t : Firsts DeclaredType) (x : ℕ) (r : Option DeclaredType) → AllOf (HoldsOwn s) own (length s.modules) → Some t ≡ slice_get own i →
    r ≡ get nat_eq t.things x → option_map (declared_meant s.modules) r ≡ type_of_module (module_in s.modules i) x
found_own s own i t x r held there is =
    ap (option_map (declared_meant s.modules)) is ∙ all_at (HoldsOwn s) own (length s.modules) i t held (sym there) x

-- the tables of a design that is the one that was given
pub of_design_names : (s given : System) (names : List NameTable) (count : ℕ) → s ≡ given → count ≡ length given.modules → AllOf (HoldsNames s) names count → AllOf (HoldsNames s) names (length s.modules)
of_design_names s given names count same is held = subst (AllOf (HoldsNames s) names) (is ∙ sym (ap (λ (q : System). length q.modules) same)) held

pub of_design_own : (s given : System) (own : List (Firsts DeclaredType)) (count : ℕ) → s ≡ given → count ≡ length given.modules → AllOf (HoldsOwn s) own count → AllOf (HoldsOwn s) own (length s.modules)
of_design_own s given own count same is held = subst (AllOf (HoldsOwn s) own) (is ∙ sym (ap (λ (q : System). length q.modules) same)) held

pub of_design_opaques : (s given : System) (t : OpaqueNumbers) → s ≡ given → KnowsOpaques given t → KnowsOpaques s t
of_design_opaques s given t same held = subst (λ q. KnowsOpaques q t) (sym same) held
