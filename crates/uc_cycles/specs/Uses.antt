-- The defines of a module as the nodes of a graph, by the places of their declarations.
use Rattle.std.specs.Prelude.{◌≡◌, ◌⊎◌, ℕ, suc, ◌<◌, Bool, true, false, ◌&&◌, ◌||◌, nat_eq, cond, List, [], ◌∷◌, length, slice_get, Option, Some, None}
use Rattle.std.specs.List.{list_any}
use Rattle.std.specs.Option.{option_map}
use Rattle.indexmap.specs.IndexMap.{get}
use Rattle.uc_syntax.specs.declared.declaration.Decl.{Decl}
use Rattle.uc_syntax.specs.declared.declaration.Decl.TheVariants.{Function, Define}
use Rattle.uc_syntax.specs.declared.declaration.Module.{Module}
use Rattle.uc_meaning.specs.Lookup.{System, Defined, some_if}
use Rattle.uc_rules.specs.Reads.{define_reads, parameter_names, reads_by}
use Rattle.uc_names.specs.declared.firsts.Firsts.{Firsts}
use Rattle.uc_graph.specs.Order.{has, needs}
use Rattle.uc_cycles.specs.declared.uses.Uses.{Uses}

-- a declaration of a function or a define of a name
abbrev pub calls_name : ℕ → Decl → Bool
calls_name x (Function place i ps type) = nat_eq i.name x
calls_name x (Define place i ps type body) = nat_eq i.name x
calls_name x other = false

-- the place of the first one
unfoldable pub place_of_call : ℕ → List Decl → Option ℕ
place_of_call x [] = None
place_of_call x (d ∷ ds) = cond (calls_name x d) (Some 0) (option_map suc (place_of_call x ds))

abbrev pub KnowsCalls : List Decl → Firsts ℕ → Type 0
KnowsCalls ds t = (x : ℕ) → get nat_eq t.things x ≡ place_of_call x ds

abbrev pub is_place : Option ℕ → ℕ → Bool
is_place None n = false
is_place (Some k) n = nat_eq k n

-- the define that a declaration at a place declares, where it is the first one of its name
abbrev pub first_at : List Decl → ℕ → Option Decl → Option Defined
first_at ds n (Some (Define place i ps type body)) = some_if (is_place (place_of_call i.name ds) n) (record { parameters = ps; type = type; body = body })
first_at ds n other = None

abbrev pub defines_name : ℕ → Option Decl → Bool
defines_name x (Some (Define place i ps type body)) = nat_eq x i.name
defines_name x other = false

-- whether the define that a declaration declares reads state
abbrev pub declared_reads : System → Module → Option Decl → Bool
declared_reads s m (Some (Define place i ps type body)) = define_reads s m i.name
declared_reads s m other = false

abbrev pub reads_at : System → Module → ℕ → Bool
reads_at s m n = declared_reads s m (slice_get m.decls n)

abbrev pub place_in : List ℕ → Option ℕ → Bool
place_in set None = false
place_in set (Some k) = has set k

-- whether what a name applies is declared at one of some places
abbrev pub applies_one : List Decl → List ℕ → ℕ → Bool
applies_one ds set x = place_in set (place_of_call x ds)

-- Places among which are those that read state outside defines, and those that apply one of them.
pub record IsClosed (users : List (List ℕ)) (direct set : List ℕ) : Type 0 where
  pub begun : (n : ℕ) → has direct n ≡ true → has set n ≡ true
  pub followed : (n k : ℕ) → has set n ≡ true → has (needs users n) k ≡ true → has set k ≡ true

-- The first so many declarations are entered: what is entered reads state, and what reads state is entered.
pub record UsesTo (s : System) (m : Module) (u : Uses) (count : ℕ) : Type 0 where
  pub calls_known : KnowsCalls m.decls u.calls
  pub size : length u.users ≡ length m.decls
  pub direct_read : (n : ℕ) → has u.direct n ≡ true → reads_at s m n ≡ true
  pub users_read : (n k : ℕ) → reads_at s m n ≡ true → has (needs u.users n) k ≡ true → reads_at s m k ≡ true
  pub complete : (set : List ℕ) → IsClosed u.users u.direct set → (n : ℕ) → n < count → (d : Defined) → first_at m.decls n (slice_get m.decls n) ≡ Some d →
      reads_by s m (parameter_names d.parameters) (applies_one m.decls set) d.body ≡ true → has set n ≡ true

-- a number is added where this holds
abbrev pub AddsDirect : Bool → ℕ → List ℕ → List ℕ → Type 0
AddsDirect reads number old new = (n : ℕ) → has new n ≡ (has old n || (reads && nat_eq n number))

-- whether one of some names applies what is declared at a place
abbrev pub applied_at : Firsts ℕ → List ℕ → ℕ → Bool
applied_at calls names k = list_any (λ x. is_place (get nat_eq calls.things x) k) names

-- A number is added to the lists of all places that some names apply.
pub record AddsUsers (calls : Firsts ℕ) (names : List ℕ) (number : ℕ) (old new : List (List ℕ)) : Type 0 where
  pub size : length new ≡ length old
  pub kept : (k n : ℕ) → has (needs old k) n ≡ true → has (needs new k) n ≡ true
  pub only : (k n : ℕ) → has (needs new k) n ≡ true → (has (needs old k) n ≡ true) ⊎ ((n ≡ number) × (applied_at calls names k ≡ true))
  pub there : (k : ℕ) → k < length old → applied_at calls names k ≡ true → has (needs new k) number ≡ true
