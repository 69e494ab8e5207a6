-- Where functions and defines are declared.
use Rattle.std.proofs.Common.{◌≡◌, ℕ, zero, suc, ◌+◌, ◌<◌, ◌≤◌, Bool, true, false, List, [], ◌∷◌, ◌++◌, length, take, get_or, Option, Some, None, refl, ap, sym, ◌∙◌, subst, arith}
use Rattle.std.specs.Prelude.{nat_eq, ◌||◌, cond, slice_get, unwrap_or}
use Rattle.std.specs.Option.{option_map}
use Rattle.indexmap.specs.IndexMap.{get}
use Rattle.std.proofs.lemmas.List.{length-take-le, take_all, take_more}
use Rattle.uc_lexer.specs.declared.place.Place.{Place}
use Rattle.uc_syntax.specs.declared.place.Identifier.{Identifier}
use Rattle.uc_syntax.specs.declared.type_expression.Parameter.{Parameter}
use Rattle.uc_syntax.specs.declared.type_expression.TypeExpr.{TypeExpr}
use Rattle.uc_syntax.specs.declared.expression.Expr.{Expr}
use Rattle.uc_syntax.specs.declared.declaration.Decl.{Decl}
use Rattle.uc_syntax.specs.declared.declaration.Decl.TheVariants.{Function, Define}
use Rattle.uc_meaning.specs.Lookup.{Defined, first_some, or_else, some_if}
use Rattle.uc_rules.specs.Names.{Called, CalledFunction, CalledDefine, only_if}
use Rattle.uc_names.specs.declared.firsts.Firsts.{Firsts}
use Rattle.uc_declared_types.specs.WayLaws.{called_in}
use Rattle.uc_cycles.specs.Uses.{KnowsCalls, calls_name, first_at, is_place, place_of_call}
use Rattle.uc_cycles.proofs.Tests.{nothing, equal, same}

-- ---- the table as it is made

one_more : (o : Option ℕ) (b : Bool) (n : ℕ) → option_map suc (or_else o (only_if b (Some n))) ≡ or_else (option_map suc o) (only_if b (Some (suc n)))
one_more None true n = refl
one_more None false n = refl
one_more (Some k) b n = refl

first_or : (b : Bool) (o p : Option ℕ) → cond b (Some 0) (or_else o p) ≡ or_else (cond b (Some 0) o) p
first_or true o p = refl
first_or false o p = refl

one_alone : (b : Bool) → cond b (Some 0) None ≡ only_if {B = ℕ} b (Some 0)
one_alone true = refl
one_alone false = refl

place_push : (x : ℕ) (ds : List Decl) (d : Decl) → place_of_call x (ds ++ d ∷ []) ≡ or_else (place_of_call x ds) (only_if (calls_name x d) (Some (length ds)))
unfolding place_of_call
place_push x [] d = one_alone (calls_name x d)
place_push x (y ∷ ds) d =
    ap (λ o. cond (calls_name x y) (Some 0) (option_map suc o)) (place_push x ds d)
    ∙ ap (cond (calls_name x y) (Some 0)) (one_more (place_of_call x ds) (calls_name x d) (length ds))
    ∙ first_or (calls_name x y) (option_map suc (place_of_call x ds)) (only_if (calls_name x d) (Some (suc (length ds))))

pub calls_begin : (ds : List Decl) (t : Firsts ℕ) → ((x : ℕ) → get nat_eq t.things x ≡ None) → KnowsCalls (take 0 ds) t
unfolding place_of_call
calls_begin ds t none x = none x

pub calls_more : (ds : List Decl) (old new : Firsts ℕ) (k : ℕ) (e d : Decl) → KnowsCalls (take k ds) old → k < length ds → e ≡ get_or ds k d →
    ((x : ℕ) → get nat_eq new.things x ≡ or_else (get nat_eq old.things x) (only_if (calls_name x e) (Some k))) → KnowsCalls (take (k + 1) ds) new
calls_more ds old new k e d held within at says x =
    let n : k ≡ length (take k ds) = omega (arith, length-take-le k ds (omega (arith, within))) in
    says x
    ∙ ap (λ o. or_else o (only_if (calls_name x e) (Some k))) (held x)
    ∙ ap (λ i. or_else (place_of_call x (take k ds)) (only_if (calls_name x e) (Some i))) n
    ∙ sym (place_push x (take k ds) e)
    ∙ sym (ap (place_of_call x) (take_more ds k d within ∙ ap (λ y. take k ds ++ y ∷ []) (sym at)))

pub calls_end : (ds : List Decl) (t : Firsts ℕ) (k : ℕ) → KnowsCalls (take k ds) t → length ds ≤ k → KnowsCalls ds t
calls_end ds t k held past = subst (λ xs. KnowsCalls xs t) (take_all k ds past) held

-- ---- what stands where a name is first

abbrev OfName : ℕ → Decl → Type 0
OfName x d = calls_name x d ≡ true

-- what is declared at the place of a name
pub record Standing (x : ℕ) (ds : List Decl) (k : ℕ) : Type 0 where
  pub declared : Decl
  pub there : slice_get ds k ≡ Some declared
  pub named : calls_name x declared ≡ true
  pub says : first_some (called_in x) ds ≡ called_in x declared

some_suc : (o : Option ℕ) (k : ℕ) → option_map suc o ≡ Some k → (j : ℕ) × (o ≡ Some j) × (k ≡ suc j)
some_suc None k h = cc
some_suc (Some j) k h = (j, refl, ap (λ o. unwrap_or o 0) (sym h))

says_first : (x : ℕ) (d : Decl) (o : Option Called) → calls_name x d ≡ true → or_else (called_in x d) o ≡ called_in x d
says_first x (Function place i ps type) o h = some_first (nat_eq i.name x) (CalledFunction (record { parameters = ps; type = type })) o h
  where
    some_first : (b : Bool) (c : Called) (o : Option Called) → b ≡ true → or_else (some_if b c) o ≡ some_if b c
    some_first true c o h = refl
    some_first false c o h = nothing (sym h)
says_first x (Define place i ps type body) o h = some_first (nat_eq i.name x) (CalledDefine (record { parameters = ps; type = type; body = body })) o h
  where
    some_first : (b : Bool) (c : Called) (o : Option Called) → b ≡ true → or_else (some_if b c) o ≡ some_if b c
    some_first true c o h = refl
    some_first false c o h = nothing (sym h)
says_first x other o h = nothing (sym h)

says_none : (x : ℕ) (d : Decl) → calls_name x d ≡ false → called_in x d ≡ None
says_none x (Function place i ps type) h = ap (λ b. some_if b (CalledFunction (record { parameters = ps; type = type }))) h
says_none x (Define place i ps type body) h = ap (λ b. some_if b (CalledDefine (record { parameters = ps; type = type; body = body }))) h
says_none x other h = refl

abbrev Stands : ℕ → List Decl → Type 0
Stands x ds = (k : ℕ) → place_of_call x ds ≡ Some k → Standing x ds k

stands_more : (x : ℕ) (d : Decl) (ds : List Decl) → Stands x ds → (k : ℕ) (b : Bool) → calls_name x d ≡ b → cond b (Some 0) (option_map suc (place_of_call x ds)) ≡ Some k → Standing x (d ∷ ds) k
unfolding first_some
stands_more x d ds more zero true is h = record { declared = d; there = refl; named = is; says = says_first x d (first_some (called_in x) ds) is }
stands_more x d ds more (suc k) true is h = nothing (no_place k h)
  where
    no_place : (k : ℕ) → Some 0 ≡ Some (suc k) → true ≡ false
    no_place k h = let e : 0 ≡ suc k = ap (λ o. unwrap_or o 0) h in absurd (omega (arith, e))
stands_more x d ds more k false is h =
    let s = some_suc (place_of_call x ds) k h in
    let r = more s.0 s.1 in
    subst (Standing x (d ∷ ds)) (sym s.2)
    (record { declared = r.declared; there = r.there; named = r.named; says = ap (λ o. or_else o (first_some (called_in x) ds)) (says_none x d is) ∙ r.says })

pub stands : (x : ℕ) (ds : List Decl) → Stands x ds
unfolding place_of_call
stands x [] k h = cc
stands x (d ∷ ds) k h = stands_more x d ds (stands x ds) k (calls_name x d) refl h

none_suc : (o : Option ℕ) → option_map suc o ≡ None → o ≡ None
none_suc None h = refl
none_suc (Some k) h = cc

missing_more : (x : ℕ) (d : Decl) (ds : List Decl) → (place_of_call x ds ≡ None → first_some (called_in x) ds ≡ None) → (b : Bool) → calls_name x d ≡ b → cond b (Some 0) (option_map suc (place_of_call x ds)) ≡ None →
    first_some (called_in x) (d ∷ ds) ≡ None
unfolding first_some
missing_more x d ds more true is h = cc
missing_more x d ds more false is h = ap (λ o. or_else o (first_some (called_in x) ds)) (says_none x d is) ∙ more (none_suc (place_of_call x ds) h)

-- a name that no declaration has
pub missing : (x : ℕ) (ds : List Decl) → place_of_call x ds ≡ None → first_some (called_in x) ds ≡ None
unfolding place_of_call first_some
missing x [] h = refl
missing x (d ∷ ds) h = missing_more x d ds (missing x ds) (calls_name x d) refl h

pub is_place_of : (o : Option ℕ) (n : ℕ) → is_place o n ≡ true → o ≡ Some n
is_place_of None n h = nothing (sym h)
is_place_of (Some k) n h = ap (λ j. Some j) (equal k n h)

pub place_is : (o : Option ℕ) (n : ℕ) → o ≡ Some n → is_place o n ≡ true
place_is o n h = ap (λ p. is_place p n) h ∙ same n

if_some : (b : Bool) (d e : Defined) → some_if b d ≡ Some e → (b ≡ true) × (d ≡ e)
if_some true d e h = (refl, ap (λ o. unwrap_or o d) h)
if_some false d e h = cc

-- The first define of its name that stands at a place.
pub record First (ds : List Decl) (n : ℕ) (d : Defined) (o : Option Decl) : Type 0 where
  pub place : Place
  pub name : Identifier
  pub is : o ≡ Some (Define place name d.parameters d.type d.body)
  pub first : place_of_call name.name ds ≡ Some n

pub first_is : (ds : List Decl) (n : ℕ) (d : Defined) (o : Option Decl) → first_at ds n o ≡ Some d → First ds n d o
first_is ds n d None h = cc
first_is ds n d (Some (Define place i ps type body)) h =
    let r = if_some (is_place (place_of_call i.name ds) n) (record { parameters = ps; type = type; body = body }) d h in
    record { place = place; name = i; is = ap (λ (e : Defined). Some (Define place i e.parameters e.type e.body)) r.1; first = is_place_of (place_of_call i.name ds) n r.0 }
first_is ds n d (Some other) h = cc

-- and back
pub is_first : (ds : List Decl) (n : ℕ) (d : Defined) (o : Option Decl) → First ds n d o → first_at ds n o ≡ Some d
is_first ds n d o f = ap (first_at ds n) f.is ∙ ap (λ b. some_if b d) (place_is (place_of_call f.name.name ds) n f.first)
