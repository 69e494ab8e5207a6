-- The lists of a design, part by part.
use Rattle.std.proofs.Common.{◌≡◌, ℕ, ◌+◌, ◌<◌, ◌≤◌, List, [], ◌∷◌, ◌++◌, map, length, take, get_or, Option, Some, None, refl, ap, ◌∙◌, sym, arith}
use Rattle.std.specs.List.{flat_map, filter_map, cons_option, position_from}
use Rattle.std.specs.Prelude.{nat_eq, ◌&&◌, unwrap_or, slice_get, slice_index_or, Bool, cond}
use Rattle.std.proofs.lemmas.List.{map-append, take_more, take_all}
use Rattle.std.proofs.lemmas.Grind.{flat_map-append}
use Rattle.std.proofs.Common.{length-append}
use Rattle.uc_lexer.specs.declared.place.Place.{Place}
use Rattle.uc_syntax.specs.declared.type_expression.TypeExpr.{TypeExpr}
use Rattle.uc_syntax.specs.declared.declaration.Decl.{Decl}
use Rattle.uc_syntax.specs.declared.declaration.Module.{Module}
use Rattle.uc_syntax.specs.WrittenTypes.{Written, enums_in, enums_of_module, enums_of, labels_of, types_of_module}
use Rattle.uc_syntax.proofs.Added.{append_nil}
use Rattle.uc_meaning.specs.Lookup.{System, same_place}
use Rattle.uc_meaning.specs.Types.{opaque_in, opaque_types_of, opaque_number, enum_number}
use Rattle.uc_meaning.specs.Cells.{as_list}
use Rattle.uc_meaning.proofs.Equations.{map-map}
use Rattle.uc_type_reader.proofs.Picked.{picked_none, picked_some}
use Rattle.uc_type_reader.specs.declared.mentioned.WrittenEnum.{WrittenEnum}
use Rattle.uc_type_reader.specs.declared.mentioned.Mentioned.{Mentioned}
use Rattle.uc_type_reader.specs.Mentioned.{Gains, IsMentioned, enum_written, enums_at, modules_at}
use Rattle.uc_type_reader.specs.Places.{written_enums, enums_in_module, opaque_at, opaques_in, declaration_count}

map_flat : {A B C : Type 0} (g : B → C) (f : A → List B) (xs : List A) → map g (flat_map f xs) ≡ flat_map (λ x. map g (f x)) xs
map_flat g f [] = refl
map_flat g f (x ∷ xs) = map-append g (f x) (flat_map f xs) ∙ ap (λ ys. map g (f x) ++ ys) (map_flat g f xs)

place_of_map : {A B : Type 0} (p : B → Bool) (f : A → B) (k : ℕ) (xs : List A) → position_from p k (map f xs) ≡ position_from (λ x. p (f x)) k xs
place_of_map p f k [] = refl
place_of_map p f k (x ∷ xs) = ap (cond (p (f x)) (Some k)) (place_of_map p f (k + 1) xs)

-- what is gathered of a module
pub mentioned_enums : (m : Module) (found : Mentioned) → IsMentioned m found → found.enums ≡ map enum_written (enums_of_module m)
mentioned_enums m found is = is.enums ∙ sym (map_flat enum_written enums_in (types_of_module m))

pub mentioned_modules : (m : Module) (found : Mentioned) → IsMentioned m found → found.modules ≡ flat_map modules_at (types_of_module m)
mentioned_modules m found is = is.modules

pub module_enums : (m : Module) (found : Mentioned) (before now : List WrittenEnum) → IsMentioned m found → now ≡ before ++ found.enums → now ≡ before ++ enums_in_module m
module_enums m found before now is more = more ∙ ap (λ ys. before ++ ys) (mentioned_enums m found is)

pub all_enums : (modules : List Module) → flat_map enums_in_module modules ≡ written_enums modules
unfolding enums_of
all_enums modules = sym (map_flat enum_written enums_of_module modules)

-- what is there of each element, as a list of one or none
optional_step : {B : Type 0} (o : Option B) (xs ys : List B) → xs ≡ ys → cons_option o xs ≡ as_list o ++ ys
optional_step None xs ys rest = rest
optional_step (Some y) xs ys rest = ap (λ zs. y ∷ zs) rest

optional : {A B : Type 0} (f : A → Option B) (xs : List A) → filter_map f xs ≡ flat_map (λ x. as_list (f x)) xs
optional f [] = refl
optional f (x ∷ xs) = optional_step (f x) (filter_map f xs) (flat_map (λ y. as_list (f y)) xs) (optional f xs)

same_flat : {A B : Type 0} (f g : A → List B) (xs : List A) → ((x : A) → f x ≡ g x) → flat_map f xs ≡ flat_map g xs
same_flat f g xs e = ap (λ h. flat_map h xs) (λ k x. e x k)

pub all_opaques : (s : System) → flat_map opaques_in s.modules ≡ opaque_types_of s
unfolding opaque_types_of
all_opaques s = sym (same_flat _ opaques_in s.modules (λ m. optional (opaque_in m.name) m.decls))

pub count_more : (modules : List Module) (k n : ℕ) (m : Module) → k < length modules → m ≡ get_or modules k m → n ≡ declaration_count (take k modules) →
    n + length m.decls ≡ declaration_count (take (k + 1) modules)
count_more modules k n m within is so_far =
    let step = ap length (ap (flat_map (λ (q : Module). q.decls)) (take_more modules k m within) ∙ flat_map-append (λ (q : Module). q.decls) (take k modules) (get_or modules k m ∷ [])
    ∙ ap (λ ys. flat_map (λ (q : Module). q.decls) (take k modules) ++ ys) (append_nil (get_or modules k m).decls ∙ ap (λ (q : Module). q.decls) (sym is))) in
    let sum = length-append (flat_map (λ (q : Module). q.decls) (take k modules)) m.decls in
    omega (arith, so_far, step, sum)

pub enum_place : (s : System) (p : Place) (enums : List WrittenEnum) → enums ≡ written_enums s.modules →
    unwrap_or (position_from (λ w. same_place p w.place) 0 enums) 0 ≡ enum_number s p
unfolding enum_number
enum_place s p enums is =
    ap (λ o. unwrap_or o 0) (ap (position_from (λ w. same_place p w.place) 0) is ∙ place_of_map (λ w. same_place p w.place) enum_written 0 (enums_of s.modules))

pub enum_count : (modules : List Module) (e : ℕ) (enums : List WrittenEnum) → enums ≡ written_enums modules →
    length (slice_index_or (map (λ w. w.labels) enums) e []) ≡ length (slice_index_or (labels_of modules) e [])
enum_count modules e enums is =
    ap (λ es. length (slice_index_or (map (λ w. w.labels) es) e [])) is ∙ ap (λ ls. length (slice_index_or ls e [])) (map-map (λ w. w.labels) enum_written (enums_of modules))

pub opaque_place : (s : System) (m x : ℕ) (types : List (ℕ × ℕ)) → types ≡ opaque_types_of s →
    unwrap_or (position_from (λ p. nat_eq p.0 m && nat_eq p.1 x) 0 types) 0 ≡ opaque_number s m x
unfolding opaque_number
opaque_place s m x types is = ap (λ o. unwrap_or o 0) (ap (position_from (λ p. nat_eq p.0 m && nat_eq p.1 x) 0) is)

pub no_labels : (xs : List WrittenEnum) (k : ℕ) → None ≡ slice_get xs k → 0 ≡ length (slice_index_or (map (λ w. w.labels) xs) k [])
no_labels xs k none = ap length (picked_none (λ w. w.labels) xs k [] none)

pub some_labels : (xs : List WrittenEnum) (k : ℕ) (w : WrittenEnum) (n : ℕ) → Some w ≡ slice_get xs k → n ≡ length w.labels → n ≡ length (slice_index_or (map (λ x. x.labels) xs) k [])
some_labels xs k w n some is = is ∙ ap length (picked_some (λ x. x.labels) xs k w [] some)
