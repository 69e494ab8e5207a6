-- The constants of a design of one module, and their types.
use Rattle.std.proofs.Common.{◌≡◌, ℕ, zero, suc, ◌+◌, List, [], ◌∷◌, ◌++◌, map, length, refl, sym, ap, ◌∙◌, subst, true, false, Bool, Option, Some, None, arith, append-nil, cond, eq-eqb}
use Rattle.std.specs.Prelude.{◌&&◌, ◌||◌, nat_eq, slice_get, unwrap_or}
use Rattle.std.specs.List.{flat_map, position_from}
use Rattle.std.proofs.lemmas.List.{map-append}
use Rattle.std.proofs.lemmas.Option.{slice_get_within}
use Rattle.uc_syntax.specs.declared.place.Identifier.{Identifier}
use Rattle.uc_syntax.specs.declared.type_expression.TypeExpr.{TypeExpr}
use Rattle.uc_syntax.specs.declared.declaration.Decl.{Decl}
use Rattle.uc_syntax.specs.declared.declaration.Decl.TheVariants.{Variables}
use Rattle.uc_syntax.specs.declared.declaration.VariableKind.{VariableKind}
use Rattle.uc_syntax.specs.declared.declaration.VariableKind.TheVariants.{Constant}
use Rattle.uc_syntax.specs.declared.declaration.Module.{Module}
use Rattle.uc_values.specs.declared.ty.Ty.{Ty}
use Rattle.uc_meaning.specs.Lookup.{System, first_some, or_else, names_one, variable_in, variable_of}
use Rattle.uc_meaning.specs.Types.{type_of_written}
use Rattle.uc_meaning.specs.Cells.{ConstantParts, is_symbol, constants_in, constants_of, constant_number}
use Rattle.uc_meaning.proofs.Lists.{position_found, position_past}
use Rattle.uc_flat.proofs.Extending.{slice_get-front, slice_get-back}
use Rattle.uc_flat_design.specs.Names.{StandsAlone, constant_types}
use Rattle.uc_flat_design.proofs.Cells.{not_named, is_named_by}

pub alone_constants : (system : System) (code : Module) → StandsAlone system code → constants_of system ≡ flat_map (constants_in system code) code.decls
unfolding constants_of
alone_constants system code a = ap (flat_map (λ m. flat_map (constants_in system m) m.decls)) a.used ∙ append-nil (flat_map (constants_in system code) code.decls)

abbrev types_in : List ConstantParts → List Ty
types_in cs = map (λ (c : ConstantParts). c.type) cs

abbrev made : ℕ → Ty → Identifier → ConstantParts
made n ty i = record { symbol = record { module_name = n; name = i.name }; type = ty }

abbrev test : ℕ → ℕ → ConstantParts → Bool
test n x c = is_symbol n x c.symbol

tested : (n x : ℕ) (ty : Ty) (i : Identifier) → test n x (made n ty i) ≡ nat_eq i.name x
tested n x ty i = ap (λ b. b && nat_eq i.name x) (eq-eqb n n refl)

-- The first of these constants with a name has this place, counted from another, and this type.
record IsFirst (n x from : ℕ) (cs : List ConstantParts) (ty : Ty) : Type 0 where
  number : ℕ
  found : position_from (test n x) from cs ≡ Some number
  place : ℕ
  is : number ≡ from + place
  type : slice_get (types_in cs) place ≡ Some ty

-- constants of one type
first_named : (n x : ℕ) (ty : Ty) (ids : List Identifier) (from : ℕ) → names_one x ids ≡ true → IsFirst n x from (map (made n ty) ids) ty
first_named n x ty [] from h = absurd (cc)
first_named n x ty (i ∷ ids) from h = by_name (first_named n x ty ids (from + 1)) (nat_eq i.name x) (tested n x ty i) h
  where
    by_name : (names_one x ids ≡ true → IsFirst n x (from + 1) (map (made n ty) ids) ty) → (b : Bool) → test n x (made n ty i) ≡ b → (b || names_one x ids) ≡ true → IsFirst n x from (map (made n ty) (i ∷ ids)) ty
    by_name later true e g = record {
      number = from;
      found = ap (λ b. cond b (Some from) (position_from (test n x) (from + 1) (map (made n ty) ids))) e;
      place = zero;
      is = omega arith;
      type = refl;
    }
    by_name later false e g =
        let f = later g in
        record {
          number = f.number;
          found = ap (λ b. cond b (Some from) (position_from (test n x) (from + 1) (map (made n ty) ids))) e ∙ f.found;
          place = suc f.place;
          is = omega (arith, f.is);
          type = f.type;
        }

none_named : (n x : ℕ) (ty : Ty) (ids : List Identifier) (from : ℕ) → names_one x ids ≡ false → position_from (test n x) from (map (made n ty) ids) ≡ None
none_named n x ty [] from h = refl
none_named n x ty (i ∷ ids) from h = by_name (none_named n x ty ids (from + 1)) (nat_eq i.name x) (tested n x ty i) h
  where
    by_name : (names_one x ids ≡ false → position_from (test n x) (from + 1) (map (made n ty) ids) ≡ None) → (b : Bool) → test n x (made n ty i) ≡ b → (b || names_one x ids) ≡ false
        → cond (test n x (made n ty i)) (Some from) (position_from (test n x) (from + 1) (map (made n ty) ids)) ≡ None
    by_name later true e g = absurd (cc)
    by_name later false e g = ap (λ b. cond b (Some from) (position_from (test n x) (from + 1) (map (made n ty) ids))) e ∙ later g

-- what a declaration says of a name
passes : (system : System) (code : Module) (x : ℕ) (d : Decl) (from : ℕ) → variable_in x d ≡ None → position_from (test code.name x) from (constants_in system code d) ≡ None
passes system code x (Variables place Constant ids type) from h = none_named code.name x (type_of_written system code type) ids from (not_named (names_one x ids) Constant type h)
passes system code x other from h = refl

finds : (system : System) (code : Module) (x : ℕ) (d : Decl) (from : ℕ) (type : TypeExpr) → variable_in x d ≡ Some (Constant, type) → IsFirst code.name x from (constants_in system code d) (type_of_written system code type)
finds system code x (Variables place own ids written) from type e =
    let named = is_named_by (names_one x ids) own Constant written type e in
    let ty = type_of_written system code written in
    subst (λ k. IsFirst code.name x from (constants_in system code (Variables place k ids written)) (type_of_written system code type)) (sym named.1)
    (subst (λ w. IsFirst code.name x from (map (made code.name ty) ids) (type_of_written system code w)) named.2 (first_named code.name x ty ids from named.0))
finds system code x other from type e = absurd (cc)

types_append : (xs ys : List ConstantParts) → types_in (xs ++ ys) ≡ types_in xs ++ types_in ys
types_append xs ys = map-append (λ (c : ConstantParts). c.type) xs ys

length_types : (xs : List ConstantParts) → length (types_in xs) ≡ length xs
length_types [] = refl
length_types (x ∷ xs) = ap suc (length_types xs)

first_in_front : (n x from : ℕ) (xs ys : List ConstantParts) (ty : Ty) → IsFirst n x from xs ty → IsFirst n x from (xs ++ ys) ty
first_in_front n x from xs ys ty a = record {
  number = a.number;
  found = position_found (test n x) from a.number xs ys a.found;
  place = a.place;
  is = a.is;
  type = ap (λ ts. slice_get ts a.place) (types_append xs ys) ∙ slice_get-front (types_in xs) (types_in ys) a.place (slice_get_within (types_in xs) a.place ty a.type) ∙ a.type;
}

first_behind : (n x from : ℕ) (xs ys : List ConstantParts) (ty : Ty) → position_from (test n x) from xs ≡ None → IsFirst n x (from + length xs) ys ty → IsFirst n x from (xs ++ ys) ty
first_behind n x from xs ys ty none a = record {
  number = a.number;
  found = position_past (test n x) from xs ys none ∙ a.found;
  place = length (types_in xs) + a.place;
  is = omega (arith, a.is, length_types xs);
  type = ap (λ ts. slice_get ts (length (types_in xs) + a.place)) (types_append xs ys) ∙ slice_get-back (types_in xs) (types_in ys) a.place ∙ a.type;
}

-- along the declarations
found_in : (system : System) (code : Module) (x : ℕ) (ds : List Decl) (from : ℕ) (type : TypeExpr) → first_some (variable_in x) ds ≡ Some (Constant, type)
    → IsFirst code.name x from (flat_map (constants_in system code) ds) (type_of_written system code type)
unfolding first_some
found_in system code x [] from type e = absurd (cc)
found_in system code x (d ∷ ds) from type e = by_first (λ f g. found_in system code x ds f type g) (variable_in x d) refl
  where
    by_first : ((f : ℕ) → first_some (variable_in x) ds ≡ Some (Constant, type) → IsFirst code.name x f (flat_map (constants_in system code) ds) (type_of_written system code type)) → (o : Option (VariableKind × TypeExpr)) → variable_in x d ≡ o
        → IsFirst code.name x from (constants_in system code d ++ flat_map (constants_in system code) ds) (type_of_written system code type)
    by_first later None q =
        first_behind code.name x from (constants_in system code d) (flat_map (constants_in system code) ds) (type_of_written system code type) (passes system code x d from q)
        (later (from + length (constants_in system code d)) (sym (ap (λ o. or_else o (first_some (variable_in x) ds)) q) ∙ e))
    by_first later (Some v) q =
        let same : Some v ≡ Some (Constant, type) = sym (ap (λ o. or_else o (first_some (variable_in x) ds)) q) ∙ e in
        first_in_front code.name x from (constants_in system code d) (flat_map (constants_in system code) ds) (type_of_written system code type) (finds system code x d from type (q ∙ same))

-- a constant has the type that is declared
pub constant_type : (system : System) (code : Module) (x : ℕ) (type : TypeExpr) → StandsAlone system code → variable_of code x ≡ Some (Constant, type)
    → slice_get (constant_types system) (constant_number system code x) ≡ Some (type_of_written system code type)
unfolding constant_number
constant_type system code x type a e =
    let cs = alone_constants system code a in
    let f = found_in system code x code.decls 0 type e in
    let number : constant_number system code x ≡ f.place = ap (λ ds. unwrap_or (position_from (test code.name x) 0 ds) 0) cs ∙ ap (λ o. unwrap_or o 0) f.found ∙ omega (arith, f.is) in
    ap (slice_get (constant_types system)) number ∙ ap (λ ds. slice_get (types_in ds) f.place) cs ∙ f.type
