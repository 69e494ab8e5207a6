-- The cells of a design of one module, and their types.
use Rattle.std.proofs.Common.{◌≡◌, ℕ, zero, suc, ◌+◌, ◌<◌, List, [], ◌∷◌, ◌++◌, map, length, refl, sym, ap, ◌∙◌, subst, true, false, Bool, Option, Some, None, arith, append-nil, cond, eq-eqb}
use Rattle.std.specs.Prelude.{◌&&◌, ◌||◌, nat_eq, slice_get, is_some}
use Rattle.std.proofs.lemmas.List.{map-append, length-map}
use Rattle.std.specs.List.{flat_map, filter, list_any, position_from}
use Rattle.uc_lexer.specs.declared.place.Place.{Place}
use Rattle.uc_syntax.specs.declared.place.Identifier.{Identifier}
use Rattle.uc_syntax.specs.declared.type_expression.TypeExpr.{TypeExpr}
use Rattle.uc_syntax.specs.declared.declaration.Decl.{Decl}
use Rattle.uc_syntax.specs.declared.declaration.Decl.TheVariants.{Variables}
use Rattle.uc_syntax.specs.declared.declaration.VariableKind.{VariableKind}
use Rattle.uc_syntax.specs.declared.declaration.VariableKind.TheVariants.{Variable, Input, Output, Constant}
use Rattle.uc_syntax.specs.declared.declaration.Module.{Module}
use Rattle.uc_values.specs.declared.ty.Ty.{Ty}
use Rattle.uc_meaning.specs.Lookup.{System, main_module, instances_of, bound_to, first_some, or_else, some_if, names_one, variable_in, variable_of}
use Rattle.uc_meaning.specs.Types.{type_of_written}
use Rattle.uc_meaning.specs.Cells.{longest_chain, as_list, same_path, module_of_instance, InstanceAt, main_instance, instances, instances_from, modules_in_use, Cell, cells_in, cells_of, cell_of}
use Rattle.uc_meaning.proofs.Lists.{position_found, position_past}
use Rattle.uc_flat.proofs.Extending.{slice_get-front, slice_get-back}
use Rattle.uc_flat_design.specs.Names.{StandsAlone, types_of}

instances_are : (system : System) (code : Module) → main_module system ≡ Some code → instances_of code ≡ [] → instances system ≡ main_instance code ∷ []
unfolding instances instances_from
instances_are system code main none =
    ap (λ m. flat_map (λ n. instances_from longest_chain system (main_instance n)) (as_list m)) main
    ∙ append-nil (instances_from longest_chain system (main_instance code))
    ∙ ap (λ is. main_instance code ∷ flat_map (instances_from 31 system) (flat_map (λ i. map (λ m. record { path = i.name ∷ []; code = m; is_bound = λ x. is_some (bound_to i x) }) (module_of_instance system i)) is)) none

pub alone_instances : (system : System) (code : Module) → StandsAlone system code → instances system ≡ main_instance code ∷ []
alone_instances system code a = instances_are system code a.main a.alone

-- the one module is in use
only_used : (system : System) (code : Module) → system.modules ≡ code ∷ [] → main_module system ≡ Some code → instances_of code ≡ [] → modules_in_use system ≡ code ∷ []
unfolding modules_in_use
only_used system code only main none =
    let same : nat_eq code.name code.name ≡ true = eq-eqb code.name code.name refl in
    ap (λ is. filter (λ (m : Module). list_any (λ (i : InstanceAt). nat_eq i.code.name m.name) is) system.modules) (instances_are system code main none)
    ∙ ap (filter (λ (m : Module). list_any (λ (i : InstanceAt). nat_eq i.code.name m.name) (main_instance code ∷ []))) only
    ∙ ap (λ b. cond (b || false) (code ∷ []) []) same

-- a design of one module, without instances
pub stands_alone : (system : System) (code : Module) → system.modules ≡ code ∷ [] → system.main ≡ 0 → instances_of code ≡ [] → StandsAlone system code
stands_alone system code only first none =
    let main : main_module system ≡ Some code = ap (slice_get system.modules) first ∙ ap (λ (ms : List Module). slice_get ms 0) only in
    record { main = main; used = only_used system code only main none; alone = none }

pub alone_cells : (system : System) (code : Module) → StandsAlone system code → cells_of system ≡ flat_map (cells_in system (main_instance code)) code.decls
unfolding cells_of
alone_cells system code a =
    ap (flat_map (λ here. flat_map (cells_in system here) here.code.decls)) (alone_instances system code a) ∙ append-nil (flat_map (cells_in system (main_instance code)) code.decls)

abbrev test : ℕ → Cell → Bool
test x c = same_path c.path [] && nat_eq c.name x

abbrev made : VariableKind → Ty → Identifier → Cell
made kind ty i = record { path = []; name = i.name; kind = kind; type = ty }

abbrev types_in : List Cell → List Ty
types_in cells = map (λ (c : Cell). c.type) cells

pub some_nat : (a b : ℕ) → Some a ≡ Some b → a ≡ b
some_nat a b h = cc

none_some : (a : ℕ) → None ≡ Some a → ⊥
none_some a h = cc

-- A cell of this type stands at a place of these cells, counted from another.
record IsAt (from j : ℕ) (cells : List Cell) (ty : Ty) : Type 0 where
  place : ℕ
  is : j ≡ from + place
  type : slice_get (types_in cells) place ≡ Some ty

at_next : (from j : ℕ) (c : Cell) (cells : List Cell) (ty : Ty) → IsAt (from + 1) j cells ty → IsAt from j (c ∷ cells) ty
at_next from j c cells ty a = record { place = suc a.place; is = omega (arith, a.is); type = a.type }

-- cells of one type
one_type : (x : ℕ) (kind : VariableKind) (ty : Ty) (ids : List Identifier) (from j : ℕ) → position_from (test x) from (map (made kind ty) ids) ≡ Some j → IsAt from j (map (made kind ty) ids) ty
unfolding same_path
one_type x kind ty [] from j h = absurd (none_some j h)
one_type x kind ty (i ∷ ids) from j h = by_name (one_type x kind ty ids (from + 1) j) (nat_eq i.name x) h
  where
    by_name : (position_from (test x) (from + 1) (map (made kind ty) ids) ≡ Some j → IsAt (from + 1) j (map (made kind ty) ids) ty) → (b : Bool)
        → cond b (Some from) (position_from (test x) (from + 1) (map (made kind ty) ids)) ≡ Some j → IsAt from j (map (made kind ty) (i ∷ ids)) ty
    by_name later true e = record { place = zero; is = omega (arith, some_nat from j e); type = refl }
    by_name later false e = at_next from j (made kind ty i) (map (made kind ty) ids) ty (later e)

-- none of them has another name
no_name : (x : ℕ) (kind : VariableKind) (ty : Ty) (ids : List Identifier) (from : ℕ) → names_one x ids ≡ false → position_from (test x) from (map (made kind ty) ids) ≡ None
unfolding same_path
no_name x kind ty [] from h = refl
no_name x kind ty (i ∷ ids) from h = by_name (no_name x kind ty ids (from + 1)) (nat_eq i.name x) h
  where
    by_name : (names_one x ids ≡ false → position_from (test x) (from + 1) (map (made kind ty) ids) ≡ None) → (b : Bool) → (b || names_one x ids) ≡ false
        → cond b (Some from) (position_from (test x) (from + 1) (map (made kind ty) ids)) ≡ None
    by_name later true e = absurd (cc)
    by_name later false e = later e

-- one of them has the name
has_name : (x : ℕ) (kind : VariableKind) (ty : Ty) (ids : List Identifier) (from : ℕ) → names_one x ids ≡ true → position_from (test x) from (map (made kind ty) ids) ≡ None → ⊥
unfolding same_path
has_name x kind ty [] from h e = cc
has_name x kind ty (i ∷ ids) from h e = by_name (has_name x kind ty ids (from + 1)) (nat_eq i.name x) h e
  where
    by_name : (names_one x ids ≡ true → position_from (test x) (from + 1) (map (made kind ty) ids) ≡ None → ⊥) → (b : Bool) → (b || names_one x ids) ≡ true
        → cond b (Some from) (position_from (test x) (from + 1) (map (made kind ty) ids)) ≡ None → ⊥
    by_name later true g f = cc
    by_name later false g f = later g f

all_kept : (ids : List Identifier) → filter (λ (i : Identifier). true) ids ≡ ids
all_kept [] = refl
all_kept (i ∷ ids) = ap (λ js. i ∷ js) (all_kept ids)

none_kept : (ids : List Identifier) → filter (λ (i : Identifier). false) ids ≡ []
none_kept [] = refl
none_kept (i ∷ ids) = none_kept ids

abbrev own_cells : System → Module → Decl → List Cell
own_cells system code d = cells_in system (main_instance code) d

-- a kind that has cells
abbrev pub HasCells : VariableKind → Type 0
HasCells Constant = ⊥
HasCells other = Unit {0}

cells_are : (system : System) (code : Module) (place : Place) (kind : VariableKind) (ids : List Identifier) (type : TypeExpr) → HasCells kind
    → own_cells system code (Variables place kind ids type) ≡ map (made kind (type_of_written system code type)) ids
cells_are system code place Variable ids type h = ap (map (made Variable (type_of_written system code type))) (all_kept ids)
cells_are system code place Input ids type h = ap (map (made Input (type_of_written system code type))) (all_kept ids)
cells_are system code place Output ids type h = ap (map (made Output (type_of_written system code type))) (all_kept ids)
cells_are system code place Constant ids type h = absurd h

no_cells : (system : System) (code : Module) (place : Place) (ids : List Identifier) (type : TypeExpr) → own_cells system code (Variables place Constant ids type) ≡ []
no_cells system code place ids type = ap (map (made Constant (type_of_written system code type))) (none_kept ids)

pub not_named : (b : Bool) (kind : VariableKind) (type : TypeExpr) → some_if {B = VariableKind × TypeExpr} b (kind, type) ≡ None → b ≡ false
not_named true kind type h = absurd (cc)
not_named false kind type h = refl

some_pair : (d e : VariableKind × TypeExpr) → Some d ≡ Some e → d ≡ e
some_pair d e h = cc

pub is_named_by : (b : Bool) (own kind : VariableKind) (written type : TypeExpr) → some_if {B = VariableKind × TypeExpr} b (own, written) ≡ Some (kind, type) → (b ≡ true) × (own ≡ kind) × (written ≡ type)
is_named_by true own kind written type h =
    let e = some_pair (own, written) (kind, type) h in
    (refl, ap (λ (d : VariableKind × TypeExpr). d.0) e, ap (λ (d : VariableKind × TypeExpr). d.1) e)
is_named_by false own kind written type h = absurd (cc)

types_append : (xs ys : List Cell) → types_in (xs ++ ys) ≡ types_in xs ++ types_in ys
types_append xs ys = map-append (λ (c : Cell). c.type) xs ys

length_types : (xs : List Cell) → length (types_in xs) ≡ length xs
length_types xs = length-map xs (λ (c : Cell). c.type)

there_below : {A : Type 0} (xs : List A) (k : ℕ) (x : A) → slice_get xs k ≡ Some x → k < length xs
there_below [] k x h = absurd (cc)
there_below (y ∷ xs) zero x h = omega arith
there_below (y ∷ xs) (suc k) x h = omega (arith, there_below xs k x h)

-- what a declaration says of a name
passes : (system : System) (code : Module) (x : ℕ) (d : Decl) (from : ℕ) → variable_in x d ≡ None → position_from (test x) from (own_cells system code d) ≡ None
passes system code x (Variables place Constant ids type) from h = ap (position_from (test x) from) (no_cells system code place ids type)
passes system code x (Variables place Variable ids type) from h = ap (position_from (test x) from) (cells_are system code place Variable ids type tt) ∙ no_name x Variable (type_of_written system code type) ids from (not_named (names_one x ids) Variable type h)
passes system code x (Variables place Input ids type) from h = ap (position_from (test x) from) (cells_are system code place Input ids type tt) ∙ no_name x Input (type_of_written system code type) ids from (not_named (names_one x ids) Input type h)
passes system code x (Variables place Output ids type) from h = ap (position_from (test x) from) (cells_are system code place Output ids type tt) ∙ no_name x Output (type_of_written system code type) ids from (not_named (names_one x ids) Output type h)
passes system code x other from h = refl

finds : (system : System) (code : Module) (x : ℕ) (d : Decl) (from : ℕ) (kind : VariableKind) (type : TypeExpr) → HasCells kind → variable_in x d ≡ Some (kind, type)
    → (j : ℕ) × (position_from (test x) from (own_cells system code d) ≡ Some j) × IsAt from j (own_cells system code d) (type_of_written system code type)
finds system code x (Variables place own ids written) from kind type h e =
    let named = is_named_by (names_one x ids) own kind written type e in
    let ty = type_of_written system code type in
    let cells : own_cells system code (Variables place own ids written) ≡ map (made kind ty) ids =
    ap (λ k. own_cells system code (Variables place k ids written)) named.1 ∙ cells_are system code place kind ids written h ∙ ap (λ t. map (made kind (type_of_written system code t)) ids) named.2 in
    subst (λ cs. (j : ℕ) × (position_from (test x) from cs ≡ Some j) × IsAt from j cs ty) (sym cells) (by_position (has_name x kind ty ids from named.0) (one_type x kind ty ids from) (position_from (test x) from (map (made kind ty) ids)) refl)
  where
    by_position : {cells : List Cell} {ty : Ty} → (position_from (test x) from cells ≡ None → ⊥) → ((j : ℕ) → position_from (test x) from cells ≡ Some j → IsAt from j cells ty) → (o : Option ℕ) → position_from (test x) from cells ≡ o
        → (j : ℕ) × (position_from (test x) from cells ≡ Some j) × IsAt from j cells ty
    by_position absent present None q = absurd (absent q)
    by_position absent present (Some j) q = (j, q, present j q)
finds system code x other from kind type h e = absurd (cc)

at_front : (from j : ℕ) (xs ys : List Cell) (ty : Ty) → IsAt from j xs ty → IsAt from j (xs ++ ys) ty
at_front from j xs ys ty a = record {
  place = a.place;
  is = a.is;
  type = ap (λ ts. slice_get ts a.place) (types_append xs ys) ∙ slice_get-front (types_in xs) (types_in ys) a.place (there_below (types_in xs) a.place ty a.type) ∙ a.type;
}

at_back : (from j : ℕ) (xs ys : List Cell) (ty : Ty) → IsAt (from + length xs) j ys ty → IsAt from j (xs ++ ys) ty
at_back from j xs ys ty a = record {
  place = length (types_in xs) + a.place;
  is = omega (arith, a.is, length_types xs);
  type = ap (λ ts. slice_get ts (length (types_in xs) + a.place)) (types_append xs ys) ∙ slice_get-back (types_in xs) (types_in ys) a.place ∙ a.type;
}

-- along the declarations
found_in : (system : System) (code : Module) (x : ℕ) (ds : List Decl) (from j : ℕ) (kind : VariableKind) (type : TypeExpr) → HasCells kind → first_some (variable_in x) ds ≡ Some (kind, type)
    → position_from (test x) from (flat_map (own_cells system code) ds) ≡ Some j → IsAt from j (flat_map (own_cells system code) ds) (type_of_written system code type)
unfolding first_some
found_in system code x [] from j kind type h e p = absurd (none_some j p)
found_in system code x (d ∷ ds) from j kind type h e p = by_first (λ f q r. found_in system code x ds f j kind type h q r) (variable_in x d) refl
  where
    by_first : ((f : ℕ) → first_some (variable_in x) ds ≡ Some (kind, type) → position_from (test x) f (flat_map (own_cells system code) ds) ≡ Some j → IsAt f j (flat_map (own_cells system code) ds) (type_of_written system code type))
        → (o : Option (VariableKind × TypeExpr)) → variable_in x d ≡ o → IsAt from j (own_cells system code d ++ flat_map (own_cells system code) ds) (type_of_written system code type)
    by_first later None q =
        at_back from j (own_cells system code d) (flat_map (own_cells system code) ds) (type_of_written system code type)
        (later (from + length (own_cells system code d)) (sym (ap (λ o. or_else o (first_some (variable_in x) ds)) q) ∙ e)
        (sym (position_past (test x) from (own_cells system code d) (flat_map (own_cells system code) ds) (passes system code x d from q)) ∙ p))
    by_first later (Some v) q =
        let same : Some v ≡ Some (kind, type) = sym (ap (λ o. or_else o (first_some (variable_in x) ds)) q) ∙ e in
        let g = finds system code x d from kind type h (q ∙ same) in
        let there = position_found (test x) from g.0 (own_cells system code d) (flat_map (own_cells system code) ds) g.1 in
        at_front from j (own_cells system code d) (flat_map (own_cells system code) ds) (type_of_written system code type)
        (subst (λ k. IsAt from k (own_cells system code d) (type_of_written system code type)) (some_nat g.0 j (sym there ∙ p)) g.2)

-- the cell of a variable has the type that is declared
pub cell_type : (system : System) (code : Module) (x k : ℕ) (kind : VariableKind) (type : TypeExpr) → StandsAlone system code → HasCells kind → variable_of code x ≡ Some (kind, type) → cell_of system [] x ≡ Some k
    → slice_get (types_of system) k ≡ Some (type_of_written system code type)
unfolding cell_of
cell_type system code x k kind type a h e c =
    let cells = alone_cells system code a in
    let at = found_in system code x code.decls 0 k kind type h e (sym (ap (position_from (test x) 0) cells) ∙ c) in
    ap (λ cs. slice_get (types_in cs) k) cells ∙ ap (slice_get (types_in (flat_map (own_cells system code) code.decls))) (omega (arith, at.is)) ∙ at.type
