-- The constants of a design of one module are those that its module declares.
use Rattle.std.proofs.Common.{◌≡◌, ℕ, ◌+◌, cond, List, [], ◌∷◌, ◌++◌, map, Some, refl, sym, ap, ◌∙◌, eq-eqb}
use Rattle.std.specs.Prelude.{◌&&◌, nat_eq, unwrap_or}
use Rattle.std.specs.List.{flat_map, position_from}
use Rattle.std.proofs.lemmas.List.{map-append}
use Rattle.uc_lexer.specs.declared.place.Place.{Place}
use Rattle.uc_syntax.specs.declared.place.Identifier.{Identifier}
use Rattle.uc_syntax.specs.declared.type_expression.TypeExpr.{TypeExpr}
use Rattle.uc_syntax.specs.declared.declaration.Decl.{Decl}
use Rattle.uc_syntax.specs.declared.declaration.Decl.TheVariants.{Variables}
use Rattle.uc_syntax.specs.declared.declaration.VariableKind.{VariableKind}
use Rattle.uc_syntax.specs.declared.declaration.VariableKind.TheVariants.{Variable, Input, Output, Constant}
use Rattle.uc_syntax.specs.declared.declaration.Module.{Module}
use Rattle.uc_values.specs.declared.ty.Ty.{Ty}
use Rattle.uc_meaning.specs.Lookup.{System}
use Rattle.uc_meaning.specs.Types.{type_of_written}
use Rattle.uc_meaning.specs.Cells.{ConstantParts, is_symbol, constants_in, constants_of, constant_number}
use Rattle.uc_flat.specs.declared.flat.Constant.{Constant as FlatConstant}
use Rattle.uc_flat_design.specs.Names.{StandsAlone, constant_types, flat_constant, flat_constants}
use Rattle.uc_flat_design.proofs.Constants.{alone_constants}
use Rattle.uc_flat_making.specs.Cells.{constant_of_name, declared_constants, own_constants}
use Rattle.uc_flat_making.specs.Table.{number_of}

-- a constant of the module of this name as one of the design
abbrev full : ℕ → FlatConstant → ConstantParts
full n c = record { symbol = record { module_name = n; name = c.name }; type = c.ty }

abbrev made : ℕ → Ty → Identifier → ConstantParts
made n ty i = record { symbol = record { module_name = n; name = i.name }; type = ty }

made_full : (n : ℕ) (ty : Ty) (ids : List Identifier) → map (made n ty) ids ≡ map (full n) (flat_map (constant_of_name ty) ids)
made_full n ty [] = refl
made_full n ty (i ∷ ids) = ap (λ cs. made n ty i ∷ cs) (made_full n ty ids)

by_kind : (system : System) (code : Module) (place : Place) (kind : VariableKind) (ids : List Identifier) (type : TypeExpr)
    → constants_in system code (Variables place kind ids type) ≡ map (full code.name) (declared_constants system code (Variables place kind ids type))
by_kind system code place Variable ids type = refl
by_kind system code place Input ids type = refl
by_kind system code place Output ids type = refl
by_kind system code place Constant ids type = made_full code.name (type_of_written system code type) ids

declared_full : (system : System) (code : Module) (d : Decl) → constants_in system code d ≡ map (full code.name) (declared_constants system code d)
declared_full system code (Variables place kind ids type) = by_kind system code place kind ids type
declared_full system code other = refl

all_full : (system : System) (code : Module) (ds : List Decl) → flat_map (constants_in system code) ds ≡ map (full code.name) (flat_map (declared_constants system code) ds)
all_full system code [] = refl
all_full system code (d ∷ ds) =
    ap (λ cs. cs ++ flat_map (constants_in system code) ds) (declared_full system code d)
    ∙ ap (λ cs. map (full code.name) (declared_constants system code d) ++ cs) (all_full system code ds)
    ∙ sym (map-append (full code.name) (declared_constants system code d) (flat_map (declared_constants system code) ds))

constants_full : (system : System) (code : Module) → StandsAlone system code → constants_of system ≡ map (full code.name) (own_constants system code)
constants_full system code a = alone_constants system code a ∙ all_full system code code.decls

parts_full : (n : ℕ) (cs : List FlatConstant) → map flat_constant (map (full n) cs) ≡ cs
parts_full n [] = refl
parts_full n (c ∷ cs) = ap (λ ds. c ∷ ds) (parts_full n cs)

types_full : (n : ℕ) (cs : List FlatConstant) → map (λ (c : ConstantParts). c.type) (map (full n) cs) ≡ map (λ (c : FlatConstant). c.ty) cs
types_full n [] = refl
types_full n (c ∷ cs) = ap (λ ts. c.ty ∷ ts) (types_full n cs)

pub constants_are : (system : System) (code : Module) → StandsAlone system code → own_constants system code ≡ flat_constants system
constants_are system code a = sym (ap (map flat_constant) (constants_full system code a) ∙ parts_full code.name (own_constants system code))

-- the types of the constants
pub constant_types_are : (system : System) (code : Module) → StandsAlone system code → map (λ (c : FlatConstant). c.ty) (own_constants system code) ≡ constant_types system
constant_types_are system code a = sym (ap (map (λ (c : ConstantParts). c.type)) (constants_full system code a) ∙ types_full code.name (own_constants system code))

place_full : (n x k : ℕ) (cs : List FlatConstant) → position_from (λ (c : ConstantParts). is_symbol n x c.symbol) k (map (full n) cs) ≡ position_from (λ (c : FlatConstant). nat_eq c.name x) k cs
place_full n x k [] = refl
place_full n x k (c ∷ cs) =
    let same : (nat_eq n n && nat_eq c.name x) ≡ nat_eq c.name x = ap (λ b. b && nat_eq c.name x) (eq-eqb n n refl) in
    ap (λ b. cond b (Some k) (position_from (λ (d : ConstantParts). is_symbol n x d.symbol) (k + 1) (map (full n) cs))) same
    ∙ ap (λ o. cond (nat_eq c.name x) (Some k) o) (place_full n x (k + 1) cs)

-- the number of a name's constant
pub number_is : (system : System) (code : Module) (x : ℕ) → StandsAlone system code → number_of (own_constants system code) x ≡ constant_number system code x
unfolding constant_number
number_is system code x a =
    sym (ap (λ o. unwrap_or o 0) (ap (position_from (λ (c : ConstantParts). is_symbol code.name x c.symbol) 0) (constants_full system code a) ∙ place_full code.name x 0 (own_constants system code)))
