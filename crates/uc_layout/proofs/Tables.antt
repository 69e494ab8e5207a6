-- The lists of a layout are those of its design.
use Rattle.std.proofs.Common.{◌≡◌, ℕ, List, [], ◌∷◌, ◌++◌, map, Option, Bool, true, false, ◌&&◌, ◌||◌, refl, ap, ◌∙◌, sym}
use Rattle.std.specs.Prelude.{nat_eq, cond, unwrap_or, if◌then◌else◌}
use Rattle.std.specs.List.{flat_map, filter, list_any, position_from}
use Rattle.std.proofs.lemmas.List.{map-append}
use Rattle.uc_syntax.specs.declared.place.Identifier.{Identifier}
use Rattle.uc_syntax.specs.declared.type_expression.TypeExpr.{TypeExpr}
use Rattle.uc_syntax.specs.declared.declaration.VariableKind.{VariableKind}
use Rattle.uc_syntax.specs.declared.declaration.VariableKind.TheVariants.{Constant as ConstantKind}
use Rattle.uc_syntax.specs.declared.declaration.Decl.{Decl}
use Rattle.uc_syntax.specs.declared.declaration.Decl.TheVariants.{Variables, Function as FunctionDecl}
use Rattle.uc_syntax.specs.declared.declaration.Module.{Module}
use Rattle.uc_meaning.specs.Lookup.{System}
use Rattle.uc_meaning.specs.Types.{type_of_written}
use Rattle.uc_meaning.proofs.Equations.{map-map}
use Rattle.uc_meaning.specs.Cells.{InstanceAt, ConstantParts, FunctionParts, is_cell, is_symbol, same_path, cells_in, cells_of, cell_of, instances, modules_in_use, constants_in, constants_of, constant_number, functions_in, functions_of, function_number}
use Rattle.uc_layout.specs.declared.layout_cells.CellName.{CellName}
use Rattle.uc_layout.specs.declared.symbols.SymbolName.{SymbolName}
use Rattle.uc_layout.specs.declared.symbols.SymbolKind.{SymbolKind}
use Rattle.uc_layout.specs.declared.symbols.SymbolKind.TheVariants.{Constant, Function}
use Rattle.uc_layout.specs.Listing.{cell_name, cells_of_name, cells_of_declaration, cells_at, code_at, listed}
use Rattle.uc_layout.specs.Symbols.{symbol_name, symbol_meant, symbol_of_name, symbols_in, symbols_at, symbols_listed}
use Rattle.uc_layout.specs.Tables.{AreTables}
use Rattle.uc_layout.proofs.Places.{place_of_map}

map_flat : {A B C : Type 0} (g : B → C) (f : A → List B) (xs : List A) → map g (flat_map f xs) ≡ flat_map (λ x. map g (f x)) xs
map_flat g f [] = refl
map_flat g f (x ∷ xs) = map-append g (f x) (flat_map f xs) ∙ ap (λ ys. map g (f x) ++ ys) (map_flat g f xs)

same_flat : {A B : Type 0} (f g : A → List B) (same : (x : A) → f x ≡ g x) (xs : List A) → flat_map f xs ≡ flat_map g xs
same_flat f g same [] = refl
same_flat f g same (x ∷ xs) = ap (λ ys. ys ++ flat_map f xs) (same x) ∙ ap (λ ys. g x ++ ys) (same_flat f g same xs)

-- what passes, one element after another
kept : {A B : Type 0} (p : A → Bool) (c : A → B) (x : A) (xs : List A) (b : Bool) → map c (filter p xs) ≡ flat_map (λ y. if p y then c y ∷ [] else []) xs →
    map c (cond b (x ∷ filter p xs) (filter p xs)) ≡ (if b then c x ∷ [] else []) ++ flat_map (λ y. if p y then c y ∷ [] else []) xs
kept p c x xs true rest = ap (λ ys. c x ∷ ys) rest
kept p c x xs false rest = rest

filtered : {A B : Type 0} (p : A → Bool) (c : A → B) (xs : List A) → map c (filter p xs) ≡ flat_map (λ x. if p x then c x ∷ [] else []) xs
filtered p c [] = refl
filtered p c (x ∷ xs) = kept p c x xs (p x) (filtered p c xs)

flat_kept : {A B : Type 0} (p : A → Bool) (f : A → List B) (x : A) (xs : List A) (b : Bool) → flat_map f (filter p xs) ≡ flat_map (λ y. if p y then f y else []) xs →
    flat_map f (cond b (x ∷ filter p xs) (filter p xs)) ≡ (if b then f x else []) ++ flat_map (λ y. if p y then f y else []) xs
flat_kept p f x xs true rest = ap (λ ys. f x ++ ys) rest
flat_kept p f x xs false rest = rest

flat_filtered : {A B : Type 0} (p : A → Bool) (f : A → List B) (xs : List A) → flat_map f (filter p xs) ≡ flat_map (λ x. if p x then f x else []) xs
flat_filtered p f [] = refl
flat_filtered p f (x ∷ xs) = flat_kept p f x xs (p x) (flat_filtered p f xs)

one_by_one : {A B : Type 0} (c : A → B) (xs : List A) → map c xs ≡ flat_map (λ x. c x ∷ []) xs
one_by_one c [] = refl
one_by_one c (x ∷ xs) = ap (λ ys. c x ∷ ys) (one_by_one c xs)

-- cells
declaration_cells : (s : System) (here : InstanceAt) (d : Decl) → map cell_name (cells_in s here d) ≡ cells_of_declaration here d
declaration_cells s here (Variables place kind names type) =
    map-map cell_name (λ i. record { path = here.path; name = i.name; kind = kind; type = type_of_written s here.code type }) (filter (λ i. is_cell here kind i.name) names)
    ∙ filtered (λ i. is_cell here kind i.name) (λ i. record { path = here.path; name = i.name; kind = kind }) names
declaration_cells s here d = refl

pub cells_listed : (s : System) (cells : List CellName) → cells ≡ listed cells_at s → cells ≡ map cell_name (cells_of s)
unfolding cells_of
cells_listed s cells is =
    is ∙ sym (map_flat cell_name (λ here. flat_map (cells_in s here) here.code.decls) (instances s)
    ∙ same_flat (λ here. map cell_name (flat_map (cells_in s here) here.code.decls)) cells_at
    (λ here. map_flat cell_name (cells_in s here) here.code.decls ∙ same_flat (λ d. map cell_name (cells_in s here d)) (cells_of_declaration here) (declaration_cells s here) here.code.decls)
    (instances s))

pub cell_place : (s : System) (path : List ℕ) (x : ℕ) (cells : List CellName) → cells ≡ map cell_name (cells_of s) →
    position_from (λ c. same_path c.path path && nat_eq c.name x) 0 cells ≡ cell_of s path x
unfolding cell_of
cell_place s path x cells is =
    ap (position_from (λ c. same_path c.path path && nat_eq c.name x) 0) is ∙ place_of_map (λ c. same_path c.path path && nat_eq c.name x) cell_name 0 (cells_of s)

-- symbols
constant_names : (s : System) (m : Module) (d : Decl) → map (λ c. symbol_name c.symbol) (constants_in s m d) ≡ symbols_in Constant m.name d
constant_names s m (Variables place ConstantKind names type) =
    map-map (λ c. symbol_name c.symbol) (λ i. record { symbol = record { module_name = m.name; name = i.name }; type = type_of_written s m type }) names
    ∙ one_by_one (λ i. record { module_name = m.name; name = i.name }) names
constant_names s m d = refl

function_names : (s : System) (m : Module) (d : Decl) → map (λ f. symbol_name f.symbol) (functions_in s m d) ≡ symbols_in Function m.name d
function_names s m (FunctionDecl place i parameters type) = refl
function_names s m d = refl

any_code : (n : ℕ) (is : List InstanceAt) → list_any (λ c. nat_eq c n) (flat_map code_at is) ≡ list_any (λ i. nat_eq i.code.name n) is
any_code n [] = refl
any_code n (i ∷ is) = ap (λ b. nat_eq i.code.name n || b) (any_code n is)

listed_symbols : {A : Type 0} (s : System) (kind : SymbolKind) (g : A → SymbolName) (f : Module → Decl → List A) (named : (m : Module) (d : Decl) → map g (f m d) ≡ symbols_in kind m.name d)
    (codes : List ℕ) → codes ≡ listed code_at s →
    map g (flat_map (λ m. flat_map (f m) m.decls) (filter (λ m. list_any (λ i. nat_eq i.code.name m.name) (instances s)) s.modules)) ≡ symbols_listed kind codes s.modules
listed_symbols s kind g f named codes used =
    let in_use : Module → Bool = λ m. list_any (λ i. nat_eq i.code.name m.name) (instances s) in
    let here : Module → List SymbolName = λ m. flat_map (symbols_in kind m.name) m.decls in
    map_flat g (λ m. flat_map (f m) m.decls) (filter in_use s.modules)
    ∙ same_flat (λ m. map g (flat_map (f m) m.decls)) here (λ m. map_flat g (f m) m.decls ∙ same_flat (λ d. map g (f m d)) (symbols_in kind m.name) (named m) m.decls) (filter in_use s.modules)
    ∙ flat_filtered in_use here s.modules
    ∙ same_flat (λ m. if in_use m then here m else []) (symbols_at kind codes)
    (λ m. ap (λ b. if b then here m else []) (sym (ap (list_any (λ c. nat_eq c m.name)) used ∙ any_code m.name (instances s)))) s.modules

pub constants_listed : (s : System) (codes : List ℕ) (symbols : List SymbolName) → codes ≡ listed code_at s → symbols ≡ symbols_listed Constant codes s.modules →
    symbols ≡ map (λ c. symbol_name c.symbol) (constants_of s)
unfolding constants_of modules_in_use
constants_listed s codes symbols used is = is ∙ sym (listed_symbols s Constant (λ c. symbol_name c.symbol) (constants_in s) (constant_names s) codes used)

pub functions_listed : (s : System) (codes : List ℕ) (symbols : List SymbolName) → codes ≡ listed code_at s → symbols ≡ symbols_listed Function codes s.modules →
    symbols ≡ map (λ f. symbol_name f.symbol) (functions_of s)
unfolding functions_of modules_in_use
functions_listed s codes symbols used is = is ∙ sym (listed_symbols s Function (λ f. symbol_name f.symbol) (functions_in s) (function_names s) codes used)

pub constant_place : (s : System) (m : Module) (x : ℕ) (symbols : List SymbolName) → symbols ≡ map (λ c. symbol_name c.symbol) (constants_of s) →
    unwrap_or (position_from (λ c. is_symbol m.name x (symbol_meant c)) 0 symbols) 0 ≡ constant_number s m x
unfolding constant_number
constant_place s m x symbols is =
    ap (λ ss. unwrap_or (position_from (λ c. is_symbol m.name x (symbol_meant c)) 0 ss) 0) is
    ∙ ap (λ o. unwrap_or o 0) (place_of_map (λ c. is_symbol m.name x (symbol_meant c)) (λ c. symbol_name c.symbol) 0 (constants_of s))

pub function_place : (s : System) (m : Module) (x : ℕ) (symbols : List SymbolName) → symbols ≡ map (λ f. symbol_name f.symbol) (functions_of s) →
    unwrap_or (position_from (λ f. is_symbol m.name x (symbol_meant f)) 0 symbols) 0 ≡ function_number s m x
unfolding function_number
function_place s m x symbols is =
    ap (λ ss. unwrap_or (position_from (λ f. is_symbol m.name x (symbol_meant f)) 0 ss) 0) is
    ∙ ap (λ o. unwrap_or o 0) (place_of_map (λ f. is_symbol m.name x (symbol_meant f)) (λ f. symbol_name f.symbol) 0 (functions_of s))

pub are_tables : (s : System) (cells : List CellName) (codes : List ℕ) (constants functions : List SymbolName) → cells ≡ listed cells_at s → codes ≡ listed code_at s →
    constants ≡ symbols_listed Constant codes s.modules → functions ≡ symbols_listed Function codes s.modules → AreTables s cells constants functions
are_tables s cells codes constants functions first used second third = record {
  cells_listed = cells_listed s cells first;
  constants_listed = constants_listed s codes constants used second;
  functions_listed = functions_listed s codes functions used third;
}
