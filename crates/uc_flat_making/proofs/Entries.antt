-- The table of all names.
use Rattle.std.proofs.Common.{◌≡◌, ℕ, zero, suc, ◌+◌, List, [], ◌∷◌, ◌++◌, map, length, Option, Some, None, refl, sym, ap, ◌∙◌, arith}
use Rattle.std.specs.Prelude.{nat_eq}
use Rattle.std.specs.Option.{option_map}
use Rattle.std.specs.List.{position_from}
use Rattle.std.proofs.lemmas.List.{map-append}
use Rattle.indexmap.specs.IndexMap.{get}
use Rattle.uc_syntax.specs.declared.type_expression.TypeExpr.{TypeExpr}
use Rattle.uc_syntax.specs.declared.declaration.VariableKind.{VariableKind}
use Rattle.uc_syntax.specs.declared.declaration.VariableKind.TheVariants.{Variable, Input, Output, Constant}
use Rattle.uc_syntax.specs.declared.declaration.Module.{Module}
use Rattle.uc_meaning.specs.Lookup.{System, variable_of}
use Rattle.uc_meaning.specs.Types.{label_of, type_of_written}
use Rattle.uc_flat_design.specs.Names.{StandsAlone, of_label, of_cell_number, of_kind, of_variable, by_label, meant_in, counted, names_over_cells}
use Rattle.uc_flat_expressions.specs.declared.typed.Meant.TheVariants.{Constant as ConstantOf, Unknown}
use Rattle.uc_lookup.specs.declared.declarations.Variable.{Variable as Declaration}
use Rattle.uc_lookup.specs.Parts.{variable_parts}
use Rattle.uc_type_reader.specs.declared.labels.Label.{Label}
use Rattle.uc_type_reader.specs.Reading.{label_meant}
use Rattle.uc_flat_making.specs.Cells.{own_cells, own_constants}
use Rattle.uc_flat_making.specs.declared.table.Declared.{Declared}
use Rattle.uc_flat_making.specs.Firsts.{AreDeclared}
use Rattle.uc_flat_making.specs.Table.{of_places, of_kind_in, of_variable_in, by_label_in, meant_by}
use Rattle.uc_flat_making.proofs.Declared.{place_is}
use Rattle.uc_flat_making.proofs.DeclaredConstants.{number_is}

pub counted_none : {A : Type 0} (f : ℕ → A) (from : ℕ) → map f (counted from 0) ≡ []
unfolding counted
counted_none f from = refl

counted_last : (from n : ℕ) → counted from (suc n) ≡ counted from n ++ (from + n) ∷ []
unfolding counted
counted_last from zero = let same : from ≡ from + 0 = omega arith in ap (λ k. k ∷ []) same
counted_last from (suc n) =
    let same : (from + 1) + n ≡ from + suc n = omega arith in
    ap (λ ks. from ∷ ks) (counted_last (from + 1) n ∙ ap (λ k. counted (from + 1) n ++ k ∷ []) same)

pub counted_more : {A : Type 0} (f : ℕ → A) (n : ℕ) → map f (counted 0 (n + 1)) ≡ map f (counted 0 n) ++ f n ∷ []
counted_more f n =
    let next : n + 1 ≡ suc n = omega arith in
    let same : 0 + n ≡ n = omega arith in
    ap (λ k. map f (counted 0 k)) next ∙ ap (map f) (counted_last 0 n ∙ ap (λ k. counted 0 n ++ k ∷ []) same) ∙ map-append f (counted 0 n) (n ∷ [])

-- one name more
pub meant_more : {A : Type 0} (f : ℕ → A) (all after : List A) (n name : ℕ) (t : A) → all ≡ map f (counted 0 n) → name ≡ n → t ≡ f name → after ≡ all ++ t ∷ [] → after ≡ map f (counted 0 (n + 1))
meant_more f all after n name t so_far is here push =
    push ∙ ap (λ ts. ts ++ t ∷ []) so_far ∙ ap (λ u. map f (counted 0 n) ++ u ∷ []) (here ∙ ap f is) ∙ sym (counted_more f n)

kind_is : (system : System) (code : Module) (x : ℕ) (type : TypeExpr) (kind : VariableKind) → StandsAlone system code
    → of_kind_in (own_cells system code) (own_constants system code) x (type_of_written system code type) kind ≡ of_kind system code x type kind
kind_is system code x type Constant a = ap (λ k. ConstantOf k (type_of_written system code type)) (number_is system code x a)
kind_is system code x type Variable a = ap (λ o. of_cell_number o (type_of_written system code type)) (place_is system code x a)
kind_is system code x type Input a = ap (λ o. of_cell_number o (type_of_written system code type)) (place_is system code x a)
kind_is system code x type Output a = ap (λ o. of_cell_number o (type_of_written system code type)) (place_is system code x a)

variable_is : (system : System) (code : Module) (x : ℕ) (o : Option (VariableKind × TypeExpr)) → StandsAlone system code → of_variable_in system code (own_cells system code) (own_constants system code) x o ≡ of_variable system code x o
variable_is system code x None a = refl
variable_is system code x (Some d) a = kind_is system code x d.1 d.0 a

label_is : (system : System) (code : Module) (x : ℕ) (o : Option (ℕ × ℕ)) → StandsAlone system code → by_label_in system code (own_cells system code) (own_constants system code) x o ≡ by_label system code x o
label_is system code x (Some l) a = refl
label_is system code x None a = variable_is system code x (variable_of code x) a

meant_is : (system : System) (code : Module) → StandsAlone system code → (xs : List ℕ) → map (meant_by system code (own_cells system code) (own_constants system code)) xs ≡ map (meant_in system code) xs
meant_is system code a [] = refl
meant_is system code a (x ∷ xs) =
    ap (λ t. t ∷ map (meant_by system code (own_cells system code) (own_constants system code)) xs) (label_is system code x (label_of system code x) a) ∙ ap (λ ts. meant_in system code x ∷ ts) (meant_is system code a xs)

pub names_are : (system : System) (code : Module) (count : ℕ) → StandsAlone system code → count ≡ length system.names → map (meant_by system code (own_cells system code) (own_constants system code)) (counted 0 count) ≡ names_over_cells system code
names_are system code count a e = meant_is system code a (counted 0 count) ∙ ap (λ k. map (meant_in system code) (counted 0 k)) e

-- ---- a name by the tables of what is declared

module _ (s : System) (code : Module) (d : Declared) (a : AreDeclared s code d) (x : ℕ) where
  pub meant_label : (l : Label) → get nat_eq d.labels.things x ≡ Some l → of_label s (label_meant l) ≡ meant_by s code (own_cells s code) (own_constants s code) x
  meant_label l e = ap (by_label_in s code (own_cells s code) (own_constants s code) x) (sym (ap (option_map label_meant) e) ∙ a.labels x)

  pub meant_other : get nat_eq d.labels.things x ≡ None → of_variable_in s code (own_cells s code) (own_constants s code) x (variable_of code x) ≡ meant_by s code (own_cells s code) (own_constants s code) x
  meant_other e = ap (by_label_in s code (own_cells s code) (own_constants s code) x) (sym (ap (option_map label_meant) e) ∙ a.labels x)

  pub meant_unknown : get nat_eq d.variables.things x ≡ None → Unknown ≡ of_variable_in s code (own_cells s code) (own_constants s code) x (variable_of code x)
  meant_unknown e = ap (of_variable_in s code (own_cells s code) (own_constants s code) x) (sym (ap (option_map variable_parts) e) ∙ a.variables x)

  pub meant_variable : (v : Declaration) → get nat_eq d.variables.things x ≡ Some v
      → of_places (get nat_eq d.cells.things x) (get nat_eq d.constants.things x) (type_of_written s code v.ty.now) v.kind ≡ of_variable_in s code (own_cells s code) (own_constants s code) x (variable_of code x)
  meant_variable v e =
      ap (λ o. of_places o (get nat_eq d.constants.things x) (type_of_written s code v.ty.now) v.kind) (a.cells x)
      ∙ ap (λ o. of_places (position_from (λ c. nat_eq c.name x) 0 (own_cells s code)) o (type_of_written s code v.ty.now) v.kind) (a.constants x)
      ∙ ap (of_variable_in s code (own_cells s code) (own_constants s code) x) (sym (ap (option_map variable_parts) e) ∙ a.variables x)
