-- Cells name by name.
use Rattle.std.proofs.Common.{◌≡◌, ℕ, suc, ◌+◌, Bool, true, false, List, [], ◌∷◌, ◌++◌, length, map, Option, Some, None, refl, ap, ◌∙◌, sym, arith}
use Rattle.std.specs.Prelude.{is_some, not, cond, if◌then◌else◌}
use Rattle.std.specs.List.{filter}
use Rattle.std.specs.Option.{option_copied}
use Rattle.std.specs.Borrow.{Bor}
use Rattle.uc_lexer.specs.declared.place.Place.{Place as TextPlace}
use Rattle.uc_syntax.specs.declared.place.Identifier.{Identifier}
use Rattle.uc_syntax.specs.declared.type_expression.TypeExpr.{TypeExpr}
use Rattle.uc_syntax.specs.declared.expression.Expr.{Expr}
use Rattle.uc_syntax.specs.declared.declaration.VariableKind.{VariableKind}
use Rattle.uc_syntax.specs.declared.declaration.Decl.{Decl}
use Rattle.uc_syntax.specs.declared.declaration.Decl.TheVariants.{Variables}
use Rattle.uc_meaning.specs.Lookup.{System}
use Rattle.uc_meaning.specs.Cells.{InstanceAt, is_cell}
use Rattle.uc_order_rules.specs.Sizes.{total}
use Rattle.uc_uses.specs.Counting.{cell_count, one_cell}

length_map : {X Y : Type 0} (f : X → Y) (xs : List X) → length (map f xs) ≡ length xs
length_map f [] = refl
length_map f (x ∷ xs) = ap suc (length_map f xs)

chosen : (p : Identifier → Bool) (i : Identifier) (is : List Identifier) (b : Bool) → length (filter p is) ≡ total (map (λ j. if p j then 1 else 0) is) →
    length (cond b (i ∷ filter p is) (filter p is)) ≡ (if b then 1 else 0) + total (map (λ j. if p j then 1 else 0) is)
chosen p i is true e = omega (arith, e)
chosen p i is false e = omega (arith, e)

filtered : (p : Identifier → Bool) (is : List Identifier) → length (filter p is) ≡ total (map (λ i. if p i then 1 else 0) is)
filtered p [] = refl
filtered p (i ∷ is) = chosen p i is (p i) (filtered p is)

pub names_are : (s : System) (here : InstanceAt) (d : Decl) (place : TextPlace) (kind : VariableKind) (names shown : List Identifier) (type : TypeExpr) → d ≡ Variables place kind names type → shown ≡ names →
    cell_count s here d ≡ total (map (one_cell here kind) shown)
names_are s here d place kind names shown type is same =
    ap (cell_count s here) is ∙ length_map _ (filter (λ i. is_cell here kind i.name) names) ∙ filtered (λ i. is_cell here kind i.name) names ∙ ap (λ xs. total (map (one_cell here kind) xs)) (sym same)

-- no other declaration gives a cell
pub no_cells : (s : System) (here : InstanceAt) (d : Decl) → ((place : TextPlace) (kind : VariableKind) (names : List Identifier) (type : TypeExpr) → d ≡ Variables place kind names type → ⊥) → cell_count s here d ≡ 0
no_cells s here (Variables place kind names type) h = absurd (h place kind names type refl)
no_cells s here other h = refl
