-- A symbol more.
use Rattle.std.specs.Prelude.{◌≡◌, ℕ, ◌+◌, ◌<◌, List, [], ◌∷◌, ◌++◌, length, get_or, take, map, All}
use Rattle.std.proofs.Common.{sym, ap, ◌∙◌, subst}
use Rattle.std.proofs.lemmas.List.{map-append, take_more}
use Rattle.std.proofs.lemmas.List.Elements.{All-append, All-cons, All-nil, All-weaker}
use Rattle.uc_values.specs.declared.ty.Ty.{Ty}
use Rattle.uc_ops.specs.declared.node.Node.{Node}
use Rattle.uc_ops.specs.Typing.{type_at, types_at}
use Rattle.uc_ops.proofs.Lists.{same_map}
use Rattle.uc_terms.specs.Built.{Keeps}
use Rattle.uc_solve_rows.specs.Low.{IsFine, IsLow, KeepsLow}

pub low_more : (old new : List Node) (xs : List ℕ) (t : ℕ) → KeepsLow old new → All (IsLow old) xs → IsLow new t → All (IsLow new) (xs ++ t ∷ [])
low_more old new xs t keeps h low =
    All-append (IsLow new) xs (t ∷ []) (All-weaker (IsLow old) (IsLow new) keeps xs h) (All-cons (IsLow new) t [] low (All-nil (IsLow new)))

pub types_more : (old new : List Node) (xs : List ℕ) (t : ℕ) (types : List Ty) (place : ℕ) (d : Ty) → Keeps old new → All (IsLow old) xs → types_at old xs ≡ take place types → type_at new t ≡ get_or types place d → place < length types → types_at new (xs ++ t ∷ []) ≡ take (place + 1) types
types_more old new xs t types place d keeps h same is inside =
    map-append (type_at new) xs (t ∷ [])
    ∙ ap (λ ts. ts ++ type_at new t ∷ []) (same_map (type_at new) (type_at old) (IsLow old) xs (λ x low. keeps.types x low.there) h ∙ same)
    ∙ ap (λ ty. take place types ++ ty ∷ []) is
    ∙ sym (take_more types place d inside)

pub fine_at : (types : List Ty) (place : ℕ) (ty : Ty) → All IsFine types → place < length types → ty ≡ get_or types place ty → IsFine ty
fine_at types place ty h inside is = subst IsFine (sym is) (h place ty inside)
