-- A symbol more.
use Rattle.std.specs.Prelude.{◌≡◌, ℕ, ◌+◌, ◌<◌, List, [], ◌∷◌, ◌++◌, length, get_or, take, All}
use Rattle.std.proofs.Common.{sym, ap, ◌∙◌, subst, arith}
use Rattle.std.proofs.lemmas.List.{map-append, take_more}
use Rattle.std.proofs.lemmas.List.Elements.{All-append, All-cons, All-nil, All-weaker}
use Rattle.uc_values.specs.declared.ty.Ty.{Ty}
use Rattle.uc_ops.specs.declared.node.Node.{Node}
use Rattle.uc_ops.specs.Typing.{Valid, type_at, types_at}
use Rattle.uc_ops.proofs.Lists.{same_map}
use Rattle.uc_terms.specs.Built.{Keeps}

abbrev pub AllIn : List Node → List ℕ → Type 0
AllIn nodes ts = All (λ t. t < length nodes) ts

pub there_more : (old new : List Node) (xs : List ℕ) (t : ℕ) → Keeps old new → AllIn old xs → t < length new → AllIn new (xs ++ t ∷ [])
there_more old new xs t keeps h there =
    All-append (λ x. x < length new) xs (t ∷ [])
    (All-weaker (λ x. x < length old) (λ x. x < length new) (λ x lt. omega (arith, keeps.longer, lt)) xs h)
    (All-cons (λ x. x < length new) t [] there (All-nil (λ x. x < length new)))

pub types_more : (old new : List Node) (xs : List ℕ) (t : ℕ) (types : List Ty) (place : ℕ) (d : Ty) → Keeps old new → AllIn old xs → types_at old xs ≡ take place types → type_at new t ≡ get_or types place d → place < length types → types_at new (xs ++ t ∷ []) ≡ take (place + 1) types
types_more old new xs t types place d keeps h same is inside =
    map-append (type_at new) xs (t ∷ [])
    ∙ ap (λ ts. ts ++ type_at new t ∷ []) (same_map (type_at new) (type_at old) (λ x. x < length old) xs (λ x lt. keeps.types x lt) h ∙ same)
    ∙ ap (λ ty. take place types ++ ty ∷ []) is
    ∙ sym (take_more types place d inside)

pub valid_at : (types : List Ty) (place : ℕ) (ty : Ty) → All Valid types → place < length types → ty ≡ get_or types place ty → Valid ty
valid_at types place ty h inside is = subst Valid (sym is) (h place ty inside)
