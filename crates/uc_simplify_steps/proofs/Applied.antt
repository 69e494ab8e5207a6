-- Terms of a table, by their operation and their parts.
use Rattle.std.specs.Prelude.{◌≡◌, ℕ, ◌<◌, List, [], ◌∷◌, length, Contains}
use Rattle.std.proofs.Common.{sym, ap, ◌∙◌, subst, arith, get_or}
use Rattle.std.proofs.lemmas.List.Elements.{All-weaker, All-contains_itself}
use Rattle.uc_ops.specs.declared.op.Op.{Op}
use Rattle.uc_ops.specs.declared.node.Node.{Node}
use Rattle.uc_ops.specs.Typing.{Suits, type_of, type_at, types_at}
use Rattle.uc_ops.specs.Meaning.{apply}
use Rattle.uc_terms.specs.Tables.{WellTyped, HasOp, parts_at}
use Rattle.uc_terms.specs.Values.{values_at}
use Rattle.uc_terms.specs.Subterms.{IsSubterm, itself, deeper}
use Rattle.uc_terms.proofs.Grown.{type-node, parts-node}
use Rattle.uc_terms.proofs.Values.{value-node}
use Rattle.uc_simplify_steps.specs.Steps.{IsApplied}
use Rattle.uc_simplify_steps.proofs.Features.{node_of_op}

-- a term is the operation that it has on the parts that it has
pub applied : (nodes : List Node) (t : ℕ) (op : Op) (parts : List ℕ) → WellTyped nodes → t < length nodes → HasOp nodes t op → parts ≡ parts_at nodes t → IsApplied nodes t op parts
applied nodes t op parts w h o e =
    let r = node_of_op nodes t op o in
    let fine = w t r.0 r.1 in
    let own : parts ≡ r.0.parts = e ∙ parts-node nodes t r.0 r.1 in
    let suits = subst (λ x. Suits x (types_at nodes r.0.parts)) r.2 fine.suits in
    let typed : type_at nodes t ≡ type_of op (types_at nodes r.0.parts) = type-node nodes t r.0 r.1 ∙ fine.typed ∙ ap (λ x. type_of x (types_at nodes r.0.parts)) r.2 in
    subst (λ ps. IsApplied nodes t op ps) (sym own) (record {
      there = All-weaker (λ p. p < t) (λ p. p < length nodes) (λ p l. omega (arith, l, h)) r.0.parts fine.before;
      suits = suits;
      ty = typed;
      below = All-weaker (Contains r.0.parts) (IsSubterm nodes t) (λ p c. deeper t p itself (subst (λ ps. Contains ps p) (sym (parts-node nodes t r.0 r.1)) c)) r.0.parts (All-contains_itself r.0.parts);
      same = λ m. value-node m nodes t r.0 w r.1 ∙ ap (λ x. apply m x (types_at nodes r.0.parts) (values_at m nodes r.0.parts)) r.2;
    })

-- a list of one or three
pub one_listed : (xs : List ℕ) (x : ℕ) → length xs ≡ 1 → x ≡ get_or xs 0 x → x ∷ [] ≡ xs
one_listed [] x h e = absurd (omega (arith, h))
one_listed (y ∷ []) x h e = λ i. e i ∷ []
one_listed (y ∷ z ∷ xs) x h e = absurd (omega (arith, h))

pub two_listed : (xs : List ℕ) (x y : ℕ) → length xs ≡ 2 → x ≡ get_or xs 0 x → y ≡ get_or xs 1 y → x ∷ y ∷ [] ≡ xs
two_listed [] x y h e f = absurd (omega (arith, h))
two_listed (a ∷ []) x y h e f = absurd (omega (arith, h))
two_listed (a ∷ b ∷ []) x y h e f = λ i. e i ∷ f i ∷ []
two_listed (a ∷ b ∷ c ∷ xs) x y h e f = absurd (omega (arith, h))

pub three_listed : (xs : List ℕ) (x y z : ℕ) → length xs ≡ 3 → x ≡ get_or xs 0 x → y ≡ get_or xs 1 y → z ≡ get_or xs 2 z → x ∷ y ∷ z ∷ [] ≡ xs
three_listed [] x y z h e f g = absurd (omega (arith, h))
three_listed (a ∷ []) x y z h e f g = absurd (omega (arith, h))
three_listed (a ∷ b ∷ []) x y z h e f g = absurd (omega (arith, h))
three_listed (a ∷ b ∷ c ∷ []) x y z h e f g = λ i. e i ∷ f i ∷ g i ∷ []
three_listed (a ∷ b ∷ c ∷ d ∷ xs) x y z h e f g = absurd (omega (arith, h))
