-- Marks on the subterms of one term.
use Rattle.std.specs.Prelude.{◌≡◌, ℕ, ◌+◌, ◌<◌, ◌≤◌, Bool as Flag, true, false, List, [], ◌∷◌, ◌++◌, length, take, get_or, slice_index_or, zero, suc}
use Rattle.std.proofs.Common.{refl, sym, ap, ◌∙◌, subst, arith, append_assoc, append-nil, inl, inr}
use Rattle.std.proofs.lemmas.List.{take_more, take_all, map-append}
use Rattle.std.proofs.lemmas.Bool.Decides.{leb_tells}
use Rattle.uc_values.specs.declared.ty.Ty.{Ty}
use Rattle.uc_ops.specs.declared.op.Op.TheVariants.{Symbol}
use Rattle.uc_terms.specs.Tables.{HasOp}
use Rattle.uc_lower.specs.Lowering.{Pair, IsSymbol}
use Rattle.uc_lower.specs.Symbols.{StandsFor}
use Rattle.uc_ops.specs.declared.op.Op.{Op}
use Rattle.std.proofs.lemmas.Bool.{false≢true}
use Rattle.uc_lower.specs.Walk.{IsFresh, paired, is_symbol, IsStep, symbol}
use Rattle.uc_ops.specs.declared.node.Node.{Node}
use Rattle.uc_terms.specs.Subterms.{IsSubterm, Marked, AreSubterms}

-- marks are on the subterms of the one term
pub only_at : (t r i : ℕ) → i < 1 → get_or (t ∷ []) i r ≡ r → r ≡ t
only_at t r zero l e = sym e
only_at t r (suc i) l e = absurd (omega (arith, l))

pub below_of : (nodes : List Node) (t : ℕ) (marks : List Flag) → AreSubterms nodes (t ∷ []) marks → (k : ℕ) → Marked marks k → IsSubterm nodes t k
below_of nodes t marks a k h =
    let b = a.sound k h in
    let e : b.root ≡ t = only_at t b.root b.listed.0 b.listed.1 b.listed.2 in
    subst (λ r. IsSubterm nodes r k) e b.below

pub marked_of : (nodes : List Node) (t : ℕ) (marks : List Flag) → AreSubterms nodes (t ∷ []) marks → (k : ℕ) → IsSubterm nodes t k → Marked marks k
marked_of nodes t marks a k s = a.complete k (record { root = t; listed = (0, omega arith, refl); below = s })

-- the pairs of a symbol, one more each time
pub pair_start : (t : ℕ) (pairs : List Pair) → pairs ≡ pairs ++ paired t []
pair_start t pairs = sym (append-nil pairs)

pub pair_step : (t : ℕ) (us : List ℕ) (pairs now new : List Pair) (i u : ℕ) → u ≡ get_or us i u → i < length us → now ≡ pairs ++ paired t (take i us) → new ≡ now ++ (t, u) ∷ [] → new ≡ pairs ++ paired t (take (i + 1) us)
pair_step t us pairs now new i u e l h n =
    n ∙ ap (λ x. x ++ (t, u) ∷ []) h ∙ append_assoc pairs (paired t (take i us)) ((t, u) ∷ [])
    ∙ ap (λ x. pairs ++ x) (sym (ap (paired t) (take_more us i u l ∙ ap (λ x. take i us ++ x ∷ []) (sym e)) ∙ map-append (λ x. (t, x)) (take i us) (u ∷ [])))

pub pair_end : (t : ℕ) (us : List ℕ) (pairs now : List Pair) (i : ℕ) → length us ≤ i → now ≡ pairs ++ paired t (take i us) → now ≡ pairs ++ paired t us
pair_end t us pairs now i l h = h ∙ ap (λ x. pairs ++ paired t x) (take_all i us l)

-- a number above those of one more symbol
pub fresh_step : (nodes : List Node) (marks : List Flag) (place above next : ℕ) (marked : Flag) → marked ≡ slice_index_or marks place false → IsFresh nodes marks place above → above ≤ next
    → (marked ≡ true → (number : ℕ) (ty : Ty) → HasOp nodes place (Symbol number ty) → number < next) → IsFresh nodes marks (place + 1) next
fresh_step nodes marks place above next marked e h l n k number ty b mk has =
    elim (leb_tells (suc k) place) [
      | inl x ↦ omega (arith, h k number ty x.1 mk has, l)
      | inr x ↦
          let here : k ≡ place = omega (arith, b, x.1) in
          n (e ∙ subst (Marked marks) here mk) number ty (subst (λ i. HasOp nodes i (Symbol number ty)) here has)
    ]

pub fresh_end : (nodes : List Node) (marks : List Flag) (place above : ℕ) → length marks ≤ place → IsFresh nodes marks place above → IsFresh nodes marks (length marks) above
fresh_end nodes marks place above l h k number ty b mk has = h k number ty (omega (arith, b, l)) mk has

-- a term whose operation is a symbol
pub symbol_at : (nodes : List Node) (t : ℕ) (op : Op) → HasOp nodes t op → is_symbol op ≡ true → IsSymbol nodes t
symbol_at nodes t (Symbol number ty) h e = record { number = number; ty = ty; has = h }
symbol_at nodes t other h e = absurd (false≢true e)

pub symbol_step : (old new : List Node) (lowered : List (List ℕ)) (marked : Flag) (place : ℕ) (us ss : List ℕ) (t first next : ℕ) (pairs more : List Pair) (before after : List ℕ) → marked ≡ true → t ≡ place → IsSymbol old t
    → StandsFor old new t first next ss before after → us ≡ ss → more ≡ pairs ++ paired t ss → IsStep old new lowered marked place us first next pairs more before after
symbol_step old new lowered marked place us ss t first next pairs more before after m e s h u p =
    subst (λ xs. IsStep old new lowered marked place xs first next pairs more before after) (sym u)
    (symbol m (subst (IsSymbol old) e s) (subst (λ x. StandsFor old new x first next ss before after) e h) (p ∙ ap (λ x. pairs ++ paired x ss) e))
