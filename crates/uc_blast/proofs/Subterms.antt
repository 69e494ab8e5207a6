-- Marks on the subterms of one term.
use Rattle.std.specs.Prelude.{◌≡◌, ℕ, ◌<◌, Bool as Truth, List, [], ◌∷◌, get_or, suc, zero}
use Rattle.std.proofs.Common.{refl, sym, arith, subst}
use Rattle.uc_ops.specs.declared.node.Node.{Node}
use Rattle.uc_terms.specs.Subterms.{IsSubterm, Marked, AreSubterms}

only-one : (t r i : ℕ) → i < 1 → get_or (t ∷ []) i r ≡ r → r ≡ t
only-one t r zero l e = sym e
only-one t r (suc i) l e = absurd (omega arith)

pub below_of : (nodes : List Node) (t : ℕ) (marks : List Truth) → AreSubterms nodes (t ∷ []) marks → (k : ℕ) → Marked marks k → IsSubterm nodes t k
below_of nodes t marks a k h =
    let b = a.sound k h in
    subst (λ r. IsSubterm nodes r k) (only-one t b.root b.listed.0 b.listed.1 b.listed.2) b.below

pub marked_of : (nodes : List Node) (t : ℕ) (marks : List Truth) → AreSubterms nodes (t ∷ []) marks → (k : ℕ) → IsSubterm nodes t k → Marked marks k
marked_of nodes t marks a k s = a.complete k (record { root = t; listed = (0, omega arith, refl); below = s })
