-- What is told of a term is kept when the table grows, and is made of what is told of its parts.
use Rattle.std.proofs.Common.{ℕ, ◌≡◌, ◌<◌, List, ◌∷◌, ◌++◌, length, get_or, map, All, Some, slice_get, sym, ap, ◌∙◌, arith}
use Rattle.uc_ops.specs.declared.node.Node.{Node}
use Rattle.uc_ops.proofs.Lists.{same_map}
use Rattle.uc_terms.specs.Along.{along, told, at_parts}
use Rattle.uc_terms.proofs.Growth.{along-keeps, along-at, around}

pub told-keeps : {A : Type 0} (none : A) (make : Node → List A → A) (nodes more : List Node) (t : ℕ) → t < length nodes → told none make (nodes ++ more) t ≡ told none make nodes t
unfolding told
told-keeps none make nodes more t h = along-keeps (λ node given. make node (at_parts none given node.parts)) nodes more t none h

pub told-node : {A : Type 0} (none : A) (make : Node → List A → A) (nodes : List Node) (t : ℕ) (node : Node) → slice_get nodes t ≡ Some node → All (λ p. p < t) node.parts
    → told none make nodes t ≡ make node (map (told none make nodes) node.parts)
unfolding told
told-node none make nodes t node h b =
    let step = λ (n : Node) (given : List _). make n (at_parts none given n.parts) in
    let r = around nodes t node h in
    let front = r.0 in
    let back = r.1 in
    let whole = ap (λ ns. get_or (along step ns) t none) r.2 in
    let here = ap (λ k. get_or (along step (front ++ node ∷ back)) k none) (sym r.3) ∙ along-at step front node back none in
    let same = same_map (λ p. get_or (along step front) p none) (λ p. get_or (along step nodes) p none) (λ p. p < t) node.parts
    (λ p l. sym (ap (λ ns. get_or (along step ns) p none) r.2 ∙ along-keeps step front (node ∷ back) p none (omega (arith, l, r.3)))) b in
    whole ∙ here ∙ ap (make node) same
