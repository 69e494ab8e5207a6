-- Where names lead, name by name.
use Rattle.std.proofs.Common.{◌≡◌, ℕ, ◌+◌, ◌<◌, ◌≤◌, List, [], ◌∷◌, length, drop, get_or, Some, None, ap, ◌∙◌, add-one, drop-cons}
use Rattle.std.proofs.Math.ListN.{drop_of_length-le}
use Rattle.uc_uses.specs.declared.tree.InstanceTree.{InstanceTree}
use Rattle.uc_uses.specs.Trees.{instance_at, led_node, led_on, step}

next : (ys : List ℕ) (i : ℕ) → i < length ys → drop i ys ≡ get_or ys i 0 ∷ drop (i + 1) ys
next ys i h = rw (add-one) (drop-cons ys i 0 h)

dropped : (ys : List ℕ) (i : ℕ) → length ys ≤ i → drop i ys ≡ []
dropped ys i h = drop_of_length-le ys h

module _ (t : InstanceTree) (k x : ℕ) (ys : List ℕ) (i : ℕ) where
  pub led_here : i < length ys → instance_at t k x ≡ None → led_node t k x (drop i ys) ≡ Some (step k x)
  unfolding led_node
  led_here within none = ap (led_node t k x) (next ys i within) ∙ ap (led_on (Some (step k x)) (λ j. led_node t j (get_or ys i 0) (drop (i + 1) ys))) none

  pub led_lost : i < length ys → instance_at t k x ≡ Some None → led_node t k x (drop i ys) ≡ None
  unfolding led_node
  led_lost within none = ap (led_node t k x) (next ys i within) ∙ ap (led_on (Some (step k x)) (λ j. led_node t j (get_or ys i 0) (drop (i + 1) ys))) none

  pub led_below : (j : ℕ) → i < length ys → instance_at t k x ≡ Some (Some j) → led_node t k x (drop i ys) ≡ led_node t j (get_or ys i 0) (drop (i + 1) ys)
  unfolding led_node
  led_below j within is = ap (led_node t k x) (next ys i within) ∙ ap (led_on (Some (step k x)) (λ j. led_node t j (get_or ys i 0) (drop (i + 1) ys))) is

  pub led_end : length ys ≤ i → led_node t k x (drop i ys) ≡ Some (step k x)
  unfolding led_node
  led_end past = ap (led_node t k x) (dropped ys i past)
