-- Ways one after another.
use Rattle.std.proofs.Common.{◌≡◌, ℕ, zero, suc, ◌<◌, Bool, true, List, length}
use Rattle.uc_graph.specs.Order.{has, needs}
use Rattle.uc_graph.specs.Cycles.{IsWay, LeadsTo}
use Rattle.uc_graph.proofs.Tests.{edge_within}

module _ (graph : List (List ℕ)) where
  pub by_edge : (x y : ℕ) → has (needs graph x) y ≡ true → LeadsTo graph x y
  unfolding IsWay
  by_edge x y e = (0, e)

  pub one_more : (x y z : ℕ) → LeadsTo graph x y → has (needs graph y) z ≡ true → LeadsTo graph x z
  unfolding IsWay
  one_more x y z w e = (suc w.0, (y, w.1, e))

  pub append : (x y : ℕ) → LeadsTo graph x y → (k z : ℕ) → IsWay graph k y z → LeadsTo graph x z
  unfolding IsWay
  append x y w zero z e = one_more x y z w e
  append x y w (suc k) z v = one_more x v.0 z (append x y w k v.0 v.1) v.2

  pub leads_on : (x y z : ℕ) → LeadsTo graph x y → LeadsTo graph y z → LeadsTo graph x z
  leads_on x y z w v = append x y w v.0 z v.1

  pub way_within : (k x y : ℕ) → IsWay graph k x y → x < length graph
  unfolding IsWay
  way_within zero x y e = edge_within graph x y e
  way_within (suc k) x y w = way_within k x w.0 w.1
