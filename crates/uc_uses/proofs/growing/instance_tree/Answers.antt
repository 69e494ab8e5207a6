use Rattle.std.proofs.Common.{◌≡◌, ℕ, zero, suc, ◌≤◌, List, [], ◌∷◌, length, None, sym, subst, arith}
use Rattle.std.specs.Prelude.{slice_get}
use Rattle.std.specs.Option.{option_map}
use Rattle.uc_order_rules.specs.Roots.{rooted}
use Rattle.uc_uses.specs.Growing.{Grows}
use Rattle.uc_uses.proofs.Grown.{grown_begin, grown_end, grown_more}
use Rattle.uc_uses.proofs.growing.instance_tree.Goals as goal

past : {A B : Type 0} (f : A → B) (xs : List A) (k : ℕ) → None ≡ option_map f (slice_get xs k) → length xs ≤ k
past f [] k h = omega arith
past f (x ∷ xs) zero h = cc
past f (x ∷ xs) (suc k) h = let l = past f xs k h in omega (arith, l)

pub loop-node-init : goal.loop-node-init
loop-node-init c = λ s k knows at. grown_begin (rooted s k) c.in_ok-tree.tree c.args.root.now at c.in_ok-tree.ensures

pub returns-in-None : goal.returns-in-None
returns-in-None c = λ s k knows at. grown_end (rooted s k) c.loop-node.tree c.loop-node.node (past _ _ _ c.in-None.ensures) (c.loop-node.invariant s k knows at)

pub loop-node-preserved : goal.loop-node-preserved
loop-node-preserved c = λ s k knows at.
    grown_more (rooted s k) c.args.modules.now knows c.loop-node.node c.in-Some.code.now c.loop-node.tree c.grow.new.tree (c.loop-node.invariant s k knows at) (sym c.in-Some.ensures)
    (subst (λ ds. Grows c.args.modules.now c.loop-node.node ds c.loop-node.tree c.grow.new.tree) c.as_slice.ensures c.in_ok-grow-in-Some.ensures)

pub returns : goal.returns
returns c = λ s k knows at. grown_end (rooted s k) c.loop-node.tree c.loop-node.node (omega arith) (c.loop-node.invariant s k knows at)
