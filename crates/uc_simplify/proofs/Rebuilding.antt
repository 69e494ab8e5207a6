-- Terms that are made for an operation, after steps.
use Rattle.std.specs.Prelude.{◌≡◌, ℕ, List, Result, Ok, Err, IfOk}
use Rattle.std.proofs.Common.{◌∙◌, subst, inl, inr}
use Rattle.uc_ops.specs.declared.op.Op.{Op}
use Rattle.uc_ops.specs.declared.node.Node.{Node}
use Rattle.uc_simplify_steps.specs.Steps.{IsKnown, Replaces}
use Rattle.uc_simplify_steps.proofs.Features.{brings-below}
use Rattle.uc_simplify_steps.proofs.Steps.{one_brings-below}
use Rattle.uc_simplify.specs.Simplified.{Rebuilds}

-- a known term stands for the operation
pub known_rebuilds : (nodes : List Node) (t : ℕ) (op : Op) (parts : List ℕ) → IsKnown nodes t op parts → Rebuilds nodes t nodes op parts
known_rebuilds nodes t op parts x = record {
  there = x.there;
  same = x.same;
  ty = x.ty;
  features = λ f h. inr (record { one = x.below.root; listed = x.below.listed; brings = brings-below nodes x.below.root t f x.below.below h });
}

-- what stands for the operation after the step stands for the one before
pub rebuilt_after : (new old : List Node) (r : ℕ) (b c : Op) (qs rs : List ℕ) → Rebuilds new r old b qs → Replaces old b qs c rs → Rebuilds new r old c rs
rebuilt_after new old r b c qs rs x y = record {
  there = x.there;
  same = λ m. x.same m ∙ y.same m;
  ty = x.ty ∙ y.ty;
  features = λ f h. elim (x.features f h) [ inl i ↦ y.shows f i | inr o ↦ inr (one_brings-below old qs rs f y.below o) ];
}

pub call_rebuilds : {E : Type 0} (new old : List Node) (o : Result ℕ E) (b c : Op) (qs rs slice : List ℕ) → slice ≡ qs → IfOk o (λ r. Rebuilds new r old b slice) → Replaces old b qs c rs → IfOk o (λ r. Rebuilds new r old c rs)
call_rebuilds new old (Err e) b c qs rs slice s x y = tt
call_rebuilds new old (Ok r) b c qs rs slice s x y = rebuilt_after new old r b c qs rs (subst (λ ps. Rebuilds new r old b ps) s x) y
