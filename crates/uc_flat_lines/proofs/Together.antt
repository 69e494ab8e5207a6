-- Goals of moments gathered into one term.
use Rattle.std.specs.Prelude.{◌≡◌, ℕ, ◌+◌, ◌<◌, ◌≤◌, not, List, None}
use Rattle.std.proofs.Common.{ap, ◌∙◌, subst, arith, inl, inr}
use Rattle.std.proofs.lemmas.Bool.Decides.{leb_tells}
use Rattle.uc_values.specs.declared.ty.Ty.{Ty}
use Rattle.uc_values.specs.declared.ty.Ty.TheVariants.{Bool as Truths}
use Rattle.uc_values.specs.declared.value.Value.TheVariants.{Bool as Truth}
use Rattle.uc_values.specs.Values.{truth_of}
use Rattle.uc_ops.specs.declared.node.Node.{Node}
use Rattle.uc_terms.specs.Values.{value}
use Rattle.uc_flat.specs.declared.flat.Flat.{Flat}
use Rattle.uc_flat_copies.specs.declared.trace.Start.{Start}
use Rattle.uc_symstep.specs.Growing.{Grows, IsTerm}
use Rattle.uc_symstep.specs.Stands.{IsTruth}
use Rattle.uc_symstep.specs.Known.{IsKnown, ReadsOwnTypes, supply_from}
use Rattle.uc_symstep.proofs.Grown.{grows_value}
use Rattle.uc_symstep.proofs.Known.{known_grows}
use Rattle.uc_symstep.proofs.States.{truth_grows}
use Rattle.uc_obligations.proofs.Knowing.{later_supply}
use Rattle.uc_flat_lines.specs.Deciding.{IsSolution}
use Rattle.uc_flat_lines.specs.Joint.{AreUnrefuted, AreHit, AreMissed, FalseToo}
use Rattle.uc_flat_lines.proofs.Gathering.{all_hit, all_unrefuted}

-- the goals of the first moments
pub record Moments (f : Flat) (start : Start) (n : ℕ) (nodes : List Node) (none : ℕ) : Type 0 where
  pub truth : IsTruth nodes none
  pub missed : (k : ℕ) → k < n → AreMissed f start k nodes none
  pub known : ReadsOwnTypes f → IsKnown (supply_from f start n) nodes none

pub moments_begin : (f : Flat) (start : Start) (b : List Node) (all : ℕ) → IsTruth b all → ((supply : List Ty) → IsKnown supply b all) → Moments f start 0 b all
moments_begin f start b all t known = record { truth = t; missed = λ k l. absurd (omega (arith, l)); known = λ reads. known (supply_from f start 0) }

missed_kept : (f : Flat) (start : Start) (n : ℕ) (old new : List Node) (none after : ℕ) → FalseToo old none new after → AreMissed f start n old none → AreMissed f start n new after
missed_kept f start n old new none after kept missed k l x at single t r = let w = missed k l x at single t r in (w.0, kept w.0 w.1)

-- one moment more, and the table grows to the next
pub moments_turn : (f : Flat) (start : Start) (n : ℕ) (old mid new : List Node) (none after : ℕ) → Grows mid new → IsTruth mid after → FalseToo old none mid after → AreMissed f start n mid after
    → (ReadsOwnTypes f → IsKnown (supply_from f start n) old none → IsKnown (supply_from f start n) mid after) → Moments f start n old none → Moments f start (n + 1) new after
moments_turn f start n old mid new none after g t kept own known b = record {
  truth = truth_grows mid new after g t;
  missed = λ k l. missed_kept f start k mid new after after (λ m h. ap truth_of (grows_value mid new g m after t.there) ∙ h) (elim (leb_tells (k + 1) n) [
    | inl x ↦ missed_kept f start k old mid none after kept (b.missed k (omega (arith, x.1)))
    | inr x ↦ let here : n ≡ k = omega (arith, x.1, l) in subst (λ i. AreMissed f start i mid after) here own
  ]);
  known = λ reads. later_supply f start n new after (known_grows (supply_from f start n) mid new g after (known reads (b.known reads)));
}

pub moments_as : (f : Flat) (own start : Start) (n : ℕ) (nodes : List Node) (none : ℕ) → own ≡ start → Moments f own n nodes none → Moments f start n nodes none
moments_as f own start n nodes none e b = subst (λ s. Moments f s n nodes none) e b

-- the negation is true where a goal of a moment is
pub moments_hit : (f : Flat) (start : Start) (n : ℕ) (nodes new : List Node) (none any : ℕ) → Moments f start (n + 1) nodes none → IsTerm nodes new any Truths (λ m. Truth (not (truth_of (value m nodes none)))) → (k : ℕ) → k ≤ n → AreHit f start k new any
moments_hit f start n nodes new none any b made k l = all_hit f start k nodes new none any (b.missed k (omega (arith, l))) made

pub moments_unrefuted : (f : Flat) (start : Start) (n : ℕ) (nodes : List Node) (any : ℕ) → ((k : ℕ) → k ≤ n → AreHit f start k nodes any) → IsSolution nodes any None → (k : ℕ) → k ≤ n → AreUnrefuted f start k
moments_unrefuted f start n nodes any hit never k l = all_unrefuted f start k nodes any (hit k l) never

-- so many moments, however many they are
pub moments_to : (f : Flat) (start : Start) (n depth : ℕ) (nodes : List Node) (none : ℕ) → n ≡ depth → Moments f start n nodes none → Moments f start depth nodes none
moments_to f start n depth nodes none e b = subst (λ k. Moments f start k nodes none) e b
