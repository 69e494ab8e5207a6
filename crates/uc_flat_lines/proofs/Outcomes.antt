-- From what is found of a goal to what refutes a formula.
use Rattle.std.proofs.Common.{◌≡◌, ℕ, ◌≤◌, List, Option, Some, None, ◌∙◌, slice_get}
use Rattle.std.specs.Prelude.{Result, Ok, Err, IfOk, IfErr}
use Rattle.uc_ops.specs.declared.model.Model.{Model}
use Rattle.uc_ops.specs.declared.node.Node.{Node}
use Rattle.uc_ops.specs.Typing.{AllValid}
use Rattle.uc_flat.specs.declared.flat.Flat.{Flat}
use Rattle.uc_flat.specs.declared.flat.Formula.{Formula}
use Rattle.uc_symstep.specs.Known.{IsKnown, supply_from}
use Rattle.uc_flat.specs.Traces.{constant_types}
use Rattle.uc_flat_copies.specs.declared.trace.FlatCopies.{FlatCopies}
use Rattle.uc_flat_copies.specs.declared.trace.Start.{Start}
use Rattle.uc_flat_copies.specs.Traces.{RefutesCopies}
use Rattle.uc_flat_copies.specs.Lines.{line_over}
use Rattle.uc_log.specs.Problems.{Question}
use Rattle.uc_obligations.specs.Goals.{IsGoal, IsObligation, IsTold}
use Rattle.uc_flat_lines.specs.declared.line.FlatWhy.{FlatWhy}
use Rattle.uc_flat_lines.specs.declared.line.FlatWhy.TheVariants.{Memory, Budget}
use Rattle.uc_flat_lines.specs.Deciding.{IsSolution, IsOutcome, IsSpentFor, IsSpentOn, IsHonestFor, IsHonestAfter, IsOpenedFor, IsOpenedAfter, IsOpenedOn, verdict_of}
use Rattle.uc_flat_lines.specs.Lines.{IsFlatVerdict, IsHonestVerdict}

-- where no model makes the goal true, no trace refutes the formula
pub none_all : (f : Flat) (start : Start) (k n : ℕ) (nodes : List Node) (goal : ℕ) → ((x : Formula) → slice_get f.formulas k ≡ Some x → IsObligation f start x n nodes goal) → IsSolution nodes goal None → (x : Formula) → slice_get f.formulas k ≡ Some x
    → IsOutcome f start x n None
none_all f start k n nodes goal o never x at t r = let m = (o x at).found t r in never m.0 m.1

-- the trace that is built of a model refutes it
pub one_all : (f : Flat) (start : Start) (k n : ℕ) (nodes : List Node) (goal : ℕ) (t : FlatCopies) → ((x : Formula) → slice_get f.formulas k ≡ Some x → x.copies ≡ 1) → ((x : Formula) → slice_get f.formulas k ≡ Some x → IsGoal f start x n nodes goal)
    → ((x : Formula) → x.copies ≡ 1 → IsGoal f start x n nodes goal → RefutesCopies f (line_over f start n x) t) → (x : Formula) → slice_get f.formulas k ≡ Some x → IsOutcome f start x n (Some t)
one_all f start k n nodes goal t single g built x at = built x (single x at) (g x at)

pub honest_after : (f : Flat) (start : Start) (budget n : ℕ) (nodes : List Node) (goal : ℕ) (why : FlatWhy) → IsKnown (supply_from f start n) nodes goal → IsHonestFor budget nodes goal why → IsHonestAfter f start budget n why
honest_after f start budget n nodes goal Budget k h = h (supply_from f start n) k
honest_after f start budget n nodes goal Memory k h = tt

-- the problem of a goal is that of its formula
pub opened_after : (f : Flat) (start : Start) (k n : ℕ) (nodes : List Node) (goal : ℕ) (opened : Option Question) (here budget : ℕ) (why : FlatWhy) → ((x : Formula) → slice_get f.formulas k ≡ Some x → IsGoal f start x n nodes goal)
    → IsOpenedFor nodes goal opened here budget why → IsOpenedAfter f start k n opened here budget why
opened_after f start k n nodes goal opened here budget Budget is h = (h.0.table, h.0.term, (λ x at m. h.0.same m ∙ is x at m), h.0.stands, h.1)
opened_after f start k n nodes goal opened here budget Memory is h = tt

-- a model of a known goal tells a trace
pub never_untold : (f : Flat) (start : Start) (n : ℕ) (nodes : List Node) (goal : ℕ) (m : Model) → IsSolution nodes goal (Some m) → IsKnown (supply_from f start n) nodes goal → AllValid (constant_types f) → IsTold f start n nodes goal m None → ⊥
never_untold f start n nodes goal m s k valid t = t valid k s

-- from what is found of a formula to its verdict
pub verdict_right : (f : Flat) (start : Start) (x : Formula) (n k : ℕ) (r : Result (Option FlatCopies) FlatWhy) → IfOk r (λ o. (y : Formula) → slice_get f.formulas k ≡ Some y → IsOutcome f start y n o) → slice_get f.formulas k ≡ Some x
    → IsFlatVerdict f start x n (verdict_of r)
verdict_right f start x n k (Ok None) h at = h x at
verdict_right f start x n k (Ok (Some t)) h at = h x at
verdict_right f start x n k (Err why) h at = tt

pub verdict_spent : (budget before after : ℕ) (r : Result (Option FlatCopies) FlatWhy) → before ≤ after → IfErr r (IsSpentFor budget before after) → IsSpentOn budget before after (verdict_of r)
verdict_spent budget before after (Ok None) l h = l
verdict_spent budget before after (Ok (Some t)) l h = l
verdict_spent budget before after (Err why) l h = h

pub verdict_honest : (f : Flat) (start : Start) (budget n : ℕ) (r : Result (Option FlatCopies) FlatWhy) → IfErr r (IsHonestAfter f start budget n) → IsHonestVerdict f start budget n (verdict_of r)
verdict_honest f start budget n (Ok None) h = tt
verdict_honest f start budget n (Ok (Some t)) h = tt
verdict_honest f start budget n (Err Budget) h = h
verdict_honest f start budget n (Err Memory) h = tt

pub verdict_opened : (f : Flat) (start : Start) (k n : ℕ) (opened : Option Question) (here budget : ℕ) (r : Result (Option FlatCopies) FlatWhy) → IfErr r (IsOpenedAfter f start k n opened here budget)
    → IsOpenedOn f start k n opened here budget (verdict_of r)
verdict_opened f start k n opened here budget (Ok None) h = tt
verdict_opened f start k n opened here budget (Ok (Some t)) h = tt
verdict_opened f start k n opened here budget (Err why) h = h
