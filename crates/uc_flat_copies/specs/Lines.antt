-- Lines of one copy: which formulas are assumed before the last position, and in which models a formula is refuted.
use Rattle.std.specs.Prelude.{ℕ, Bool, not, nat_eq, ◌&&◌, ◌||◌, List, [], filter}
use Rattle.std.specs.List.{list_all}
use Rattle.uc_ops.specs.declared.model.Model.{Model}
use Rattle.uc_flat.specs.declared.flat.Flat.{Flat}
use Rattle.uc_flat.specs.declared.flat.Formula.{Formula}
use Rattle.uc_flat.specs.Unrolled.{holds_in, axioms_hold}
use Rattle.uc_flat_copies.specs.declared.trace.Start.{Start}
use Rattle.uc_flat_copies.specs.declared.trace.Start.TheVariants.{Initially, Anywhere}
use Rattle.uc_flat_copies.specs.Traces.{CopyLine, formula}
use Rattle.uc_flat_copies.specs.Places.{place, all_below}

-- the formulas that a line of so many copies from any state assumes before its last position: those of one copy, and those of all its copies together
abbrev pub is_supposed : ℕ → Formula → Bool
is_supposed n x = nat_eq x.copies 1 || nat_eq x.copies n

abbrev pub supposed : Flat → ℕ → List Formula
supposed f n = filter (is_supposed n) f.formulas

-- a line from an initial state assumes nothing
abbrev pub before_of : Flat → Start → ℕ → List Formula
before_of f Initially n = []
before_of f Anywhere n = supposed f n

-- the line of a formula after so many steps
abbrev pub line_over : Flat → Start → ℕ → Formula → CopyLine
line_over f start steps x = record { start = start; steps = steps; copies = x.copies; before = before_of f start x.copies; throughout = []; subject = formula x }

-- what a line of one copy assumes holds at each place before the n-th
abbrev pub supposed_below : Flat → Start → Model → ℕ → Bool
supposed_below f start m n = all_below n (λ k. list_all (λ x. holds_in f x m (place f start m k).cells) (before_of f start 1))

-- In the model the axioms hold, the design goes n steps, what is assumed holds before the last place, and there the formula is false.
abbrev pub is_refuted_at : Flat → Start → ℕ → Formula → Model → Bool
is_refuted_at f start n x m = axioms_hold f m && ((place f start m n).goes && (supposed_below f start m n && not (holds_in f x m (place f start m n).cells)))
