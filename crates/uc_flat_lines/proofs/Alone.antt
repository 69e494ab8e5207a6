-- What is found of a goal in a table of its own holds of the goal.
use Rattle.std.specs.Prelude.{ℕ, ◌<◌, List, length, Option, None, Some, Result, Ok, Err, IfOk, IfErr}
use Rattle.std.proofs.Common.{sym, ap, ◌∙◌}
use Rattle.uc_values.specs.Values.{truth_of}
use Rattle.uc_ops.specs.declared.model.Model.{Model}
use Rattle.uc_ops.specs.declared.node.Node.{Node}
use Rattle.uc_terms.specs.Tables.{WellTyped}
use Rattle.uc_terms.specs.Laws.{SameUnderEveryModel}
use Rattle.uc_simplify.specs.Features.{BringsNoMore}
use Rattle.uc_symstep.specs.Growing.{Grows}
use Rattle.uc_symstep.proofs.Grown.{grows_value}
use Rattle.uc_obligations.proofs.Knowing.{simpler_known}
use Rattle.uc_log.specs.Problems.{Question}
use Rattle.uc_flat_lines.specs.declared.line.FlatWhy.{FlatWhy}
use Rattle.uc_flat_lines.specs.declared.line.FlatWhy.TheVariants.{Memory, Budget}
use Rattle.uc_flat_lines.specs.Deciding.{IsKnownBySome, IsSolution, IsHonestFor, IsOpenedIn, IsOpenedFor}

-- the own term is known where the goal is
pub known_alike : (nodes own : List Node) (goal root : ℕ) → WellTyped own → root < length own → BringsNoMore own root nodes goal → IsKnownBySome nodes goal → IsKnownBySome own root
known_alike nodes own goal root w there features known = (known.0, simpler_known known.0 nodes own goal root w there features known.1)

pub solved_alike : (nodes own : List Node) (goal root : ℕ) (r : Result (Option Model) FlatWhy) → SameUnderEveryModel own root nodes goal → IfOk r (IsSolution own root) → IfOk r (IsSolution nodes goal)
solved_alike nodes own goal root (Ok None) same h = λ m holds. h m (ap truth_of (same m) ∙ holds)
solved_alike nodes own goal root (Ok (Some m)) same h = sym (ap truth_of (same m)) ∙ h
solved_alike nodes own goal root (Err why) same h = tt

pub honest_alike : (nodes own : List Node) (goal root budget : ℕ) (r : Result (Option Model) FlatWhy) → WellTyped own → root < length own → BringsNoMore own root nodes goal → IfErr r (IsHonestFor budget own root)
    → IfErr r (IsHonestFor budget nodes goal)
honest_alike nodes own goal root budget (Ok o) w there features h = tt
honest_alike nodes own goal root budget (Err Budget) w there features h = λ supply known. h supply (simpler_known supply nodes own goal root w there features known)
honest_alike nodes own goal root budget (Err Memory) w there features h = tt

-- the own table has grown while the problem was made
pub opened_alike : (nodes own after : List Node) (goal root : ℕ) (opened : Option Question) (here budget : ℕ) (r : Result (Option Model) FlatWhy) → SameUnderEveryModel own root nodes goal → root < length own → Grows own after
    → IfErr r (IsOpenedIn after root opened here budget) → IfErr r (IsOpenedFor nodes goal opened here budget)
opened_alike nodes own after goal root opened here budget (Ok o) same there grown h = tt
opened_alike nodes own after goal root opened here budget (Err Budget) same there grown h =
    (record { table = after; term = root; same = λ m. grows_value own after grown m root there ∙ same m; stands = h.0 }, h.1)
opened_alike nodes own after goal root opened here budget (Err Memory) same there grown h = tt
