-- An operation that is met where all terms are evaluated.
use Rattle.std.proofs.Common.{◌≡◌, ℕ, ◌<◌, List, length, Some, ap, ◌∙◌, subst}
use Rattle.std.specs.Prelude.{Contains, Err}
use Rattle.std.proofs.lemmas.List.Elements.{All-contains}
use Rattle.uc_linear.specs.declared.exact.Wide.{Wide}
use Rattle.uc_linear.specs.declared.exact.LinearError.{LinearError}
use Rattle.uc_linear.specs.declared.exact.LinearError.TheVariants.{NoMemory, Wide as TooWide}
use Rattle.uc_linear.specs.Exact.{OnWide}
use Rattle.uc_values.specs.declared.value.Value.{Value}
use Rattle.uc_ops.specs.declared.model.Model.{Model}
use Rattle.uc_ops.specs.declared.node.Node.{Node}
use Rattle.uc_terms.specs.Met.{Meets, MeetsInOne}
use Rattle.uc_flat.specs.declared.flat.Flat.{Flat}
use Rattle.uc_obligations.specs.Reading.{AreConstantsOf, AreRead, AreNumbers, MeetsIn, beginning_with}

met_there : (f : Flat) (nodes : List Node) (n : ℕ) (constants own : List Value) (ts others : List ℕ) (m b : Model) (w : Wide)
    → AreRead f m constants → own ≡ constants → b ≡ beginning_with own m → n ≡ length nodes → AreNumbers n ts → others ≡ ts → MeetsInOne b nodes others w → MeetsIn f nodes m w
met_there f nodes n constants own ts others m b w read i is j numbers e met = record {
  constants = constants;
  read = read;
  term = met.root;
  there = subst (λ k. met.root < k) j (All-contains (λ t. t < n) ts met.root numbers.below (subst (λ xs. Contains xs met.root) e met.listed));
  met = subst (λ x. Meets x nodes met.root w) (is ∙ ap (λ vs. beginning_with vs m) i) met.met;
}

-- where the answer is an operation that is too wide, it is one that was met
pub wide_there : (A B : Type 0) (f : Flat) (nodes : List Node) (n : ℕ) (constants own : List Value) (ts others : List ℕ) (m b : Model) (e : LinearError)
    → AreConstantsOf f m (Some constants) → own ≡ constants → b ≡ beginning_with own m → n ≡ length nodes → AreNumbers n ts → others ≡ ts
    → OnWide {A = A} (Err e) (MeetsInOne b nodes others) → OnWide {A = B} (Err e) (MeetsIn f nodes m)
wide_there A B f nodes n constants own ts others m b NoMemory read i is j numbers same h = tt
wide_there A B f nodes n constants own ts others m b (TooWide w) read i is j numbers same h = (h.0, met_there f nodes n constants own ts others m b w read i is j numbers same h.1)
