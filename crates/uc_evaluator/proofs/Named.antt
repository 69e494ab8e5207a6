-- What names and applications say, from what they stand for.
use Rattle.std.proofs.Common.{◌≡◌, ℕ, ◌≤◌, Bool, List, [], Option, None, refl, ap, ◌∙◌, sym, subst, arith}
use Rattle.uc_syntax.specs.declared.expression.Expr.{Expr}
use Rattle.uc_values.specs.declared.ty.Ty.{Ty}
use Rattle.uc_values.specs.declared.value.Value.{Value}
use Rattle.uc_meaning.specs.declared.scope.Scope.{Scope}
use Rattle.uc_meaning.specs.declared.scope.Local.{Local}
use Rattle.uc_meaning.specs.Lookup.{System}
use Rattle.uc_meaning.specs.Expressions.{Reading, reads, OfBinding, means, meaning_of, meant_reading, name, reading_through, OfDefine, applied, applied_reading}
use Rattle.uc_meaning.specs.Overflow.{source_met, name_met, applied_met, met_through}
use Rattle.uc_operators.specs.Overflows.{first_wide}
use Rattle.uc_meaning.specs.Shapes.{size}
use Rattle.uc_readings.specs.Sources.{IsKnown, IsResult}
use Rattle.uc_evaluator.proofs.Bodies.{bodies, source_size, meaning_size, applied_size, application_size}

module _ (n : ℕ) (system : System) (s : Scope) where
  module _ (x : ℕ) (p : Bool) where
    pub known_reading : (r : Reading) → IsKnown r (meaning_of system s x p) → r ≡ name system (reading_through n system) s x p
    known_reading r known = sym (known.reading (reading_through n system))

    pub known_none : (r : Reading) → IsKnown r (meaning_of system s x p) → first_wide (name_met system (met_through n system) s x p) ≡ None
    known_none r known = ap first_wide (known.met (met_through n system))

    module _ (t : Ty) (there : Scope) (e : Expr) (is : meaning_of system s x p ≡ means t (OfBinding there e)) where
      pub bound_reading : reads t (reading_through n system there e).value ≡ name system (reading_through n system) s x p
      bound_reading = sym (ap (meant_reading (reading_through n system)) is)

      pub bound_met : met_through n system there e ≡ name_met system (met_through n system) s x p
      bound_met = sym (ap (λ m. source_met (met_through n system) m.source) is)

      pub bound_size : size e ≤ bodies system
      bound_size = omega (arith, ap (λ m. source_size system s x p m.source) is, meaning_size system s x p)

  module _ (f : ℕ) (vs : List Value) where
    pub result_reading : (r : Reading) → IsResult r vs (applied system s f vs) → r ≡ applied_reading (reading_through n system) vs (applied system s f vs)
    result_reading r known = sym (known.reading (reading_through n system))

    pub result_none : (r : Reading) → IsResult r vs (applied system s f vs) → first_wide (applied_met (met_through n system) (applied system s f vs)) ≡ None
    result_none r known = ap first_wide (known.met (met_through n system))

    module _ (t : Ty) (there : Scope) (body : Expr) (is : applied system s f vs ≡ OfDefine t there body) where
      pub define_reading : reads t (reading_through n system there body).value ≡ applied_reading (reading_through n system) vs (applied system s f vs)
      define_reading = sym (ap (applied_reading (reading_through n system) vs) is)

      pub define_met : met_through n system there body ≡ applied_met (met_through n system) (applied system s f vs)
      define_met = sym (ap (applied_met (met_through n system)) is)

      pub define_size : size body ≤ bodies system
      define_size = omega (arith, ap (applied_size system s f vs) is, application_size system s f vs)
