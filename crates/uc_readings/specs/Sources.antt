-- What a source that is found stands for: it is known what it says, and nothing is met on the way, or an expression is read for it.
use Rattle.std.specs.Prelude.{◌≡◌, ℕ, List, []}
use Rattle.uc_syntax.specs.declared.expression.Expr.{Expr}
use Rattle.uc_values.specs.declared.ty.Ty.TheVariants.{Enum as enum_type}
use Rattle.uc_values.specs.declared.value.Value.{Value}
use Rattle.uc_values.specs.declared.value.Value.TheVariants.{Enum as label}
use Rattle.uc_meaning.specs.declared.scope.Scope.{Scope}
use Rattle.uc_meaning.specs.declared.scope.Local.{Local}
use Rattle.uc_meaning.specs.Lookup.{System}
use Rattle.uc_meaning.specs.Expressions.{Reading, reads, label_count, Elsewhere as Reads, Meant as NameMeant, OfBinding, means, meant_reading, Applied as NameApplied, OfDefine, applied_reading}
use Rattle.uc_meaning.specs.Overflow.{MetElsewhere, source_met, applied_met}
use Rattle.uc_readings.specs.Scopes.{scope_in}
use Rattle.uc_readings.specs.Readings.{reading_of}
use Rattle.uc_readings.specs.declared.meant.Meant.{Meant}
use Rattle.uc_readings.specs.declared.meant.Meant.TheVariants.{Known, Elsewhere}
use Rattle.uc_readings.specs.declared.applying.Applied.{Applied}
use Rattle.uc_readings.specs.declared.applying.Applied.TheVariants.{Known as KnownResult, Define}

-- However expressions elsewhere are read, the name says this, and nothing is met on the way.
pub record IsKnown (r : Reading) (m : NameMeant) : Type 0 where
  pub reading : (elsewhere : Reads) → meant_reading elsewhere m ≡ r
  pub met : (others : MetElsewhere) → source_met others m.source ≡ []

-- a name: what it says, or the type and the expression that is bound to it, in its own scope
abbrev pub StandsFor : Meant → NameMeant → Type 0
StandsFor (Known r) m = IsKnown (reading_of r) m
StandsFor (Elsewhere t s e) m = m ≡ means t (OfBinding (scope_in s) e.now)

-- what a label says, by its enum and its place there
abbrev pub label_reading : System → ℕ × ℕ → Reading
label_reading system l = reads (enum_type l.0 (label_count system l.0)) (label l.0 l.1)

-- However expressions elsewhere are read, the application says this, and nothing is met on the way.
pub record IsResult (r : Reading) (arguments : List Value) (a : NameApplied) : Type 0 where
  pub reading : (elsewhere : Reads) → applied_reading elsewhere arguments a ≡ r
  pub met : (others : MetElsewhere) → applied_met others a ≡ []

-- a scope with other locals
abbrev pub with_locals : Scope → List Local → Scope
with_locals s locals = record s { locals = locals }

-- an applied name in a scope: what it says, or the type, the locals and the body of a define
abbrev pub Applies : Scope → List Value → Applied → NameApplied → Type 0
Applies s arguments (KnownResult r) a = IsResult (reading_of r) arguments a
Applies s arguments (Define t locals body) a = a ≡ OfDefine t (with_locals s locals) body.now
