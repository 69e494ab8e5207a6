-- Literals, and their values where each variable has one.
use Rattle.std.specs.Prelude.{ℕ, Bool, false, not, if◌then◌else◌, nat_eq}
use Rattle.std.specs.Bool.{beq}
use Rattle.std.specs.Ordering.{eq_of_both, on}
use Rattle.uc_circuit.specs.declared.literal.Lit.{Lit}

-- the literal that is the variable itself
abbrev pub positive : ℕ → Lit
positive n = record { var = n; neg = false }

-- the literal of the same variable with the other sign
abbrev pub negate : Lit → Lit
negate l = record l { neg = not l.neg }

-- the value of a literal, where v gives each variable its value
abbrev pub literal_value : (ℕ → Bool) → Lit → Bool
literal_value v l = (if l.neg then not (v l.var) else v l.var)

-- whether two literals have one variable and one sign
abbrev pub same_literal : Lit → Lit → Bool
same_literal = eq_of_both (on (λ l. l.var) nat_eq) (on (λ l. l.neg) beq)
