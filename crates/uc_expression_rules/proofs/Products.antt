-- Chains and products without operands.
use Rattle.std.proofs.Common.{◌≡◌, Bool, List, [], ◌∷◌, Option, Some, None, refl, ap, sym, subst}
use Rattle.uc_lexer.specs.declared.place.Place.{Place}
use Rattle.uc_values.specs.declared.ty.Ty.{Ty}
use Rattle.uc_rules.specs.declared.fault.Fault.{Fault}
use Rattle.uc_rules.specs.declared.rows.Chain.{Chain}
use Rattle.uc_rules.specs.Faults.{first_of}
use Rattle.uc_rules.specs.Expressions.{Own, chained, product_own}
use Rattle.uc_expression_rules.specs.Judging.{Finds, FindsOwn}

pub chained_none : (chain : Chain) (marks : List Place) (types : List (Option Ty)) (old : Option Fault) → types ≡ [] → FindsOwn old old None (chained chain marks types)
unfolding first_of
chained_none chain marks types old is = record {
  type = ap (λ ts. (chained chain marks ts).type) (sym is);
  found = ap (λ ts. first_of old (chained chain marks ts).faults) (sym is);
}

pub product_none : (marks : List Place) (types : List (Option Ty)) (plains : List Bool) (old : Option Fault) → types ≡ [] → FindsOwn old old None (product_own marks types plains)
unfolding first_of
product_none marks types plains old is = record {
  type = ap (λ ts. (product_own marks ts plains).type) (sym is);
  found = ap (λ ts. first_of old (product_own marks ts plains).faults) (sym is);
}

without : (marks : List Place) (types : List (Option Ty)) (old : Option Fault) → FindsOwn old old None (product_own marks types [])
unfolding first_of
without marks [] old = record { type = refl; found = refl }
without marks (t ∷ ts) old = record { type = refl; found = refl }

pub product_without : (marks : List Place) (types : List (Option Ty)) (plains : List Bool) (old : Option Fault) → plains ≡ [] → FindsOwn old old None (product_own marks types plains)
product_without marks types plains old is = subst (λ ps. FindsOwn old old None (product_own marks types ps)) (sym is) (without marks types old)
