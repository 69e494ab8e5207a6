-- Designs that keep the static rules and those on order and sizes.
use Rattle.uc_meaning.specs.Lookup.{System, system_of}
use Rattle.uc_rules.specs.declared.fault.Fault.{Fault as Broken}
use Rattle.uc_types.specs.Typed.{Typed, KeepsTypes}
use Rattle.uc_order_rules.specs.Order.{KeepsOrder}
use Rattle.uc_order.specs.declared.error.OrderError.{OrderError}
use Rattle.uc_order.specs.declared.error.OrderError.TheVariants.{NoMemory, Fault}

-- the design as the meaning sees it
abbrev pub system_in : Typed → System
system_in t = system_of t.contents t.main

-- No rule is broken but those of the control block, which are not judged here.
pub record KeepsAll (t : Typed) : Type 0 where
  pub types : KeepsTypes t
  pub ordered : KeepsOrder (system_in t)

-- a fault is right
abbrev pub IsOrderError : (Broken → Type 0) → OrderError → Type 0
IsOrderError IsRight (Fault f) = IsRight f
IsOrderError IsRight NoMemory = Unit {0}
