-- What the errors of this crate say.
use Rattle.std.specs.Prelude.{◌≡◌, ◌⊎◌, ℕ, ◌<◌, List, length, Option, None, IsSomeAnd}
use Rattle.uc_syntax.specs.Contents.{Contents}
use Rattle.uc_meaning.specs.Lookup.{System, system_of}
use Rattle.uc_rules.specs.Declarations.{KeepsRules, IsFirstFault}
use Rattle.uc_order_rules.specs.Order.{IsFirstOrderFault}
use Rattle.uc_report.specs.ControlRules.{IsFirstControlFault}
use Rattle.uc_front.specs.declared.error.FrontError.{FrontError}
use Rattle.uc_front.specs.declared.error.FrontError.TheVariants.{NoMemory, ReadFault, Refused}
use Rattle.uc_front.specs.declared.refusal.Refusal.{Refusal}
use Rattle.uc_front.specs.declared.refusal.Refusal.TheVariants.{NoFile, TooLong, BreaksRule, BreaksControl, NotBuilt}
use Rattle.uc_front.specs.Denotes.{main_name, RunsToday}
use Rattle.uc_front.specs.Refused.{IsLeftAt}

-- a refusal is right
abbrev pub IsFrontError : (Refusal → Type 0) → FrontError → Type 0
IsFrontError IsRight (Refused r) = IsRight r
IsFrontError IsRight other = Unit {0}

-- the same of a pass that reads no texts
abbrev pub IsTextError : (Refusal → Type 0) → FrontError → Type 0
IsTextError IsRight (Refused r) = IsRight r
IsTextError IsRight NoMemory = Unit {0}
IsTextError IsRight ReadFault = ⊥

-- one file is refused, of which this is held, where so many bytes are left of the limit
abbrev pub IsUnreadFile : Option (List ℕ) → ℕ → ℕ → Refusal → Type 0
IsUnreadFile held file room (NoFile n) = (n ≡ file) × (held ≡ None)
IsUnreadFile held file room (TooLong n) = (n ≡ file) × IsSomeAnd held (λ text. room < length text)
IsUnreadFile held file room other = ⊥

-- a design is refused for the first fault of the static rules, or, where it keeps these, of the rules on order and sizes
abbrev pub IsRuleFault : Contents → ℕ → Refusal → Type 0
IsRuleFault d main (BreaksRule fault) = IsFirstFault d main_name fault ⊎ (KeepsRules d main_name × IsFirstOrderFault (system_of d main) fault)
IsRuleFault d main other = ⊥

-- the same, where the static rules are kept
abbrev pub IsOrderFault : System → Refusal → Type 0
IsOrderFault system (BreaksRule fault) = IsFirstOrderFault system fault
IsOrderFault system other = ⊥

-- a design is refused for the first fault of its control block
abbrev pub IsControlFault : System → Refusal → Type 0
IsControlFault system (BreaksControl fault) = IsFirstControlFault system fault
IsControlFault system other = ⊥

-- a design is refused since it does not run today, where it is at fault
abbrev pub IsStopped : System → Refusal → Type 0
IsStopped system (NotBuilt p) = (RunsToday system → ⊥) × IsLeftAt system p
IsStopped system other = ⊥
