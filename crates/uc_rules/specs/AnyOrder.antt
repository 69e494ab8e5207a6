-- The order in which faults are noted doesn't matter.
use Rattle.std.specs.Prelude.{◌≡◌, List, Option}
use Rattle.uc_rules.specs.declared.fault.Fault.{Fault}
use Rattle.uc_rules.specs.Faults.{first_of}

-- of the faults of two lists the first one is the same, whichever list is noted first
abbrev pub AnyOrder : Type 0
AnyOrder = (o : Option Fault) (fs gs : List Fault) → first_of (first_of o fs) gs ≡ first_of (first_of o gs) fs

-- faults that are noted again change nothing
abbrev pub NotedAgain : Type 0
NotedAgain = (o : Option Fault) (fs : List Fault) → first_of (first_of o fs) fs ≡ first_of o fs
