-- Faults in their order, and the first of a list.
use Rattle.std.specs.Prelude.{◌≡◌, ◌⊎◌, ℕ, Bool, true, false, nat_lt, nat_eq, if◌then◌else◌, List, [], ◌∷◌, Option, Some, None, Result, Ok, Err}
use Rattle.uc_lexer.specs.declared.place.Place.{Place}
use Rattle.uc_rules.specs.declared.rule.Rule.{Rule}
use Rattle.uc_rules.specs.declared.rule.Rule.TheVariants.{UnknownName, DuplicateName, WrongType, Nonlinear, WideLiteral, Unbound, NotAssignable, BadPrime, BadCopy, NotModifies, BadWidth, ArrayShape, AxiomState, Cycle, TwiceAssigned, CyclicStep, SteppedTwice, TooLarge}
use Rattle.uc_rules.specs.declared.fault.Fault.{Fault}

-- the number under which a broken rule is reported
abbrev pub number_of : Rule → ℕ
number_of UnknownName = 10
number_of DuplicateName = 11
number_of WrongType = 12
number_of Nonlinear = 13
number_of WideLiteral = 14
number_of Unbound = 15
number_of NotAssignable = 16
number_of BadPrime = 17
number_of BadCopy = 18
number_of NotModifies = 19
number_of BadWidth = 20
number_of ArrayShape = 21
number_of AxiomState = 22
number_of Cycle = 23
number_of TwiceAssigned = 24
number_of CyclicStep = 25
number_of SteppedTwice = 26
number_of TooLarge = 27

-- two numbers are compared, and what follows where they are the same
abbrev pub less : ℕ → ℕ → Bool → Bool
less a b rest = if nat_eq a b then rest else nat_lt a b

-- a fault comes before another one: by file, line and column, and at one place by its number
abbrev pub sooner : Fault → Fault → Bool
sooner f g = less f.place.file g.place.file (less f.place.line g.place.line (less f.place.col g.place.col (nat_lt (number_of f.rule) (number_of g.rule))))

-- the one that comes first
abbrev pub earlier : Option Fault → Fault → Option Fault
earlier None f = Some f
earlier (Some g) f = if sooner f g then Some f else Some g

-- the first of a fault that was met and of those of a list
unfoldable pub first_of : Option Fault → List Fault → Option Fault
first_of o [] = o
first_of o (f ∷ fs) = first_of (earlier o f) fs

-- a rule that is broken at a place
abbrev pub broken : Rule → Place → Fault
broken rule place = record { rule = rule; place = place }

-- the same as a list of faults
abbrev pub breaks : Rule → Place → List Fault
breaks rule place = broken rule place ∷ []

-- a rule is broken at a place where this holds
abbrev pub breaks_where : Bool → Rule → Place → List Fault
breaks_where true rule place = breaks rule place
breaks_where false rule place = []

-- a fault of a list
unfoldable pub IsIn : Fault → List Fault → Type 0
IsIn f [] = ⊥
IsIn f (g ∷ gs) = (f ≡ g) ⊎ IsIn f gs

-- none of a list comes before a fault
unfoldable pub NoneBefore : Fault → List Fault → Type 0
NoneBefore f [] = Unit {0}
NoneBefore f (g ∷ gs) = (sooner g f ≡ false) × NoneBefore f gs

-- one of the faults, before which none of them comes
abbrev pub IsFirst : Fault → List Fault → Type 0
IsFirst f fs = IsIn f fs × NoneBefore f fs

-- Ok exactly where no rule is broken, and else the first fault.
abbrev pub IsVerdict : {A : Type 0} → List Fault → Result A Fault → Type 0
IsVerdict fs (Ok x) = fs ≡ []
IsVerdict fs (Err f) = IsFirst f fs
