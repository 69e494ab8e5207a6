-- What a scope that is given by reference stands for, and the scope in which a name is reached.
use Rattle.std.specs.Prelude.{ℕ, Bool, true, false, List, [], Option, Some, None}
use Rattle.std.specs.Option.{option_copied}
use Rattle.uc_meaning.specs.declared.scope.Scope.{Scope}
use Rattle.uc_meaning.specs.declared.scope.Local.{Local}
use Rattle.uc_meaning.specs.Expressions.{at_copy}
use Rattle.uc_readings.specs.declared.scope.ScopeRef.{ScopeRef}
use Rattle.uc_readings.specs.declared.way.Arrival.{Arrival}

abbrev pub scope_in : ScopeRef → Scope
scope_in s = record {
  path = s.path.now;
  before = s.before.now;
  after = option_copied s.after;
  at_entry = option_copied s.at_entry;
  copies = s.copies.now;
  locals = s.locals.now;
  interp = s.interp.now;
}

-- a scope at another path, where the locals are those of the scope itself or, inside an instance, none
abbrev pub locals_of : Scope → Bool → List Local
locals_of s true = []
locals_of s false = s.locals

abbrev pub scope_at : Scope → List ℕ → Bool → Scope
scope_at s path is_inside = record s { path = path; locals = locals_of s is_inside }

abbrev pub if_copy : Option ℕ → Scope → Scope
if_copy None s = s
if_copy (Some k) s = at_copy s k

-- the scope in which a name is read that is reached from a scope
abbrev pub reached_scope : Scope → Arrival → Scope
reached_scope s r = if_copy r.copy (scope_at s r.path r.is_inside)
