-- What the numbers of names and files stand for in a design.
use Rattle.std.specs.Prelude.{ℕ, List, [], slice_get, unwrap_or}
use Rattle.std.specs.Option.{option_map_or}
use Rattle.uc_meaning.specs.Lookup.{System}
use Rattle.uc_report.specs.declared.design.DesignView.{DesignView}

-- the design that is looked at
abbrev pub described : DesignView → System
described d = record { names = d.names.now; files = d.files.now; modules = d.modules.now; main = d.main }

-- the bytes of a name
abbrev pub name_of : System → ℕ → List ℕ
name_of d n = unwrap_or (slice_get d.names n) []

-- the name of a file
abbrev pub file_of : System → ℕ → List ℕ
file_of d n = option_map_or (name_of d) (slice_get d.files n) []
