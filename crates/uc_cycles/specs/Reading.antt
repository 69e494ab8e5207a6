use Rattle.std.specs.Prelude.{◌≡◌, ℕ, List}
use Rattle.uc_syntax.specs.declared.declaration.Module.{Module}
use Rattle.uc_meaning.specs.Lookup.{System}
use Rattle.uc_rules.specs.Names.{names_one_of}
use Rattle.uc_rules.specs.Reads.{define_reads}

-- these names are those of the defines of a module that read state
unfoldable pub KnowsReads : System → Module → List ℕ → Type 0
KnowsReads s m reading = (f : ℕ) → names_one_of reading f ≡ define_reads s m f
