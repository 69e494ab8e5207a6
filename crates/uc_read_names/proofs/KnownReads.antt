-- The defines of a module that read state.
use Rattle.std.proofs.Common.{◌≡◌, ℕ, List}
use Rattle.uc_syntax.specs.declared.declaration.Module.{Module}
use Rattle.uc_meaning.specs.Lookup.{System}
use Rattle.uc_rules.specs.Names.{names_one_of}
use Rattle.uc_rules.specs.Reads.{define_reads}
use Rattle.uc_read_names.specs.Reading.{KnowsReads}

pub reads_known : (s : System) (m : Module) (reading : List ℕ) → KnowsReads s m reading → (f : ℕ) → names_one_of reading f ≡ define_reads s m f
unfolding KnowsReads
reads_known s m reading h f = h f
