use Rattle.std.proofs.Common.{◌⊎◌, length}
use Rattle.uc_declared_types.specs.AliasLaw.{IsAmong}
use Rattle.uc_names.specs.declared.senses.DeclaredType.{DeclaredType}
use Rattle.uc_declared_types.specs.Aliases.{Agrees, Below, IsSettled, read_to_end}
use Rattle.uc_declared_types.proofs.passes.read_all.Given as goal

abbrev pub invariant-passes : goal.invariant-passes
invariant-passes l = record {
  below : Agrees Below l.homes l.fn.aliases (read_to_end l.homes) → Agrees Below l.homes l.aliases (read_to_end l.homes);
  covered : ((d : DeclaredType) → IsSettled l.homes l.fn.aliases d ⊎ IsAmong d l.fn.declared) → (d : DeclaredType) → IsSettled l.homes l.aliases d ⊎ IsAmong d l.pending;
}

abbrev pub decreases-passes : goal.decreases-passes
decreases-passes l = length l.pending
