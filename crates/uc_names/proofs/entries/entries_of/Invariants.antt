use Rattle.std.proofs.Common.{[]}
use Rattle.uc_syntax.proofs.Added.{AddedUpTo}
use Rattle.uc_names.specs.Senses.{entries_meant, module_in}
use Rattle.uc_names.specs.Entries.{names_by}
use Rattle.uc_names.proofs.entries.entries_of.Given as goal

abbrev pub invariant-loop-declaration : goal.invariant-loop-declaration
invariant-loop-declaration l = AddedUpTo (names_by l.design (module_in l.design.modules l.home)) l.declarations [] l.declaration (entries_meant l.design.modules l.entries)
