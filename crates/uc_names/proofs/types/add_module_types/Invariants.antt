use Rattle.uc_syntax.proofs.Added.{AddedUpTo}
use Rattle.uc_rules.specs.Names.{type_brought}
use Rattle.uc_names.specs.Senses.{entries_meant, module_in}
use Rattle.uc_names.proofs.types.add_module_types.Given as goal

abbrev pub invariant-loop-declaration : goal.invariant-loop-declaration
invariant-loop-declaration l =
    AddedUpTo (type_brought l.at (module_in l.design.modules l.home)) l.declarations (entries_meant l.design.modules l.initial.entries) l.declaration (entries_meant l.design.modules l.entries)
