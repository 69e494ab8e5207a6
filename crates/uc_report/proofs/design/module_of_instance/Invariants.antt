use Rattle.std.proofs.Common.{◌≡◌, drop, nat_eq}
use Rattle.std.specs.List.{find, filter_map}
use Rattle.uc_meaning.specs.Lookup.{instance_in}
use Rattle.uc_report.proofs.design.module_of_instance.Given as goal

abbrev pub invariant-loop-decl : goal.invariant-loop-decl
invariant-loop-decl l =
    find (λ i. nat_eq i.name l.name) (filter_map instance_in (drop l.decl-index l.decls)) ≡ find (λ i. nat_eq i.name l.name) (filter_map instance_in l.decls)
