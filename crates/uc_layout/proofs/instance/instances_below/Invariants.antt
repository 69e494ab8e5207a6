use Rattle.std.proofs.Common.{[], map}
use Rattle.uc_syntax.proofs.Added.{AddedUpTo}
use Rattle.uc_meaning.specs.Lookup.{instance_in}
use Rattle.uc_lookup.specs.Parts.{system_in}
use Rattle.uc_layout.specs.Instances.{instance_meant, declared_in}
use Rattle.uc_layout.proofs.instance.instances_below.Given as goal

abbrev pub invariant-loop-decl : goal.invariant-loop-decl
invariant-loop-decl l =
    AddedUpTo (λ d. declared_in (system_in l.design) (instance_meant l.here) (instance_in d)) l.decl-items [] l.decl-index (map instance_meant l.inside)
