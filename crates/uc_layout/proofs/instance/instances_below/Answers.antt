use Rattle.std.proofs.Common.{ap, ◌∙◌}
use Rattle.std.specs.List.{flat_map}
use Rattle.uc_syntax.proofs.Added.{added_end}
use Rattle.uc_meaning.specs.Lookup.{instance_in}
use Rattle.uc_lookup.specs.Parts.{system_in}
use Rattle.uc_layout.specs.Instances.{instance_meant, declared_in}
use Rattle.uc_layout.proofs.Listed.{below_all}
use Rattle.uc_layout.proofs.instance.instances_below.Goals as goal

pub returns : goal.returns
returns c =
    added_end _ _ _ _ _ c.loop-decl.invariant c.loop-decl-test.false
    ∙ ap (flat_map (λ d. declared_in (system_in c.args.design.now) (instance_meant c.args.here.now) (instance_in d))) c.as_slice-decl-items.ensures
    ∙ below_all (system_in c.args.design.now) (instance_meant c.args.here.now) c.args.here.now.code.now.decls
