use Rattle.std.proofs.Common.{[], sym, subst}
use Rattle.uc_declaration_rules.specs.Judging.{KnowsBindings}
use Rattle.uc_declaration_rules.proofs.Bound.{bindings_begin, bindings_end, bindings_more}
use Rattle.uc_declaration_rules.proofs.instances.bound_names.Goals as goal

pub loop-binding-init : goal.loop-binding-init
loop-binding-init c = subst (KnowsBindings []) (sym c.new-known.ensures) bindings_begin

pub loop-binding-preserved : goal.loop-binding-preserved
loop-binding-preserved c =
    bindings_more c.args.bindings.now c.loop-binding.known c.insert.new.self c.loop-binding.binding-index c.binding-item.result c.binding-item.result c.loop-binding.invariant c.loop-binding-test.true c.binding-item.is c.in_ok-insert.ensures.ok

pub returns : goal.returns
returns c = bindings_end c.args.bindings.now c.loop-binding.known c.loop-binding.binding-index c.loop-binding.invariant c.loop-binding-test.false
