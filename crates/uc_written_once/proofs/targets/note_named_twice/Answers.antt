use Rattle.std.proofs.Common.{ap, ◌∙◌}
use Rattle.std.specs.List.{flat_map}
use Rattle.uc_rules.specs.Faults.{first_of}
use Rattle.uc_order_rules.specs.Writes.{sequential_in}
use Rattle.uc_written_once.specs.LoneFaultsWalks.{named_twice}
use Rattle.uc_written_once.proofs.Noted.{noted_begin, noted_more}
use Rattle.uc_written_once.proofs.TargetForms.{all_targets}
use Rattle.uc_written_once.proofs.targets.note_named_twice.Goals as goal

pub loop-declaration-init : goal.loop-declaration-init
loop-declaration-init c = noted_begin _ _ _

pub loop-declaration-preserved : goal.loop-declaration-preserved
loop-declaration-preserved c =
    noted_more (λ d. flat_map named_twice (sequential_in d)) _ _ _ _ _ c.declaration-item.result _ c.loop-declaration.invariant c.loop-declaration-test.true c.declaration-item.is
    (c.in_ok-note_in_block.ensures ∙ ap (λ ss. first_of c.loop-declaration.first (flat_map named_twice ss)) c.sequential_code_in.ensures)

pub returns : goal.returns
returns c = all_targets c.args.whole.now _ _ _ _ c.as_slice-declaration-items.ensures c.loop-declaration.invariant c.loop-declaration-test.false
