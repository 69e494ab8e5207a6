use Rattle.std.specs.List.{flat_map}
use Rattle.uc_order_rules.specs.Sizes.{code_in}
use Rattle.uc_written_once.specs.LoneFaultsWalks.{long_loops}
use Rattle.uc_written_once.proofs.Noted.{noted_begin, noted_more}
use Rattle.uc_written_once.proofs.LoopForms.{all_loops}
use Rattle.std.proofs.Common.{ap, ◌∙◌}
use Rattle.uc_rules.specs.Faults.{first_of}
use Rattle.uc_written_once.proofs.loops.note_long_loops.Goals as goal

pub loop-declaration-init : goal.loop-declaration-init
loop-declaration-init c = noted_begin _ _ _

pub loop-declaration-preserved : goal.loop-declaration-preserved
loop-declaration-preserved c =
    noted_more (λ d. flat_map long_loops (code_in d)) _ _ _ _ _ c.declaration-item.result _ c.loop-declaration.invariant c.loop-declaration-test.true c.declaration-item.is
    (c.note_in_block.ensures ∙ ap (λ ss. first_of c.loop-declaration.first (flat_map long_loops ss)) c.all_code_in.ensures)

pub returns : goal.returns
returns c = all_loops c.args.whole.now _ _ _ _ c.as_slice-declaration-items.ensures c.loop-declaration.invariant c.loop-declaration-test.false
