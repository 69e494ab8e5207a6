use Rattle.std.proofs.Common.{ap, ◌∙◌}
use Rattle.uc_rules.specs.Faults.{first_of}
use Rattle.uc_uses.specs.Noted.{noted}
use Rattle.uc_uses.proofs.Told.{told_begin, told_end, told_more}
use Rattle.uc_uses.proofs.noting.note_declarations.Goals as goal

pub loop-declaration-init : goal.loop-declaration-init
loop-declaration-init c = told_begin (noted c.args.root.now.tree c.args.root.now.table c.args.flags.now c.args.node) c.args.declarations.now c.args.first.now

pub loop-declaration-preserved : goal.loop-declaration-preserved
loop-declaration-preserved c =
    told_more (noted c.args.root.now.tree c.args.root.now.table c.args.flags.now c.args.node) c.args.declarations.now c.args.first.now c.loop-declaration.declaration-index c.declaration-item.result c.loop-declaration.first c.note_declaration.new.first
    c.loop-declaration-test.true c.loop-declaration.invariant
    (c.note_declaration.ensures ∙ ap (λ d. first_of c.loop-declaration.first (noted c.args.root.now.tree c.args.root.now.table c.args.flags.now c.args.node d)) c.declaration-item.is)

pub returns : goal.returns
returns c = told_end (noted c.args.root.now.tree c.args.root.now.table c.args.flags.now c.args.node) c.args.declarations.now c.args.first.now c.loop-declaration.declaration-index c.loop-declaration.first c.loop-declaration-test.false c.loop-declaration.invariant
