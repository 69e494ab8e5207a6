use Rattle.uc_rules.specs.Declarations.{design_faults}
use Rattle.uc_types.proofs.Checked.{all_noted, main_is}
use Rattle.uc_types.proofs.checking.judged_main.Goals as goal

pub returns-in-Ok-clause-main : goal.returns-in-Ok-clause-main
returns-in-Ok-clause-main c =
    main_is c.args.design.now c.args.main.now c.main_number-found.result c.in_ok-number.number c.main_number-found.ensures c.in_ok-number.ensures
    (c.in-Ok.ensures (design_faults c.args.design.now c.args.main.now) (all_noted c.args.design.now c.args.main.now c.main_number-found.result c.in_ok-number.number c.note_main.new.first c.note_design.new.first
    c.main_number-found.ensures c.in_ok-number.ensures c.note_main.ensures c.in_ok-note_design.ensures))

pub returns-in-Ok-clause-kept : goal.returns-in-Ok-clause-kept
returns-in-Ok-clause-kept c =
    c.in-Ok.ensures (design_faults c.args.design.now c.args.main.now) (all_noted c.args.design.now c.args.main.now c.main_number-found.result c.in_ok-number.number c.note_main.new.first c.note_design.new.first
    c.main_number-found.ensures c.in_ok-number.ensures c.note_main.ensures c.in_ok-note_design.ensures)

pub returns-in-Err-clause-refused : goal.returns-in-Err-clause-refused
returns-in-Err-clause-refused c =
    c.in-Err.ensures (design_faults c.args.design.now c.args.main.now) (all_noted c.args.design.now c.args.main.now c.main_number-found.result c.in_ok-number.number c.note_main.new.first c.note_design.new.first
    c.main_number-found.ensures c.in_ok-number.ensures c.note_main.ensures c.in_ok-note_design.ensures)
