use Rattle.std.proofs.Common.{[], ◌∙◌}
use Rattle.uc_syntax.proofs.Added.{added_more, added_end}
use Rattle.uc_type_reader.specs.Places.{enums_in_module}
use Rattle.uc_type_reader.proofs.Listed.{module_enums, all_enums}
use Rattle.uc_type_reader.proofs.places.written_enums.Goals as goal

pub loop-code-preserved : goal.loop-code-preserved
loop-code-preserved c =
    added_more enums_in_module c.args.modules.now [] c.loop-code.enums c.append.new.self c.loop-code.code-index c.code-item.result c.loop-code.invariant c.loop-code-test.true c.code-item.is
    (module_enums c.code-item.result c.in_ok-found.found c.loop-code.enums c.append.new.self c.in_ok-found.ensures c.in_ok-append.ensures)

pub returns : goal.returns
returns c = added_end _ _ _ _ _ c.loop-code.invariant c.loop-code-test.false ∙ all_enums c.args.modules.now
