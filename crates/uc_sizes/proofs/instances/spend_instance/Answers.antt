use Rattle.std.proofs.Common.{refl}
use Rattle.std.specs.List.{flat_map}
use Rattle.uc_lookup.specs.Parts.{system_in}
use Rattle.uc_meaning.specs.Lookup.{init_of}
use Rattle.uc_order_rules.specs.Sizes.{code_size, formula_in}
use Rattle.uc_sizes.proofs.Spending.{spends_stop, spends_two, stop_out}
use Rattle.uc_sizes.specs.Expanding.{expression_sizes}
use Rattle.uc_sizes.proofs.Expanding.{instance_is}
use Rattle.uc_sizes.proofs.instances.spend_instance.Goals as goal

pub returns-in_err-spend_init : goal.returns-in_err-spend_init
returns-in_err-spend_init c here at =
    stop_out _ _ _ _ _ c.from_residual.ensures.1
    (spends_stop _ _ _ _ (code_size (system_in c.args.system.now) c.args.path.now (init_of c.args.code.now)) (expression_sizes (system_in c.args.system.now) c.args.path.now (flat_map formula_in c.args.code.now.decls)) _ c.in_err-spend_init.ensures
    (instance_is (system_in c.args.system.now) c.args.path.now c.args.code.now here c.args.code.now.decls at refl))

pub returns : goal.returns
returns c here at =
    spends_two _ _ _ _ _ (code_size (system_in c.args.system.now) c.args.path.now (init_of c.args.code.now)) (expression_sizes (system_in c.args.system.now) c.args.path.now (flat_map formula_in c.as_slice.result.now)) _ c.in_ok-spend_init.ensures c.spend_formulas.ensures
    (instance_is (system_in c.args.system.now) c.args.path.now c.args.code.now here c.as_slice.result.now at c.as_slice.ensures)
