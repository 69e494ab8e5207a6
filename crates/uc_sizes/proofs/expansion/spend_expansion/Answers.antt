use Rattle.std.proofs.Common.{[], map}
use Rattle.uc_meaning.specs.Lookup.{main_module}
use Rattle.uc_meaning.specs.Cells.{modules_in_use}
use Rattle.uc_meaning.specs.Steps.{main_next}
use Rattle.uc_order_rules.specs.Roots.{instances_in}
use Rattle.uc_order_rules.specs.Sizes.{axiom_nodes, code_size, instance_size, size, sum, total}
use Rattle.uc_sizes.specs.Expanding.{declared_procedures}
use Rattle.uc_lookup.specs.Parts.{system_in}
use Rattle.uc_sizes.proofs.Spending.{stop_out}
use Rattle.uc_sizes.proofs.Expanding.{expansion_is, four_spent, stop_first, stop_second, stop_third}
use Rattle.uc_sizes.proofs.expansion.spend_expansion.Goals as goal

pub returns-in_err-spend_main_next : goal.returns-in_err-spend_main_next
returns-in_err-spend_main_next c = stop_out _ _ _ _ _ c.from_residual.ensures.1 (stop_first _ _ _ (code_size (system_in c.args.system.now) [] (main_next (system_in c.args.system.now))) (sum (map (instance_size (system_in c.args.system.now)) (instances_in (system_in c.args.system.now)))) (size 0 (total (map (axiom_nodes (system_in c.args.system.now)) (modules_in_use (system_in c.args.system.now))))) (declared_procedures (system_in c.args.system.now) (main_module (system_in c.args.system.now))) _ _ c.in_err-spend_main_next.ensures (expansion_is (system_in c.args.system.now)))

pub returns-in_err-spend_all_instances : goal.returns-in_err-spend_all_instances
returns-in_err-spend_all_instances c =
    stop_out _ _ _ _ _ c.from_residual-in_err-spend_all_instances.ensures.1 (stop_second _ _ _ _ (code_size (system_in c.args.system.now) [] (main_next (system_in c.args.system.now))) (sum (map (instance_size (system_in c.args.system.now)) (instances_in (system_in c.args.system.now)))) (size 0 (total (map (axiom_nodes (system_in c.args.system.now)) (modules_in_use (system_in c.args.system.now))))) (declared_procedures (system_in c.args.system.now) (main_module (system_in c.args.system.now))) _ _ _ c.in_ok-spend_main_next.ensures c.in_err-spend_all_instances.ensures (expansion_is (system_in c.args.system.now)))

pub returns-in_err-spend_axioms : goal.returns-in_err-spend_axioms
returns-in_err-spend_axioms c =
    stop_out _ _ _ _ _ c.from_residual-in_err-spend_axioms.ensures.1
    (stop_third _ _ _ _ _ (code_size (system_in c.args.system.now) [] (main_next (system_in c.args.system.now))) (sum (map (instance_size (system_in c.args.system.now)) (instances_in (system_in c.args.system.now)))) (size 0 (total (map (axiom_nodes (system_in c.args.system.now)) (modules_in_use (system_in c.args.system.now))))) (declared_procedures (system_in c.args.system.now) (main_module (system_in c.args.system.now))) _ _ _ _ c.in_ok-spend_main_next.ensures c.in_ok-spend_all_instances.ensures c.in_err-spend_axioms.ensures (expansion_is (system_in c.args.system.now)))

pub returns : goal.returns
returns c =
    four_spent _ _ _ _ _ (code_size (system_in c.args.system.now) [] (main_next (system_in c.args.system.now))) (sum (map (instance_size (system_in c.args.system.now)) (instances_in (system_in c.args.system.now)))) (size 0 (total (map (axiom_nodes (system_in c.args.system.now)) (modules_in_use (system_in c.args.system.now))))) (declared_procedures (system_in c.args.system.now) (main_module (system_in c.args.system.now))) _ _ _ _ _ c.in_ok-spend_main_next.ensures c.in_ok-spend_all_instances.ensures c.in_ok-spend_axioms.ensures c.spend_main_procedures.ensures (expansion_is (system_in c.args.system.now))
