use Rattle.std.proofs.Common.{ap, ◌∙◌}
use Rattle.uc_rules.specs.Declarations.{function_faults}
use Rattle.uc_rules.specs.Expressions.{Context}
use Rattle.uc_rules.specs.Faults.{first_of}
use Rattle.uc_declaration_rules.proofs.Forms.{on_ok, still_outside}
use Rattle.uc_declaration_rules.proofs.functions.judge_function.Goals as goal

pub judge_function_in-requires : goal.judge_function_in-requires
judge_function_in-requires c = still_outside c.scope-scope.result c.args.home.now.system c.args.home.now.home c.scope-scope.ensures

pub returns : goal.returns
returns c =
    on_ok c.judge_function_in.result
    (λ noted. noted ∙ ap (λ (q : Context). first_of c.args.first.now (function_faults q.system q.home c.args.parameters.now c.args.ty.now)) c.scope-scope.ensures)
    c.judge_function_in.ensures
