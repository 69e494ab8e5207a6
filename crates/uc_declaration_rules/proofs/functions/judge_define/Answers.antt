use Rattle.std.proofs.Common.{ap, ◌∙◌}
use Rattle.uc_rules.specs.Declarations.{define_faults}
use Rattle.uc_rules.specs.Expressions.{Context}
use Rattle.uc_rules.specs.Faults.{first_of}
use Rattle.uc_declaration_rules.proofs.Forms.{on_ok, still_outside}
use Rattle.uc_declaration_rules.proofs.functions.judge_define.Goals as goal

pub judge_define_in-requires : goal.judge_define_in-requires
judge_define_in-requires c = still_outside c.scope-scope.result c.args.home.now.system c.args.home.now.home c.scope-scope.ensures

pub returns : goal.returns
returns c =
    on_ok c.judge_define_in.result
    (λ noted. noted ∙ ap (λ (q : Context). first_of c.args.first.now (define_faults q.system q.home c.args.place c.args.parameters.now c.args.ty.now c.args.body.now)) c.scope-scope.ensures)
    c.judge_define_in.ensures
