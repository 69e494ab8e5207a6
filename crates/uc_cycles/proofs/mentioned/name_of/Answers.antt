use Rattle.std.proofs.Common.{ap, sym, ◌∙◌}
use Rattle.uc_syntax.specs.declared.declaration.Module.{Module}
use Rattle.uc_meaning.specs.Lookup.{System}
use Rattle.uc_names.specs.Senses.{module_in}
use Rattle.uc_names.proofs.Forms.{module_found, module_missing}
use Rattle.uc_cycles.proofs.mentioned.name_of.Goals as goal

pub returns-in-None : goal.returns-in-None
returns-in-None c =
    sym (ap (λ (m : Module). m.name) (ap (λ (s : System). module_in s.modules c.args.home) (sym c.design.ensures) ∙ module_missing c.design.result.now.modules c.args.home (sym c.in-None.ensures)))

pub returns-in-Some : goal.returns-in-Some
returns-in-Some c =
    sym (ap (λ (m : Module). m.name) (ap (λ (s : System). module_in s.modules c.args.home) (sym c.design.ensures) ∙ module_found c.design.result.now.modules c.args.home c.in-Some.whole.now (sym c.in-Some.ensures)))
