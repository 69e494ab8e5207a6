use Rattle.std.proofs.Common.{ap, ◌∙◌, sym}
use Rattle.uc_syntax.specs.declared.declaration.Module.{Module}
use Rattle.uc_names.proofs.Forms.{module_found, module_missing}
use Rattle.uc_names.proofs.design.DesignNames.declarations_of.Goals as goal

pub returns-in-None : goal.returns-in-None
returns-in-None c = sym (ap (λ (m : Module). m.decls) (module_missing c.args.self.now.modules c.args.number (sym c.in-None.ensures)))

pub returns-in-Some : goal.returns-in-Some
returns-in-Some c = c.as_slice.ensures ∙ sym (ap (λ (m : Module). m.decls) (module_found c.args.self.now.modules c.args.number _ (sym c.in-Some.ensures)))
