use Rattle.std.proofs.Common.{◌≡◌, ap, ◌∙◌, sym, subst}
use Rattle.uc_syntax.specs.declared.declaration.Module.{Module}
use Rattle.uc_meaning.specs.Lookup.{System}
use Rattle.uc_names.specs.Senses.{module_in}
use Rattle.uc_names.proofs.Forms.{module_found, module_missing}
use Rattle.uc_names.proofs.homes.TypeHomes.name_of.Goals as goal

pub returns-in-None : goal.returns-in-None
returns-in-None c =
    sym (ap (λ (m : Module). m.name) (ap (λ (s : System). module_in s.modules c.args.home) (sym c.self.view_is) ∙ module_missing _ c.args.home (sym c.in-None.ensures)))

pub returns-in-Some : goal.returns-in-Some
returns-in-Some c =
    sym (ap (λ (m : Module). m.name) (ap (λ (s : System). module_in s.modules c.args.home) (sym c.self.view_is) ∙ module_found _ c.args.home _ (sym c.in-Some.ensures)))
