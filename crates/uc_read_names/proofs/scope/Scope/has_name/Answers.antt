use Rattle.std.proofs.Common.{◌≡◌, ap, subst, ◌∙◌}
use Rattle.std.specs.List.{list_any}
use Rattle.uc_meaning.specs.Lookup.{System}
use Rattle.uc_names.specs.Senses.{module_in}
use Rattle.uc_rules.specs.Expressions.{Context}
use Rattle.uc_rules.specs.Names.{is_entry, is_name_of, names_in}
use Rattle.uc_read_names.proofs.Listed.{bit_known, name_else, name_then}
use Rattle.uc_read_names.proofs.scope.Scope.has_name.Goals as goal

pub returns-then-is_bit_function : goal.returns-then-is_bit_function
returns-then-is_bit_function c =
    let s = c.self.inside.types.now in
    subst (λ (q : Context). c.is_bit_function.result ≡ is_name_of q.system q.home c.args.name) c.self.view_is
    (name_then c.is_bit_function.result s (module_in s.modules c.self.inside.home) c.args.name c.if-is_bit_function.true
    (c.is_bit_function.ensures ∙ bit_known s c.system.result.names.now c.args.name (ap (λ (q : System). q.names) (c.system.ensures ∙ c.design.ensures ∙ c.homes.ensures))))

pub returns-else-is_bit_function : goal.returns-else-is_bit_function
returns-else-is_bit_function c =
    let s = c.self.inside.types.now in
    subst (λ (q : Context). c.has_name.result ≡ is_name_of q.system q.home c.args.name) c.self.view_is
    (name_else c.is_bit_function.result c.has_name.result s (module_in s.modules c.self.inside.home) c.args.name c.if-is_bit_function.false
    (c.is_bit_function.ensures ∙ bit_known s c.system.result.names.now c.args.name (ap (λ (q : System). q.names) (c.system.ensures ∙ c.design.ensures ∙ c.homes.ensures)))
    (c.has_name.ensures ∙ ap (λ (q : System). list_any (is_entry c.args.name) (names_in q (module_in q.modules c.self.inside.home))) c.homes-else-is_bit_function.ensures))
