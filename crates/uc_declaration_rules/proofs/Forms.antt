-- What is found of a declaration or a command, by its form.
use Rattle.std.proofs.Common.{◌≡◌, ℕ, Bool, List, Option, Some, None, refl, ap, ◌∙◌, sym}
use Rattle.std.specs.Prelude.{Result, Ok, Err, OnOk, not, ◌&&◌, nat_le}
use Rattle.std.specs.Option.{is_some, option_map}
use Rattle.uc_lexer.specs.declared.place.Place.{Place}
use Rattle.uc_syntax.specs.declared.place.Identifier.{Identifier}
use Rattle.uc_syntax.specs.declared.expression.Expr.{Expr}
use Rattle.uc_syntax.specs.declared.declaration.Command.{Command}
use Rattle.uc_syntax.specs.declared.declaration.Command.TheVariants.{PrintCounterexamples}
use Rattle.uc_syntax.specs.declared.declaration.Decl.{Decl}
use Rattle.uc_syntax.specs.declared.declaration.Module.{Module}
use Rattle.uc_meaning.specs.Lookup.{System, module_named}
use Rattle.uc_rules.specs.declared.fault.Fault.{Fault}
use Rattle.uc_rules.specs.declared.rule.Rule.TheVariants.{BadCopy, UnknownName}
use Rattle.uc_rules.specs.Declarations.{command_faults, declaration_faults, hyper_faults, in_module}
use Rattle.uc_rules.specs.Expressions.{Context, condition_faults}
use Rattle.uc_rules.specs.Faults.{breaks_where, first_of}
use Rattle.uc_statement_rules.proofs.Noted.{noted_both}
use Rattle.uc_declaration_rules.specs.Judging.{import_faults, printed_faults}

-- a declaration is of this form
pub form_found : (s : System) (m : Module) (d e : Decl) (old new : Option Fault) → d ≡ e → new ≡ first_of old (declaration_faults s m e) → new ≡ first_of old (declaration_faults s m d)
form_found s m d e old new is found = found ∙ ap (λ x. first_of old (declaration_faults s m x)) (sym is)

printed_is : (c : Context) (place : Place) (name : Option Identifier) (paths : Option (List (List Identifier))) → printed_faults c paths ≡ command_faults c.system c.home (PrintCounterexamples place name paths)
printed_is c place name None = refl
printed_is c place name (Some paths) = refl

pub printed_found : (c : Context) (q : Command) (place : Place) (name : Option Identifier) (paths : Option (List (List Identifier))) (old new : Option Fault) →
    q ≡ PrintCounterexamples place name paths → new ≡ first_of old (printed_faults c paths) → new ≡ first_of old (command_faults c.system c.home q)
printed_found c q place name paths old new is found =
    found ∙ ap (first_of old) (printed_is c place name paths) ∙ ap (λ x. first_of old (command_faults c.system c.home x)) (sym is)

some_mapped : {A B : Type 0} (f : A → B) (o : Option A) (p : Option B) → option_map f o ≡ p → is_some o ≡ is_some p
some_mapped f None p is = ap is_some is
some_mapped f (Some x) p is = ap is_some is

pub import_found : {A : Type 0} (s : System) (i : Identifier) (f : A → Module) (o : Option A) (b : Bool) (old new : Option Fault) → option_map f o ≡ module_named s i.name → b ≡ is_some o →
    new ≡ first_of old (breaks_where (not b) UnknownName i.place) → new ≡ first_of old (import_faults s i)
import_found s i f o b old new is b-is found = found ∙ ap (λ q. first_of old (breaks_where (not q) UnknownName i.place)) (b-is ∙ some_mapped f o (module_named s i.name) is)

pub hyper_of_parts : (s : System) (m : Module) (place : Place) (n : ℕ) (e : Expr) (c d : Context) (b : Bool) (old mid new : Option Fault) → b ≡ (nat_le 2 n && nat_le n 8) →
    mid ≡ first_of old (breaks_where (not b) BadCopy place) → c ≡ in_module s m → d ≡ record c { copies = Some n } → new ≡ first_of mid (condition_faults d e) → new ≡ first_of old (hyper_faults s m place n e)
hyper_of_parts s m place n e c d b old mid new b-is first c-is d-is found =
    noted_both old mid new (breaks_where (not (nat_le 2 n && nat_le n 8)) BadCopy place) (condition_faults (record (in_module s m) { copies = Some n }) e)
    (first ∙ ap (λ q. first_of old (breaks_where (not q) BadCopy place)) b-is)
    (found ∙ ap (λ (q : Context). first_of mid (condition_faults q e)) (d-is ∙ ap (λ (q : Context). record q { copies = Some n }) c-is))

-- a scope outside all others is that of its module
pub still_outside : (c : Context) (s : System) (m : Module) → c ≡ in_module s m → c ≡ in_module c.system c.home
still_outside c s m is = is ∙ sym (ap (λ (q : Context). in_module q.system q.home) is)

-- what a call says of its success, and what follows from it
pub on_ok : {A E : Type 0} {P Q : Type 0} (r : Result A E) → (P → Q) → OnOk r P → OnOk r Q
on_ok (Ok a) more held = more held
on_ok (Err e) more held = held
