-- What a declared type says, and what is known of it.
use Rattle.std.proofs.Common.{◌≡◌, ℕ, ◌+◌, ◌<◌, ◌≤◌, Bool, true, false, List, [], ◌∷◌, ◌++◌, Option, Some, None, refl, ap, sym, subst, ◌∙◌}
use Rattle.std.specs.Prelude.{nat_eq, cond, ◌&&◌}
use Rattle.std.specs.Option.{is_some, option_map}
use Rattle.std.proofs.lemmas.Bool.{and_parts}
use Rattle.uc_lexer.specs.declared.place.Place.{Place}
use Rattle.uc_syntax.specs.declared.place.Identifier.{Identifier}
use Rattle.uc_syntax.specs.declared.type_expression.TypeExpr.{TypeExpr}
use Rattle.uc_syntax.specs.declared.declaration.Module.{Module}
use Rattle.uc_values.specs.declared.ty.Ty.{Ty}
use Rattle.uc_meaning.specs.Lookup.{System}
use Rattle.uc_meaning.specs.Types.{TypeEntry, Alias, Opaque}
use Rattle.uc_rules.specs.declared.fault.Fault.{Fault}
use Rattle.uc_rules.specs.declared.rule.Rule.TheVariants.{DuplicateName}
use Rattle.uc_rules.specs.Faults.{breaks_where, earlier, first_of}
use Rattle.uc_rules.specs.Names.{names_one_of, repeated_in, repeated_in_list}
use Rattle.uc_rules.specs.Outcomes.{faults_in, outcome_of, type_in}
use Rattle.uc_rules.specs.Types.{Aliases, entry_outcome, entry_type, of_module}
use Rattle.uc_names.specs.declared.senses.DeclaredType.{DeclaredType}
use Rattle.uc_names.specs.Senses.{declared_meant, module_in}
use Rattle.uc_declared_types.specs.declared.aliases.AliasTypes.{AliasTypes}
use Rattle.uc_declared_types.specs.Aliases.{Agrees, Related, Side, alias_written, entry_of, same_declared, type_at, with_type}
use Rattle.uc_declared_types.proofs.Sides.{nothing, related_on, same_related, type_again}

pub alias_is : (e : TypeEntry) (t : TypeExpr) → Some t ≡ alias_written e → e ≡ Alias t
alias_is (Alias u) t h = ap Alias (sym (some_inside t u h))
  where
    some_inside : (a b : TypeExpr) → Some a ≡ Some b → a ≡ b
    some_inside a b k = cc
alias_is Opaque t h = nothing t (sym h)

pub opaque_is : (e : TypeEntry) → None ≡ alias_written e → e ≡ Opaque
opaque_is (Alias u) h = nothing u h
opaque_is Opaque h = refl

-- no fault stands at a name that stands for a type
no_fault : (s : System) (alias : Aliases) (place : Place) (x : ℕ) (home : Module) (e : TypeEntry) → faults_in place (entry_type s alias x home e) ≡ []
no_fault s alias place x home (Alias t) = by (alias home t)
  where
    by : (o : Option Ty) → faults_in place (outcome_of o) ≡ []
    by None = refl
    by (Some u) = refl
no_fault s alias place x home Opaque = refl

pub named_fault : (s : System) (alias : Aliases) (place : Place) (x : ℕ) (d : DeclaredType) (o : Option DeclaredType) (first : Option Fault) → o ≡ Some d →
    first ≡ first_of first (faults_in place (entry_outcome s alias x (option_map (declared_meant s.modules) o)))
unfolding first_of
named_fault s alias place x d o first is =
    sym (ap (λ q. first_of first (faults_in place (entry_outcome s alias x (option_map (declared_meant s.modules) q)))) is
    ∙ ap (first_of first) (no_fault s alias place x (module_in s.modules d.home) (entry_of s d)))

pub known_alias : (side : Side) (s : System) (table : AliasTypes) (alias : Aliases) (x : ℕ) (d : DeclaredType) (t : TypeExpr) (r : Option Ty) → Agrees side s table alias → Some t ≡ alias_written (entry_of s d) →
    r ≡ type_at table d → Related side r (type_in (entry_type s alias x (module_in s.modules d.home) (entry_of s d)))
unfolding Agrees
known_alias side s table alias x d t r agrees is reads =
    let e : entry_of s d ≡ Alias t = alias_is (entry_of s d) t is in
    related_on side r _ (type_at table d) (alias (module_in s.modules d.home) t) reads
    (ap (λ q. type_in (entry_type s alias x (module_in s.modules d.home) q)) e ∙ type_again (alias (module_in s.modules d.home) t)) (agrees d t e)

-- nothing is taken where no name is given
none_taken : (e : List ℕ) (is : List Identifier) → repeated_in (names_one_of []) e is ≡ repeated_in (λ x. false) e is
unfolding repeated_in
none_taken e [] = refl
none_taken e (i ∷ is) = ap (λ fs. breaks_where (names_one_of e i.name) DuplicateName i.place ++ fs) (none_taken (e ++ i.name ∷ []) is)

pub in_list : (is : List Identifier) → repeated_in (names_one_of []) [] is ≡ repeated_in_list is
in_list is = none_taken [] is

pub none_of : (o : Option Fault) → o ≡ first_of o []
unfolding first_of
none_of o = refl

pub noted : (o : Option Fault) (f : Fault) → earlier o f ≡ first_of o (f ∷ [])
unfolding first_of
noted o f = refl
