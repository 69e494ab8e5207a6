-- Parameters that become known one after another.
use Rattle.std.proofs.Common.{◌≡◌, ℕ, ◌+◌, ◌<◌, ◌≤◌, Bool, true, false, List, [], ◌∷◌, ◌++◌, length, map, drop, get_or, Option, refl, ap, ◌∙◌, sym}
use Rattle.std.specs.Prelude.{nat_eq, ◌||◌}
use Rattle.std.proofs.lemmas.List.{drop_all}
use Rattle.uc_syntax.specs.declared.type_expression.Parameter.{Parameter}
use Rattle.uc_syntax.specs.declared.type_expression.TypeExpr.{TypeExpr}
use Rattle.uc_syntax.specs.declared.declaration.Module.{Module}
use Rattle.uc_meaning.specs.Lookup.{System}
use Rattle.uc_values.specs.declared.ty.Ty.{Ty}
use Rattle.uc_rules.specs.declared.fault.Fault.{Fault}
use Rattle.uc_rules.specs.declared.rule.Rule.TheVariants.{DuplicateName}
use Rattle.uc_rules.specs.declared.known.Known.{Known}
use Rattle.uc_rules.specs.declared.known.Role.{Role}
use Rattle.uc_rules.specs.Declarations.{identifiers_of, names_of_parameters, with_parameters}
use Rattle.uc_rules.specs.Faults.{breaks_where, first_of}
use Rattle.uc_rules.specs.Names.{is_name_of, names_one_of, repeated_in}
use Rattle.uc_rules.specs.Expressions.{Context}
use Rattle.uc_rules.specs.Statements.{bound_names}
use Rattle.uc_rules.specs.Types.{parameter_faults, type_faults, type_of}
use Rattle.uc_rules.proofs.Chains.{first_of_append}
use Rattle.uc_rules.proofs.Lists.{drop_turn}
use Rattle.uc_rules.proofs.Swaps.{any_order}
use Rattle.uc_statement_rules.proofs.Declaring.{SameNames, repeated_front, repeated_none, repeated_turn}
use Rattle.uc_declaration_rules.specs.Procedures.{NotesParameters}

-- what is still to be noted of parameters, where these names are known
abbrev still : Context → List ℕ → List (Parameter TypeExpr) → List Fault
still c seen ps = repeated_in (is_name_of c.system c.home) seen (identifiers_of ps) ++ parameter_faults c.system c.home ps

-- four lists, the third of which is noted first
third_first : (o : Option Fault) (rs ss ts us : List Fault) → first_of (first_of (first_of (first_of o ts) rs) ss) us ≡ first_of o ((rs ++ ss) ++ (ts ++ us))
third_first o rs ss ts us =
    ap (λ p. first_of (first_of p ss) us) (any_order o ts rs)
    ∙ ap (λ p. first_of p us) (any_order (first_of o rs) ts ss)
    ∙ sym (first_of_append (first_of (first_of o rs) ss) ts us)
    ∙ ap (λ p. first_of p (ts ++ us)) (sym (first_of_append o rs ss))
    ∙ sym (first_of_append o (rs ++ ss) (ts ++ us))

-- Before turn k, the rest of the parameters are still to be noted and to become known.
pub record ParametersFrom (c : Context) (role : Role) (ps : List (Parameter TypeExpr)) (old : Option Fault) (k : ℕ) (now : Context) (first : Option Fault) : Type 0 where
  pub scope : now ≡ record c { bound = now.bound }
  pub bound : with_parameters c.system c.home role (drop k ps) now.bound ≡ with_parameters c.system c.home role ps c.bound
  pub found : first_of first (still c (bound_names now) (drop k ps)) ≡ first_of old (still c (bound_names c) ps)

module _ (c : Context) (role : Role) (ps : List (Parameter TypeExpr)) (old : Option Fault) where
  pub parameters_begin : ParametersFrom c role ps old 0 c old
  parameters_begin = record { scope = refl; bound = refl; found = refl }

  pub parameters_more : (k : ℕ) (now after : Context) (first mid new : Option Fault) (p d : Parameter TypeExpr) (t : Option Ty) → ParametersFrom c role ps old k now first → k < length ps → p ≡ get_or ps k d →
      t ≡ type_of now.system now.home p.ty → mid ≡ first_of first (type_faults now.system now.home p.ty) →
      new ≡ first_of mid (breaks_where (is_name_of now.system now.home p.identifier.name || names_one_of (bound_names now) p.identifier.name) DuplicateName p.identifier.place) →
      after ≡ record now { bound = record { name = p.identifier.name; role = role; ty = t } ∷ now.bound } → ParametersFrom c role ps old (k + 1) after new
  parameters_more k now after first mid new p d t before within at t-is mid-is new-is after-is =
      let i = p.identifier in
      let taken = is_name_of c.system c.home in
      let rest = drop (k + 1) ps in
      let known : Known = record { name = i.name; role = role; ty = type_of c.system c.home p.ty } in
      let rs : List Fault = breaks_where (taken i.name || names_one_of (bound_names now) i.name) DuplicateName i.place in
      let ss : List Fault = repeated_in taken (bound_names now ++ i.name ∷ []) (identifiers_of rest) in
      let type-is : t ≡ type_of c.system c.home p.ty = t-is ∙ ap (λ (q : Context). type_of q.system q.home p.ty) before.scope in
      let bound-is : after.bound ≡ known ∷ now.bound =
      ap (λ (q : Context). q.bound) after-is ∙ ap (λ u. record { name = i.name; role = role; ty = u } ∷ now.bound) type-is in
      let mid-c : mid ≡ first_of first (type_faults c.system c.home p.ty) = mid-is ∙ ap (λ (q : Context). first_of first (type_faults q.system q.home p.ty)) before.scope in
      let new-c : new ≡ first_of mid rs = new-is ∙ ap (λ (q : Context). first_of mid (breaks_where (is_name_of q.system q.home i.name || names_one_of (bound_names now) i.name) DuplicateName i.place)) before.scope in record {
        scope = after-is ∙ ap (λ (q : Context). record q { bound = record { name = i.name; role = role; ty = t } ∷ now.bound }) before.scope ∙ ap (λ u. record c { bound = record { name = i.name; role = role; ty = u } ∷ now.bound }) type-is ∙ ap (λ b. record c { bound = b }) (sym bound-is);
        bound =
            ap (with_parameters c.system c.home role rest) bound-is
            ∙ sym (ap (λ xs. with_parameters c.system c.home role xs now.bound) (drop_turn ps k p d within at))
            ∙ before.bound;
        found =
            ap (λ b. first_of new (repeated_in taken (map (λ k. k.name) b) (identifiers_of rest) ++ parameter_faults c.system c.home rest)) bound-is
            ∙ ap (λ fs. first_of new (fs ++ parameter_faults c.system c.home rest)) (repeated_front taken (bound_names now) i.name (identifiers_of rest))
            ∙ first_of_append new ss (parameter_faults c.system c.home rest)
            ∙ ap (λ o. first_of (first_of o ss) (parameter_faults c.system c.home rest)) (new-c ∙ ap (λ o. first_of o rs) mid-c)
            ∙ third_first first rs ss (type_faults c.system c.home p.ty) (parameter_faults c.system c.home rest)
            ∙ sym (ap (λ fs. first_of first (fs ++ parameter_faults c.system c.home (p ∷ rest))) (repeated_turn taken (bound_names now) i (identifiers_of rest)))
            ∙ sym (ap (λ xs. first_of first (still c (bound_names now) xs)) (drop_turn ps k p d within at))
            ∙ before.found;
      }

  none_left : (seen : List ℕ) → still c seen [] ≡ []
  none_left seen = ap (λ fs. fs ++ []) (repeated_none (is_name_of c.system c.home) seen)

  pub parameters_end : (k : ℕ) (now : Context) (first : Option Fault) → ParametersFrom c role ps old k now first → length ps ≤ k → NotesParameters c role ps old first now
  unfolding first_of
  parameters_end k now first before past = record {
    noted = sym (ap (first_of first) (ap (still c (bound_names now)) (drop_all k ps past) ∙ none_left (bound_names now))) ∙ before.found;
    scope = before.scope ∙ ap (λ b. record c { bound = b }) (sym (ap (λ xs. with_parameters c.system c.home role xs now.bound) (drop_all k ps past)) ∙ before.bound);
  }

-- the names of parameters, and those that were known before

turned : (a b r : Bool) → ((a || b) || r) ≡ (b || (a || r))
turned true true r = refl
turned true false r = refl
turned false true r = refl
turned false false r = refl

names_known : (s : System) (m : Module) (role : Role) (ps : List (Parameter TypeExpr)) (bound : List Known) (x : ℕ) →
    names_one_of (map (λ k. k.name) (with_parameters s m role ps bound)) x ≡ (names_one_of (map (λ k. k.name) bound) x || names_one_of (names_of_parameters ps) x)
names_known s m role [] bound x = none (names_one_of (map (λ k. k.name) bound) x)
  where
    none : (b : Bool) → b ≡ (b || false)
    none true = refl
    none false = refl
names_known s m role (p ∷ ps) bound x =
    names_known s m role ps (record { name = p.identifier.name; role = role; ty = type_of s m p.ty } ∷ bound) x
    ∙ turned (nat_eq x p.identifier.name) (names_one_of (map (λ k. k.name) bound) x) (names_one_of (names_of_parameters ps) x)

pub same_names : (s : System) (m : Module) (role : Role) (ps : List (Parameter TypeExpr)) → SameNames (map (λ k. k.name) (with_parameters s m role ps [])) (names_of_parameters ps)
same_names s m role ps x = names_known s m role ps [] x
