-- Names that become known one after another.
use Rattle.std.proofs.Common.{◌≡◌, ℕ, ◌+◌, ◌<◌, ◌≤◌, Bool, true, false, List, [], ◌∷◌, ◌++◌, length, map, drop, get_or, Option, refl, ap, ◌∙◌, sym, subst}
use Rattle.std.specs.Prelude.{nat_eq, ◌||◌}
use Rattle.std.proofs.lemmas.List.{drop_all}
use Rattle.std.proofs.lemmas.List.Folds.{list_any-append}
use Rattle.uc_syntax.specs.declared.place.Identifier.{Identifier}
use Rattle.uc_values.specs.declared.ty.Ty.{Ty}
use Rattle.uc_rules.specs.declared.fault.Fault.{Fault}
use Rattle.uc_rules.specs.declared.rule.Rule.TheVariants.{DuplicateName}
use Rattle.uc_rules.specs.declared.known.Role.{Role}
use Rattle.uc_rules.specs.Faults.{breaks_where, first_of}
use Rattle.uc_rules.specs.Names.{is_name_of, names_one_of, repeated_in}
use Rattle.uc_rules.specs.Expressions.{Context}
use Rattle.uc_rules.specs.Statements.{binds, bound_names, with_names}
use Rattle.uc_rules.proofs.Chains.{first_of_append}
use Rattle.uc_rules.proofs.Lists.{drop_turn}
use Rattle.uc_statement_rules.specs.Judging.{Declares}

-- two lists have the same names
abbrev pub SameNames : List ℕ → List ℕ → Type 0
SameNames e f = (x : ℕ) → names_one_of e x ≡ names_one_of f x

same_with : (e f : List ℕ) (y : ℕ) → SameNames e f → SameNames (e ++ y ∷ []) (f ++ y ∷ [])
same_with e f y h x =
    list_any-append (nat_eq x) e (y ∷ [])
    ∙ ap (λ b. b || names_one_of (y ∷ []) x) (h x)
    ∙ sym (list_any-append (nat_eq x) f (y ∷ []))

pub repeated_same : (taken : ℕ → Bool) (e f : List ℕ) (is : List Identifier) → SameNames e f → repeated_in taken e is ≡ repeated_in taken f is
unfolding repeated_in
repeated_same taken e f [] h = refl
repeated_same taken e f (i ∷ is) h =
    ap (λ b. breaks_where (taken i.name || b) DuplicateName i.place ++ repeated_in taken (e ++ i.name ∷ []) is) (h i.name)
    ∙ ap (λ fs. breaks_where (taken i.name || names_one_of f i.name) DuplicateName i.place ++ fs)
    (repeated_same taken (e ++ i.name ∷ []) (f ++ i.name ∷ []) is (same_with e f i.name h))

either : (a b : Bool) → (a || b) ≡ (b || (a || false))
either true true = refl
either true false = refl
either false true = refl
either false false = refl

-- a name in front, or at the end
front_or_end : (e : List ℕ) (y : ℕ) → SameNames (y ∷ e) (e ++ y ∷ [])
front_or_end e y x = either (nat_eq x y) (names_one_of e x) ∙ sym (list_any-append (nat_eq x) e (y ∷ []))

pub repeated_front : (taken : ℕ → Bool) (e : List ℕ) (y : ℕ) (is : List Identifier) → repeated_in taken (y ∷ e) is ≡ repeated_in taken (e ++ y ∷ []) is
repeated_front taken e y is = repeated_same taken (y ∷ e) (e ++ y ∷ []) is (front_or_end e y)

pub repeated_turn : (taken : ℕ → Bool) (seen : List ℕ) (i : Identifier) (is : List Identifier) →
    repeated_in taken seen (i ∷ is) ≡ breaks_where (taken i.name || names_one_of seen i.name) DuplicateName i.place ++ repeated_in taken (seen ++ i.name ∷ []) is
unfolding repeated_in
repeated_turn taken seen i is = refl

pub repeated_none : (taken : ℕ → Bool) (seen : List ℕ) → repeated_in taken seen [] ≡ []
unfolding repeated_in
repeated_none taken seen = refl

-- Before turn k, the rest of the names are still to be noted and to become known.
pub record DeclaresFrom (c : Context) (role : Role) (is : List Identifier) (t : Option Ty) (old : Option Fault) (k : ℕ) (now : Context) (first : Option Fault) : Type 0 where
  pub scope : now ≡ record c { bound = now.bound }
  pub bound : with_names role (drop k is) t now.bound ≡ with_names role is t c.bound
  pub found : first_of first (repeated_in (is_name_of c.system c.home) (bound_names now) (drop k is)) ≡ first_of old (repeated_in (is_name_of c.system c.home) (bound_names c) is)

module _ (c : Context) (role : Role) (is : List Identifier) (t : Option Ty) (old : Option Fault) where
  pub declares_begin : DeclaresFrom c role is t old 0 c old
  declares_begin = record { scope = refl; bound = refl; found = refl }

  pub declares_more : (k : ℕ) (now after : Context) (first new : Option Fault) (i d : Identifier) → DeclaresFrom c role is t old k now first → k < length is → i ≡ get_or is k d →
      new ≡ first_of first (breaks_where (is_name_of now.system now.home i.name || names_one_of (bound_names now) i.name) DuplicateName i.place) →
      after ≡ record now { bound = record { name = i.name; role = role; ty = t } ∷ now.bound } → DeclaresFrom c role is t old (k + 1) after new
  declares_more k now after first new i d before within at found-is after-is =
      let taken = is_name_of c.system c.home in
      let rest = drop (k + 1) is in
      let faults : List Fault = breaks_where (taken i.name || names_one_of (bound_names now) i.name) DuplicateName i.place in
      let bound-is : after.bound ≡ record { name = i.name; role = role; ty = t } ∷ now.bound = ap (λ (q : Context). q.bound) after-is in record {
        scope = after-is ∙ ap (λ (q : Context). record q { bound = record { name = i.name; role = role; ty = t } ∷ now.bound }) before.scope ∙ ap (λ b. record c { bound = b }) (sym bound-is);
        bound =
            ap (with_names role rest t) bound-is
            ∙ sym (ap (λ xs. with_names role xs t now.bound) (drop_turn is k i d within at))
            ∙ before.bound;
        found =
            ap (λ b. first_of new (repeated_in taken (map (λ k. k.name) b) rest)) bound-is
            ∙ ap (first_of new) (repeated_front taken (bound_names now) i.name rest)
            ∙ ap (λ o. first_of o (repeated_in taken (bound_names now ++ i.name ∷ []) rest)) (found-is ∙ ap (λ (q : Context). first_of first (breaks_where (is_name_of q.system q.home i.name || names_one_of (bound_names now) i.name) DuplicateName i.place)) before.scope)
            ∙ sym (first_of_append first faults (repeated_in taken (bound_names now ++ i.name ∷ []) rest))
            ∙ sym (ap (first_of first) (repeated_turn taken (bound_names now) i rest))
            ∙ sym (ap (λ xs. first_of first (repeated_in taken (bound_names now) xs)) (drop_turn is k i d within at))
            ∙ before.found;
      }

  pub declares_end : (k : ℕ) (now : Context) (first : Option Fault) → DeclaresFrom c role is t old k now first → length is ≤ k → Declares c role is t old first now
  unfolding first_of
  declares_end k now first before past = record {
    noted = sym (ap (first_of first) (ap (repeated_in (is_name_of c.system c.home) (bound_names now)) (drop_all k is past) ∙ repeated_none (is_name_of c.system c.home) (bound_names now))) ∙ before.found;
    scope = before.scope ∙ ap (λ b. record c { bound = b }) (sym (ap (λ xs. with_names role xs t now.bound) (drop_all k is past)) ∙ before.bound);
  }
