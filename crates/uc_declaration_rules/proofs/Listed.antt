-- Names in a list of their own.
use Rattle.std.proofs.Common.{◌≡◌, ℕ, false, List, [], ◌∷◌, ◌++◌, refl, ap}
use Rattle.uc_syntax.specs.declared.place.Identifier.{Identifier}
use Rattle.uc_rules.specs.declared.rule.Rule.TheVariants.{DuplicateName}
use Rattle.uc_rules.specs.Faults.{breaks_where}
use Rattle.uc_rules.specs.Names.{names_one_of, repeated_in, repeated_in_list}

-- nothing is taken where no name is given
none_taken : (e : List ℕ) (is : List Identifier) → repeated_in (names_one_of []) e is ≡ repeated_in (λ x. false) e is
unfolding repeated_in
none_taken e [] = refl
none_taken e (i ∷ is) = ap (λ fs. breaks_where (names_one_of e i.name) DuplicateName i.place ++ fs) (none_taken (e ++ i.name ∷ []) is)

pub in_list : (is : List Identifier) → repeated_in (names_one_of []) [] is ≡ repeated_in_list is
in_list is = none_taken [] is
