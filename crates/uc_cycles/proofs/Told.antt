-- The faults of cycles of a module as they are noted.
use Rattle.std.proofs.Common.{◌≡◌, ℕ, ◌+◌, ◌<◌, ◌≤◌, List, [], ◌∷◌, ◌++◌, length, take, get_or, Option, refl, ap, sym, ◌∙◌}
use Rattle.std.specs.List.{flat_map}
use Rattle.std.proofs.lemmas.List.{append-nil}
use Rattle.uc_syntax.specs.declared.declaration.Decl.{Decl}
use Rattle.uc_rules.specs.declared.fault.Fault.{Fault}
use Rattle.uc_rules.specs.Faults.{first_of}
use Rattle.uc_rules.proofs.Chains.{first_of_append}
use Rattle.uc_cycles.proofs.Lists.{flat_all, flat_more}

module _ (own : List Fault) (f : Decl → List Fault) (ds : List Decl) (start : Option Fault) where
  pub told_begin : (o : Option Fault) → o ≡ first_of start own → o ≡ first_of start (own ++ flat_map f (take 0 ds))
  told_begin o h = h ∙ ap (first_of start) (sym (append-nil own))

  pub told_more : (k : ℕ) (d : Decl) (o p : Option Fault) → k < length ds → o ≡ first_of start (own ++ flat_map f (take k ds)) → p ≡ first_of o (f (get_or ds k d)) → p ≡ first_of start (own ++ flat_map f (take (k + 1) ds))
  told_more k d o p within h g =
      g
      ∙ ap (λ q. first_of q (f (get_or ds k d))) (h ∙ first_of_append start own (flat_map f (take k ds)))
      ∙ sym (first_of_append (first_of start own) (flat_map f (take k ds)) (f (get_or ds k d)))
      ∙ ap (first_of (first_of start own)) (sym (flat_more f ds k d within))
      ∙ sym (first_of_append start own (flat_map f (take (k + 1) ds)))

  pub told_end : (k : ℕ) (o : Option Fault) → length ds ≤ k → o ≡ first_of start (own ++ flat_map f (take k ds)) → o ≡ first_of start (own ++ flat_map f ds)
  told_end k o past h = h ∙ ap (λ fs. first_of start (own ++ fs)) (flat_all f ds k past)

pub told_nothing : (o : Option Fault) (fs : List Fault) → fs ≡ [] → o ≡ first_of o fs
unfolding first_of
told_nothing o fs e = ap (first_of o) (sym e)
