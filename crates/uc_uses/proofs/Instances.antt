-- The instances and uses that are listed below a root.
use Rattle.std.proofs.Common.{◌≡◌, ℕ, zero, suc, ◌≤◌, List, [], ◌∷◌, length, Option, Some, None, refl, ap, sym, subst, inl, inr, ⊎_elim, arith}
use Rattle.std.specs.Prelude.{slice_get}
use Rattle.std.specs.List.{flat_map}
use Rattle.uc_syntax.specs.declared.declaration.Module.{Module}
use Rattle.uc_meaning.specs.Lookup.{System, main_module}
use Rattle.uc_meaning.specs.Cells.{InstanceAt, as_list, instances_below, instances_from, main_instance}
use Rattle.uc_declared_types.specs.AliasLaw.{IsAmong}
use Rattle.uc_declared_types.proofs.Among.{among_back, among_flat}
use Rattle.uc_order_rules.specs.Roots.{rooted, instances_in}
use Rattle.uc_order_rules.specs.Uses.{UsePlace, uses_in, all_uses}

pub as_list_is : {A : Type 0} (x : A) (o : Option A) → IsAmong x (as_list o) → o ≡ Some x
unfolding IsAmong
as_list_is x None h = absurd h
as_list_is x (Some y) h = ⊎_elim (λ e. ap (λ z. Some z) (sym e)) (λ r. absurd r) h

pub is_as_list : {A : Type 0} (x : A) (o : Option A) → o ≡ Some x → IsAmong x (as_list o)
unfolding IsAmong
is_as_list x o e = subst (λ p. IsAmong x (as_list p)) (sym e) (inl refl)

pub place_of : {A : Type 0} (x : A) (xs : List A) → IsAmong x xs → (k : ℕ) × (slice_get xs k ≡ Some x)
unfolding IsAmong
place_of x [] h = absurd h
place_of x (y ∷ xs) h = ⊎_elim (λ e. (0, ap (λ z. Some z) (sym e))) (λ r. let p = place_of x xs r in (suc p.0, p.1)) h

some_is : {A : Type 0} (x y : A) → Some x ≡ Some y → y ≡ x
some_is x y h = cc

none_is : {A B : Type 0} (y : B) → None ≡ Some y → A
none_is y h = cc

pub get_among : {A : Type 0} (x : A) (xs : List A) (k : ℕ) → slice_get xs k ≡ Some x → IsAmong x xs
unfolding IsAmong
get_among x [] zero h = none_is x h
get_among x [] (suc k) h = none_is x h
get_among x (y ∷ xs) zero h = inl (some_is y x h)
get_among x (y ∷ xs) (suc k) h = inr (get_among x xs k h)

module _ (s : System) where
  pub grown : (k : ℕ) (n m : ℕ) (e here : InstanceAt) → n ≤ m → IsAmong here (instances_from n (rooted s k) e) → IsAmong here (instances_from m (rooted s k) e)
  unfolding instances_from IsAmong
  grown k zero m e here le h = absurd h
  grown k (suc n) zero e here le h = absurd (omega (arith, le))
  grown k (suc n) (suc m) e here le h =
      ⊎_elim
      (λ a. inl a)
      (λ b.
      let r = among_back (instances_from n (rooted s k)) here (instances_below (rooted s k) e) b in
      inr (among_flat (instances_from m (rooted s k)) r.0 here (instances_below (rooted s k) e) r.1 (grown k n m r.0 here (omega (arith, le)) r.2)))
      h

  pub listed : (k n : ℕ) (m : Module) (here : InstanceAt) (u : UsePlace) → slice_get s.modules k ≡ Some m → n ≤ suc (length s.modules) → IsAmong here (instances_from n (rooted s k) (main_instance m)) →
      IsAmong u (flat_map (uses_in (rooted s k) here) here.code.decls) → IsAmong u (all_uses (rooted s k))
  unfolding all_uses instances_in
  listed k n m here u at le among of =
      among_flat (λ h. flat_map (uses_in (rooted s k) h) h.code.decls) here u (instances_in (rooted s k))
      (among_flat (λ c. instances_from (suc (length s.modules)) (rooted s k) (main_instance c)) m here (as_list (main_module (rooted s k))) (is_as_list m (main_module (rooted s k)) at) (grown k n (suc (length s.modules)) (main_instance m) here le among))
      of
