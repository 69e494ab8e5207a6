-- The turns of a pass over aliases.
use Rattle.std.proofs.Common.{◌≡◌, ◌⊎◌, inl, inr, ⊎_elim, ℕ, ◌+◌, ◌<◌, ◌≤◌, Bool, true, false, List, [], ◌∷◌, ◌++◌, length, take, get_or, Option, Some, None, refl, ap, sym, subst, ◌∙◌, arith}
use Rattle.std.specs.Prelude.{nat_eq, cond, ◌&&◌}
use Rattle.std.specs.Option.{is_some}
use Rattle.std.proofs.lemmas.Bool.{and_parts}
use Rattle.std.proofs.lemmas.List.{length-append, take_all}
use Rattle.uc_syntax.specs.declared.type_expression.TypeExpr.{TypeExpr}
use Rattle.uc_syntax.specs.declared.declaration.Module.{Module}
use Rattle.uc_values.specs.declared.ty.Ty.{Ty}
use Rattle.uc_meaning.specs.Lookup.{System}
use Rattle.uc_meaning.specs.Types.{TypeEntry, Alias, Opaque}
use Rattle.uc_rules.specs.Types.{Aliases, found_by}
use Rattle.uc_rules.proofs.Lists.{take_turn}
use Rattle.uc_declared_types.specs.AliasLaw.{IsAmong}
use Rattle.uc_declared_types.proofs.Among.{among_left, among_right, among_split}
use Rattle.uc_names.specs.declared.senses.DeclaredType.{DeclaredType}
use Rattle.uc_names.specs.Senses.{module_in}
use Rattle.uc_declared_types.specs.declared.aliases.AliasTypes.{AliasTypes}
use Rattle.uc_declared_types.specs.Aliases.{Above, Agrees, Below, Follows, IsSettled, IsStuck, IsTaken, KeepsKnown, KnowsAliases, Related, Side, alias_written, entry_of, read_to_end, same_declared, type_at, with_type}
use Rattle.uc_declared_types.proofs.Entries.{alias_is}
use Rattle.uc_declared_types.proofs.Fixed.{alias_found, all_known, same_alias}
use Rattle.uc_declared_types.proofs.Sides.{nothing}

same_nats : (a b : ℕ) → nat_eq a b ≡ true → b ≡ a
same_nats a b e = grind (arith, e)

-- what is the same declared type
same_is : (d e : DeclaredType) → same_declared d e ≡ true → e ≡ d
same_is d e h =
    let s : (nat_eq d.home e.home ≡ true) × (nat_eq d.declaration e.declaration ≡ true) = and_parts (nat_eq d.home e.home) (nat_eq d.declaration e.declaration) h in
    (λ k. record { home = same_nats d.home e.home s.0 k; declaration = same_nats d.declaration e.declaration s.1 k })

own_same : (d : DeclaredType) → same_declared d d ≡ true
own_same d = grind arith

-- an alias that has no type by what is known
pub stuck_now : (s : System) (table : AliasTypes) (d : DeclaredType) (t : TypeExpr) → Some t ≡ alias_written (entry_of s d) →
    ((side : Side) (alias : Aliases) → Agrees side s table alias → Related side None (found_by s alias (module_in s.modules d.home) t).type) → IsStuck s table d
unfolding IsStuck Related
stuck_now s table d t is found alias u above e =
    none_found (found_by s alias (module_in s.modules d.home) u).type
    (subst (λ w. Follows (found_by s alias (module_in s.modules d.home) w).type None) (same_alias t u (sym (alias_is (entry_of s d) t is) ∙ e)) (found Above alias above))
  where
    none_found : (o : Option Ty) → Follows o None → o ≡ None
    none_found None h = refl
    none_found (Some x) h = nothing x (h x refl)

-- an alias whose type was found is entered
module _ (s : System) (old new : AliasTypes) (declared : DeclaredType) (t : TypeExpr) (type : Ty) (entered : (d : DeclaredType) → type_at new d ≡ with_type declared type d (type_at old d)) where
  pub below_entered : Some t ≡ alias_written (entry_of s declared) → ((side : Side) (alias : Aliases) → Agrees side s old alias → Related side (Some type) (found_by s alias (module_in s.modules declared.home) t).type) →
      Agrees Below s old (read_to_end s) → Agrees Below s new (read_to_end s)
  unfolding Agrees Related
  below_entered is found below d u e = λ x h. by (same_declared declared d) refl x (sym (entered d) ∙ h)
    where
      by : (b : Bool) → same_declared declared d ≡ b → (x : Ty) → cond b (Some type) (type_at old d) ≡ Some x → read_to_end s (module_in s.modules d.home) u ≡ Some x
      by true same x h =
          let there : d ≡ declared = same_is declared d same in
          let w : u ≡ t = same_alias u t (sym e ∙ ap (entry_of s) there ∙ alias_is (entry_of s declared) t is) in
          alias_found s d u e ∙ (λ k. (found_by s (read_to_end s) (module_in s.modules (there k).home) (w k)).type) ∙ found Below (read_to_end s) below x h
      by false same x h = below d u e x h

  pub kept_entered : KeepsKnown old new
  kept_entered d h = ap is_some (entered d) ∙ by (same_declared declared d)
    where
      by : (b : Bool) → is_some (cond b (Some type) (type_at old d)) ≡ true
      by true = refl
      by false = h

  pub settled_entered : IsSettled s new declared
  settled_entered u e = ap is_some (entered declared ∙ ap (λ b. cond b (Some type) (type_at old declared)) (own_same declared))

pub settled_known : (s : System) (table : AliasTypes) (d : DeclaredType) → true ≡ is_some (type_at table d) → IsSettled s table d
settled_known s table d h u e = sym h

pub settled_other : (s : System) (table : AliasTypes) (d : DeclaredType) → None ≡ alias_written (entry_of s d) → IsSettled s table d
settled_other s table d h u e = nothing u (h ∙ ap alias_written e)

pub keeps_same : (table : AliasTypes) → KeepsKnown table table
keeps_same table d h = h

pub settled_kept : (s : System) (old new : AliasTypes) (d : DeclaredType) → KeepsKnown old new → IsSettled s old d → IsSettled s new d
settled_kept s old new d keeps h u e = keeps d (h u e)

-- What holds after the first aliases of a list.
pub record PassedUpTo (s : System) (pending : List DeclaredType) (old : AliasTypes) (k : ℕ) (table : AliasTypes) (rest : List DeclaredType) : Type 0 where
  pub below : Agrees Below s old (read_to_end s) → Agrees Below s table (read_to_end s)
  pub kept : KeepsKnown old table
  pub settled : (d : DeclaredType) → IsAmong d (take k pending) → IsSettled s table d ⊎ IsAmong d rest
  pub fewer : length rest ≤ k
  pub stuck : length rest ≡ k → (table ≡ old) × ((d : DeclaredType) → IsAmong d rest → IsStuck s old d)

pub pass_begin : (s : System) (pending : List DeclaredType) (old : AliasTypes) (rest : List DeclaredType) → rest ≡ [] → PassedUpTo s pending old 0 old rest
unfolding IsAmong
pass_begin s pending old rest is = subst (PassedUpTo s pending old 0 old) (sym is) (record {
  below = λ h. h;
  kept = λ d h. h;
  settled = λ d h. absurd h;
  fewer = omega arith;
  stuck = λ e. (refl, λ d h. absurd h);
})

only_one : {A : Type 0} (x y : A) → IsAmong x (y ∷ []) → x ≡ y
unfolding IsAmong
only_one x y h = ⊎_elim (λ e. e) (λ n. absurd n) h

one_only : {A : Type 0} (x y : A) → x ≡ y → IsAmong x (y ∷ [])
unfolding IsAmong
one_only x y e = inl e

module _ (s : System) (pending : List DeclaredType) (old : AliasTypes) (k : ℕ) (table table' : AliasTypes) (x d : DeclaredType) (rest rest' : List DeclaredType)
    (held : PassedUpTo s pending old k table rest) (within : k < length pending) (at : x ≡ get_or pending k d)
    (below : Agrees Below s table (read_to_end s) → Agrees Below s table' (read_to_end s)) (kept : KeepsKnown table table') where
  parts : (e : DeclaredType) → IsAmong e (take (k + 1) pending) → IsAmong e (take k pending) ⊎ (e ≡ x)
  parts e h = ⊎_elim (λ a. inl a) (λ b. inr (only_one e x b)) (among_split e (take k pending) (x ∷ []) (subst (IsAmong e) (take_turn pending k x d within at) h))

  pass_settled : IsSettled s table' x → rest' ≡ rest → PassedUpTo s pending old (k + 1) table' rest'
  pass_settled settled same = subst (PassedUpTo s pending old (k + 1) table') (sym same) (record {
    below = λ h. below (held.below h);
    kept = λ e h. kept e (held.kept e h);
    settled = λ e h. ⊎_elim (λ a. ⊎_elim (λ z. inl (settled_kept s table table' e kept z)) (λ z. inr z) (held.settled e a)) (λ b. inl (subst (IsSettled s table') (sym b) settled)) (parts e h);
    fewer = omega (arith, held.fewer);
    stuck = λ e. absurd (omega (arith, e, held.fewer));
  })

  pass_stuck : table' ≡ table → IsStuck s table x → rest' ≡ rest ++ x ∷ [] → PassedUpTo s pending old (k + 1) table' rest'
  pass_stuck same stuck more = subst (PassedUpTo s pending old (k + 1) table') (sym more) (record {
    below = λ h. below (held.below h);
    kept = λ e h. kept e (held.kept e h);
    settled = λ e h. ⊎_elim (λ a. ⊎_elim (λ z. inl (settled_kept s table table' e kept z)) (λ z. inr (among_left e rest (x ∷ []) z)) (held.settled e a)) (λ b. inr (among_right e rest (x ∷ []) (one_only e x b))) (parts e h);
    fewer = omega (arith, length-append rest (x ∷ []), held.fewer);
    stuck = λ e.
        let before = held.stuck (omega (arith, e, length-append rest (x ∷ []))) in
        (same ∙ before.0, λ f h. ⊎_elim (λ a. before.1 f a) (λ b. subst (IsStuck s old) (sym (only_one f x b)) (subst (λ q. IsStuck s q x) before.0 stuck)) (among_split f rest (x ∷ []) h));
  })

  pub pass_more : IsTaken s x table table' rest rest' → PassedUpTo s pending old (k + 1) table' rest'
  pass_more taken = ⊎_elim (λ a. pass_settled a.0 a.1) (λ b. pass_stuck b.0 b.1.0 b.1.1) taken

module _ (s : System) (pending : List DeclaredType) (old : AliasTypes) (k : ℕ) (table : AliasTypes) (rest : List DeclaredType) (held : PassedUpTo s pending old k table rest) (past : length pending ≤ k) where
  pub pass_settled_all : (d : DeclaredType) → IsAmong d pending → IsSettled s table d ⊎ IsAmong d rest
  pass_settled_all d h = held.settled d (subst (IsAmong d) (sym (take_all k pending past)) h)

  pub pass_stuck_all : k ≤ length pending → length rest ≡ length pending → (d : DeclaredType) → IsAmong d rest → IsStuck s table d
  pass_stuck_all most same d h =
      let e : length rest ≡ k = omega (arith, past, most, same) in
      let w = held.stuck e in
      subst (λ q. IsStuck s q d) (sym w.0) (w.1 d h)

-- a pass that settles no alias ends it all
pub ends_stuck : (s : System) (table now : AliasTypes) (pending passed rest : List DeclaredType) → passed ≡ pending → Agrees Below s now (read_to_end s) → KeepsKnown table now → ((d : DeclaredType) → IsSettled s table d ⊎ IsAmong d pending) →
    ((d : DeclaredType) → IsAmong d passed → IsSettled s now d ⊎ IsAmong d rest) → (length rest ≡ length passed → (d : DeclaredType) → IsAmong d rest → IsStuck s now d) → true ≡ nat_eq (length rest) (length pending) → KnowsAliases s now
ends_stuck s table now pending passed rest same below kept covered settled stuck many =
    let few : length rest ≡ length passed = sym (same_nats (length rest) (length pending) (sym many)) ∙ ap length (sym same) in
    all_known s now below (λ d. ⊎_elim (λ a. inl (settled_kept s table now d kept a)) (λ a. ⊎_elim (λ z. inl z) (λ z. inr (stuck few d z)) (settled d (subst (IsAmong d) (sym same) a))) (covered d))

none_left : {A : Type 0} (xs : List A) (x : A) → length xs ≤ 0 → IsAmong x xs → ⊥
unfolding IsAmong
none_left [] x h k = k
none_left (y ∷ xs) x h k = absurd (omega (arith, h))

-- where none is left all are known
pub ends_settled : (s : System) (table : AliasTypes) (pending : List DeclaredType) → Agrees Below s table (read_to_end s) → ((d : DeclaredType) → IsSettled s table d ⊎ IsAmong d pending) → length pending ≤ 0 → KnowsAliases s table
ends_settled s table pending below covered none = all_known s table below (λ d. ⊎_elim (λ a. inl a) (λ a. absurd (none_left pending d none a)) (covered d))

-- an empty table knows nothing that is wrong
pub below_empty : (s : System) (table : AliasTypes) → ((d : DeclaredType) → type_at table d ≡ None) → Agrees Below s table (read_to_end s)
unfolding Agrees Related
below_empty s table empty d t e = λ x h. nothing x (sym (empty d) ∙ h)
