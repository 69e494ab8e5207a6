-- Types and names that are entered.
use Rattle.std.proofs.Common.{◌≡◌, ℕ, zero, suc, ◌+◌, ◌<◌, ◌≤◌, Bool, true, false, List, [], ◌∷◌, ◌++◌, length, take, get_or, Option, Some, None, refl, ap, sym, subst, ◌∙◌, arith, ◌⊎◌, inl, inr, ⊎_elim}
use Rattle.std.specs.Prelude.{nat_eq, ◌&&◌, cond, slice_get}
use Rattle.std.specs.List.{flat_map}
use Rattle.uc_syntax.specs.declared.declaration.Decl.{Decl}
use Rattle.uc_meaning.specs.Lookup.{System, or_else}
use Rattle.uc_rules.specs.Cycles.{TypeName}
use Rattle.uc_rules.specs.Names.{only_if}
use Rattle.uc_syntax.specs.declared.declaration.Module.{Module}
use Rattle.uc_declared_types.specs.AliasLaw.{IsAmong}
use Rattle.uc_declared_types.proofs.Among.{among_split}
use Rattle.uc_names.specs.Senses.{module_in}
use Rattle.uc_declared_types.specs.Names.{names_in}
use Rattle.uc_cycles.specs.declared.types.TypeKey.{TypeKey}
use Rattle.uc_cycles.specs.declared.types.TypeNumbers.{TypeNumbers}
use Rattle.uc_cycles.specs.declared.names.NameNumbers.{NameNumbers}
use Rattle.uc_cycles.specs.Numbers.{EntersAliases, EntersName, EntersType, HasAliases, HasAll, HasModules, KnowsNames, KnowsTypes, alias_of, key_name, key_of, name_number, type_number, with_place}
use Rattle.uc_cycles.proofs.Lists.{equal, flat_all, flat_more, get_before, get_last, less_or_same, none_some, same, same_some}

both_parts : (b c : Bool) → (b && c) ≡ true → (b ≡ true) × (c ≡ true)
both_parts true c h = (refl, h)
both_parts false c h = nothing h
  where
    nothing : {A : Type 0} → false ≡ true → A
    nothing h = cc

same_key : (k l : TypeKey) → (nat_eq k.owner l.owner && nat_eq k.name l.name) ≡ true → k ≡ l
same_key k l h =
    let b = both_parts (nat_eq k.owner l.owner) (nat_eq k.name l.name) h in
    ap (λ x. record { owner = x; name = k.name }) (equal k.owner l.owner b.0) ∙ ap (λ x. record { owner = l.owner; name = x }) (equal k.name l.name b.1)

key_same : (k : TypeKey) → (nat_eq k.owner k.owner && nat_eq k.name k.name) ≡ true
key_same k = ap (λ b. b && nat_eq k.name k.name) (same k.owner) ∙ same k.name

pub types_none : (t : TypeNumbers) → ((k : TypeKey) → type_number t k ≡ None) → KnowsTypes t
unfolding KnowsTypes
types_none t h k n e = none_some n (sym (h k) ∙ e)

pub names_none : (t : NameNumbers) → ((x : ℕ) → name_number t x ≡ None) → KnowsNames t
unfolding KnowsNames
names_none t h x n e = none_some n (sym (h x) ∙ e)

-- a type that is there
pub type_there : (t : TypeNumbers) (key : TypeKey) (n : ℕ) → Some n ≡ type_number t key → KnowsTypes t → EntersType key t t
type_there t key n h knows = record { knows = knows; kept = λ k i e. e; there = (n, sym h) }

pub name_there : (t : NameNumbers) (name n : ℕ) → Some n ≡ name_number t name → KnowsNames t → EntersName name t t
name_there t name n h knows = record { knows = knows; kept = λ x i e. e; there = (n, sym h) }

-- a type that is new
pub type_new : (old new : TypeNumbers) (key : TypeKey) → None ≡ type_number old key → ((k : TypeKey) → type_number new k ≡ with_place key (length old.keys) k (type_number old k)) → new.keys ≡ old.keys ++ key ∷ [] →
    KnowsTypes old → EntersType key old new
unfolding KnowsTypes
type_new old new key none now keys knows = record {
  knows = λ k n h. knows_now k n (nat_eq key.owner k.owner && nat_eq key.name k.name) refl (sym (now k) ∙ h);
  kept = λ k n h. now k ∙ kept_now k n (nat_eq key.owner k.owner && nat_eq key.name k.name) refl h;
  there = (length old.keys, now key ∙ ap (λ b. cond b (Some (length old.keys)) (type_number old key)) (key_same key));
}
  where
    knows_now : (k : TypeKey) (n : ℕ) (b : Bool) → (nat_eq key.owner k.owner && nat_eq key.name k.name) ≡ b → cond b (Some (length old.keys)) (type_number old k) ≡ Some n → slice_get new.keys n ≡ Some k
    knows_now k n true is h = ap (λ ks. slice_get ks n) keys ∙ ap (slice_get (old.keys ++ key ∷ [])) (sym (same_some (length old.keys) n h)) ∙ get_last old.keys key ∙ ap (λ l. Some l) (same_key key k is)
    knows_now k n false is h = ap (λ ks. slice_get ks n) keys ∙ get_before old.keys key n k (knows k n h)

    kept_now : (k : TypeKey) (n : ℕ) (b : Bool) → (nat_eq key.owner k.owner && nat_eq key.name k.name) ≡ b → type_number old k ≡ Some n → cond b (Some (length old.keys)) (type_number old k) ≡ Some n
    kept_now k n true is h = none_some n (none ∙ ap (type_number old) (same_key key k is) ∙ h)
    kept_now k n false is h = h

pub name_new : (old new : NameNumbers) (name : ℕ) → None ≡ name_number old name → ((x : ℕ) → name_number new x ≡ or_else (name_number old x) (only_if (nat_eq name x) (Some (length old.keys)))) → new.keys ≡ old.keys ++ name ∷ [] →
    KnowsNames old → EntersName name old new
unfolding KnowsNames
name_new old new name none now keys knows = record {
  knows = λ x n h. ap (λ ks. slice_get ks n) keys ∙ knows_now x n (name_number old x) refl (sym (now x) ∙ h);
  kept = λ x n h. now x ∙ ap (λ o. or_else o (only_if (nat_eq name x) (Some (length old.keys)))) h;
  there = (length old.keys, now name ∙ ap (λ o. or_else o (only_if (nat_eq name name) (Some (length old.keys)))) (sym none) ∙ ap (λ b. only_if b (Some (length old.keys))) (same name));
}
  where
    one : (x n : ℕ) (b : Bool) → nat_eq name x ≡ b → only_if b (Some (length old.keys)) ≡ Some n → slice_get (old.keys ++ name ∷ []) n ≡ Some x
    one x n true is h = ap (slice_get (old.keys ++ name ∷ [])) (sym (same_some (length old.keys) n h)) ∙ get_last old.keys name ∙ ap (λ l. Some l) (equal name x is)
    one x n false is h = none_some n h

    knows_now : (x n : ℕ) (o : Option ℕ) → name_number old x ≡ o → or_else o (only_if (nat_eq name x) (Some (length old.keys))) ≡ Some n → slice_get (old.keys ++ name ∷ []) n ≡ Some x
    knows_now x n (Some i) is h = get_before old.keys name n x (knows x n (is ∙ h))
    knows_now x n None is h = one x n (nat_eq name x) refl h

-- ---- aliases one after another

pub aliases_none : (t : TypeNumbers) → KnowsTypes t → EntersAliases [] t t
unfolding IsAmong
aliases_none t knows = record { knows = knows; kept = λ k n h. h; there = λ p h. absurd h }

pub aliases_one : (key : TypeKey) (old new : TypeNumbers) → EntersType key old new → EntersAliases (key_name key ∷ []) old new
unfolding IsAmong
aliases_one key old new e = record {
  knows = e.knows;
  kept = e.kept;
  there = λ p h. ⊎_elim (λ is. (e.there.0, ap (λ q. type_number new (key_of q)) is ∙ e.there.1)) (λ r. absurd r) h;
}

pub aliases_two : (ps qs : List TypeName) (a b c : TypeNumbers) → EntersAliases ps a b → EntersAliases qs b c → EntersAliases (ps ++ qs) a c
aliases_two ps qs a b c e f = record {
  knows = f.knows;
  kept = λ k n h. f.kept k n (e.kept k n h);
  there = λ p h. ⊎_elim (λ l. let r = e.there p l in (r.0, f.kept (key_of p) r.0 r.1)) (λ r. f.there p r) (among_split p ps qs h);
}

pub aliases_more : (f : Decl → List TypeName) (ds : List Decl) (k : ℕ) (d : Decl) (a b c : TypeNumbers) → k < length ds → EntersAliases (flat_map f (take k ds)) a b → EntersAliases (f (get_or ds k d)) b c → EntersAliases (flat_map f (take (k + 1) ds)) a c
aliases_more f ds k d a b c within e g = subst (λ ps. EntersAliases ps a c) (sym (flat_more f ds k d within)) (aliases_two (flat_map f (take k ds)) (f (get_or ds k d)) a b c e g)

pub aliases_end : (m : Module) (owner : ℕ) (ds : List Decl) (k : ℕ) (a b : TypeNumbers) → owner ≡ m.name → ds ≡ m.decls → length ds ≤ k → EntersAliases (flat_map (alias_of owner) (take k ds)) a b → EntersAliases (names_in m) a b
aliases_end m owner ds k a b o is past e =
    subst (λ ps. EntersAliases ps a b) (flat_all (alias_of owner) ds k past ∙ ap (flat_map (alias_of owner)) is ∙ ap (λ x. flat_map (alias_of x) m.decls) o) e

pub design_begin : (s : System) (t : TypeNumbers) → KnowsTypes t → HasAliases s 0 t
design_begin s t knows = record { knows = knows; there = λ home l p h. absurd (omega (arith, l)) }

pub design_more : (s : System) (home : ℕ) (old new : TypeNumbers) → HasAliases s home old → (KnowsTypes old → EntersAliases (names_in (module_in s.modules home)) old new) → HasAliases s (home + 1) new
design_more s home old new h e =
    let r = e h.knows in
    record {
      knows = r.knows;
      there = λ i l p among.
          ⊎_elim (λ before. let q = h.there i before p among in (q.0, r.kept (key_of p) q.0 q.1)) (λ at. r.there p (subst (λ j. IsAmong p (names_in (module_in s.modules j))) at among)) (less_or_same i home l);
    }

pub design_end : (s : System) (home count : ℕ) (t : TypeNumbers) → count ≤ home → HasAliases s home t → HasAliases s count t
design_end s home count t past h = record { knows = h.knows; there = λ i l. h.there i (omega (arith, l, past)) }

pub modules_begin : (s : System) (t : NameNumbers) → KnowsNames t → HasModules s 0 t
modules_begin s t knows = record { knows = knows; there = λ home l. absurd (omega (arith, l)) }

pub modules_more : (s : System) (home name : ℕ) (old new : NameNumbers) → name ≡ (module_in s.modules home).name → HasModules s home old → (KnowsNames old → EntersName name old new) → HasModules s (home + 1) new
modules_more s home name old new is h e =
    let r = e h.knows in
    record {
      knows = r.knows;
      there = λ i l.
          ⊎_elim (λ before. let q = h.there i before in (q.0, r.kept (module_in s.modules i).name q.0 q.1)) (λ at. (r.there.0, ap (λ j. name_number new (module_in s.modules j).name) at ∙ ap (name_number new) (sym is) ∙ r.there.1)) (less_or_same i home l);
    }

pub modules_end : (s : System) (home count : ℕ) (t : NameNumbers) → count ≤ home → HasModules s home t → HasModules s count t
modules_end s home count t past h = record { knows = h.knows; there = λ i l. h.there i (omega (arith, l, past)) }
