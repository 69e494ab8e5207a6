-- A node gets its instances one by one.
use Rattle.std.proofs.Common.{◌≡◌, ℕ, suc, ◌+◌, ◌<◌, ◌≤◌, Bool, true, false, List, [], ◌∷◌, ◌++◌, length, take, get_or, Option, Some, None, refl, ap, sym, subst, ◌∙◌, ◌⊎◌, inl, inr, ⊎_elim, arith}
use Rattle.std.specs.Prelude.{slice_get, nat_eq}
use Rattle.std.specs.List.{filter_map, find, cons_option}
use Rattle.std.proofs.lemmas.List.{take_all, take_more}
use Rattle.indexmap.specs.IndexMap.{get}
use Rattle.uc_syntax.specs.declared.declaration.Decl.{Decl}
use Rattle.uc_meaning.specs.Lookup.{InstanceParts, instance_in, or_else}
use Rattle.uc_rules.specs.Names.{only_if}
use Rattle.uc_names.specs.declared.firsts.Firsts.{Firsts}
use Rattle.uc_uses.specs.declared.modules.ModuleTable.{ModuleTable}
use Rattle.uc_uses.specs.declared.tree.Node.{Node}
use Rattle.uc_uses.specs.Modules.{named_in}
use Rattle.uc_uses.specs.Trees.{step}
use Rattle.uc_uses.specs.Growing.{Adds, IsFound, instance_among}
use Rattle.uc_uses.proofs.Lists.{filter_push, find_push, get_cases, get_left, get_next, length_push, none_some, or_none, some_same}

nothing : {A : Type 0} → false ≡ true → A
nothing h = cc

equal : (n m : ℕ) → nat_eq n m ≡ true → n ≡ m
equal n m h = grind (arith, h)

same : (n : ℕ) → nat_eq n n ≡ true
same n = grind arith

-- ---- one declaration more

append_nil : {A : Type 0} (xs : List A) → xs ++ [] ≡ xs
append_nil [] = refl
append_nil (x ∷ xs) = ap (λ ys. x ∷ ys) (append_nil xs)

pub among_none : (ds : List Decl) (d : Decl) → instance_in d ≡ None → (x : ℕ) → instance_among (ds ++ d ∷ []) x ≡ instance_among ds x
among_none ds d none x =
    ap (find (λ i. nat_eq i.name x)) (filter_push instance_in ds d ∙ ap (λ o. filter_map instance_in ds ++ cons_option o []) none ∙ append_nil (filter_map instance_in ds))

pub among_one : (ds : List Decl) (d : Decl) (p : InstanceParts) → instance_in d ≡ Some p → (x : ℕ) → instance_among (ds ++ d ∷ []) x ≡ or_else (instance_among ds x) (only_if (nat_eq p.name x) (Some p))
among_one ds d p is x =
    ap (find (λ i. nat_eq i.name x)) (filter_push instance_in ds d ∙ ap (λ o. filter_map instance_in ds ++ cons_option o []) is) ∙ find_push (λ i. nat_eq i.name x) (filter_map instance_in ds) p

module _ (modules : ModuleTable) where
  none_found : (nodes : List Node) (o : Option (Option ℕ)) (i : Option InstanceParts) → o ≡ None → IsFound modules nodes o i → i ≡ None
  none_found nodes None None is h = refl
  none_found nodes None (Some p) is h = absurd h
  none_found nodes (Some o) i is h = cc

  some_found : (nodes : List Node) (a : Option ℕ) (o : Option (Option ℕ)) (i : Option InstanceParts) → o ≡ Some a → IsFound modules nodes o i → (p : InstanceParts) × (i ≡ Some p)
  some_found nodes a None i is h = none_some a is
  some_found nodes a (Some None) None is h = absurd h
  some_found nodes a (Some (Some j)) None is h = absurd h
  some_found nodes a (Some o) (Some p) is h = (p, refl)

  found_grows : (old new : List Node) → ((j : ℕ) (n : Node) → slice_get old j ≡ Some n → slice_get new j ≡ Some n) → (o : Option (Option ℕ)) (i : Option InstanceParts) → IsFound modules old o i → IsFound modules new o i
  found_grows old new grows None None h = h
  found_grows old new grows None (Some p) h = h
  found_grows old new grows (Some None) None h = h
  found_grows old new grows (Some None) (Some p) h = h
  found_grows old new grows (Some (Some j)) None h = h
  found_grows old new grows (Some (Some j)) (Some p) h = (h.0, grows j h.0 h.1, h.2, h.3)

  module _ (k : ℕ) (before : List Node) where
    pub adds_none : (nodes : List Node) (found : Firsts (Option ℕ)) → nodes ≡ before → ((x : ℕ) → get nat_eq found.things x ≡ None) → Adds modules k before [] found nodes
    adds_none nodes found is none = record {
      longer = let e : length nodes ≡ length before = ap length is in omega (arith, e);
      kept = λ j n h. ap (λ ns. slice_get ns j) is ∙ h;
      below = λ x. subst (λ o. IsFound modules nodes o None) (sym (none x)) tt;
      above = λ x j h. none_some (Some j) (sym (none x) ∙ h);
      new = λ j n h. inl (sym (ap (λ ns. slice_get ns j) is) ∙ h);
    }

    pub adds_same : (ds : List Decl) (d : Decl) (found : Firsts (Option ℕ)) (nodes : List Node) → instance_in d ≡ None → Adds modules k before ds found nodes → Adds modules k before (ds ++ d ∷ []) found nodes
    adds_same ds d found nodes none a = record {
      longer = a.longer;
      kept = a.kept;
      below = λ x. subst (IsFound modules nodes (get nat_eq found.things x)) (sym (among_none ds d none x)) (a.below x);
      above = a.above;
      new = a.new;
    }

    -- a name that is there already
    pub adds_known : (ds : List Decl) (d : Decl) (p : InstanceParts) (found : Firsts (Option ℕ)) (nodes : List Node) (o : Option ℕ) → instance_in d ≡ Some p → get nat_eq found.things p.name ≡ Some o →
        Adds modules k before ds found nodes → Adds modules k before (ds ++ d ∷ []) found nodes
    adds_known ds d p found nodes o is known a = record {
      longer = a.longer;
      kept = a.kept;
      below = λ x. subst (IsFound modules nodes (get nat_eq found.things x)) (sym (among_one ds d p is x ∙ by x (nat_eq p.name x) refl)) (a.below x);
      above = a.above;
      new = a.new;
    }
      where
        by : (x : ℕ) (b : Bool) → nat_eq p.name x ≡ b → or_else (instance_among ds x) (only_if b (Some p)) ≡ instance_among ds x
        by x false e = or_none (instance_among ds x)
        by x true e =
            let f = some_found nodes o (get nat_eq found.things x) (instance_among ds x) (ap (get nat_eq found.things) (sym (equal p.name x e)) ∙ known) (a.below x) in
            ap (λ i. or_else i (Some p)) f.1 ∙ sym f.1

    -- a name that is new
    module _ (ds : List Decl) (d : Decl) (p : InstanceParts) (old new : Firsts (Option ℕ)) (nodes more : List Node) (o : Option ℕ) where
      pub adds_new : instance_in d ≡ Some p → get nat_eq old.things p.name ≡ None →
          ((x : ℕ) → get nat_eq new.things x ≡ or_else (get nat_eq old.things x) (only_if (nat_eq p.name x) (Some o))) →
          length nodes ≤ length more → ((j : ℕ) (n : Node) → slice_get nodes j ≡ Some n → slice_get more j ≡ Some n) →
          IsFound modules more (Some o) (Some p) →
          ((j : ℕ) → o ≡ Some j → (n : Node) × (slice_get more j ≡ Some n) × (n.above ≡ Some (step k p.name))) →
          ((j : ℕ) (n : Node) → slice_get more j ≡ Some n → (slice_get nodes j ≡ Some n) ⊎ ((length nodes ≤ j) × (n.above ≡ Some (step k p.name)) × (o ≡ Some j))) →
          Adds modules k before ds old nodes → Adds modules k before (ds ++ d ∷ []) new more
      adds_new is free says longer grows here there fresh a = record {
        longer = omega (arith, longer, a.longer);
        kept = λ j n h. grows j n (a.kept j n h);
        below = λ x. subst (IsFound modules more (get nat_eq new.things x)) (sym (among_one ds d p is x)) (found x (nat_eq p.name x) refl);
        above = λ x j h. above x j (nat_eq p.name x) refl h;
        new = λ j n h. ⊎_elim
            (λ l. ⊎_elim (λ b. inl b) (λ r. inr (r.0, r.1, r.2, kept_name r.0 (Some j) r.3)) (a.new j n l))
            (λ r. inr (p.name, (let q = r.0 in omega (arith, q, a.longer)), r.1, entered p.name (same p.name) ∙ ap (λ q. Some q) r.2))
            (fresh j n h);
      }
        where
          entered : (x : ℕ) → nat_eq p.name x ≡ true → get nat_eq new.things x ≡ Some o
          entered x e = says x ∙ ap (λ b. or_else (get nat_eq old.things x) (only_if b (Some o))) e ∙ ap (λ r. or_else r (Some o)) (ap (get nat_eq old.things) (sym (equal p.name x e)) ∙ free)

          other : (x : ℕ) → nat_eq p.name x ≡ false → get nat_eq new.things x ≡ get nat_eq old.things x
          other x e = says x ∙ ap (λ b. or_else (get nat_eq old.things x) (only_if b (Some o))) e ∙ or_none (get nat_eq old.things x)

          kept_name : (x : ℕ) (q : Option ℕ) → get nat_eq old.things x ≡ Some q → get nat_eq new.things x ≡ Some q
          kept_name x q h = says x ∙ ap (λ r. or_else r (only_if (nat_eq p.name x) (Some o))) h

          found : (x : ℕ) (b : Bool) → nat_eq p.name x ≡ b → IsFound modules more (get nat_eq new.things x) (or_else (instance_among ds x) (only_if (nat_eq p.name x) (Some p)))
          found x true e =
              let none = none_found nodes (get nat_eq old.things x) (instance_among ds x) (ap (get nat_eq old.things) (sym (equal p.name x e)) ∙ free) (a.below x) in
              subst (λ g. IsFound modules more g (or_else (instance_among ds x) (only_if (nat_eq p.name x) (Some p)))) (sym (entered x e))
              (subst (IsFound modules more (Some o)) (sym (ap (λ i. or_else i (only_if (nat_eq p.name x) (Some p))) none ∙ ap (λ c. only_if c (Some p)) e)) here)
          found x false e =
              subst (λ g. IsFound modules more g (or_else (instance_among ds x) (only_if (nat_eq p.name x) (Some p)))) (sym (other x e))
              (subst (IsFound modules more (get nat_eq old.things x)) (sym (ap (λ c. or_else (instance_among ds x) (only_if c (Some p))) e ∙ or_none (instance_among ds x)))
              (found_grows nodes more grows (get nat_eq old.things x) (instance_among ds x) (a.below x)))

          above : (x j : ℕ) (b : Bool) → nat_eq p.name x ≡ b → get nat_eq new.things x ≡ Some (Some j) → (n : Node) × (slice_get more j ≡ Some n) × (n.above ≡ Some (step k x))
          above x j true e h =
              let t = there j (some_same o (Some j) (sym (entered x e) ∙ h)) in
              (t.0, t.1, t.2 ∙ ap (λ y. Some (step k y)) (equal p.name x e))
          above x j false e h = let t = a.above x j (sym (other x e) ∙ h) in (t.0, grows j t.0 t.1, t.2)

    pub adds_missing : (ds : List Decl) (d : Decl) (p : InstanceParts) (old new : Firsts (Option ℕ)) (nodes : List Node) → instance_in d ≡ Some p → get nat_eq old.things p.name ≡ None →
        ((x : ℕ) → get nat_eq new.things x ≡ or_else (get nat_eq old.things x) (only_if (nat_eq p.name x) (Some None))) → named_in modules.modules p.module_name ≡ None →
        Adds modules k before ds old nodes → Adds modules k before (ds ++ d ∷ []) new nodes
    adds_missing ds d p old new nodes is free says missing a =
        adds_new ds d p old new nodes nodes None is free says (omega arith) (λ j n h. h) missing (λ j h. none_some j h) (λ j n h. inl h) a

    pub adds_node : (ds : List Decl) (d : Decl) (p : InstanceParts) (old new : Firsts (Option ℕ)) (nodes more : List Node) (n : Node) (j : ℕ) → instance_in d ≡ Some p → get nat_eq old.things p.name ≡ None →
        ((x : ℕ) → get nat_eq new.things x ≡ or_else (get nat_eq old.things x) (only_if (nat_eq p.name x) (Some (Some j)))) → j ≡ length nodes → more ≡ nodes ++ n ∷ [] →
        named_in modules.modules p.module_name ≡ Some n.code.now → n.above ≡ Some (step k p.name) → n.bindings.now ≡ p.bindings →
        Adds modules k before ds old nodes → Adds modules k before (ds ++ d ∷ []) new more
    adds_node ds d p old new nodes more n j is free says number pushed named above bound a =
        let size : length more ≡ suc (length nodes) = ap length pushed ∙ length_push nodes n in
        let last : slice_get more j ≡ Some n = ap (slice_get more) number ∙ ap (λ ns. slice_get ns (length nodes)) pushed ∙ get_next nodes n in
        adds_new ds d p old new nodes more (Some j) is free says (omega (arith, size))
        (λ i m h. ap (λ ns. slice_get ns i) pushed ∙ get_left nodes (n ∷ []) i m h) (n, last, named, bound)
        (λ i h. (n, ap (slice_get more) (sym (some_same j i h)) ∙ last, above))
        (λ i m h. ⊎_elim (λ l. inl l) (λ r. inr ((let e = r.0 in omega (arith, e)), ap (λ (q : Node). q.above) r.1 ∙ above, ap (λ q. Some q) (number ∙ sym r.0))) (get_cases nodes n i m (sym (ap (λ ns. slice_get ns i) pushed) ∙ h)))
        a

-- ---- the loop

pub adds_more : (modules : ModuleTable) (k : ℕ) (before : List Node) (ds : List Decl) (i : ℕ) (d e : Decl) (found : Firsts (Option ℕ)) (nodes : List Node) → i < length ds → d ≡ get_or ds i e →
    Adds modules k before (take i ds ++ d ∷ []) found nodes → Adds modules k before (take (i + 1) ds) found nodes
adds_more modules k before ds i d e found nodes within at a =
    subst (λ xs. Adds modules k before xs found nodes) (sym (take_more ds i e within ∙ ap (λ y. take i ds ++ y ∷ []) (sym at))) a

pub adds_all : (modules : ModuleTable) (k : ℕ) (before : List Node) (ds : List Decl) (i : ℕ) (found : Firsts (Option ℕ)) (nodes : List Node) → length ds ≤ i → Adds modules k before (take i ds) found nodes → Adds modules k before ds found nodes
adds_all modules k before ds i found nodes past a = subst (λ xs. Adds modules k before xs found nodes) (take_all i ds past) a
