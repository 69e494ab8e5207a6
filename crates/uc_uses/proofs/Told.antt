-- Faults as they are noted, one element of a list after the other.
use Rattle.std.proofs.Common.{◌≡◌, ℕ, zero, suc, ◌+◌, ◌<◌, ◌≤◌, Bool, true, false, List, [], ◌∷◌, ◌++◌, length, take, get_or, Option, Some, None, refl, ap, sym, ◌∙◌, arith, add-one}
use Rattle.std.specs.Prelude.{slice_get, ◌||◌}
use Rattle.std.specs.List.{flat_map, list_any}
use Rattle.std.proofs.lemmas.List.{take_all, take_more}
use Rattle.std.proofs.lemmas.List.Folds.{list_any-append}
use Rattle.std.proofs.lemmas.Grind.{flat_map-append}
use Rattle.std.proofs.lemmas.Option.{slice_get-get_or}
use Rattle.uc_syntax.proofs.Added.{append_nil}
use Rattle.uc_syntax.specs.declared.declaration.Module.{Module}
use Rattle.uc_meaning.specs.Lookup.{System}
use Rattle.uc_rules.specs.declared.fault.Fault.{Fault}
use Rattle.uc_rules.specs.Faults.{first_of}
use Rattle.uc_rules.proofs.Chains.{first_of_append}
use Rattle.uc_order_rules.specs.Roots.{rooted}
use Rattle.uc_order_rules.specs.Order.{Root, roots, roots_from}
use Rattle.uc_uses.specs.declared.tree.Node.{Node}
use Rattle.uc_uses.specs.declared.tree.InstanceTree.{InstanceTree}
use Rattle.uc_uses.specs.declared.table.UseTable.{UseTable}
use Rattle.uc_uses.specs.Noted.{noted, noted_all, noted_at, noted_in, numbers_below}

module _ {A : Type 0} (f : A → List Fault) (xs : List A) (start : Option Fault) where
  pub told_begin : start ≡ first_of start (flat_map f (take 0 xs))
  unfolding first_of
  told_begin = refl

  pub told_more : (k : ℕ) (d : A) (o p : Option Fault) → k < length xs → o ≡ first_of start (flat_map f (take k xs)) → p ≡ first_of o (f (get_or xs k d)) → p ≡ first_of start (flat_map f (take (k + 1) xs))
  told_more k d o p within so_far now =
      now
      ∙ ap (λ q. first_of q (f (get_or xs k d))) so_far
      ∙ sym (first_of_append start (flat_map f (take k xs)) (f (get_or xs k d)))
      ∙ ap (first_of start) (sym (ap (flat_map f) (take_more xs k d within) ∙ flat_map-append f (take k xs) (get_or xs k d ∷ []) ∙ ap (λ ys. flat_map f (take k xs) ++ ys) (append_nil (f (get_or xs k d)))))

  pub told_end : (k : ℕ) (o : Option Fault) → length xs ≤ k → o ≡ first_of start (flat_map f (take k xs)) → o ≡ first_of start (flat_map f xs)
  told_end k o past so_far = so_far ∙ ap (λ ys. first_of start (flat_map f ys)) (take_all k xs past)

pub told_nothing : (o : Option Fault) → o ≡ first_of o []
unfolding first_of
told_nothing o = refl

none_some : {A B : Type 0} (x : B) → None ≡ Some x → A
none_some x h = cc

some_same : {A : Type 0} (x y : A) → Some x ≡ Some y → x ≡ y
some_same x y h = cc

-- ---- nodes

module _ (t : InstanceTree) (u : UseTable) (flags : List Bool) (start : Option Fault) where
  pub nodes_begin : start ≡ first_of start (flat_map (noted_at t u flags) (numbers_below 0))
  unfolding first_of numbers_below
  nodes_begin = refl

  pub nodes_more : (k : ℕ) (n d : Node) (o p : Option Fault) → k < length t.nodes → n ≡ get_or t.nodes k d → o ≡ first_of start (flat_map (noted_at t u flags) (numbers_below k)) → p ≡ first_of o (flat_map (noted t u flags k) n.code.now.decls) →
      p ≡ first_of start (flat_map (noted_at t u flags) (numbers_below (k + 1)))
  unfolding numbers_below noted_at
  nodes_more k n d o p within at so_far now =
      now
      ∙ ap (λ q. first_of q (flat_map (noted t u flags k) n.code.now.decls)) so_far
      ∙ sym (first_of_append start (flat_map (noted_at t u flags) (numbers_below k)) (flat_map (noted t u flags k) n.code.now.decls))
      ∙ ap (λ fs. first_of start (flat_map (noted_at t u flags) (numbers_below k) ++ fs)) (sym (append_nil (flat_map (noted t u flags k) n.code.now.decls)) ∙ ap (λ x. noted_in t u flags k x ++ []) (sym there))
      ∙ ap (first_of start) (sym (flat_map-append (noted_at t u flags) (numbers_below k) (k ∷ [])))
      ∙ ap (λ j. first_of start (flat_map (noted_at t u flags) (numbers_below j))) (sym (add-one k))
    where
      there : slice_get t.nodes k ≡ Some n
      there = slice_get-get_or t.nodes k d within ∙ ap (λ x. Some x) (sym at)

  pub nodes_end : (k : ℕ) (o : Option Fault) → k ≡ length t.nodes → o ≡ first_of start (flat_map (noted_at t u flags) (numbers_below k)) → o ≡ first_of start (noted_all t u flags)
  unfolding noted_all
  nodes_end k o is so_far = so_far ∙ ap (λ j. first_of start (flat_map (noted_at t u flags) (numbers_below j))) is

-- ---- roots

module _ (s : System) where
  roots_length : (k : ℕ) (ms : List Module) → length (roots_from s k ms) ≡ length ms
  unfolding roots_from
  roots_length k [] = refl
  roots_length k (m ∷ ms) = ap suc (roots_length (suc k) ms)

  roots_get : (k j n : ℕ) (ms : List Module) (m : Module) (d : Root) → n ≡ k + j → slice_get ms j ≡ Some m → get_or (roots_from s k ms) j d ≡ (rooted s n, m)
  unfolding roots_from
  roots_get k zero n [] m d e h = none_some m h
  roots_get k (suc j) n [] m d e h = none_some m h
  roots_get k zero n (x ∷ ms) m d e h = let i : k ≡ n = omega (arith, e) in ap (λ y. (rooted s k, y)) (some_same x m h) ∙ ap (λ y. (rooted s y, m)) i
  roots_get k (suc j) n (x ∷ ms) m d e h = roots_get (suc k) j n ms m d (omega (arith, e)) h

  pub root_length : length (roots s) ≡ length s.modules
  root_length = roots_length 0 s.modules

  pub root_at : (k : ℕ) (m : Module) (d : Root) → slice_get s.modules k ≡ Some m → get_or (roots s) k d ≡ (rooted s k, m)
  root_at k m d h = roots_get 0 k k s.modules m d (omega arith) h

-- ---- one of a list

module _ {A : Type 0} (f : A → Bool) (xs : List A) where
  either_false : (b c : Bool) → b ≡ false → c ≡ false → (b || (c || false)) ≡ false
  either_false b c h k = ap (λ x. x || (c || false)) h ∙ ap (λ x. x || false) k

  pub any_more : (k : ℕ) (d : A) → k < length xs → list_any f (take k xs) ≡ false → f (get_or xs k d) ≡ false → list_any f (take (k + 1) xs) ≡ false
  any_more k d within none now = ap (list_any f) (take_more xs k d within) ∙ list_any-append f (take k xs) (get_or xs k d ∷ []) ∙ either_false (list_any f (take k xs)) (f (get_or xs k d)) none now

  pub any_none : (k : ℕ) → length xs ≤ k → list_any f (take k xs) ≡ false → false ≡ list_any f xs
  any_none k past none = sym (ap (list_any f) (sym (take_all k xs past)) ∙ none)

pub any_hit : {A : Type 0} (f : A → Bool) (xs : List A) (k : ℕ) (d : A) → k < length xs → f (get_or xs k d) ≡ true → true ≡ list_any f xs
any_hit f [] k d within hit = absurd (omega (arith, within))
any_hit f (x ∷ xs) zero d within hit = sym (ap (λ b. b || list_any f xs) hit)
any_hit f (x ∷ xs) (suc k) d within hit = right (f x) ∙ ap (λ b. f x || b) (any_hit f xs k d (omega (arith, within)) hit)
  where
    right : (b : Bool) → true ≡ (b || true)
    right true = refl
    right false = refl
