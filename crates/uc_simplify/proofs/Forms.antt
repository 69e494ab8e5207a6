-- Linear forms of terms, of their sums and of their multiples.
use Rattle.std.specs.Prelude.{◌≡◌, ◌≢◌, ◌⊎◌, ℕ, ℤ, pos, negsuc, neg_ℤ, ◌+ℤ◌, ◌-ℤ◌, ◌*ℤ◌, ◌+◌, ◌<◌, ◌≤◌, List, [], ◌∷◌, ◌++◌, length, map, All, Contains}
use Rattle.std.proofs.Common.{refl, sym, ap, ◌∙◌, subst, arith, inl, inr, take, drop, get_or, zero, suc}
use Rattle.std.proofs.Math.IntN.{zero-*ℤ, *ℤ_comm}
use Rattle.std.proofs.lemmas.Int.{ints}
use Rattle.std.proofs.lemmas.List.{take_all, take_more, take-append-drop}
use Rattle.std.proofs.lemmas.List.Elements.{All-contains, Contains-append_left, Contains-append_right}
use Rattle.uc_values.specs.Values.{number_of}
use Rattle.uc_values.specs.declared.ty.Ty.TheVariants.{Int as Integer}
use Rattle.uc_values.specs.declared.value.Value.TheVariants.{Int}
use Rattle.uc_ops.specs.declared.model.Model.{Model}
use Rattle.uc_ops.specs.declared.node.Node.{Node}
use Rattle.uc_ops.specs.Typing.{type_at}
use Rattle.uc_terms.specs.Values.{value}
use Rattle.uc_terms.specs.Subterms.{IsSubterm, IsBelow, itself, deeper}
use Rattle.uc_linear.specs.Linear.{Pair, Linear, Rises, coefficient, value_at, IsSum, IsMultiple, IsCombination}
use Rattle.uc_linear.proofs.Sums.{one_cases, coefficient-head}
use Rattle.uc_linear.proofs.Points.{sum-value, multiple-value, combination-value}
use Rattle.uc_simplify.proofs.Opened.{sub-trans}
use Rattle.uc_simplify.specs.Forms.{IsForm, IsFormOf, IsSingle, IsAddend, IsNumber, IsTimes, IsTotal, number_at, numbers_at}

-- one of two numbers is not 0 where their sum is not
zero_or_not : (z : ℤ) → (z ≡ pos 0) ⊎ (z ≢ pos 0)
zero_or_not (pos zero) = inl refl
zero_or_not (pos (suc n)) = inr (λ e. omega (arith, ints, e))
zero_or_not (negsuc n) = inr (λ e. omega (arith, ints, e))

-- a root of one list is one of another
abbrev Under : List Node → List ℕ → List ℕ → Type 0
Under nodes roots others = (k : ℕ) → IsBelow nodes roots k → IsBelow nodes others k

addend_under : (nodes : List Node) (roots others : List ℕ) (t : ℕ) → Under nodes roots others → IsAddend nodes roots t → IsAddend nodes others t
addend_under nodes roots others t u a = record { there = a.there; ty = a.ty; below = u t a.below }

listed_one : (p r : ℕ) → Contains (p ∷ []) r → r ≡ p
listed_one p r (zero, h, e) = sym e
listed_one p r (suc k, h, e) = absurd (omega (arith, h))

one_under : (nodes : List Node) (p : ℕ) (others : List ℕ) → Contains others p → Under nodes (p ∷ []) others
one_under nodes p others c k b =
    record { root = p; listed = c; below = subst (λ r. IsSubterm nodes r k) (listed_one p b.root b.listed) b.below }

part_of_sum : (f a b : ℤ) → f ≡ a +ℤ b → f ≢ pos 0 → (a ≢ pos 0) ⊎ (b ≢ pos 0)
part_of_sum f a b e n = elim (zero_or_not a) [ inl x ↦ inr (λ y. n (omega (arith, ints, e, x, y))) | inr x ↦ inl x ]

part_of_difference : (f a b p q : ℤ) → f ≡ p *ℤ a +ℤ q *ℤ b → f ≢ pos 0 → (a ≢ pos 0) ⊎ (b ≢ pos 0)
part_of_difference f a b p q e n =
    elim (zero_or_not a) [
      | inl x ↦ inr (λ y. n (omega (arith, ints, e, ap (λ z. p *ℤ z) x, ap (λ z. q *ℤ z) y, *ℤ_comm p (pos 0), *ℤ_comm q (pos 0), zero-*ℤ p, zero-*ℤ q)))
      | inr x ↦ inl x
    ]

part_of_multiple : (f a k : ℤ) → f ≡ a *ℤ k → f ≢ pos 0 → a ≢ pos 0
part_of_multiple f a k e n x = n (e ∙ ap (λ z. z *ℤ k) x ∙ zero-*ℤ k)

form_sum : (nodes : List Node) (xs ys roots : List ℕ) (f a b : Linear) (y z w : Model → ℤ) → Under nodes xs roots → Under nodes ys roots → ((m : Model) → y m +ℤ z m ≡ w m)
    → IsSum f a b → IsForm nodes xs a y → IsForm nodes ys b z → IsForm nodes roots f w
form_sum nodes xs ys roots f a b y z w u v e s l r = record {
  same = λ m. sum-value (number_at m nodes) f a b s ∙ (λ i. l.same m i +ℤ r.same m i) ∙ e m;
  within = λ k n. elim (part_of_sum (coefficient f.pairs k) (coefficient a.pairs k) (coefficient b.pairs k) (s.pairs k) n) [
    | inl h ↦ addend_under nodes xs roots k u (l.within k h)
    | inr h ↦ addend_under nodes ys roots k v (r.within k h)
  ];
}

form_multiple : (nodes : List Node) (xs roots : List ℕ) (f a : Linear) (k : ℤ) (y w : Model → ℤ) → Under nodes xs roots → ((m : Model) → y m *ℤ k ≡ w m) → IsMultiple f a k → IsForm nodes xs a y → IsForm nodes roots f w
form_multiple nodes xs roots f a k y w u e s l = record {
  same = λ m. multiple-value (number_at m nodes) f a k s ∙ ap (λ z. z *ℤ k) (l.same m) ∙ e m;
  within = λ v n. addend_under nodes xs roots v u (l.within v (part_of_multiple (coefficient f.pairs v) (coefficient a.pairs v) k (s.pairs v) n));
}

pub times_right : (nodes : List Node) (a : ℕ) (f g : Linear) (k : ℤ) → IsMultiple f g k → IsForm nodes (a ∷ []) g (λ m. number_at m nodes a) → IsForm nodes (a ∷ []) f (λ m. number_at m nodes a *ℤ k)
times_right nodes a f g k s l = form_multiple nodes (a ∷ []) (a ∷ []) f g k (λ m. number_at m nodes a) (λ m. number_at m nodes a *ℤ k) (λ j b. b) (λ m. refl) s l

less : (x y p q : ℤ) → p ≡ pos 1 → q ≡ neg_ℤ (pos 1) → p *ℤ x +ℤ q *ℤ y ≡ x -ℤ y
less x y p q e f = ap (λ k. k *ℤ x +ℤ q *ℤ y) e ∙ ap (λ k. pos 1 *ℤ x +ℤ k *ℤ y) f ∙ omega (arith, ints)

pub less_right : (nodes : List Node) (a b : ℕ) (f l r : Linear) (p q : ℤ) → p ≡ pos 1 → q ≡ neg_ℤ (pos 1) → IsCombination f p l q r → IsForm nodes (a ∷ []) l (λ m. number_at m nodes a) → IsForm nodes (b ∷ []) r (λ m. number_at m nodes b)
    → IsForm nodes (a ∷ b ∷ []) f (λ m. number_at m nodes a -ℤ number_at m nodes b)
less_right nodes a b f l r p q e g s x y = record {
  same = λ m.
      combination-value (number_at m nodes) f p l q r s ∙ (λ i. p *ℤ x.same m i +ℤ q *ℤ y.same m i) ∙ less (number_at m nodes a) (number_at m nodes b) p q e g;
  within = λ v n. elim (part_of_difference (coefficient f.pairs v) (coefficient l.pairs v) (coefficient r.pairs v) p q (s.pairs v) n) [
    | inl h ↦ addend_under nodes (a ∷ []) (a ∷ b ∷ []) v (one_under nodes a (a ∷ b ∷ []) (0, omega arith, refl)) (x.within v h)
    | inr h ↦ addend_under nodes (b ∷ []) (a ∷ b ∷ []) v (one_under nodes b (a ∷ b ∷ []) (1, omega arith, refl)) (y.within v h)
  ];
}

alone : (z : ℤ) → z +ℤ pos 0 ≡ z
alone z = omega (arith, ints)

pub none_right : (nodes : List Node) (roots : List ℕ) (z : ℤ) (w : Model → ℤ) → ((m : Model) → z ≡ w m) → IsForm nodes roots (record { constant = z; pairs = [] }) w
none_right nodes roots z w e = record { same = λ m. alone z ∙ e m; within = λ v n. absurd (n refl) }

pub constant_right : (nodes : List Node) (t p : ℕ) (k z whole : ℤ) → IsTimes nodes t k p → IsNumber nodes p z → whole ≡ k *ℤ z → IsForm nodes (t ∷ []) (record { constant = whole; pairs = [] }) (λ m. number_at m nodes t)
constant_right nodes t p k z whole x n e =
    none_right nodes (t ∷ []) whole (λ m. number_at m nodes t) (λ m. e ∙ ap (λ y. k *ℤ y) (sym (ap number_of (n m))) ∙ sym (x.same m))

pub constant_found : (nodes : List Node) (t p : ℕ) (k z whole : ℤ) (f : Linear) → IsTimes nodes t k p → IsNumber nodes p z → whole ≡ k *ℤ z → f ≡ record { constant = whole; pairs = [] } → IsForm nodes (t ∷ []) f (λ m. number_at m nodes t)
constant_found nodes t p k z whole f x n e g = subst (λ h. IsForm nodes (t ∷ []) h (λ m. number_at m nodes t)) (sym g) (constant_right nodes t p k z whole x n e)

pub single_right : (nodes : List Node) (t p : ℕ) (k : ℤ) (f : Linear) → IsTimes nodes t k p → IsSingle k p f → IsForm nodes (t ∷ []) f (λ m. number_at m nodes t)
single_right nodes t p k f x s = record {
  same = λ m. s.same (number_at m nodes) ∙ sym (x.same m);
  within = λ v n. subst (IsAddend nodes (t ∷ [])) (sym (s.within v n)) (record { there = x.there; ty = x.ty; below = record { root = t; listed = (0, omega arith, refl); below = x.below } });
}

own_under : (nodes : List Node) (t p : ℕ) (own : List ℕ) → IsSubterm nodes t p → All (IsSubterm nodes p) own → Under nodes own (t ∷ [])
own_under nodes t p own s a k b = record {
  root = t;
  listed = (0, omega arith, refl);
  below = sub-trans nodes t p s k (sub-trans nodes p b.root (All-contains (IsSubterm nodes p) own b.root a b.listed) k b.below);
}

pub opened_right : (nodes : List Node) (t p : ℕ) (own : List ℕ) (k : ℤ) (f g : Linear) → IsTimes nodes t k p → IsTotal nodes p own → IsMultiple f g k → IsForm nodes own g (λ m. numbers_at m nodes own) → IsForm nodes (t ∷ []) f (λ m. number_at m nodes t)
opened_right nodes t p own k f g x y s l =
    form_multiple nodes own (t ∷ []) f g k (λ m. numbers_at m nodes own) (λ m. number_at m nodes t) (own_under nodes t p own x.below y.below)
    (λ m. ap (λ z. z *ℤ k) (sym (y.same m)) ∙ *ℤ_comm (number_at m nodes p) k ∙ sym (x.same m)) s l

pub numbers-append : (m : Model) (nodes : List Node) (xs ys : List ℕ) → numbers_at m nodes (xs ++ ys) ≡ numbers_at m nodes xs +ℤ numbers_at m nodes ys
numbers-append m nodes [] ys = omega (arith, ints)
numbers-append m nodes (x ∷ xs) ys = omega (arith, ints, numbers-append m nodes xs ys)

numbers_next : (m : Model) (nodes : List Node) (parts : List ℕ) (i p : ℕ) → i < length parts → p ≡ get_or parts i p → numbers_at m nodes (take i parts) +ℤ number_at m nodes p ≡ numbers_at m nodes (take (i + 1) parts)
numbers_next m nodes parts i p h e =
    sym (ap (numbers_at m nodes) (take_more parts i p h ∙ ap (λ q. take i parts ++ q ∷ []) (sym e)) ∙ numbers-append m nodes (take i parts) (p ∷ []) ∙ ap (λ z. numbers_at m nodes (take i parts) +ℤ z) (alone (number_at m nodes p)))

pub few_next : (nodes : List Node) (parts : List ℕ) (i p : ℕ) (f a b : Linear) → i < length parts → p ≡ get_or parts i p → IsSum f a b → IsForm nodes parts a (λ m. numbers_at m nodes (take i parts)) → IsForm nodes (p ∷ []) b (λ m. number_at m nodes p)
    → IsForm nodes parts f (λ m. numbers_at m nodes (take (i + 1) parts))
few_next nodes parts i p f a b h e s l r =
    form_sum nodes parts (p ∷ []) parts f a b (λ m. numbers_at m nodes (take i parts)) (λ m. number_at m nodes p) (λ m. numbers_at m nodes (take (i + 1) parts)) (λ k c. c)
    (one_under nodes p parts (i, h, sym e)) (λ m. numbers_next m nodes parts i p h e) s l r

front_under : (nodes : List Node) (xs ys : List ℕ) → Under nodes xs (xs ++ ys)
front_under nodes xs ys k b = record { root = b.root; listed = Contains-append_left xs ys b.root b.listed; below = b.below }

back_under : (nodes : List Node) (xs ys : List ℕ) → Under nodes ys (xs ++ ys)
back_under nodes xs ys k b = record { root = b.root; listed = Contains-append_right xs ys b.root b.listed; below = b.below }

pub halves_right : (nodes : List Node) (parts xs ys : List ℕ) (n : ℕ) (f a b : Linear) → xs ≡ take n parts → ys ≡ drop n parts → IsSum f a b → IsForm nodes xs a (λ m. numbers_at m nodes xs) → IsForm nodes ys b (λ m. numbers_at m nodes ys)
    → IsForm nodes parts f (λ m. numbers_at m nodes parts)
halves_right nodes parts xs ys n f a b e g s l r =
    let whole : xs ++ ys ≡ parts = (λ i. e i ++ g i) ∙ take-append-drop n parts in
    subst (λ ps. IsForm nodes ps f (λ m. numbers_at m nodes ps)) whole
    (form_sum nodes xs ys (xs ++ ys) f a b (λ m. numbers_at m nodes xs) (λ m. numbers_at m nodes ys) (λ m. numbers_at m nodes (xs ++ ys)) (front_under nodes xs ys) (back_under nodes xs ys)
    (λ m. sym (numbers-append m nodes xs ys)) s l r)

pub alone_right : (nodes : List Node) (p : ℕ) (parts : List ℕ) (f : Linear) → p ∷ [] ≡ parts → IsForm nodes (p ∷ []) f (λ m. number_at m nodes p) → IsForm nodes parts f (λ m. numbers_at m nodes parts)
alone_right nodes p parts f e x =
    subst (λ ps. IsForm nodes ps f (λ m. numbers_at m nodes ps)) e (record { same = λ m. x.same m ∙ sym (alone (number_at m nodes p)); within = x.within })

pub few_start : (nodes : List Node) (parts : List ℕ) (f : Linear) → f ≡ record { constant = pos 0; pairs = [] } → IsForm nodes parts f (λ m. numbers_at m nodes (take 0 parts))
few_start nodes parts f e = subst (λ g. IsForm nodes parts g (λ m. numbers_at m nodes (take 0 parts))) (sym e) (none_right nodes parts (pos 0) (λ m. numbers_at m nodes (take 0 parts)) (λ m. refl))

pub few_end : (nodes : List Node) (parts : List ℕ) (i : ℕ) (f : Linear) → length parts ≤ i → IsForm nodes parts f (λ m. numbers_at m nodes (take i parts)) → IsForm nodes parts f (λ m. numbers_at m nodes parts)
few_end nodes parts i f h x = subst (λ ps. IsForm nodes parts f (λ m. numbers_at m nodes ps)) (take_all i parts h) x

pub none_of : (nodes : List Node) (parts : List ℕ) (f : Linear) → parts ≡ [] → f ≡ record { constant = pos 0; pairs = [] } → IsForm nodes parts f (λ m. numbers_at m nodes parts)
none_of nodes parts f e g =
    subst (λ ps. IsForm nodes ps f (λ m. numbers_at m nodes ps)) (sym e) (subst (λ x. IsForm nodes [] x (λ m. pos 0)) (sym g) (none_right nodes [] (pos 0) (λ m. pos 0) (λ m. refl)))

-- a variable that is listed has a coefficient
listed_above : (low : ℕ) (ps : List Pair) (p : Pair) → Rises low ps → Contains ps p → low ≤ p.0
listed_above low [] p r c = absurd (omega (arith, c.1))
listed_above low (q ∷ qs) p r (zero, h, e) = omega (arith, r.0, ap (λ (x : Pair). x.0) e)
listed_above low (q ∷ qs) p r (suc k, h, e) = omega (arith, r.0, listed_above (q.0 + 1) qs p r.2 (k, omega (arith, h), e))

listed_counts : (low : ℕ) (ps : List Pair) (p : Pair) → Rises low ps → Contains ps p → coefficient ps p.0 ≢ pos 0
listed_counts low [] p r c n = absurd (omega (arith, c.1))
listed_counts low (q ∷ qs) p r (zero, h, e) n =
    r.1 (sym (coefficient-head q qs q.0 (omega arith, r.1, r.2) refl) ∙ ap (λ (x : Pair). coefficient (q ∷ qs) x.0) e ∙ n)
listed_counts low (q ∷ qs) p r (suc k, h, e) n =
    let later = listed_above (q.0 + 1) qs p r.2 (k, omega (arith, h), e) in
    elim (one_cases q p.0) [
      | inl x ↦ absurd (omega (arith, later, x.0))
      | inr x ↦ listed_counts (q.0 + 1) qs p r.2 (k, omega (arith, h), e) (omega (arith, ints, x.1, n))
    ]

pub form_listed : (nodes : List Node) (roots : List ℕ) (f : Linear) (z : Model → ℤ) → Rises 0 f.pairs → IsForm nodes roots f z → IsFormOf nodes roots f z
form_listed nodes roots f z r x = record { same = x.same; within = λ p c. x.within p.0 (listed_counts 0 f.pairs p r c) }

-- a form of one variable, and one of none
added : (k x : ℤ) → pos 0 +ℤ (k *ℤ x +ℤ pos 0) ≡ k *ℤ x
added k x = omega (arith, ints)

pub single_one : (k : ℤ) (v : ℕ) (f : Linear) → f ≡ record { constant = pos 0; pairs = (v, k) ∷ [] } → IsSingle k v f
single_one k v f e = subst (IsSingle k v) (sym e) (record {
  same = λ point. added k (point v);
  within = λ w n. elim (one_cases (v, k) w) [ inl x ↦ sym x.0 | inr x ↦ absurd (n (omega (arith, ints, x.1))) ];
})

pub single_none : (k : ℤ) (v : ℕ) (f : Linear) → k ≡ pos 0 → f ≡ record { constant = pos 0; pairs = [] } → IsSingle k v f
single_none k v f z e = subst (IsSingle k v) (sym e) (record {
  same = λ point. sym (ap (λ x. x *ℤ point v) z ∙ zero-*ℤ (point v));
  within = λ w n. absurd (n refl);
})
