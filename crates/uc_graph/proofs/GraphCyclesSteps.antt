-- What is known after a node is settled.
use Rattle.std.proofs.Common.{◌≡◌, ℕ, zero, suc, ◌+◌, ◌<◌, ◌≤◌, Bool, true, false, List, [], ◌∷◌, length, refl, ap, sym, ◌∙◌, subst, arith, ◌⊎◌, inl, inr, ⊎_elim}
use Rattle.std.specs.Prelude.{nat_eq, nat_lt, not, ◌&&◌, ◌||◌, replicate}
use Rattle.std.proofs.lemmas.List.{length-replicate}
use Rattle.uc_graph.specs.Order.{has, needs}
use Rattle.uc_graph.specs.Reached.{IsReached, IsTaken, is_left}
use Rattle.uc_graph.proofs.ReachedWays.{all_reached, was_left}
use Rattle.uc_graph.specs.declared.settled.Settled.{Settled}
use Rattle.uc_graph.specs.Cycles.{IsWay, LeadsTo, LiesOnCycle, MarksCycles}
use Rattle.uc_graph.specs.Settling.{Clears, IsReversed, Sets, Settles, SettlesNode}
use Rattle.uc_graph.proofs.Tests.{and_left, and_none, and_right, below, both, cleared, either_way, either, equal, false_and, flag_within, is_not, not_true, nothing, or_left, or_none, or_right, same, was_cleared}
use Rattle.uc_graph.proofs.Flags.{flag_none, flag_of}
use Rattle.uc_graph.proofs.GraphCyclesWays.{by_edge, leads_on, one_more, way_within}

-- ---- the nodes that are reached from a node that is left

module _ (graph : List (List ℕ)) (left : List Bool) (found : List ℕ) (r : ℕ) (f : IsReached graph left (needs graph r) found) where
  pub found_from : (x : ℕ) → has found x ≡ true → LeadsTo graph r x
  found_from = all_reached graph left (needs graph r) found (LeadsTo graph r) f (λ n e l. by_edge graph r n e) (λ n m w e l. one_more graph r n m w e)

  pub found_left : (x : ℕ) → has found x ≡ true → is_left left x ≡ true
  found_left x h = let w = f.reached x h in was_left graph left (needs graph r) w.0 x w.1

  module _ (r_left : is_left left r ≡ true) (together : (n m : ℕ) → is_left left n ≡ true → LeadsTo graph n m → LeadsTo graph m n → is_left left m ≡ true) where
    -- each node of its cycles is among them
    pub found_all : (k x : ℕ) → IsWay graph k r x → LeadsTo graph x r → has found x ≡ true
    unfolding IsWay
    found_all zero x e back = f.begun x e (together r x r_left (by_edge graph r x e) back)
    found_all (suc k) x w back =
        let on = leads_on graph w.0 x r (by_edge graph w.0 x w.2) back in
        f.followed w.0 x (found_all k w.0 w.1 on) w.2 (together r x r_left (suc k, w) back)

    pub all_found : (x : ℕ) → LeadsTo graph r x → LeadsTo graph x r → has found x ≡ true
    all_found x w back = found_all w.0 x w.1 back

    -- and from which it is reached
    module _ (back : List (List ℕ)) (inside : List Bool) (cycle : List ℕ) (rev : IsReversed graph back) (c : IsReached back inside (needs back r) cycle) (in_found : (n : ℕ) → is_left inside n ≡ has found n) (count : length left ≡ length graph) where
      pub cycle_to : (x : ℕ) → has cycle x ≡ true → LeadsTo graph x r
      cycle_to =
          all_reached back inside (needs back r) cycle (λ x. LeadsTo graph x r) c (λ n e l. by_edge graph n r (rev.only n r e)) (λ n m w e l. leads_on graph m n r (by_edge graph m n (rev.only m n e)) w)

      pub cycle_found : (x : ℕ) → has cycle x ≡ true → has found x ≡ true
      cycle_found x h = let w = c.reached x h in sym (in_found x) ∙ was_left back inside (needs back r) w.0 x w.1

      pub cycle_lies : (x : ℕ) → has cycle x ≡ true → LiesOnCycle graph x
      cycle_lies x h = leads_on graph x r x (cycle_to x h) (found_from x (cycle_found x h))

      node_within : (x : ℕ) → is_left left x ≡ true → x < length graph
      node_within x h = let l = flag_within left x h in omega (arith, l, count)

      abbrev Ends : ℕ → Type 0
      Ends y = (y ≡ r) ⊎ (has cycle y ≡ true)

      ends_lead : (x y : ℕ) → has (needs graph x) y ≡ true → Ends y → LeadsTo graph x r
      ends_lead x y e (inl at) = by_edge graph x r (ap (has (needs graph x)) (sym at) ∙ e)
      ends_lead x y e (inr h) = leads_on graph x y r (by_edge graph x y e) (cycle_to y h)

      before : (x y : ℕ) → has (needs graph x) y ≡ true → is_left inside x ≡ true → Ends y → has cycle x ≡ true
      before x y e open' (inl at) = c.begun x (ap (λ z. has (needs back z) x) (sym at) ∙ rev.there x y (node_within y (ap (is_left left) at ∙ r_left)) e) open'
      before x y e open' (inr h) = c.followed y x h (rev.there x y (node_within y (found_left y (cycle_found y h))) e) open'

      one : (x y : ℕ) → has (needs graph x) y ≡ true → LeadsTo graph r x → Ends y → has cycle x ≡ true
      one x y e w ends = before x y e (in_found x ∙ all_found x w (ends_lead x y e ends)) ends

      cycle_way : (k x y : ℕ) → IsWay graph k x y → LeadsTo graph r x → Ends y → has cycle x ≡ true
      unfolding IsWay
      cycle_way zero x y e w ends = one x y e w ends
      cycle_way (suc k) x y v w ends = cycle_way k x v.0 v.1 w (inr (one v.0 y v.2 (leads_on graph r x v.0 w (k, v.1)) ends))

      pub cycle_all : (x : ℕ) → LeadsTo graph r x → LeadsTo graph x r → has cycle x ≡ true
      cycle_all x w v = cycle_way v.0 x r v.1 w (inl refl)

-- ---- flags that are put back

-- those that were taken are put back
put_back : (b h l : Bool) → (h ≡ true → b ≡ true) → (h ≡ true → l ≡ true) → ((b && not h) || (h && l)) ≡ b
put_back true true l i j = j refl
put_back true false l i j = refl
put_back false true l i j = nothing (sym (i refl))
put_back false false l i j = refl

pub left_again : (left taken again : List Bool) (found : List ℕ) → ((x : ℕ) → has found x ≡ true → is_left left x ≡ true) → IsTaken left found taken → Sets (has found) taken again → (n : ℕ) → is_left again n ≡ is_left left n
left_again left taken again found were t s n =
    s.now n
    ∙ ap (λ b. b || (has found n && nat_lt n (length taken))) (t.left_now n)
    ∙ put_back (is_left left n) (has found n) (nat_lt n (length taken)) (were n) (λ h. let l = flag_within left n (were n h) in below n (length taken) (omega (arith, l, t.size)))

-- flags that are set where none was
pub set_alone : (b h l : Bool) → b ≡ false → (h ≡ true → l ≡ true) → (b || (h && l)) ≡ h
set_alone true h l e j = nothing e
set_alone false true l e j = j refl
set_alone false false l e j = refl

pub set_more : (b h l : Bool) → (h ≡ true → l ≡ true) → (b || (h && l)) ≡ (b || h)
set_more true h l j = refl
set_more false true l j = j refl
set_more false false l j = refl

nothing_left : (a b c : Bool) → a ≡ c → ((a && not b) && not c) ≡ false
nothing_left true b true e = and_none (not b)
nothing_left true b false e = nothing e
nothing_left false b c e = refl

-- ---- a node is settled

-- a node that is known already
pub settles_known : (graph : List (List ℕ)) (node : ℕ) (s : Settled) → is_left s.left node ≡ false → Settles graph s → SettlesNode graph node s s
settles_known graph node s known t = record { settles = t; known = known; fewer = λ n h. h }

-- a node that lies on no cycle
pub settles_alone : (graph : List (List ℕ)) (node : ℕ) (s v : Settled) (taken again : List Bool) (found : List ℕ) → is_left s.left node ≡ true → IsReached graph s.left (needs graph node) found → IsTaken s.left found taken →
    is_left taken node ≡ true → Sets (has found) taken again → Clears (λ n. nat_eq n node) again v.left → v.flags ≡ s.flags → v.inside ≡ s.inside → Settles graph s → SettlesNode graph node s v
settles_alone graph node s v taken again found open' f t still b c flags inside known = record {
  settles = record {
    left_count = c.count ∙ b.count ∙ t.size ∙ known.left_count;
    flag_count = ap length flags ∙ known.flag_count;
    inside_count = ap length inside ∙ known.inside_count;
    nothing_inside = λ n. ap (λ bs. is_left bs n) inside ∙ known.nothing_inside n;
    sound = λ n h. known.sound n (ap (λ bs. is_left bs n) (sym flags) ∙ h);
    complete = λ n h cyc. ap (λ bs. is_left bs n) flags ∙ complete n h cyc (either_way (nat_eq n node));
    together = λ n m h w back. left_now m ∙ both (is_left s.left m) (not (nat_eq m node)) (known.together n m (was n h) w back) (other n m w back (nat_eq m node) refl);
  };
  known = left_now node ∙ cleared (is_left s.left node) (nat_eq node node) (same node);
  fewer = λ n h. left_now n ∙ false_and (is_left s.left n) (not (nat_eq n node)) h;
}
  where
    left_now : (n : ℕ) → is_left v.left n ≡ (is_left s.left n && not (nat_eq n node))
    left_now n = c.now n ∙ ap (λ x. x && not (nat_eq n node)) (left_again s.left taken again found (found_left graph s.left found node f) t b n)

    was : (n : ℕ) → is_left v.left n ≡ true → is_left s.left n ≡ true
    was n h = and_left (is_left s.left n) (not (nat_eq n node)) (sym (left_now n) ∙ h)

    not_found : has found node ≡ true → true ≡ false
    not_found h = sym still ∙ t.left_now node ∙ cleared (is_left s.left node) (has found node) h

    no_cycle : {A : Type 0} → LiesOnCycle graph node → A
    no_cycle w = nothing (not_found (all_found graph s.left found node f open' known.together node w w))

    complete : (n : ℕ) → is_left v.left n ≡ false → LiesOnCycle graph n → (nat_eq n node ≡ true) ⊎ (nat_eq n node ≡ false) → is_left s.flags n ≡ true
    complete n h cyc (inl at) = no_cycle (subst (LiesOnCycle graph) (equal n node at) cyc)
    complete n h cyc (inr away) = known.complete n (sym (ap (λ x. is_left s.left n && not x) away ∙ all (is_left s.left n)) ∙ sym (left_now n) ∙ h) cyc
      where
        all : (x : Bool) → (x && true) ≡ x
        all true = refl
        all false = refl

    other : (n m : ℕ) → LeadsTo graph n m → LeadsTo graph m n → (x : Bool) → nat_eq m node ≡ x → not (nat_eq m node) ≡ true
    other n m w back true at = no_cycle (subst (LiesOnCycle graph) (equal m node at) (leads_on graph m n m back w))
    other n m w back false at = ap not at

-- a node that lies on a cycle
pub settles_cycle : (graph back : List (List ℕ)) (node : ℕ) (s v : Settled) (taken marked unmarked again : List Bool) (found cycle : List ℕ) → IsReversed graph back → is_left s.left node ≡ true → IsReached graph s.left (needs graph node) found →
    IsTaken s.left found taken → is_left taken node ≡ false → Sets (has found) s.inside marked → IsReached back marked (needs back node) cycle → IsTaken marked cycle unmarked → Clears (has found) unmarked v.inside →
    Sets (has found) taken again → Clears (has cycle) again v.left → Sets (has cycle) s.flags v.flags → Settles graph s → SettlesNode graph node s v
settles_cycle graph back node s v taken marked unmarked again found cycle rev open' f t gone m c u e b d g known = record {
  settles = record {
    left_count = d.count ∙ b.count ∙ t.size ∙ known.left_count;
    flag_count = g.count ∙ known.flag_count;
    inside_count = e.count ∙ u.size ∙ m.count ∙ known.inside_count;
    nothing_inside = λ n. e.now n ∙ ap (λ x. x && not (has found n)) (u.left_now n) ∙ nothing_left (is_left marked n) (has cycle n) (has found n) (in_found n);
    sound = λ n h. ⊎_elim (known.sound n) (lies n) (either (is_left s.flags n) (has cycle n) (sym (flags_now n) ∙ h));
    complete = λ n h cyc. flags_now n ∙ complete n h cyc (either_way (has cycle n));
    together = λ n k h w v'. left_now k ∙ both (is_left s.left k) (not (has cycle k)) (known.together n k (and_left (is_left s.left n) (not (has cycle n)) (sym (left_now n) ∙ h)) w v') (other n k h w v' (has cycle k) refl);
  };
  known = left_now node ∙ cleared (is_left s.left node) (has cycle node) (all node (from node was_found) (from node was_found));
  fewer = λ n h. left_now n ∙ false_and (is_left s.left n) (not (has cycle n)) h;
}
  where
    from : (n : ℕ) → has found n ≡ true → LeadsTo graph node n
    from = found_from graph s.left found node f

    were : (n : ℕ) → has found n ≡ true → is_left s.left n ≡ true
    were = found_left graph s.left found node f

    within : (n : ℕ) → has found n ≡ true → n < length graph
    within n h = let l = flag_within s.left n (were n h) in omega (arith, l, known.left_count)

    was_found : has found node ≡ true
    was_found = was_cleared (is_left s.left node) (has found node) (sym (t.left_now node) ∙ gone) open'

    in_found : (n : ℕ) → is_left marked n ≡ has found n
    in_found n = m.now n ∙ set_alone (is_left s.inside n) (has found n) (nat_lt n (length s.inside)) (known.nothing_inside n) (λ h. below n (length s.inside) (omega (arith, within n h, known.inside_count)))

    cycle_in : (n : ℕ) → has cycle n ≡ true → has found n ≡ true
    cycle_in = cycle_found graph s.left found node f open' known.together back marked cycle rev c in_found known.left_count

    to : (n : ℕ) → has cycle n ≡ true → LeadsTo graph n node
    to = cycle_to graph s.left found node f open' known.together back marked cycle rev c in_found known.left_count

    lies : (n : ℕ) → has cycle n ≡ true → LiesOnCycle graph n
    lies = cycle_lies graph s.left found node f open' known.together back marked cycle rev c in_found known.left_count

    all : (n : ℕ) → LeadsTo graph node n → LeadsTo graph n node → has cycle n ≡ true
    all = cycle_all graph s.left found node f open' known.together back marked cycle rev c in_found known.left_count

    left_now : (n : ℕ) → is_left v.left n ≡ (is_left s.left n && not (has cycle n))
    left_now n = d.now n ∙ ap (λ x. x && not (has cycle n)) (left_again s.left taken again found were t b n)

    flags_now : (n : ℕ) → is_left v.flags n ≡ (is_left s.flags n || has cycle n)
    flags_now n = g.now n ∙ set_more (is_left s.flags n) (has cycle n) (nat_lt n (length s.flags)) (λ h. below n (length s.flags) (omega (arith, within n (cycle_in n h), known.flag_count)))

    complete : (n : ℕ) → is_left v.left n ≡ false → LiesOnCycle graph n → (has cycle n ≡ true) ⊎ (has cycle n ≡ false) → (is_left s.flags n || has cycle n) ≡ true
    complete n h cyc (inl there) = or_right (is_left s.flags n) (has cycle n) there
    complete n h cyc (inr away) =
        or_left (is_left s.flags n) (has cycle n) (known.complete n (sym (ap (λ x. is_left s.left n && not x) away ∙ kept (is_left s.left n)) ∙ sym (left_now n) ∙ h) cyc)
      where
        kept : (x : Bool) → (x && true) ≡ x
        kept true = refl
        kept false = refl

    other : (n k : ℕ) → is_left v.left n ≡ true → LeadsTo graph n k → LeadsTo graph k n → (x : Bool) → has cycle k ≡ x → not (has cycle k) ≡ true
    other n k h w v' true there =
        let n_there = all n (leads_on graph node k n (from k (cycle_in k there)) v') (leads_on graph n k node w (to k there)) in
        nothing (sym (and_right (is_left s.left n) (not (has cycle n)) (sym (left_now n) ∙ h)) ∙ ap not n_there)
    other n k h w v' false away = ap not away

-- ---- the beginning and the end

pub settles_begin : (graph : List (List ℕ)) (s : Settled) (count : ℕ) → count ≡ length graph → s.left ≡ replicate count true → s.flags ≡ replicate count false → s.inside ≡ replicate count false → Settles graph s
settles_begin graph s count is l f i = record {
  left_count = ap length l ∙ length-replicate count true ∙ is;
  flag_count = ap length f ∙ length-replicate count false ∙ is;
  inside_count = ap length i ∙ length-replicate count false ∙ is;
  nothing_inside = λ n. ap (λ bs. is_left bs n) i ∙ flag_none count n;
  sound = λ n h. nothing (sym h ∙ ap (λ bs. is_left bs n) f ∙ flag_none count n);
  complete = λ n h w. nothing (sym (open_at n w.0 n w.1) ∙ h);
  together = λ n m h w v. open_at m v.0 n v.1;
}
  where
    open_at : (n k m : ℕ) → IsWay graph k n m → is_left s.left n ≡ true
    open_at n k m w = ap (λ bs. is_left bs n) l ∙ flag_of count n (let x = way_within graph k n m w in omega (arith, x, is))

less_or_same : (n k : ℕ) → n < k + 1 → (n < k) ⊎ (n ≡ k)
less_or_same zero zero h = inr refl
less_or_same zero (suc k) h = inl (omega arith)
less_or_same (suc n) zero h = absurd (omega (arith, h))
less_or_same (suc n) (suc k) h = ⊎_elim (λ a. inl (omega (arith, a))) (λ b. inr (ap suc b)) (less_or_same n k (omega (arith, h)))

-- the first nodes are settled
pub record SettlesTo (graph : List (List ℕ)) (count : ℕ) (s : Settled) : Type 0 where
  pub settles : Settles graph s
  pub known : (n : ℕ) → n < count → is_left s.left n ≡ false

pub settles_none : (graph : List (List ℕ)) (s : Settled) → Settles graph s → SettlesTo graph 0 s
settles_none graph s h = record { settles = h; known = λ n l. absurd (omega (arith, l)) }

pub settles_more : (graph : List (List ℕ)) (k : ℕ) (s v : Settled) → SettlesTo graph k s → SettlesNode graph k s v → SettlesTo graph (k + 1) v
settles_more graph k s v t u = record {
  settles = u.settles;
  known = λ n l. ⊎_elim (λ before. u.fewer n (t.known n before)) (λ at. ap (is_left v.left) at ∙ u.known) (less_or_same n k l);
}

pub settles_end : (graph : List (List ℕ)) (k : ℕ) (s : Settled) (flags : List Bool) → length graph ≤ k → flags ≡ s.flags → SettlesTo graph k s → MarksCycles graph flags
unfolding MarksCycles
settles_end graph k s flags past is t n = (
  λ h. t.settles.sound n (ap (λ bs. is_left bs n) (sym is) ∙ h),
  λ w. ap (λ bs. is_left bs n) is ∙ t.settles.complete n (t.known n (let l = way_within graph w.0 n n w.1 in omega (arith, l, past))) w,
)
