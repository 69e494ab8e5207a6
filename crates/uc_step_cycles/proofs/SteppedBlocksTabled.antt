-- The nodes get their blocks in order.
use Rattle.std.proofs.Common.{◌≡◌, ℕ, zero, suc, ◌+◌, ◌<◌, ◌≤◌, List, [], ◌∷◌, ◌++◌, length, take, get_or, Some, refl, ap, sym, subst, ◌∙◌, ◌⊎◌, inl, inr, ⊎_elim, arith}
use Rattle.std.specs.Prelude.{slice_get}
use Rattle.std.proofs.lemmas.Option.{slice_get-get_or}
use Rattle.std.proofs.lemmas.List.{take_all}
use Rattle.uc_uses.specs.declared.tree.Node.{Node}
use Rattle.uc_uses.specs.declared.tree.InstanceTree.{InstanceTree}
use Rattle.uc_uses.proofs.Lists.{get_left, get_next, get_within, length_push, some_same}
use Rattle.uc_step_cycles.specs.declared.stepped_blocks.Block.{Block}
use Rattle.uc_step_cycles.specs.Blocks.{IsBlock, KnowsTree}

pub record TabledTo (t : InstanceTree) (k : ℕ) (blocks : List Block) : Type 0 where
  pub count : length blocks ≡ k
  pub at : (j : ℕ) (node : Node) → slice_get t.nodes j ≡ Some node → j < k → (b : Block) × (slice_get blocks j ≡ Some b) × IsBlock (take j blocks) node b

pub tabled_begin : (t : InstanceTree) (blocks : List Block) → blocks ≡ [] → TabledTo t 0 blocks
tabled_begin t blocks none = record { count = ap length none; at = λ j node there l. absurd (omega (arith, l)) }

take_left : {A : Type 0} (k : ℕ) (xs ys : List A) → k ≤ length xs → take k (xs ++ ys) ≡ take k xs
take_left zero xs ys h = refl
take_left (suc k) [] ys h = absurd (omega (arith, h))
take_left (suc k) (x ∷ xs) ys h = ap (λ zs. x ∷ zs) (take_left k xs ys (omega (arith, h)))

less_or_same : (n m : ℕ) → n < m + 1 → (n < m) ⊎ (n ≡ m)
less_or_same zero zero l = inr refl
less_or_same zero (suc m) l = inl (omega arith)
less_or_same (suc n) zero l = absurd (omega (arith, l))
less_or_same (suc n) (suc m) l = ⊎_elim (λ p. inl (omega (arith, p))) (λ e. inr (ap suc e)) (less_or_same n m (omega (arith, l)))

pub tabled_more : (t : InstanceTree) (k : ℕ) (node d : Node) (blocks all shown : List Block) (b : Block) → TabledTo t k blocks → k < length t.nodes → node ≡ get_or t.nodes k d → shown ≡ blocks → IsBlock shown node b → all ≡ blocks ++ b ∷ [] →
    TabledTo t (k + 1) all
tabled_more t k node d blocks all shown b held within at same is pushed = record {
  count = let size : length all ≡ suc (length blocks) = ap length pushed ∙ length_push blocks b in omega (arith, size, held.count);
  at = λ j other there l. ⊎_elim (λ less. before j other there less) (λ now. here j other there now) (less_or_same j k l);
}
  where
    before : (j : ℕ) (other : Node) → slice_get t.nodes j ≡ Some other → j < k → (c : Block) × (slice_get all j ≡ Some c) × IsBlock (take j all) other c
    before j other there less =
        let c = held.at j other there less in (
          c.0,
          ap (λ bs. slice_get bs j) pushed ∙ get_left blocks (b ∷ []) j c.0 c.1,
          subst (λ bs. IsBlock bs other c.0) (sym (ap (take j) pushed ∙ take_left j blocks (b ∷ []) (omega (arith, less, held.count)))) c.2,
        )

    here : (j : ℕ) (other : Node) → slice_get t.nodes j ≡ Some other → j ≡ k → (c : Block) × (slice_get all j ≡ Some c) × IsBlock (take j all) other c
    here j other there now =
        let one : node ≡ other = some_same node other (sym (slice_get-get_or t.nodes k d within ∙ ap (λ n. Some n) (sym at)) ∙ ap (slice_get t.nodes) (sym now) ∙ there) in
        let taken : take j all ≡ blocks = ap (take j) pushed ∙ take_left j blocks (b ∷ []) (omega (arith, now, held.count)) ∙ take_all j blocks (omega (arith, now, held.count)) in (
          b,
          ap (λ bs. slice_get bs j) pushed ∙ ap (slice_get (blocks ++ b ∷ [])) (now ∙ sym held.count) ∙ get_next blocks b,
          subst (λ bs. IsBlock bs other b) (same ∙ sym taken) (subst (λ n. IsBlock shown n b) one is),
        )

pub tabled_end : (t : InstanceTree) (k : ℕ) (blocks : List Block) → TabledTo t k blocks → k ≡ length t.nodes → KnowsTree t blocks
tabled_end t k blocks held all = record {
  count = held.count ∙ all;
  at = λ j node there. held.at j node there (let l = get_within t.nodes j node there in omega (arith, l, all));
}
