-- Each word that a form may begin with begins a spelling of it.
use Rattle.std.proofs.Common.{◌≡◌, ℕ, Bool, true, false, List, [], ◌∷◌, ◌++◌, Some, None, refl, sym, inl, inr, ◌⊎◌}
use Rattle.std.specs.Prelude.{if◌then◌else◌}
use Rattle.std.proofs.lemmas.List.{append-nil}
use Rattle.std.proofs.lemmas.Bool.{and_parts, or_cases}
use Rattle.uc_forms.specs.Alphabet.{Alphabet}
use Rattle.uc_forms.specs.Form.{Form, any, nothing, both, either, chain, until, made, ahead, deep, member, codes_of}
use Rattle.uc_forms.specs.Spelling.{Language, SpellWith}
use Rattle.uc_forms.specs.Reading.{skips, first}
use Rattle.uc_forms.specs.Plain.{is_direct}
use Rattle.uc_forms.proofs.Run.{Ready, ready, ChainOf}
use Rattle.uc_forms.proofs.Opening.{member_cases}

module _ (T : Alphabet) where
  -- ---- each word that may come first begins a spelling

  empty : {N : Type 0} {V : N → Type 0} (Y : Language T N V) {A : Type 0} (f : Form T N V A) → skips f ≡ true → (a : A) × SpellWith Y f [] a
  empty Y (any q j js) e = absurd cc
  empty Y nothing e = (tt, refl)
  empty Y (both f g) e = let x = and_parts (skips f) (skips g) e in let s = empty Y f x.0 in let t = empty Y g x.1 in ((s.0, t.0), ([], [], refl, s.1, t.1))
  empty Y (either f g) e = elim (or_cases (skips f) (skips g) e) [ inl i ↦ (let s = empty Y f i in (inl s.0, s.1)) | inr i ↦ (let s = empty Y g i in (inr s.0, s.1)) ]
  empty Y (chain f) e = (([], None), refl)
  empty Y (until f g) e = let t = empty Y g e in (([], t.0), t.1)
  empty Y (made h f) e = let s = empty Y f e in (h s.0, (s.0, refl, s.1))
  empty Y (ahead q j js k f g) e = let s = empty Y g e in (inr s.0, s.1)
  empty Y (deep n) e = absurd cc

  abbrev pub Leads : {A : Type 0} → (List T.Word → A → Type 0) → T.Word → Type 0
  Leads {A} L w = (more : List T.Word) × (a : A) × L (w ∷ more) a

  leads_chain : {A B : Type 0} (L : List T.Word → A ⊎ B → Type 0) (w : T.Word) (more : List T.Word) (x : A ⊎ B) → L (w ∷ more) x → Leads (ChainOf T L) w
  leads_chain L w more (inl a) s = (more, (a ∷ [], None), (w ∷ more, [], sym (append-nil (w ∷ more)), s, refl))
  leads_chain L w more (inr b) s = (more, ([], Some b), s)

  pub leads : {N : Type 0} {V : N → Type 0} (Y : Language T N V) (opens : N → List ℕ) → ((n : N) → Ready T (Y n)) → {A : Type 0} (f : Form T N V A) → is_direct f ≡ true → (w : T.Word) → member (T.kind w) (first opens f) ≡ true → Leads (SpellWith Y f) w
  leads Y opens ok (any q j js) d w e = ([], w, (refl, e))
  leads Y opens ok nothing d w e = absurd cc
  leads Y opens ok (both f g) d w e =
      let z = and_parts (is_direct f) _ d in
      elim (member_cases T (T.kind w) (first opens f) (if skips f then first opens g else []) e) [
        | inl i ↦ (let s = leads Y opens ok f z.0 w i in let t = ready T Y ok g in (s.0 ++ t.0, (s.1, t.1), (w ∷ s.0, t.0, refl, s.2, t.2)))
        | inr i ↦ later (skips f) refl z.1 i (λ j k. leads Y opens ok g j w k)
      ]
    where
      later : (b : Bool) → skips f ≡ b → (if b then is_direct g else true) ≡ true → member (T.kind w) (if b then first opens g else []) ≡ true → (is_direct g ≡ true → member (T.kind w) (first opens g) ≡ true → Leads (SpellWith Y g) w) → Leads (SpellWith Y (both f g)) w
      later true q z i ih = let s = empty Y f q in let t = ih z i in (t.0, (s.0, t.1), ([], w ∷ t.0, refl, s.1, t.2))
      later false q z i ih = absurd cc
  leads Y opens ok (either f g) d w e =
      let z = and_parts (is_direct f) (is_direct g) d in
      elim (member_cases T (T.kind w) (first opens f) (first opens g) e) [
        | inl i ↦ (let s = leads Y opens ok f z.0 w i in (s.0, inl s.1, s.2))
        | inr i ↦ (let s = leads Y opens ok g z.1 w i in (s.0, inr s.1, s.2))
      ]
  leads Y opens ok (chain f) d w e = let s = leads Y opens ok f d w e in leads_chain (SpellWith Y f) w s.0 s.1 s.2
  leads Y opens ok (until f g) d w e =
      let z = and_parts (is_direct f) (is_direct g) d in
      elim (member_cases T (T.kind w) (first opens f) (first opens g) e) [
        | inl i ↦ (let s = leads Y opens ok f z.0 w i in let t = ready T Y ok g in (s.0 ++ t.0, (s.1 ∷ [], t.1), (w ∷ s.0, t.0, refl, s.2, t.2)))
        | inr i ↦ (let s = leads Y opens ok g z.1 w i in (s.0, ([], s.1), s.2))
      ]
  leads Y opens ok (made h f) d w e = let s = leads Y opens ok f d w e in (s.0, h s.1, (s.1, refl, s.2))
  leads Y opens ok (ahead q j js k f g) d w e = elim (member_cases T (T.kind w) (codes_of T j js) (first opens g) e) [
    | inl i ↦ (let t = ready T Y ok f in (T.example k ∷ t.0, inl (w, t.1), (T.example k, t.0, refl, i, T.example_is k, t.2)))
    | inr i ↦ (let s = leads Y opens ok g d w i in (s.0, inr s.1, s.2))
  ]
  leads Y opens ok (deep n) d w e = absurd cc
