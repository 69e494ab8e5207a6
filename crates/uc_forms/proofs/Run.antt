-- What reading gives is spelled by what it took, and where it stops the words before can be completed.
use Rattle.std.proofs.Common.{◌≡◌, ℕ, zero, suc, Bool, true, false, List, [], ◌∷◌, ◌++◌, length, Option, Some, None, Ok, Err, refl, sym, ap, subst, ◌∙◌, append_assoc, arith, inl, inr, ◌⊎◌}
use Rattle.std.specs.Prelude.{if◌then◌else◌, ◌==◌}
use Rattle.std.proofs.lemmas.List.{append-nil}
use Rattle.std.proofs.lemmas.Bool.{or_left, eq-eqb}
use Rattle.uc_forms.specs.declared.fault.Fault.{Fault}
use Rattle.uc_forms.specs.declared.fault.Fault.TheVariants.{Syntax}
use Rattle.uc_forms.specs.Alphabet.{Alphabet}
use Rattle.uc_forms.specs.Form.{Mark, Form, any, nothing, both, either, chain, until, made, ahead, deep, member, codes_of}
use Rattle.uc_forms.specs.Spelling.{Language, SpellChain, SpellUntil, SpellWith}
use Rattle.uc_forms.specs.Reading.{Outcome, turned, paired, is_at, is_at_two, read_any, read_word, read_chain, read_until, first, read_with, read}
use Rattle.uc_forms.proofs.Judge.{Judge, judge_bind, judge_turned, judge_paired, judge_if, Fits, Begun, GoesOn, goes_further}

module _ (T : Alphabet) where
  -- ---- a larger language spells more

  pub more_chain : {A B : Type 0} (L M : List T.Word → A ⊎ B → Type 0) → ((ws : List T.Word) (x : A ⊎ B) → L ws x → M ws x) → (ws : List T.Word) (xs : List A) (o : Option B) → SpellChain L ws xs o → SpellChain M ws xs o
  more_chain L M up ws [] None s = s
  more_chain L M up ws [] (Some b) s = up ws (inr b) s
  more_chain L M up ws (a ∷ xs) o s = (s.0, s.1, s.2, up s.0 (inl a) s.3, more_chain L M up s.1 xs o s.4)

  pub more_until : {A B : Type 0} (L M : List T.Word → A → Type 0) (K O : List T.Word → B → Type 0) → ((ws : List T.Word) (x : A) → L ws x → M ws x) → ((ws : List T.Word) (x : B) → K ws x → O ws x) → (ws : List T.Word) (xs : List A) (b : B) → SpellUntil L K ws xs b → SpellUntil M O ws xs b
  more_until L M K O up last ws [] b s = last ws b s
  more_until L M K O up last ws (a ∷ xs) b s = (s.0, s.1, s.2, up s.0 a s.3, more_until L M K O up last s.1 xs b s.4)

  pub more : {N : Type 0} {V : N → Type 0} (X Y : Language T N V) → ((n : N) (ws : List T.Word) (v : V n) → X n ws v → Y n ws v) → {A : Type 0} (f : Form T N V A) (ws : List T.Word) (a : A) → SpellWith X f ws a → SpellWith Y f ws a
  more X Y up (any q j js) ws a s = s
  more X Y up nothing ws a s = s
  more X Y up (both f g) ws a s = (s.0, s.1, s.2, more X Y up f s.0 a.0 s.3, more X Y up g s.1 a.1 s.4)
  more X Y up (either f g) ws (inl a) s = more X Y up f ws a s
  more X Y up (either f g) ws (inr b) s = more X Y up g ws b s
  more X Y up (chain f) ws a s = more_chain (SpellWith X f) (SpellWith Y f) (more X Y up f) ws a.0 a.1 s
  more X Y up (until f g) ws a s = more_until (SpellWith X f) (SpellWith Y f) (SpellWith X g) (SpellWith Y g) (more X Y up f) (more X Y up g) ws a.0 a.1 s
  more X Y up (made h f) ws b s = (s.0, s.1, more X Y up f ws s.0 s.2)
  more X Y up (ahead q j js k f g) ws (inl a) s = (s.0, s.1, s.2, s.3, s.4, more X Y up f s.1 a.1 s.5)
  more X Y up (ahead q j js k f g) ws (inr b) s = more X Y up g ws b s
  more X Y up (deep n) ws v s = up n ws v s

  -- ---- each form has a spelling

  abbrev pub Ready : {A : Type 0} → (List T.Word → A → Type 0) → Type 0
  Ready {A} L = (ws : List T.Word) × (a : A) × L ws a

  pub own_code : (j : T.Kind) (js : List T.Kind) → member (T.code j) (codes_of T j js) ≡ true
  own_code j [] = or_left (T.code j == T.code j) false (eq-eqb (T.code j) (T.code j) refl)
  own_code j (i ∷ is) = or_left (T.code j == T.code j) _ (eq-eqb (T.code j) (T.code j) refl)

  pub example_in : (j : T.Kind) (js : List T.Kind) → member (T.kind (T.example j)) (codes_of T j js) ≡ true
  example_in j js = subst (λ (c : ℕ). member c (codes_of T j js) ≡ true) (sym (T.example_is j)) (own_code j js)

  pub ready : {N : Type 0} {V : N → Type 0} (Y : Language T N V) → ((n : N) → Ready (Y n)) → {A : Type 0} (f : Form T N V A) → Ready (SpellWith Y f)
  ready Y deeper (any q j js) = (T.example j ∷ [], T.example j, (refl, example_in j js))
  ready Y deeper nothing = ([], tt, refl)
  ready Y deeper (both f g) = let s = ready Y deeper f in let t = ready Y deeper g in (s.0 ++ t.0, (s.1, t.1), (s.0, t.0, refl, s.2, t.2))
  ready Y deeper (either f g) = let s = ready Y deeper f in (s.0, inl s.1, s.2)
  ready Y deeper (chain f) = ([], ([], None), refl)
  ready Y deeper (until f g) = let t = ready Y deeper g in (t.0, ([], t.1), t.2)
  ready Y deeper (made h f) = let s = ready Y deeper f in (s.0, h s.1, (s.1, refl, s.2))
  ready Y deeper (ahead q j js k f g) = let s = ready Y deeper g in (s.0, inr s.1, s.2)
  ready Y deeper (deep n) = deeper n

  -- ---- one run

  pub same_code : (c d : ℕ) → member c (d ∷ []) ≡ true → c ≡ d
  same_code c d e = grind (arith, e)

  abbrev pub Runs : {A : Type 0} → (List T.Word → A → Type 0) → (List T.Word → A → Type 0) → (List T.Word → Outcome T.Word A) → Type 0
  Runs {A} L M read = (ws : List T.Word) → Judge (Fits L ws) (Begun M ws) (read ws)

  -- a front is put before what a later part took
  pub join : (ws front rest back end : List T.Word) → ws ≡ front ++ rest → rest ≡ back ++ end → ws ≡ (front ++ back) ++ end
  join ws front rest back end p q = p ∙ ap (λ (t : List T.Word). front ++ t) q ∙ sym (append_assoc front back end)

  abbrev OneOf : T.Kind → List T.Word → T.Word → Type 0
  OneOf k ws w = (ws ≡ w ∷ []) × (T.kind w ≡ T.code k)

  run_word : (k : T.Kind) → Runs (OneOf k) (OneOf k) (read_word T k)
  run_word k [] = ([], T.example k ∷ [], T.example k, refl, (refl, T.example_is k), tt)
  run_word k (w ∷ ws) = run_test (member (T.kind w) (T.code k ∷ [])) refl
    where
      run_test : (b : Bool) → b ≡ member (T.kind w) (T.code k ∷ []) → Judge (Fits (OneOf k) (w ∷ ws)) (Begun (OneOf k) (w ∷ ws)) (if b then Ok (w, ws) else Err (Syntax, w ∷ ws))
      run_test true e = (w ∷ [], refl, (refl, same_code (T.kind w) (T.code k) (sym e)))
      run_test false e = ([], T.example k ∷ [], T.example k, refl, (refl, T.example_is k), tt)

  abbrev pub ChainOf : {A B : Type 0} → (List T.Word → A ⊎ B → Type 0) → List T.Word → List A × Option B → Type 0
  ChainOf L ws x = SpellChain L ws x.0 x.1

  abbrev pub UntilOf : {A B : Type 0} → (List T.Word → A → Type 0) → (List T.Word → B → Type 0) → List T.Word → List A × B → Type 0
  UntilOf L M ws x = SpellUntil L M ws x.0 x.1

  one_item : {A B : Type 0} (M : List T.Word → A ⊎ B → Type 0) (ws front more end : List T.Word) (x : A ⊎ B) (d : Fault) → ws ≡ front ++ end → M (front ++ more) x → GoesOn d end more → Begun (ChainOf M) ws d end
  one_item M ws front more end (inl a) d e s g = (front, more, (a ∷ [], None), e, (front ++ more, [], sym (append-nil (front ++ more)), s, refl), g)
  one_item M ws front more end (inr b) d e s g = (front, more, ([], Some b), e, s, g)

  abbrev pub StepOf : {A B : Type 0} → (List T.Word → Outcome T.Word (List A × Option B)) → A ⊎ B → List T.Word → Outcome T.Word (List A × Option B)
  StepOf more x rest = elim x [
    | inl a ↦ turned (λ y. (a ∷ y.0, y.1)) (more rest)
    | inr b ↦ Ok (([], Some b), rest)
  ]

  after_item : {A B : Type 0} (L M : List T.Word → A ⊎ B → Type 0) (up : (ws : List T.Word) (x : A ⊎ B) → L ws x → M ws x) (ws : List T.Word) (more : List T.Word → Outcome T.Word (List A × Option B)) → Runs (ChainOf L) (ChainOf M) more
      → (x : A ⊎ B) (rest : List T.Word) → Fits L ws x rest → Judge (Fits (ChainOf L) ws) (Begun (ChainOf M) ws) (StepOf more x rest)
  after_item L M up ws more ih (inl a) rest p = judge_turned (Fits (ChainOf L) rest) (Begun (ChainOf M) rest) (Fits (ChainOf L) ws) (Begun (ChainOf M) ws) (λ y. (a ∷ y.0, y.1)) (more rest) (ih rest)
      (λ y end q. (p.0 ++ q.0, join ws p.0 rest q.0 end p.1 q.1, (p.0, q.0, refl, p.2, q.2)))
      (λ e end q. (p.0 ++ q.0, q.1, (a ∷ q.2.0, q.2.1), join ws p.0 rest q.0 end p.1 q.3, (p.0, q.0 ++ q.1, append_assoc p.0 q.0 q.1, up p.0 (inl a) p.2, q.4), q.5))
  after_item L M up ws more ih (inr b) rest p = (p.0, p.1, p.2)

  run_chain : {A B : Type 0} (L M : List T.Word → A ⊎ B → Type 0) (up : (ws : List T.Word) (x : A ⊎ B) → L ws x → M ws x) (codes : List ℕ) (item : List T.Word → Outcome T.Word (A ⊎ B)) → Runs L M item
      → (n : ℕ) → Runs (ChainOf L) (ChainOf M) (read_chain T codes item n)
  unfolding read_chain
  run_chain L M up codes item h zero ws = ([], refl, refl)
  run_chain L M up codes item h (suc n) ws = judge_if (Fits (ChainOf L) ws) (Begun (ChainOf M) ws) (is_at T codes ws) _ _
      (judge_bind (Fits L ws) (Begun M ws) (Fits (ChainOf L) ws) (Begun (ChainOf M) ws) (item ws) (λ x. StepOf (read_chain T codes item n) x.0 x.1) (h ws) (after_item L M up ws (read_chain T codes item n) (run_chain L M up codes item h n))
      (λ e end q. one_item M ws q.0 q.1 end q.2 e q.3 q.4 q.5))
      ([], refl, refl)

  run_until : {A B : Type 0} (L M : List T.Word → A → Type 0) (K O : List T.Word → B → Type 0) (up : (ws : List T.Word) (x : A) → L ws x → M ws x) → Ready O → (codes : List ℕ) (item : List T.Word → Outcome T.Word A) (ender : List T.Word → Outcome T.Word B)
      → Runs L M item → Runs K O ender → (n : ℕ) → Runs (UntilOf L K) (UntilOf M O) (read_until T codes item ender n)
  unfolding read_until
  run_until L M K O up ok codes item ender h g zero ws = judge_turned (Fits K ws) (Begun O ws) (Fits (UntilOf L K) ws) (Begun (UntilOf M O) ws) (λ b. ([], b)) (ender ws) (g ws)
      (λ b end q. (q.0, q.1, q.2)) (λ e end q. (q.0, q.1, ([], q.2), q.3, q.4, q.5))
  run_until L M K O up ok codes item ender h g (suc n) ws = judge_if (Fits (UntilOf L K) ws) (Begun (UntilOf M O) ws) (is_at T codes ws) _ _
      (judge_turned (Fits K ws) (Begun O ws) (Fits (UntilOf L K) ws) (Begun (UntilOf M O) ws) (λ b. ([], b)) (ender ws) (g ws)
      (λ b end q. (q.0, q.1, q.2)) (λ e end q. (q.0, q.1, ([], q.2), q.3, q.4, q.5)))
      (judge_bind (Fits L ws) (Begun M ws) (Fits (UntilOf L K) ws) (Begun (UntilOf M O) ws) (item ws) (λ x. turned (λ y. (x.0 ∷ y.0, y.1)) (read_until T codes item ender n x.1)) (h ws)
      (λ a rest p. judge_turned (Fits (UntilOf L K) rest) (Begun (UntilOf M O) rest) (Fits (UntilOf L K) ws) (Begun (UntilOf M O) ws) (λ y. (a ∷ y.0, y.1)) (read_until T codes item ender n rest) (run_until L M K O up ok codes item ender h g n rest)
      (λ y end q. (p.0 ++ q.0, join ws p.0 rest q.0 end p.1 q.1, (p.0, q.0, refl, p.2, q.2)))
      (λ e end q. (p.0 ++ q.0, q.1, (a ∷ q.2.0, q.2.1), join ws p.0 rest q.0 end p.1 q.3, (p.0, q.0 ++ q.1, append_assoc p.0 q.0 q.1, up p.0 a p.2, q.4), q.5)))
      (λ e end q. (q.0, q.1 ++ ok.0, (q.2 ∷ [], ok.1), q.3, (q.0 ++ q.1, ok.0, sym (append_assoc q.0 q.1 ok.0), q.4, ok.2), goes_further e end q.1 ok.0 q.5)))

  -- one after the other
  abbrev BothOf : {A B : Type 0} → (List T.Word → A → Type 0) → (List T.Word → B → Type 0) → List T.Word → A × B → Type 0
  BothOf L K ws x = (front back : List T.Word) × (ws ≡ front ++ back) × L front x.0 × K back x.1

  run_both : {A B : Type 0} (L M : List T.Word → A → Type 0) (K O : List T.Word → B → Type 0) (up : (ws : List T.Word) (x : A) → L ws x → M ws x) → Ready O → (f : List T.Word → Outcome T.Word A) (g : List T.Word → Outcome T.Word B) → Runs L M f → Runs K O g
      → Runs (BothOf L K) (BothOf M O) (λ ws. paired (f ws) g)
  run_both L M K O up ok f g h i ws = judge_paired (Fits L ws) (Begun M ws) (Fits (BothOf L K) ws) (Begun (BothOf M O) ws) (f ws) g (h ws)
      (λ a rest p. judge_turned (Fits K rest) (Begun O rest) (Fits (BothOf L K) ws) (Begun (BothOf M O) ws) (λ b. (a, b)) (g rest) (i rest)
      (λ b end q. (p.0 ++ q.0, join ws p.0 rest q.0 end p.1 q.1, (p.0, q.0, refl, p.2, q.2)))
      (λ e end q. (p.0 ++ q.0, q.1, (a, q.2), join ws p.0 rest q.0 end p.1 q.3, (p.0, q.0 ++ q.1, append_assoc p.0 q.0 q.1, up p.0 a p.2, q.4), q.5)))
      (λ e end q. (q.0, q.1 ++ ok.0, (q.2, ok.1), q.3, (q.0 ++ q.1, ok.0, sym (append_assoc q.0 q.1 ok.0), q.4, ok.2), goes_further e end q.1 ok.0 q.5))

  abbrev AnyOf : T.Kind → List T.Kind → List T.Word → T.Word → Type 0
  AnyOf j js ws w = (ws ≡ w ∷ []) × (member (T.kind w) (codes_of T j js) ≡ true)

  run_any : (j : T.Kind) (js : List T.Kind) → Runs (AnyOf j js) (AnyOf j js) (read_any T j js)
  run_any j js [] = ([], T.example j ∷ [], T.example j, refl, (refl, example_in j js), tt)
  run_any j js (w ∷ ws) = run_test (member (T.kind w) (codes_of T j js)) refl
    where
      run_test : (b : Bool) → b ≡ member (T.kind w) (codes_of T j js) → Judge (Fits (AnyOf j js) (w ∷ ws)) (Begun (AnyOf j js) (w ∷ ws)) (if b then Ok (w, ws) else Err (Syntax, w ∷ ws))
      run_test true e = (w ∷ [], refl, (refl, sym e))
      run_test false e = ([], T.example j ∷ [], T.example j, refl, (refl, example_in j js), tt)

  abbrev AfterOf : {A : Type 0} → T.Kind → (List T.Word → A → Type 0) → List T.Word → A → Type 0
  AfterOf k L ws a = (w : T.Word) × (rest : List T.Word) × (ws ≡ w ∷ rest) × (T.kind w ≡ T.code k) × L rest a

  after_both : {A : Type 0} (k : T.Kind) (L : List T.Word → A → Type 0) (ws : List T.Word) (x : T.Word × A) → BothOf (OneOf k) L ws x → AfterOf k L ws x.1
  after_both k L ws x s = (x.0, s.1, s.2 ∙ ap (λ (us : List T.Word). us ++ s.1) s.3.0, s.3.1, s.4)

  run_after : {A : Type 0} (k : T.Kind) (L M : List T.Word → A → Type 0) (f : List T.Word → Outcome T.Word A) → Ready M → Runs (OneOf k) (OneOf k) (read_word T k) → Runs L M f → Runs (AfterOf k L) (AfterOf k M) (λ ws. turned (λ x. x.1) (paired (read_word T k ws) f))
  run_after k L M f ok one h ws = judge_turned (Fits (BothOf (OneOf k) L) ws) (Begun (BothOf (OneOf k) M) ws) (Fits (AfterOf k L) ws) (Begun (AfterOf k M) ws) (λ x. x.1) (paired (read_word T k ws) f)
      (run_both (OneOf k) (OneOf k) L M (λ us x s. s) ok (read_word T k) f one h ws)
      (λ x rest p. (p.0, p.1, after_both k L p.0 x p.2))
      (λ e rest p. (p.0, p.1, p.2.1, p.3, after_both k M (p.0 ++ p.1) p.2 p.4, p.5))

  led : {N : Type 0} {V : N → Type 0} {A B : Type 0} (X : Language T N V) (f : Form T N V A) (q : Mark) (j : T.Kind) (js : List T.Kind) (k : T.Kind) (g : Form T N V B) (ws : List T.Word) (x : T.Word × A) → BothOf (AnyOf j js) (AfterOf k (SpellWith X f)) ws x → SpellWith X (ahead q j js k f g) ws (inl x)
  led X f q j js k g ws x s = (s.4.0, s.4.1, s.2 ∙ ap (λ (us : List T.Word). us ++ s.1) s.3.0 ∙ ap (λ (us : List T.Word). x.0 ∷ us) s.4.2, s.3.1, s.4.3, s.4.4)

  pub run : {N : Type 0} {V : N → Type 0} (X Y : Language T N V) (up : (n : N) (ws : List T.Word) (v : V n) → X n ws v → Y n ws v) (ok : (n : N) → Ready (Y n))
      (opens : N → List ℕ) (deeper : (n : N) → List T.Word → Outcome T.Word (V n)) → ((n : N) → Runs (X n) (Y n) (deeper n))
      → {A : Type 0} (f : Form T N V A) → Runs (SpellWith X f) (SpellWith Y f) (read_with opens deeper f)
  run X Y up ok opens deeper h (any q j js) ws = run_any j js ws
  run X Y up ok opens deeper h nothing ws = ([], refl, refl)
  run X Y up ok opens deeper h (both f g) ws = judge_paired (Fits (SpellWith X f) ws) (Begun (SpellWith Y f) ws) (Fits (SpellWith X (both f g)) ws) (Begun (SpellWith Y (both f g)) ws) (read_with opens deeper f ws) (read_with opens deeper g) (run X Y up ok opens deeper h f ws)
      (λ a rest p. judge_turned (Fits (SpellWith X g) rest) (Begun (SpellWith Y g) rest) (Fits (SpellWith X (both f g)) ws) (Begun (SpellWith Y (both f g)) ws) (λ b. (a, b)) (read_with opens deeper g rest) (run X Y up ok opens deeper h g rest)
      (λ b end q. (p.0 ++ q.0, join ws p.0 rest q.0 end p.1 q.1, (p.0, q.0, refl, p.2, q.2)))
      (λ e end q. (p.0 ++ q.0, q.1, (a, q.2), join ws p.0 rest q.0 end p.1 q.3, (p.0, q.0 ++ q.1, append_assoc p.0 q.0 q.1, more X Y up f p.0 a p.2, q.4), q.5)))
      (λ e end q. let t = ready Y ok g in (q.0, q.1 ++ t.0, (q.2, t.1), q.3, (q.0 ++ q.1, t.0, sym (append_assoc q.0 q.1 t.0), q.4, t.2), goes_further e end q.1 t.0 q.5))
  run X Y up ok opens deeper h (either f g) ws = judge_if (Fits (SpellWith X (either f g)) ws) (Begun (SpellWith Y (either f g)) ws) (is_at T (first opens f) ws) _ _
      (judge_turned (Fits (SpellWith X f) ws) (Begun (SpellWith Y f) ws) (Fits (SpellWith X (either f g)) ws) (Begun (SpellWith Y (either f g)) ws) inl (read_with opens deeper f ws) (run X Y up ok opens deeper h f ws)
      (λ a end q. (q.0, q.1, q.2)) (λ e end q. (q.0, q.1, inl q.2, q.3, q.4, q.5)))
      (judge_turned (Fits (SpellWith X g) ws) (Begun (SpellWith Y g) ws) (Fits (SpellWith X (either f g)) ws) (Begun (SpellWith Y (either f g)) ws) inr (read_with opens deeper g ws) (run X Y up ok opens deeper h g ws)
      (λ a end q. (q.0, q.1, q.2)) (λ e end q. (q.0, q.1, inr q.2, q.3, q.4, q.5)))
  run X Y up ok opens deeper h (chain f) ws = run_chain (SpellWith X f) (SpellWith Y f) (more X Y up f) (first opens f) (read_with opens deeper f) (run X Y up ok opens deeper h f) (length ws) ws
  run X Y up ok opens deeper h (until f g) ws = run_until (SpellWith X f) (SpellWith Y f) (SpellWith X g) (SpellWith Y g) (more X Y up f) (ready Y ok g) (first opens g) (read_with opens deeper f) (read_with opens deeper g) (run X Y up ok opens deeper h f) (run X Y up ok opens deeper h g) (suc (length ws)) ws
  run X Y up ok opens deeper h (made m f) ws = judge_turned (Fits (SpellWith X f) ws) (Begun (SpellWith Y f) ws) (Fits (SpellWith X (made m f)) ws) (Begun (SpellWith Y (made m f)) ws) m (read_with opens deeper f ws) (run X Y up ok opens deeper h f ws)
      (λ a end q. (q.0, q.1, (a, refl, q.2))) (λ e end q. (q.0, q.1, m q.2, q.3, (q.2, refl, q.4), q.5))
  run X Y up ok opens deeper h (ahead {A = A} {B = B} mark j js k f g) ws =
      let t = ready Y ok f in
      let rest_ready : Ready (AfterOf k (SpellWith Y f)) = (T.example k ∷ t.0, t.1, (T.example k, t.0, refl, T.example_is k, t.2)) in
      let inner = run_after k (SpellWith X f) (SpellWith Y f) (read_with opens deeper f) t (run_word k) (run X Y up ok opens deeper h f) in
      judge_if (Fits (SpellWith X (ahead mark j js k f g)) ws) (Begun (SpellWith Y (ahead mark j js k f g)) ws) (is_at_two T j js k ws) _ _
      (judge_turned (Fits (BothOf (AnyOf j js) (AfterOf k (SpellWith X f))) ws) (Begun (BothOf (AnyOf j js) (AfterOf k (SpellWith Y f))) ws) (Fits (SpellWith X (ahead mark j js k f g)) ws) (Begun (SpellWith Y (ahead mark j js k f g)) ws) inl (paired (read_any T j js ws) (λ us. turned (λ x. x.1) (paired (read_word T k us) (read_with opens deeper f))))
      (run_both (AnyOf j js) (AnyOf j js) (AfterOf k (SpellWith X f)) (AfterOf k (SpellWith Y f)) (λ us x s. s) rest_ready (read_any T j js) (λ us. turned (λ x. x.1) (paired (read_word T k us) (read_with opens deeper f))) (run_any j js) inner ws)
      (λ x rest p. (p.0, p.1, led X f mark j js k g p.0 x p.2)) (λ e rest p. (p.0, p.1, inl p.2, p.3, led Y f mark j js k g (p.0 ++ p.1) p.2 p.4, p.5)))
      (judge_turned (Fits (SpellWith X g) ws) (Begun (SpellWith Y g) ws) (Fits (SpellWith X (ahead mark j js k f g)) ws) (Begun (SpellWith Y (ahead mark j js k f g)) ws) inr (read_with opens deeper g ws) (run X Y up ok opens deeper h g ws)
      (λ a end q. (q.0, q.1, q.2)) (λ e end q. (q.0, q.1, inr q.2, q.3, q.4, q.5)))
  run X Y up ok opens deeper h (deep n) ws = h n ws
