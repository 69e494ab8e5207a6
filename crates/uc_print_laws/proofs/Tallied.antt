-- Words that declare so many names, none of which starts the count again.
use Rattle.std.specs.Prelude.{nat_lt, if◌then◌else◌}
use Rattle.std.proofs.Common.{◌≡◌, ℕ, suc, ◌+◌, ◌≤◌, ◌<◌, Bool, true, false, List, [], ◌∷◌, ◌++◌, map, Option, None, Some, refl, sym, ap, ◌∙◌, subst, arith}
use Rattle.std.proofs.lemmas.Bool.{lt-ltb, ltb-true}
use Rattle.uc_forms.specs.Form.{Mark, quiet, declares, restarts}
use Rattle.uc_forms.specs.Spelling.{Stand, one_deeper, past_limit}

abbrev pub mark_is : Mark → ℕ → Type 0
mark_is quiet n = n ≡ 0
mark_is declares n = n ≡ 1
mark_is restarts n = ⊥

-- so many names are declared, and the count starts nowhere again
abbrev pub Tallied : {W : Type 0} → ℕ → List (Stand W) → Type 0
Tallied n [] = n ≡ 0
Tallied n (x ∷ xs) = (k : ℕ) × (m : ℕ) × mark_is x.mark k × Tallied m xs × (n ≡ k + m)

pub t_both : {W : Type 0} (n k : ℕ) (xs ys : List (Stand W)) → Tallied n xs → Tallied k ys → Tallied (n + k) (xs ++ ys)
t_both n k [] ys a b = subst (λ (z : ℕ). Tallied z ys) (let e : k ≡ n + k = omega arith in e) b
t_both n k (x ∷ xs) ys a b = (a.0, a.1 + k, a.2, t_both a.1 k xs ys a.3 b, (let e = a.4 in omega arith))

pub t_is : {W : Type 0} (xs : List (Stand W)) (n k : ℕ) → n ≡ k → Tallied n xs → Tallied k xs
t_is xs n k e a = subst (λ (z : ℕ). Tallied z xs) e a

pub t_deeper : {W : Type 0} (n : ℕ) (xs : List (Stand W)) → Tallied n xs → Tallied n (map one_deeper xs)
t_deeper n [] a = a
t_deeper n (x ∷ xs) a = (a.0, a.1, a.2, t_deeper a.1 xs a.3, a.4)

pub t_one : {W : Type 0} (x : Stand W) (k : ℕ) → mark_is x.mark k → Tallied k (x ∷ [])
t_one x k a = (k, 0, a, refl, (omega arith))

-- ---- the limit

abbrev Rest : Type 0 → Type 0
Rest W = ℕ → Option W

-- what comes of one mark
abbrev marked : {W : Type 0} → ℕ → ℕ → Mark → W → Rest W → Option W
marked limit c quiet w rest = rest c
marked limit c declares w rest = if nat_lt c limit then rest (suc c) else Some w
marked limit c restarts w rest = rest 0

mark_few : {W : Type 0} (limit c k : ℕ) (q : Mark) (w : W) (rest : Rest W) → mark_is q k → c + k ≤ limit → marked limit c q w rest ≡ rest (c + k)
mark_few limit c k quiet w rest a h = ap rest (let i = a in omega arith)
mark_few limit c k declares w rest a h =
    let e : nat_lt c limit ≡ true = lt-ltb c limit (let i = a in omega arith) in
    rw e (ap rest (let i = a in omega arith))
mark_few limit c k restarts w rest a h = absurd a

mark_within : {W : Type 0} (limit c k : ℕ) (q : Mark) (w : W) (rest : Rest W) → mark_is q k → c ≤ limit → marked limit c q w rest ≡ None → (c + k ≤ limit) × (rest (c + k) ≡ None)
mark_within limit c k quiet w rest a h e = ((let i = a in omega arith), ap rest (let i : c + k ≡ c = (let j = a in omega arith) in i) ∙ e)
mark_within {W} limit c k declares w rest a h e = by (nat_lt c limit) refl e
  where
    by : (b : Bool) → nat_lt c limit ≡ b → (if b then rest (suc c) else Some w) ≡ None → (c + k ≤ limit) × (rest (c + k) ≡ None)
    by true i e = ((let l : c < limit = ltb-true c limit i in let j = a in omega arith), ap rest (let j : c + k ≡ suc c = (let z = a in omega arith) in j) ∙ e)
    by false i e = absurd (let z : Some w ≡ None = e in cc)
mark_within limit c k restarts w rest a h e = absurd a

abbrev placed : {W : Type 0} → Mark → W → ℕ → Stand W
placed q w d = record { mark = q; name = w; depth = d }

past_step : {W : Type 0} (limit c : ℕ) (q : Mark) (w : W) (d : ℕ) (zs : List (Stand W)) → past_limit limit c (placed q w d ∷ zs) ≡ marked limit c q w (λ z. past_limit limit z zs)
past_step limit c quiet w d zs = refl
past_step limit c declares w d zs = refl
past_step limit c restarts w d zs = refl

pub past_few : {W : Type 0} (limit c n : ℕ) (xs ys : List (Stand W)) → Tallied n xs → c + n ≤ limit → past_limit limit c (xs ++ ys) ≡ past_limit limit (c + n) ys
past_few limit c n [] ys a h = ap (λ (z : ℕ). past_limit limit z ys) (let i = a in omega arith)
past_few limit c n (x ∷ xs) ys a h =
    let e : n ≡ a.0 + a.1 = a.4 in
    past_step limit c x.mark x.name x.depth (xs ++ ys)
    ∙ mark_few limit c a.0 x.mark x.name (λ z. past_limit limit z (xs ++ ys)) a.2 (omega arith)
    ∙ past_few limit (c + a.0) a.1 xs ys a.3 (omega arith)
    ∙ ap (λ (z : ℕ). past_limit limit z ys) (omega arith)

pub past_within : {W : Type 0} (limit c n : ℕ) (xs ys : List (Stand W)) → Tallied n xs → c ≤ limit → past_limit limit c (xs ++ ys) ≡ None → (c + n ≤ limit) × (past_limit limit (c + n) ys ≡ None)
past_within limit c n [] ys a h e = ((let i = a in omega arith), ap (λ (z : ℕ). past_limit limit z ys) (let i : c + n ≡ c = (let j = a in omega arith) in i) ∙ e)
past_within limit c n (x ∷ xs) ys a h e =
    let i : n ≡ a.0 + a.1 = a.4 in
    let first = mark_within limit c a.0 x.mark x.name (λ z. past_limit limit z (xs ++ ys)) a.2 h (sym (past_step limit c x.mark x.name x.depth (xs ++ ys)) ∙ e) in
    let more = past_within limit (c + a.0) a.1 xs ys a.3 first.0 first.1 in
    ((let j = more.0 in omega arith), ap (λ (z : ℕ). past_limit limit z ys) (let j : c + n ≡ c + a.0 + a.1 = omega arith in j) ∙ more.1)

-- where the count starts again
pub past_anew : {W : Type 0} (limit c : ℕ) (x : Stand W) (zs : List (Stand W)) → x.mark ≡ restarts → past_limit limit c (x ∷ zs) ≡ past_limit limit 0 zs
past_anew limit c x zs e = past_step limit c x.mark x.name x.depth zs ∙ ap (λ (q : Mark). marked limit c q x.name (λ z. past_limit limit z zs)) e
