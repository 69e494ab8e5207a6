-- The commands that a `check` follows, and their lines.
use Rattle.std.proofs.Common.{◌≡◌, ℕ, zero, suc, ◌+◌, ◌<◌, ◌≤◌, Bool, true, false, ◌||◌, cond, List, [], ◌∷◌, ◌++◌, length, take, drop, get_or, refl, sym, ap, subst, ◌∙◌, arith, append-nil, append_assoc, length-append, Some, ◌⊎◌, inl, inr}
use Rattle.std.specs.Prelude.{if◌then◌else◌, slice_get, unwrap_or}
use Rattle.std.specs.List.{list_any}
use Rattle.std.proofs.lemmas.Bool.{cases_lt}
use Rattle.std.proofs.lemmas.List.{drop_all}
use Rattle.uc_syntax.specs.declared.declaration.Command.{Command}
use Rattle.uc_meaning.specs.Lookup.{System}
use Rattle.uc_meaning.specs.Lines.{is_check, command_lines, lines_checked}
use Rattle.uc_meaning.proofs.Lists.{drop_turn}
use Rattle.uc_judge.specs.Judged.{followed, lines_in, AreCounts, count_at}

or_parts : (a b : Bool) → (a || b) ≡ false → (a ≡ false) × (b ≡ false)
or_parts true b h = cc
or_parts false b h = (refl, h)

or_right : (a b : Bool) → b ≡ true → (a || b) ≡ true
or_right true b h = refl
or_right false b h = h

-- ---- the commands that are followed

none_followed : (cs : List Command) → list_any is_check cs ≡ false → followed cs ≡ 0
unfolding followed
none_followed [] h = refl
none_followed (c ∷ cs) h = ap (λ b. if b then suc (followed cs) else 0) (or_parts (is_check c) (list_any is_check cs) h).1

pub followed_within : (cs : List Command) → followed cs ≤ length cs
unfolding followed
followed_within [] = omega arith
followed_within (c ∷ cs) = by_test (list_any is_check cs) (followed cs) (length cs) (followed_within cs)
  where
    by_test : (b : Bool) (m n : ℕ) → m ≤ n → (if b then suc m else 0) ≤ suc n
    by_test true m n h = omega (arith, h)
    by_test false m n h = omega arith

any_there : (cs : List Command) (k : ℕ) (c : Command) → k < length cs → c ≡ get_or cs k c → is_check c ≡ true → list_any is_check cs ≡ true
any_there [] k c within at is = absurd (omega (arith, within))
any_there (x ∷ cs) zero c within at is = first (is_check x) (ap is_check (sym at) ∙ is)
  where
    first : (a : Bool) → a ≡ true → (a || list_any is_check cs) ≡ true
    first true e = refl
    first false e = cc
any_there (x ∷ cs) (suc k) c within at is = or_right (is_check x) (list_any is_check cs) (any_there cs k c (omega (arith, within)) at is)

-- all commands in front of a `check` are followed
pub check_within : (cs : List Command) (k : ℕ) (c : Command) → k < length cs → c ≡ get_or cs k c → is_check c ≡ true → k ≤ followed cs
unfolding followed
check_within [] k c within at is = absurd (omega (arith, within))
check_within (x ∷ cs) zero c within at is = omega arith
check_within (x ∷ cs) (suc k) c within at is =
    by_test (list_any is_check cs) k (followed cs) (any_there cs k c (omega (arith, within)) at is) (check_within cs k c (omega (arith, within)) at is)
  where
    by_test : (b : Bool) (j m : ℕ) → b ≡ true → j ≤ m → suc j ≤ (if b then suc m else 0)
    by_test true j m e h = omega (arith, h)
    by_test false j m e h = cc

-- A walk over commands, which met the last `check` before turn k at a number: the rest decides.
abbrev pub IsLastBefore : List Command → ℕ → ℕ → Type 0
IsLastBefore cs k count = (if list_any is_check (drop k cs) then k + followed (drop k cs) else count) ≡ followed cs

pub followed_begin : (cs : List Command) → IsLastBefore cs 0 0
followed_begin cs = by_test (list_any is_check cs) (followed cs) (none_followed cs)
  where
    by_test : (b : Bool) (m : ℕ) → (b ≡ false → m ≡ 0) → (if b then 0 + m else 0) ≡ m
    by_test true m h = omega arith
    by_test false m h = sym (h refl)

pub followed_more : (cs : List Command) (k : ℕ) (c : Command) (count next : ℕ) → IsLastBefore cs k count → k < length cs → c ≡ get_or cs k c → next ≡ cond (is_check c) k count → IsLastBefore cs (k + 1) next
unfolding followed
followed_more cs k c count next before within at is =
    ap (λ n. if list_any is_check (drop (k + 1) cs) then (k + 1) + followed (drop (k + 1) cs) else n) is
    ∙ one_on (is_check c) (list_any is_check (drop (k + 1) cs)) (followed (drop (k + 1) cs)) (followed cs)
    (sym (ap (λ rest. if list_any is_check rest then k + followed rest else count) (drop_turn cs k c within at)) ∙ before)
  where
    one_on : (a b : Bool) (m whole : ℕ) → (if a || b then k + (if b then suc m else 0) else count) ≡ whole → (if b then (k + 1) + m else cond a k count) ≡ whole
    one_on true true m whole h = omega (arith, h)
    one_on false true m whole h = omega (arith, h)
    one_on true false m whole h = omega (arith, h)
    one_on false false m whole h = h

pub followed_end : (cs : List Command) (k count : ℕ) → length cs ≤ k → IsLastBefore cs k count → count ≡ followed cs
followed_end cs k count past before = sym (ap (λ rest. if list_any is_check rest then k + followed rest else count) (drop_all k cs past)) ∙ before

-- ---- their lines

none_checked : (system : System) (n : ℕ) (cs : List Command) → list_any is_check cs ≡ false → lines_checked system n cs ≡ []
unfolding lines_checked
none_checked system n [] h = refl
none_checked system n (c ∷ cs) h =
    let rest = (or_parts (is_check c) (list_any is_check cs) h).1 in
    ap (λ b. (if b then command_lines system n c else []) ++ lines_checked system (n + 1) cs) rest ∙ none_checked system (n + 1) cs rest

-- the lines that a design is asked for are those of the commands that are followed
pub lines_are_followed : (system : System) (n : ℕ) (cs : List Command) → lines_checked system n cs ≡ lines_in system n (take (followed cs) cs)
unfolding lines_checked lines_in followed
lines_are_followed system n [] = refl
lines_are_followed system n (c ∷ cs) = by_test (list_any is_check cs) refl (lines_are_followed system (n + 1) cs)
  where
    by_test : (b : Bool) → list_any is_check cs ≡ b → lines_checked system (n + 1) cs ≡ lines_in system (n + 1) (take (followed cs) cs)
        → (if b then command_lines system n c else []) ++ lines_checked system (n + 1) cs ≡ lines_in system n (take (if b then suc (followed cs) else 0) (c ∷ cs))
    by_test true e rest = ap (λ ls. command_lines system n c ++ ls) rest
    by_test false e rest = none_checked system (n + 1) cs e

pub lines_none : (system : System) (n : ℕ) → lines_in system n [] ≡ []
unfolding lines_in
lines_none system n = refl

one_more : (system : System) (n : ℕ) (cs : List Command) (k : ℕ) (c : Command) → k < length cs → c ≡ get_or cs k c → lines_in system n (take (suc k) cs) ≡ lines_in system n (take k cs) ++ command_lines system (n + k) c
unfolding lines_in
one_more system n [] k c within at = absurd (omega (arith, within))
one_more system n (x ∷ cs) zero c within at =
    let same : n ≡ n + 0 = omega arith in
    append-nil (command_lines system n x) ∙ ap (λ y. command_lines system n y) (sym at) ∙ ap (λ m. command_lines system m c) same
one_more system n (x ∷ cs) (suc k) c within at =
    let same : (n + 1) + k ≡ n + suc k = omega arith in
    ap (λ ls. command_lines system n x ++ ls) (one_more system (n + 1) cs k c (omega (arith, within)) at)
    ∙ sym (append_assoc (command_lines system n x) (lines_in system (n + 1) (take k cs)) (command_lines system ((n + 1) + k) c))
    ∙ ap (λ m. (command_lines system n x ++ lines_in system (n + 1) (take k cs)) ++ command_lines system m c) same

pub lines_more : (system : System) (cs : List Command) (k : ℕ) (c : Command) → k < length cs → c ≡ get_or cs k c → lines_in system 0 (take (k + 1) cs) ≡ lines_in system 0 (take k cs) ++ command_lines system k c
lines_more system cs k c within at =
    let one : k + 1 ≡ suc k = omega arith in
    let same : 0 + k ≡ k = omega arith in
    ap (λ m. lines_in system 0 (take m cs)) one ∙ one_more system 0 cs k c within at ∙ ap (λ m. lines_in system 0 (take k cs) ++ command_lines system m c) same

-- ---- how many they are

get_front : (xs : List ℕ) (x k : ℕ) → k < length xs → slice_get (xs ++ x ∷ []) k ≡ slice_get xs k
get_front [] x k within = absurd (omega (arith, within))
get_front (y ∷ xs) x zero within = refl
get_front (y ∷ xs) x (suc k) within = get_front xs x k (omega (arith, within))

get_last : (xs : List ℕ) (x : ℕ) → slice_get (xs ++ x ∷ []) (length xs) ≡ Some x
get_last [] x = refl
get_last (y ∷ xs) x = get_last xs x

pub counts_begin : (system : System) (cs : List Command) (counts : List ℕ) → counts ≡ 0 ∷ [] → AreCounts system cs 0 counts
unfolding lines_in
counts_begin system cs counts is = record { sized = ap length is; each = λ k low. ap (λ xs. slice_get xs k) is ∙ first k low }
  where
    first : (k : ℕ) → k ≤ 0 → slice_get (0 ∷ []) k ≡ Some (length (lines_in system 0 (take k cs)))
    first zero low = refl
    first (suc k) low = absurd (omega (arith, low))

pub counts_more : (system : System) (cs : List Command) (n x : ℕ) (counts more : List ℕ) → AreCounts system cs n counts → x ≡ length (lines_in system 0 (take (n + 1) cs)) → more ≡ counts ++ x ∷ [] → AreCounts system cs (n + 1) more
counts_more system cs n x counts more h long is = record {
  sized = ap length is ∙ length-append counts (x ∷ []) ∙ ap (λ m. m + 1) h.sized;
  each = λ k low. ap (λ xs. slice_get xs k) is ∙ by_place k low (cases_lt n k);
}
  where
    by_place : (k : ℕ) → k ≤ n + 1 → (n < k) ⊎ (k ≤ n) → slice_get (counts ++ x ∷ []) k ≡ Some (length (lines_in system 0 (take k cs)))
    by_place k low (inr front) = get_front counts x k (omega (arith, front, h.sized)) ∙ h.each k front
    by_place k low (inl behind) =
        let last : k ≡ length counts = omega (arith, low, behind, h.sized) in
        let next : n + 1 ≡ k = omega (arith, low, behind) in
        ap (λ j. slice_get (counts ++ x ∷ []) j) last ∙ get_last counts x ∙ ap Some long ∙ ap (λ j. Some (length (lines_in system 0 (take j cs)))) next

pub count_found : (system : System) (cs : List Command) (n k : ℕ) (counts : List ℕ) → AreCounts system cs n counts → k ≤ n → count_at counts k ≡ length (lines_in system 0 (take k cs))
count_found system cs n k counts h low = ap (λ o. unwrap_or o 0) (h.each k low)

-- the same counts by reference
pub counts_are : (system : System) (cs : List Command) (n : ℕ) (counts same : List ℕ) → AreCounts system cs n counts → n ≡ followed cs → same ≡ counts → AreCounts system cs (followed cs) same
counts_are system cs n counts same h long is = subst (λ m. AreCounts system cs m same) long (subst (AreCounts system cs n) (sym is) h)

pub counts_end : (system : System) (cs : List Command) (k n : ℕ) (counts : List ℕ) → k ≡ n → AreCounts system cs k counts → AreCounts system cs n counts
counts_end system cs k n counts is h = subst (λ m. AreCounts system cs m counts) is h
