-- Texts are refused in one way.
use Rattle.std.proofs.Common.{◌≡◌, ◌⊎◌, inl, inr, ℕ, zero, suc, ◌<◌, Bool, false, List, [], ◌∷◌, length, take, slice_get, Option, Some, None, refl, sym, ap, subst, ◌∙◌, arith}
use Rattle.std.specs.Prelude.{if◌then◌else◌}
use Rattle.std.proofs.lemmas.List.{take-take}
use Rattle.uc_lexer.specs.declared.fault.LexFault.{LexFault}
use Rattle.uc_lexer.specs.declared.fault.LexFault.TheVariants as lexical
use Rattle.uc_lexer.specs.Places.{place_of}
use Rattle.uc_lexer.specs.Text.{FirstFault}
use Rattle.uc_lexer.proofs.Unique.{one_reading}
use Rattle.uc_syntax.specs.declared.declaration.Module.{Module}
use Rattle.uc_syntax.specs.Numbering.{AreDistinct}
use Rattle.uc_rules.specs.declared.fault.Fault.{Fault}
use Rattle.uc_rules.specs.Faults.{sooner, first_of, IsIn, NoneBefore, IsFirst}
use Rattle.uc_rules.specs.Declarations.{design_faults}
use Rattle.uc_order_rules.specs.Order.{order_faults, KeepsOrder}
use Rattle.uc_report.specs.ControlRules.{IsFirstControlFault}
use Rattle.uc_rules.proofs.Swaps.{any_order}
use Rattle.uc_meaning.specs.Lookup.{System}
use Rattle.uc_front.specs.declared.lexing.Source.{Source}
use Rattle.uc_front.specs.declared.refusal.Refusal.{Refusal}
use Rattle.uc_front.specs.declared.refusal.Refusal.TheVariants.{NoFile, TooLong, BadByte, BadNumber, OpenComment, Syntax, TooDeep, TooManyNames, NoMain, BreaksRule, BreaksControl, NotBuilt}
use Rattle.uc_front.specs.Sources.{AreTexts, texts_of}
use Rattle.uc_front.specs.Denotes.{names_of, HasAnswer, AreSpelled, main_in, main_name, contents_of, IsDesignOf, IsTyped, IsKept, IsFirstBroken}
use Rattle.uc_front.specs.Refused.{IsUnread, IsFirstFault, IsUnlexed, refusal_of, IsUnspelled, IsLeftAt, IsUnbuilt}
use Rattle.uclid_laws.specs.Laws.{OneRefusal}
use Rattle.uclid_laws.proofs.Distinct.{names_distinct}
use Rattle.uclid_laws.proofs.Designs.{one_texts, one_sources, answers_same, one_spelled, one_of_sources, never_unread, never_fault, never_unlexed, never_unspelled, never_broken, never_first, never_uncontrolled, no_first}

-- ---- fronts

-- numbers of which neither is below the other
level : (n m : ℕ) → (n < m → ⊥) → (m < n → ⊥) → n ≡ m
level n m above below = omega arith

get_front : {A : Type 0} (n m : ℕ) (xs : List A) (x : A) → n < m → slice_get xs n ≡ Some x → slice_get (take m xs) n ≡ Some x
get_front n zero xs x lt at = absurd (omega arith)
get_front n (suc m) [] x lt at = at
get_front zero (suc m) (y ∷ ys) x lt at = at
get_front (suc n) (suc m) (y ∷ ys) x lt at = let lower : n < m = omega arith in get_front n m ys x lower at

front_again : {A : Type 0} (n m : ℕ) (xs : List A) → n < m → take n (take m xs) ≡ take n xs
front_again n m xs lt = take-take n m xs (omega arith)

-- ---- reading

-- the number of the file that is refused
abbrev file_of : Refusal → ℕ
file_of (NoFile n) = n
file_of (TooLong n) = n
file_of other = zero

-- the files before the one that is refused are read
read_before : (held : List ℕ → Option (List ℕ)) (files : List (List ℕ)) (r : Refusal) → IsUnread held files r → (texts : List (List ℕ)) × AreTexts held (take (file_of r) files) texts
read_before held files (NoFile n) h = (h.1, h.3)
read_before held files (TooLong n) h = (h.1, h.4)
read_before held files other h = absurd h

-- what is refused of all files is refused of a front that has it
unread_front : (held : List ℕ → Option (List ℕ)) (files : List (List ℕ)) (m : ℕ) (r : Refusal) → file_of r < m → IsUnread held files r → IsUnread held (take m files) r
unread_front held files m (NoFile n) lt h = (h.0, h.1, get_front n m files h.0 lt h.2, subst (λ fs. AreTexts held fs h.1) (sym (front_again n m files lt)) h.3, h.4)
unread_front held files m (TooLong n) lt h = (h.0, h.1, h.2, get_front n m files h.0 lt h.3, subst (λ fs. AreTexts held fs h.1) (sym (front_again n m files lt)) h.4, h.5, h.6)
unread_front held files m other lt h = absurd h

-- no file before the one that is refused is refused
none_sooner : (held : List ℕ → Option (List ℕ)) (files : List (List ℕ)) (r s : Refusal) → IsUnread held files r → IsUnread held files s → file_of r < file_of s → ⊥
none_sooner held files r s a b lt =
    let before = read_before held files s b in
    never_unread held (take (file_of s) files) before.0 r before.1 (unread_front held files (file_of s) r lt a)

-- a file is not both missing and too long
never_long : (held : List ℕ → Option (List ℕ)) (files : List (List ℕ)) (n m : ℕ) → n ≡ m → IsUnread held files (NoFile n) → IsUnread held files (TooLong m) → ⊥
never_long held files n m e a b =
    let files_same : Some a.0 ≡ Some b.0 = sym a.2 ∙ ap (slice_get files) e ∙ b.3 in
    let same : a.0 ≡ b.0 = cc in
    let texts : None ≡ Some b.2 = sym a.4 ∙ ap held same ∙ b.5 in
    cc texts

one_unread : (held : List ℕ → Option (List ℕ)) (files : List (List ℕ)) (r s : Refusal) → IsUnread held files r → IsUnread held files s → r ≡ s
one_unread held files r s a b = by r s a b (level (file_of r) (file_of s) (none_sooner held files r s a b) (none_sooner held files s r b a))
  where
    by : (r s : Refusal) → IsUnread held files r → IsUnread held files s → file_of r ≡ file_of s → r ≡ s
    by (NoFile n) (NoFile m) a b e = ap (λ k. NoFile k) e
    by (NoFile n) (TooLong m) a b e = absurd (never_long held files n m e a b)
    by (NoFile n) other a b e = absurd b
    by (TooLong n) (NoFile m) a b e = absurd (never_long held files m n (sym e) b a)
    by (TooLong n) (TooLong m) a b e = ap (λ k. TooLong k) e
    by (TooLong n) other a b e = absurd b
    by other s a b e = absurd a

-- ---- lexing

-- the refusal of a fault
abbrev refused_for : LexFault → Refusal
refused_for (lexical.BadByte p) = BadByte p
refused_for (lexical.BadNumber p) = BadNumber p
refused_for (lexical.OpenComment p) = OpenComment p

fault_before : (texts : List (List ℕ)) (f g : LexFault) (a : IsFirstFault texts f) (b : IsFirstFault texts g) → a.0 < b.0 → ⊥
fault_before texts f g a b lt =
    let front : texts_of b.2 ≡ take b.0 texts = b.4 in
    never_fault b.2 f b.5
    (subst (λ ts. IsFirstFault ts f) (sym front)
    (a.0, a.1, a.2, get_front a.0 b.0 texts a.1 lt a.3, a.4 ∙ sym (front_again a.0 b.0 texts lt), a.5, a.6))

one_fault : (texts : List (List ℕ)) (f g : LexFault) → IsFirstFault texts f → IsFirstFault texts g → f ≡ g
one_fault texts f g a b =
    let number : a.0 ≡ b.0 = level a.0 b.0 (fault_before texts f g a b) (fault_before texts g f b a) in
    let text : Some a.1 ≡ Some b.1 = sym a.3 ∙ ap (slice_get texts) number ∙ b.3 in
    let same : a.1 ≡ b.1 = cc in
    let first : FirstFault a.0 a.1 f = a.6 in
    let second : FirstFault a.0 a.1 g = subst (λ t. FirstFault a.0 t g) (sym same) (subst (λ n. FirstFault n b.1 g) (sym number) b.6) in
    let faults : Some f ≡ Some g = (one_reading a.0 a.1 first.0 second.0 (Some f) (Some g) first.1 second.1).1 in
    cc faults

fault_of : (texts : List (List ℕ)) (r : Refusal) → IsUnlexed texts r → (f : LexFault) × IsFirstFault texts f × (refused_for f ≡ r)
fault_of texts (BadByte p) h = (lexical.BadByte p, h, refl)
fault_of texts (BadNumber p) h = (lexical.BadNumber p, h, refl)
fault_of texts (OpenComment p) h = (lexical.OpenComment p, h, refl)
fault_of texts other h = absurd h

one_unlexed : (texts : List (List ℕ)) (r s : Refusal) → IsUnlexed texts r → IsUnlexed texts s → r ≡ s
one_unlexed texts r s a b =
    let one = fault_of texts r a in
    let other = fault_of texts s b in
    sym one.2 ∙ ap (λ f. refused_for f) (one_fault texts one.0 other.0 one.1 other.1) ∙ other.2

-- ---- parsing

spelled_before : (names : List (List ℕ)) (sources : List Source) (r s : Refusal) → AreDistinct names → (a : IsUnspelled names sources r) (b : IsUnspelled names sources s) → a.0 < b.0 → ⊥
spelled_before names sources r s distinct a b lt =
    never_unspelled names (take b.0 sources) b.2 r distinct b.5
    (a.0, a.1, a.2, a.3, get_front a.0 b.0 sources a.1 lt a.4, subst (λ ss. AreSpelled names ss a.2) (sym (front_again a.0 b.0 sources lt)) a.5, a.6, a.7)

one_unspelled : (names : List (List ℕ)) (sources : List Source) (r s : Refusal) → AreDistinct names → IsUnspelled names sources r → IsUnspelled names sources s → r ≡ s
one_unspelled names sources r s distinct a b =
    let number : a.0 ≡ b.0 = level a.0 b.0 (spelled_before names sources r s distinct a b) (spelled_before names sources s r distinct b a) in
    let source : Some a.1 ≡ Some b.1 = sym a.4 ∙ ap (slice_get sources) number ∙ b.4 in
    let same : a.1 ≡ b.1 = cc in
    let moved : HasAnswer names a.1 b.3 = subst (λ x. HasAnswer names x b.3) (sym same) b.6 in
    let answers : a.3 ≡ b.3 = answers_same names a.1 a.3 b.3 distinct a.6 moved in
    let refusals : Some r ≡ Some s = sym a.7 ∙ (λ i. refusal_of (place_of (number i) (same i).text (length (same i).text)) (answers i)) ∙ b.7 in
    cc refusals

-- ---- rules

-- none of the faults of a list comes before one
none_before : (f g : Fault) (fs : List Fault) → NoneBefore f fs → IsIn g fs → sooner g f ≡ false
unfolding NoneBefore IsIn
none_before f g [] none is = absurd is
none_before f g (x ∷ xs) none (inl e) = ap (λ y. sooner y f) e ∙ none.0
none_before f g (x ∷ xs) none (inr is) = none_before f g xs none.1 is

-- two faults of which neither comes first are the same
neither : (f g : Fault) → sooner f g ≡ false → sooner g f ≡ false → f ≡ g
unfolding first_of
neither f g not_f not_g =
    let swapped = any_order None (f ∷ []) (g ∷ []) in
    let g_first = ap (λ (b : Bool). if b then Some g else Some f) not_g in
    let f_first = ap (λ (b : Bool). if b then Some f else Some g) not_f in
    let same : Some f ≡ Some g = sym g_first ∙ swapped ∙ f_first in
    cc same

one_first : (f g : Fault) (fs : List Fault) → IsFirst f fs → IsFirst g fs → f ≡ g
one_first f g fs a b = neither f g (none_before g f fs b.1 a.0) (none_before f g fs a.1 b.0)

one_broken : (system : System) (f g : Fault) → IsFirstBroken system f → IsFirstBroken system g → f ≡ g
one_broken system f g (inl a) (inl b) = one_first f g (design_faults (contents_of system) main_name) a b
one_broken system f g (inl a) (inr b) = absurd (no_first f (design_faults (contents_of system) main_name) b.0 a)
one_broken system f g (inr a) (inl b) = absurd (no_first g (design_faults (contents_of system) main_name) a.0 b)
one_broken system f g (inr a) (inr b) = one_first f g (order_faults system) a.1 b.1

-- ---- behind parsing

-- what is refused where all texts spell modules
abbrev IsLate : List (List ℕ) → List Source → Refusal → Type 0
IsLate files sources NoMain = IsUnbuilt files sources NoMain
IsLate files sources (BreaksRule fault) = IsUnbuilt files sources (BreaksRule fault)
IsLate files sources (BreaksControl fault) = IsUnbuilt files sources (BreaksControl fault)
IsLate files sources (NotBuilt p) = IsUnbuilt files sources (NotBuilt p)
IsLate files sources other = ⊥

parsing_or_late : (files : List (List ℕ)) (sources : List Source) (r : Refusal) → IsUnbuilt files sources r → IsUnspelled (names_of files sources) sources r ⊎ IsLate files sources r
parsing_or_late files sources (Syntax p) h = inl h
parsing_or_late files sources (TooDeep p) h = inl h
parsing_or_late files sources (TooManyNames p) h = inl h
parsing_or_late files sources NoMain h = inr h
parsing_or_late files sources (BreaksRule fault) h = inr h
parsing_or_late files sources (BreaksControl fault) h = inr h
parsing_or_late files sources (NotBuilt p) h = inr h
parsing_or_late files sources other h = absurd h

-- the modules of a design are those that its sources spell
spells_design : (files : List (List ℕ)) (sources : List Source) (system : System) → IsDesignOf files sources system → AreSpelled (names_of files sources) sources system.modules
spells_design files sources system d = subst (λ ns. AreSpelled ns sources system.modules) d.names_are d.modules_are

late_spelled : (files : List (List ℕ)) (sources : List Source) (r : Refusal) → IsLate files sources r → (modules : List Module) × AreSpelled (names_of files sources) sources modules
late_spelled files sources NoMain h = (h.0, h.1)
late_spelled files sources (BreaksRule fault) h = (h.0.modules, spells_design files sources h.0 h.1)
late_spelled files sources (BreaksControl fault) h = (h.0.modules, spells_design files sources h.0 h.1)
late_spelled files sources (NotBuilt p) h = (h.0.modules, spells_design files sources h.0 h.1)
late_spelled files sources other h = absurd h

-- a design has a module `main`
has_main : (files : List (List ℕ)) (sources : List Source) (system : System) → IsDesignOf files sources system → IsUnbuilt files sources NoMain → ⊥
has_main files sources system d h =
    let modules = one_spelled (names_of files sources) sources system.modules h.0 (names_distinct files sources) (spells_design files sources system d) h.1 in
    let e : Some system.main ≡ None = sym d.main_is ∙ (λ i. main_in (d.names_are i) (modules i)) ∙ h.2 in
    cc e

one_late : (files : List (List ℕ)) (sources : List Source) (r s : Refusal) → IsLate files sources r → IsLate files sources s → r ≡ s
one_late files sources NoMain NoMain a b = refl
one_late files sources NoMain (BreaksRule g) a b = absurd (has_main files sources b.0 b.1 a)
one_late files sources NoMain (BreaksControl g) a b = absurd (has_main files sources b.0 b.1 a)
one_late files sources NoMain (NotBuilt q) a b = absurd (has_main files sources b.0 b.1 a)
one_late files sources NoMain other a b = absurd b
one_late files sources (BreaksRule f) NoMain a b = absurd (has_main files sources a.0 a.1 b)
one_late files sources (BreaksRule f) (BreaksRule g) a b =
    let same = one_of_sources files sources b.0 a.0 b.1 a.1 in
    ap (λ x. BreaksRule x) (one_broken a.0 f g a.2 (subst (λ d. IsFirstBroken d g) same b.2))
one_late files sources (BreaksRule f) (NotBuilt q) a b = absurd (never_broken a.0 f (subst IsKept (one_of_sources files sources b.0 a.0 b.1 a.1) b.2) a.2)
one_late files sources (BreaksRule f) (BreaksControl g) a b =
    let same = one_of_sources files sources b.0 a.0 b.1 a.1 in
    absurd (never_first a.0 f (subst IsTyped same b.2) (subst KeepsOrder same b.3) a.2)
one_late files sources (BreaksRule f) other a b = absurd b
one_late files sources (BreaksControl f) NoMain a b = absurd (has_main files sources a.0 a.1 b)
one_late files sources (BreaksControl f) (BreaksRule g) a b =
    let same = one_of_sources files sources a.0 b.0 a.1 b.1 in
    absurd (never_first b.0 g (subst IsTyped same a.2) (subst KeepsOrder same a.3) b.2)
one_late files sources (BreaksControl f) (BreaksControl g) a b =
    let right : IsFirstControlFault a.0 g = subst (λ d. IsFirstControlFault d g) (one_of_sources files sources b.0 a.0 b.1 a.1) b.4 in
    let e : Some f ≡ Some g = sym a.4 ∙ right in
    let one : f ≡ g = cc in
    ap (λ x. BreaksControl x) one
one_late files sources (BreaksControl f) (NotBuilt q) a b = absurd (never_uncontrolled a.0 f (subst IsKept (one_of_sources files sources b.0 a.0 b.1 a.1) b.2) a.4)
one_late files sources (BreaksControl f) other a b = absurd b
one_late files sources (NotBuilt p) NoMain a b = absurd (has_main files sources a.0 a.1 b)
one_late files sources (NotBuilt p) (BreaksRule g) a b = absurd (never_broken b.0 g (subst IsKept (one_of_sources files sources a.0 b.0 a.1 b.1) a.2) b.2)
one_late files sources (NotBuilt p) (BreaksControl g) a b = absurd (never_uncontrolled b.0 g (subst IsKept (one_of_sources files sources a.0 b.0 a.1 b.1) a.2) b.4)
one_late files sources (NotBuilt p) (NotBuilt q) a b =
    let left : IsLeftAt a.0 q = subst (λ d. IsLeftAt d q) (one_of_sources files sources b.0 a.0 b.1 a.1) b.4 in
    ap (λ x. NotBuilt x) (a.4 ∙ sym left)
one_late files sources (NotBuilt p) other a b = absurd b
one_late files sources other s a b = absurd a

one_unbuilt : (files : List (List ℕ)) (sources : List Source) (r s : Refusal) → IsUnbuilt files sources r → IsUnbuilt files sources s → r ≡ s
one_unbuilt files sources r s a b = by (parsing_or_late files sources r a) (parsing_or_late files sources s b)
  where
    names : List (List ℕ)
    names = names_of files sources

    distinct : AreDistinct (names_of files sources)
    distinct = names_distinct files sources

    apart : (p q : Refusal) → IsUnspelled (names_of files sources) sources p → IsLate files sources q → ⊥
    apart p q one other = let all = late_spelled files sources q other in never_unspelled (names_of files sources) sources all.0 p distinct all.1 one

    by : IsUnspelled (names_of files sources) sources r ⊎ IsLate files sources r → IsUnspelled (names_of files sources) sources s ⊎ IsLate files sources s → r ≡ s
    by (inl one) (inl other) = one_unspelled (names_of files sources) sources r s distinct one other
    by (inl one) (inr other) = absurd (apart r s one other)
    by (inr one) (inl other) = absurd (apart s r other one)
    by (inr one) (inr other) = one_late files sources r s one other

-- ---- all passes

pub one_refusal : OneRefusal
one_refusal held files r s (inl a) (inl b) = one_unread held files r s a b
one_refusal held files r s (inl a) (inr (inl b)) = absurd (never_unread held files b.0 r b.1 a)
one_refusal held files r s (inl a) (inr (inr b)) = absurd (never_unread held files (texts_of b.0) r b.1.are_texts a)
one_refusal held files r s (inr (inl a)) (inl b) = absurd (never_unread held files a.0 s a.1 b)
one_refusal held files r s (inr (inl a)) (inr (inl b)) =
    let same = one_texts held files b.0 a.0 b.1.each a.1.each in
    one_unlexed a.0 r s a.2 (subst (λ ts. IsUnlexed ts s) same b.2)
one_refusal held files r s (inr (inl a)) (inr (inr b)) =
    let same = one_texts held files a.0 (texts_of b.0) a.1.each b.1.are_texts.each in
    absurd (never_unlexed b.0 r b.1.are_lexed (subst (λ ts. IsUnlexed ts r) same a.2))
one_refusal held files r s (inr (inr a)) (inl b) = absurd (never_unread held files (texts_of a.0) s a.1.are_texts b)
one_refusal held files r s (inr (inr a)) (inr (inl b)) =
    let same = one_texts held files b.0 (texts_of a.0) b.1.each a.1.are_texts.each in
    absurd (never_unlexed a.0 s a.1.are_lexed (subst (λ ts. IsUnlexed ts s) same b.2))
one_refusal held files r s (inr (inr a)) (inr (inr b)) =
    let same = one_sources held files b.0 a.0 b.1 a.1 in
    one_unbuilt files a.0 r s a.2 (subst (λ ss. IsUnbuilt files ss s) same b.2)
