-- Conjunctions and disjunctions of words.
use Rattle.std.specs.Prelude.{◌≡◌, ℕ, ◌+◌, ◌<◌, ◌≤◌, Bool as Truth, true, false, ◌&&◌, ◌||◌, List, [], ◌∷◌, ◌++◌, length, take, All}
use Rattle.std.specs.List.{list_all, list_any}
use Rattle.std.proofs.Common.{refl, sym, ap, ◌∙◌, arith, subst, get_or}
use Rattle.std.proofs.lemmas.List.{take_more, take_all, length-map}
use Rattle.std.proofs.lemmas.List.Elements.{All-cons, All-nil, All-head, All-tail}
use Rattle.uc_values.specs.Values.{truth_of}
use Rattle.uc_values.specs.declared.ty.Ty.{Ty}
use Rattle.uc_values.specs.declared.ty.Ty.TheVariants.{Bool}
use Rattle.uc_values.specs.declared.value.Value.TheVariants.{Bool as truth}
use Rattle.uc_ops.specs.declared.op.Op.TheVariants.{And, Or}
use Rattle.uc_circuit.specs.declared.signal.Signal.{Signal}
use Rattle.uc_circuit.specs.declared.signal.Signal.TheVariants.{Constant}
use Rattle.uc_circuit.specs.Signals.{signal_value, Below}
use Rattle.uc_circuit.specs.Building.{Building, Grows, size}
use Rattle.uc_circuit.specs.Meanings.{Means}
use Rattle.uc_circuit.proofs.Growing.{grows-trans, below-grown, obeys-back}
use Rattle.uc_blast.specs.Words.{first, worth, worths, words_at, IsWord, AreWords, Gives}

and-three : (a b c : Truth) → (a && (b && c)) ≡ ((a && b) && c)
and-three true b c = refl
and-three false b c = refl

or-three : (a b c : Truth) → (a || (b || c)) ≡ ((a || b) || c)
or-three true b c = refl
or-three false b c = refl

and-last : (b : Truth) → (b && true) ≡ b
and-last true = refl
and-last false = refl

or-last : (b : Truth) → (b || false) ≡ b
or-last true = refl
or-last false = refl

all-push : (f : List Signal → Truth) (ws : List (List Signal)) (w : List Signal) → list_all f (ws ++ w ∷ []) ≡ (list_all f ws && f w)
all-push f [] w = and-last (f w)
all-push f (x ∷ ws) w = ap (λ b. f x && b) (all-push f ws w) ∙ and-three (f x) (list_all f ws) (f w)

any-push : (f : List Signal → Truth) (ws : List (List Signal)) (w : List Signal) → list_any f (ws ++ w ∷ []) ≡ (list_any f ws || f w)
any-push f [] w = or-last (f w)
any-push f (x ∷ ws) w = ap (λ b. f x || b) (any-push f ws w) ∙ or-three (f x) (list_any f ws) (f w)

pub all-more : (f : List Signal → Truth) (ws : List (List Signal)) (i : ℕ) → i < length ws → (list_all f (take i ws) && f (get_or ws i [])) ≡ list_all f (take (i + 1) ws)
all-more f ws i h =
    sym (ap (list_all f) (take_more ws i [] h) ∙ all-push f (take i ws) (get_or ws i []))

pub all-turn :
    (start old new : Building) (words : List (List Signal)) (parts : List ℕ) (place : ℕ) (word : List Signal) (part found next : Signal) → place < length parts
    → word ≡ get_or (words_at words parts) place [] → part ≡ get_or word 0 (Constant false)
    → Grows start old × Means old (λ v. list_all (first v) (take place (words_at words parts))) found
    → Grows old new → Means new (λ v. signal_value v found && signal_value v part) next
    → Grows start new × Means new (λ v. list_all (first v) (take (place + 1) (words_at words parts))) next
all-turn start old new words parts place word part found next h ew ep t g m =
    let ws = words_at words parts in
    let long : length ws ≡ length parts = length-map parts (λ p. get_or words p []) in
    let within : place < length ws = omega arith in (
      grows-trans start old new t.0 g,
      record {
        below = m.below;
        value = λ v o.
            m.value v o
            ∙ ap (λ b. b && signal_value v part) (t.1.value v (obeys-back old new g v o))
            ∙ ap (λ s. list_all (first v) (take place ws) && signal_value v s) (ep ∙ ap (λ w. get_or w 0 (Constant false)) ew)
            ∙ all-more (first v) ws place within;
      },
    )

pub all-end : (b : Building) (ws : List (List Signal)) (n : ℕ) (s : Signal) → length ws ≤ n → Means b (λ v. list_all (first v) (take n ws)) s → Means b (λ v. list_all (first v) ws) s
all-end b ws n s h m = record { below = m.below; value = λ v o. m.value v o ∙ ap (list_all (first v)) (take_all n ws h) }

logic-all : (n : ℕ) (v : ℕ → Truth) (types : List Ty) (ws : List (List Signal)) → All (λ t. t ≡ Bool) types → AreWords n types ws → list_all truth_of (worths v types ws) ≡ list_all (first v) ws
logic-all n v [] [] b a = refl
logic-all n v [] (w ∷ ws) b a = absurd a
logic-all n v (t ∷ ts) [] b a = absurd a
logic-all n v (t ∷ ts) (w ∷ ws) b a =
    ap (λ ty. truth_of (worth v ty w) && list_all truth_of (worths v ts ws)) (All-head (λ ty. ty ≡ Bool) t ts b)
    ∙ ap (λ x. first v w && x) (logic-all n v ts ws (All-tail (λ ty. ty ≡ Bool) t ts b) a.1)

pub all-gives : (n : ℕ) (b : Building) (types : List Ty) (words : List (List Signal)) (r : List Signal) (s : Signal) → All (λ t. t ≡ Bool) types → AreWords n types words
    → Means b (λ v. list_all (first v) words) s → r ≡ s ∷ [] → Gives b And types words r
all-gives n b types words r s bools a m er =
    subst (Gives b And types words) (sym er)
    (record {
      is_word = record { below = All-cons (Below (size b)) s [] m.below (All-nil (Below (size b))); long = refl };
      value = λ v o k. ap truth (logic-all n v types words bools a ∙ sym (m.value v o));
    })

pub any-more : (f : List Signal → Truth) (ws : List (List Signal)) (i : ℕ) → i < length ws → (list_any f (take i ws) || f (get_or ws i [])) ≡ list_any f (take (i + 1) ws)
any-more f ws i h =
    sym (ap (list_any f) (take_more ws i [] h) ∙ any-push f (take i ws) (get_or ws i []))

pub any-turn :
    (start old new : Building) (words : List (List Signal)) (parts : List ℕ) (place : ℕ) (word : List Signal) (part found next : Signal) → place < length parts
    → word ≡ get_or (words_at words parts) place [] → part ≡ get_or word 0 (Constant false)
    → Grows start old × Means old (λ v. list_any (first v) (take place (words_at words parts))) found
    → Grows old new → Means new (λ v. signal_value v found || signal_value v part) next
    → Grows start new × Means new (λ v. list_any (first v) (take (place + 1) (words_at words parts))) next
any-turn start old new words parts place word part found next h ew ep t g m =
    let ws = words_at words parts in
    let long : length ws ≡ length parts = length-map parts (λ p. get_or words p []) in
    let within : place < length ws = omega arith in (
      grows-trans start old new t.0 g,
      record {
        below = m.below;
        value = λ v o.
            m.value v o
            ∙ ap (λ b. b || signal_value v part) (t.1.value v (obeys-back old new g v o))
            ∙ ap (λ s. list_any (first v) (take place ws) || signal_value v s) (ep ∙ ap (λ w. get_or w 0 (Constant false)) ew)
            ∙ any-more (first v) ws place within;
      },
    )

pub any-end : (b : Building) (ws : List (List Signal)) (n : ℕ) (s : Signal) → length ws ≤ n → Means b (λ v. list_any (first v) (take n ws)) s → Means b (λ v. list_any (first v) ws) s
any-end b ws n s h m = record { below = m.below; value = λ v o. m.value v o ∙ ap (list_any (first v)) (take_all n ws h) }

logic-any : (n : ℕ) (v : ℕ → Truth) (types : List Ty) (ws : List (List Signal)) → All (λ t. t ≡ Bool) types → AreWords n types ws → list_any truth_of (worths v types ws) ≡ list_any (first v) ws
logic-any n v [] [] b a = refl
logic-any n v [] (w ∷ ws) b a = absurd a
logic-any n v (t ∷ ts) [] b a = absurd a
logic-any n v (t ∷ ts) (w ∷ ws) b a =
    ap (λ ty. truth_of (worth v ty w) || list_any truth_of (worths v ts ws)) (All-head (λ ty. ty ≡ Bool) t ts b)
    ∙ ap (λ x. first v w || x) (logic-any n v ts ws (All-tail (λ ty. ty ≡ Bool) t ts b) a.1)

pub any-gives : (n : ℕ) (b : Building) (types : List Ty) (words : List (List Signal)) (r : List Signal) (s : Signal) → All (λ t. t ≡ Bool) types → AreWords n types words
    → Means b (λ v. list_any (first v) words) s → r ≡ s ∷ [] → Gives b Or types words r
any-gives n b types words r s bools a m er =
    subst (Gives b Or types words) (sym er)
    (record {
      is_word = record { below = All-cons (Below (size b)) s [] m.below (All-nil (Below (size b))); long = refl };
      value = λ v o k. ap truth (logic-any n v types words bools a ∙ sym (m.value v o));
    })

-- the signals of booleans are of the circuit
pub firsts-below : (n : ℕ) (types : List Ty) (ws : List (List Signal)) → All (λ t. t ≡ Bool) types → AreWords n types ws → All (λ w. Below n (get_or w 0 (Constant false))) ws
firsts-below n [] [] b a = All-nil (λ w. Below n (get_or w 0 (Constant false)))
firsts-below n [] (w ∷ ws) b a = absurd a
firsts-below n (t ∷ ts) [] b a = absurd a
firsts-below n (t ∷ ts) (w ∷ ws) b a =
    let h : IsWord n Bool w = subst (λ ty. IsWord n ty w) (All-head (λ ty. ty ≡ Bool) t ts b) a.0 in
    All-cons (λ w. Below n (get_or w 0 (Constant false))) w ws (h.below 0 (Constant false) (omega (arith, h.long)))
    (firsts-below n ts ws (All-tail (λ ty. ty ≡ Bool) t ts b) a.1)

pub part-below : (start now : Building) → Grows start now → (words : List (List Signal)) (parts : List ℕ) (place : ℕ) (word : List Signal) (part : Signal) → place < length parts
    → word ≡ get_or (words_at words parts) place [] → part ≡ get_or word 0 (Constant false) → All (λ w. Below (size start) (get_or w 0 (Constant false))) (words_at words parts)
    → Below (size now) part
part-below start now g words parts place word part h ew ep all =
    let long : length (words_at words parts) ≡ length parts = length-map parts (λ p. get_or words p []) in
    let within : place < length (words_at words parts) = omega arith in
    below-grown start now g part (subst (Below (size start)) (sym (ep ∙ ap (λ w. get_or w 0 (Constant false)) ew)) (all place [] within))
