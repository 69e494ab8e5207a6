-- What holds of an outcome, by the case that it is.
use Rattle.std.proofs.Common.{◌≡◌, List, ◌∷◌, ◌++◌, Ok, Err, Bool, true, false, ap}
use Rattle.std.specs.Prelude.{if◌then◌else◌}
use Rattle.uc_forms.specs.declared.fault.Fault.{Fault}
use Rattle.uc_forms.specs.declared.fault.Fault.TheVariants.{Syntax, TooDeep}
use Rattle.uc_forms.specs.Reading.{Outcome, ◌>>=◌, turned, paired}

abbrev pub Judge : {W A : Type 0} → (A → List W → Type 0) → (Fault → List W → Type 0) → Outcome W A → Type 0
Judge P Q (Ok x) = P x.0 x.1
Judge P Q (Err e) = Q e.0 e.1

pub judge_bind : {W A B : Type 0} (P : A → List W → Type 0) (Q : Fault → List W → Type 0) (P' : B → List W → Type 0) (Q' : Fault → List W → Type 0)
    (r : Outcome W A) (k : A × List W → Outcome W B) → Judge P Q r
    → ((a : A) (rest : List W) → P a rest → Judge P' Q' (k (a, rest))) → ((e : Fault) (rest : List W) → Q e rest → Q' e rest) → Judge P' Q' (r >>= k)
judge_bind P Q P' Q' (Ok x) k j ok err = ok x.0 x.1 j
judge_bind P Q P' Q' (Err e) k j ok err = err e.0 e.1 j

pub judge_turned : {W A B : Type 0} (P : A → List W → Type 0) (Q : Fault → List W → Type 0) (P' : B → List W → Type 0) (Q' : Fault → List W → Type 0)
    (h : A → B) (r : Outcome W A) → Judge P Q r
    → ((a : A) (rest : List W) → P a rest → P' (h a) rest) → ((e : Fault) (rest : List W) → Q e rest → Q' e rest) → Judge P' Q' (turned h r)
judge_turned P Q P' Q' h (Ok x) j ok err = ok x.0 x.1 j
judge_turned P Q P' Q' h (Err e) j ok err = err e.0 e.1 j

-- the words are a front that spells the value, and the rest
abbrev pub Fits : {W A : Type 0} → (List W → A → Type 0) → List W → A → List W → Type 0
Fits {W} L ws a rest = (front : List W) × (ws ≡ front ++ rest) × L front a

-- where words lie too deep, they go on with the first that does
abbrev pub GoesOn : {W : Type 0} → Fault → List W → List W → Type 0
GoesOn Syntax rest more = Unit {0}
GoesOn {W} TooDeep rest more = (w : W) × (after end : List W) × (rest ≡ w ∷ after) × (more ≡ w ∷ end)

pub goes_further : {W : Type 0} (e : Fault) (rest more end : List W) → GoesOn e rest more → GoesOn e rest (more ++ end)
goes_further Syntax rest more end g = tt
goes_further TooDeep rest more end g = (g.0, g.1, g.2 ++ end, g.3, ap (λ (ws : List _). ws ++ end) g.4)

-- the words before the rest begin what spells some value
abbrev pub Begun : {W A : Type 0} → (List W → A → Type 0) → List W → Fault → List W → Type 0
Begun {W} {A} L ws e rest = (front more : List W) × (a : A) × (ws ≡ front ++ rest) × L (front ++ more) a × GoesOn e rest more

pub judge_if : {W A : Type 0} (P : A → List W → Type 0) (Q : Fault → List W → Type 0) (b : Bool) (r s : Outcome W A) → Judge P Q r → Judge P Q s → Judge P Q (if b then r else s)
judge_if P Q true r s h k = h
judge_if P Q false r s h k = k

pub judge_paired : {W A B : Type 0} (P : A → List W → Type 0) (Q : Fault → List W → Type 0) (P' : A × B → List W → Type 0) (Q' : Fault → List W → Type 0)
    (r : Outcome W A) (g : List W → Outcome W B) → Judge P Q r
    → ((a : A) (rest : List W) → P a rest → Judge P' Q' (turned (λ b. (a, b)) (g rest))) → ((e : Fault) (rest : List W) → Q e rest → Q' e rest) → Judge P' Q' (paired r g)
judge_paired P Q P' Q' (Ok x) g j ok err = ok x.0 x.1 j
judge_paired P Q P' Q' (Err e) g j ok err = err e.0 e.1 j

pub judge_and : {W A : Type 0} (P P' : A → List W → Type 0) (Q Q' : Fault → List W → Type 0) (r : Outcome W A) → Judge P Q r → Judge P' Q' r → Judge (λ a rest. P a rest × P' a rest) (λ e rest. Q e rest × Q' e rest) r
judge_and P P' Q Q' (Ok x) j k = (j, k)
judge_and P P' Q Q' (Err e) j k = (j, k)

pub judge_more : {W A : Type 0} (P P' : A → List W → Type 0) (Q Q' : Fault → List W → Type 0) (r : Outcome W A) → Judge P Q r → ((a : A) (rest : List W) → P a rest → P' a rest) → ((e : Fault) (rest : List W) → Q e rest → Q' e rest) → Judge P' Q' r
judge_more P P' Q Q' (Ok x) j ok err = ok x.0 x.1 j
judge_more P P' Q Q' (Err e) j ok err = err e.0 e.1 j
