-- What is left to write of the fields of a record and of the states of a copy, from a place on.
use Rattle.std.specs.Prelude.{ℕ, zero, suc, ◌+◌, ◌<◌, ◌≤◌, min, ◌≡◌, List, [], ◌∷◌, ◌++◌, length, codes}
use Rattle.std.specs.List.{flat_map, join_by}
use Rattle.std.proofs.Common.{get_or, drop, add-one, drop-cons, append_assoc, arith, inl, inr, cond, refl, sym, ap, ◌∙◌}
use Rattle.std.proofs.Math.Seq.{drop-nil}
use Rattle.std.proofs.lemmas.List.{append-nil, drop_all}
use Rattle.std.proofs.lemmas.Bool.Decides.{eqb_tells}
use Rattle.uc_values.specs.declared.ty.Field.{Field}
use Rattle.uc_values.specs.declared.ty.Ty.{Ty}
use Rattle.uc_values.specs.declared.value.Value.{Value}
use Rattle.uc_meaning.specs.declared.scope.State.{State}
use Rattle.uc_meaning.specs.Lookup.{System}
use Rattle.uc_report.specs.Described.{name_of}
use Rattle.uc_report.specs.declared.cell.CellRef.{CellRef}
use Rattle.uc_report.specs.Values.{Printer, field_text, field_texts, printers, value_text, separator}
use Rattle.uc_report.specs.TraceText.{state_text, states_text}

-- texts from a place on, with a comma and a space before each but the first
abbrev pub joined_from : ℕ → List (List ℕ) → List ℕ
joined_from zero texts = join_by (λ text. text) (codes ", ") texts
joined_from (suc k) texts = flat_map (λ text. codes ", " ++ text) texts

-- the fields from a place on
abbrev pub fields_from : System → List (Field Ty) → List Value → ℕ → List ℕ
fields_from d fs vs k = joined_from k (field_texts d (printers d (drop k fs)) (drop k vs))

later : (k : ℕ) → separator (suc k) ≡ codes ", "
later k = elim (eqb_tells (suc k) 0) [ inl x ↦ absurd (omega (arith, x.1)) | inr x ↦ ap (λ b. cond b [] (codes ", ")) x.0 ]

begin : (k : ℕ) (text : List ℕ) (texts : List (List ℕ)) → joined_from k (text ∷ texts) ≡ separator k ++ (text ++ joined_from (suc k) texts)
begin zero text texts = refl
begin (suc k) text texts =
    append_assoc (codes ", ") text (flat_map (λ text. codes ", " ++ text) texts) ∙ ap (λ s. s ++ (text ++ flat_map (λ text. codes ", " ++ text) texts)) (sym (later k))

field_step : (d : System) (fs : List (Field Ty)) (vs : List Value) (k : ℕ) (f : Field Ty) (v : Value) → k < length fs → k < length vs → f ≡ get_or fs k f → v ≡ get_or vs k v →
    fields_from d fs vs k ≡ separator k ++ (field_text d f.name (value_text d f.ty v) ++ fields_from d fs vs (suc k))
field_step d fs vs k f v lf lv ef ev =
    let first : drop k fs ≡ f ∷ drop (suc k) fs = drop-cons fs k f lf ∙ ap (λ g. g ∷ drop (suc k) fs) (sym ef) in
    let second : drop k vs ≡ v ∷ drop (suc k) vs = drop-cons vs k v lv ∙ ap (λ w. w ∷ drop (suc k) vs) (sym ev) in
    ap (λ gs. joined_from k (field_texts d (printers d gs) (drop k vs))) first
    ∙ ap (λ ws. joined_from k (field_texts d (printers d (f ∷ drop (suc k) fs)) ws)) second
    ∙ begin k (field_text d f.name (value_text d f.ty v)) (field_texts d (printers d (drop (suc k) fs)) (drop (suc k) vs))

-- the same bytes in two orders of joining
regrouped : (now s n e v left : List ℕ) → ((now ++ (s ++ (n ++ e))) ++ v) ++ left ≡ now ++ (s ++ (((n ++ e) ++ v) ++ left))
regrouped now s n e v left = simp append_assoc

-- a field more
pub field_more : (d : System) (fs : List (Field Ty)) (vs : List Value) (k : ℕ) (f : Field Ty) (v : Value) (now middle next whole : List ℕ) →
    k < length fs → k < length vs → f ≡ get_or fs k f → v ≡ get_or vs k v →
    now ++ fields_from d fs vs k ≡ whole →
    middle ≡ now ++ (separator k ++ (name_of d f.name ++ codes " = ")) → next ≡ middle ++ value_text d f.ty v →
    next ++ fields_from d fs vs (k + 1) ≡ whole
field_more d fs vs k f v now middle next whole lf lv ef ev h m n =
    ap (λ j. next ++ fields_from d fs vs j) (add-one k)
    ∙ ap (λ x. x ++ fields_from d fs vs (suc k)) (n ∙ ap (λ x. x ++ value_text d f.ty v) m)
    ∙ regrouped now (separator k) (name_of d f.name) (codes " = ") (value_text d f.ty v) (fields_from d fs vs (suc k))
    ∙ ap (λ x. now ++ x) (sym (field_step d fs vs k f v lf lv ef ev))
    ∙ h

no_fields : (d : System) (vs : List Value) → field_texts d [] vs ≡ []
no_fields d [] = refl
no_fields d (v ∷ vs) = refl

no_parts : (d : System) (fs : List (Field Printer)) → field_texts d fs [] ≡ []
no_parts d [] = refl
no_parts d (f ∷ fs) = refl

no_texts : (k : ℕ) → joined_from k [] ≡ []
no_texts zero = refl
no_texts (suc k) = refl

texts_end : (d : System) (fs : List (Field Ty)) (vs : List Value) (k : ℕ) → min (length fs) (length vs) ≤ k → field_texts d (printers d (drop k fs)) (drop k vs) ≡ []
texts_end d [] vs k h = ap (λ gs. field_texts d (printers d gs) (drop k vs)) (drop-nil {A = Field Ty} k) ∙ no_fields d (drop k vs)
texts_end d (f ∷ fs) [] k h = ap (λ ws. field_texts d (printers d (drop k (f ∷ fs))) ws) (drop-nil {A = Value} k) ∙ no_parts d (printers d (drop k (f ∷ fs)))
texts_end d (f ∷ fs) (v ∷ vs) zero h = absurd (omega arith)
texts_end d (f ∷ fs) (v ∷ vs) (suc k) h = texts_end d fs vs k (omega arith)

-- all fields are written
pub field_end : (d : System) (fs : List (Field Ty)) (vs : List Value) (k : ℕ) (now whole : List ℕ) → min (length fs) (length vs) ≤ k →
    now ++ fields_from d fs vs k ≡ whole → now ≡ whole
field_end d fs vs k now whole past h =
    sym (append-nil now) ∙ ap (λ x. now ++ x) (sym (ap (joined_from k) (texts_end d fs vs k past) ∙ no_texts k)) ∙ h

-- a state more
pub state_more : (d : System) (cells : List CellRef) (ss : List (State × List Value)) (k : ℕ) (s : State × List Value) (now next whole : List ℕ) →
    k < length ss → s ≡ get_or ss k s →
    now ++ states_text d cells k (drop k ss) ≡ whole → next ≡ now ++ state_text d cells k s.0 →
    next ++ states_text d cells (k + 1) (drop (k + 1) ss) ≡ whole
state_more d cells ss k s now next whole within is h n =
    let here : drop k ss ≡ s ∷ drop (k + 1) ss = drop-cons ss k s within ∙ ap (λ t. t ∷ drop (suc k) ss) (sym is) ∙ ap (λ j. s ∷ drop j ss) (sym (add-one k)) in
    ap (λ x. x ++ states_text d cells (k + 1) (drop (k + 1) ss)) n
    ∙ append_assoc now (state_text d cells k s.0) (states_text d cells (k + 1) (drop (k + 1) ss))
    ∙ ap (λ ts. now ++ states_text d cells k ts) (sym here)
    ∙ h

-- all states are written
pub state_end : (d : System) (cells : List CellRef) (ss : List (State × List Value)) (k : ℕ) (now whole : List ℕ) → length ss ≤ k →
    now ++ states_text d cells k (drop k ss) ≡ whole → now ≡ whole
state_end d cells ss k now whole past h =
    sym (append-nil now) ∙ ap (λ ts. now ++ states_text d cells k ts) (sym (drop_all k ss past)) ∙ h
