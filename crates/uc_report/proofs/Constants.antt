-- What is left to write of the constants of an interpretation, from a place on.
use Rattle.std.specs.Prelude.{ℕ, zero, suc, ◌+◌, ◌<◌, ◌≤◌, ◌≢◌, min, nat_eq, Bool, true, false, ◌≡◌, List, [], ◌∷◌, ◌++◌, map, length, codes, Option, Some, None, All}
use Rattle.std.specs.Option.{option_map_or}
use Rattle.std.proofs.Common.{get_or, drop, add-one, drop-cons, append_assoc, arith, refl, sym, ap, ◌∙◌}
use Rattle.std.proofs.Math.Seq.{drop-nil}
use Rattle.std.proofs.lemmas.Bool.Decides.{nat_tests}
use Rattle.std.proofs.lemmas.List.{append-nil}
use Rattle.std.proofs.lemmas.List.Elements.{All-head, All-tail}
use Rattle.uc_values.specs.declared.value.Value.{Value}
use Rattle.uc_flat.specs.declared.flat.Constant.{Constant}
use Rattle.uc_meaning.specs.declared.scope.Interp.{Interp}
use Rattle.uc_meaning.specs.Lookup.{System}
use Rattle.uc_meaning.specs.Cells.{ConstantParts, constants_of}
use Rattle.uc_report.specs.Described.{name_of}
use Rattle.uc_report.specs.TraceTables.{AreConstants, without_module, name_of_main}
use Rattle.uc_report.specs.TraceText.{constant_line, constant_texts, constants_text, interpretation_text}

-- constants of a module of this name, each with its value
abbrev pub lines_of : System → List ℕ → List Constant → List Value → List ℕ
lines_of d m (c ∷ cs) (v ∷ vs) = constant_line d m c.name c.ty v ++ lines_of d m cs vs
lines_of d m cs vs = []

-- a constant more
pub constant_more : (d : System) (m : List ℕ) (cs : List Constant) (vs : List Value) (k : ℕ) (c : Constant) (v : Value) (now next whole : List ℕ) →
    k < length cs → k < length vs → c ≡ get_or cs k c → v ≡ get_or vs k v →
    now ++ lines_of d m (drop k cs) (drop k vs) ≡ whole → next ≡ now ++ constant_line d m c.name c.ty v →
    next ++ lines_of d m (drop (k + 1) cs) (drop (k + 1) vs) ≡ whole
constant_more d m cs vs k c v now next whole lc lv ec ev h n =
    let first : drop k cs ≡ c ∷ drop (k + 1) cs = drop-cons cs k c lc ∙ ap (λ x. x ∷ drop (suc k) cs) (sym ec) ∙ ap (λ j. c ∷ drop j cs) (sym (add-one k)) in
    let second : drop k vs ≡ v ∷ drop (k + 1) vs = drop-cons vs k v lv ∙ ap (λ x. x ∷ drop (suc k) vs) (sym ev) ∙ ap (λ j. v ∷ drop j vs) (sym (add-one k)) in
    ap (λ x. x ++ lines_of d m (drop (k + 1) cs) (drop (k + 1) vs)) n
    ∙ append_assoc now (constant_line d m c.name c.ty v) (lines_of d m (drop (k + 1) cs) (drop (k + 1) vs))
    ∙ ap (λ ws. now ++ lines_of d m (c ∷ drop (k + 1) cs) ws) (sym second)
    ∙ ap (λ bs. now ++ lines_of d m bs (drop k vs)) (sym first)
    ∙ h

no_values : (d : System) (m : List ℕ) (cs : List Constant) → lines_of d m cs [] ≡ []
no_values d m [] = refl
no_values d m (c ∷ cs) = refl

no_constants : (d : System) (m : List ℕ) (vs : List Value) → lines_of d m [] vs ≡ []
no_constants d m [] = refl
no_constants d m (v ∷ vs) = refl

lines_end : (d : System) (m : List ℕ) (cs : List Constant) (vs : List Value) (k : ℕ) → min (length cs) (length vs) ≤ k → lines_of d m (drop k cs) (drop k vs) ≡ []
lines_end d m [] vs k h = ap (λ bs. lines_of d m bs (drop k vs)) (drop-nil {A = Constant} k) ∙ no_constants d m (drop k vs)
lines_end d m (c ∷ cs) [] k h = ap (λ ws. lines_of d m (drop k (c ∷ cs)) ws) (drop-nil {A = Value} k) ∙ no_values d m (drop k (c ∷ cs))
lines_end d m (c ∷ cs) (v ∷ vs) zero h = absurd (omega arith)
lines_end d m (c ∷ cs) (v ∷ vs) (suc k) h = lines_end d m cs vs k (omega arith)

-- the constants of main have its name before theirs
lines_are : (d : System) (cs : List ConstantParts) (vs : List Value) → All (λ c. name_of_main d ≡ Some c.symbol.module_name) cs
    → lines_of d (option_map_or (name_of d) (name_of_main d) []) (map without_module cs) vs ≡ constant_texts d cs vs
lines_are d [] [] h = refl
lines_are d [] (v ∷ vs) h = refl
lines_are d (c ∷ cs) [] h = refl
lines_are d (c ∷ cs) (v ∷ vs) h =
    let mains = λ (e : ConstantParts). name_of_main d ≡ Some e.symbol.module_name in
    ap (λ o. constant_line d (option_map_or (name_of d) o []) c.symbol.name c.type v ++ lines_of d (option_map_or (name_of d) (name_of_main d) []) (map without_module cs) vs) (All-head mains c cs h)
    ∙ ap (λ ts. constant_line d (name_of d c.symbol.module_name) c.symbol.name c.type v ++ ts) (lines_are d cs vs (All-tail mains c cs h))

-- all constants are written
pub constants_end : (d : System) (m : List ℕ) (cs : List Constant) (vs : List Value) (k : ℕ) (start now : List ℕ) → AreConstants d cs → m ≡ option_map_or (name_of d) (name_of_main d) [] →
    min (length cs) (length vs) ≤ k → now ++ lines_of d m (drop k cs) (drop k vs) ≡ start ++ lines_of d m cs vs → now ≡ start ++ constant_texts d (constants_of d) vs
constants_end d m cs vs k start now are owner past h =
    sym (append-nil now) ∙ ap (λ x. now ++ x) (sym (lines_end d m cs vs k past)) ∙ h
    ∙ ap (λ n. start ++ lines_of d n cs vs) owner
    ∙ ap (λ bs. start ++ lines_of d (option_map_or (name_of d) (name_of_main d) []) bs vs) are.all
    ∙ ap (λ x. start ++ x) (lines_are d (constants_of d) vs are.mains)

-- ---- with the line before them

no_more : (d : System) (cs : List ConstantParts) (bs : List Constant) (vs : List Value) → bs ≡ map without_module cs → length bs ≡ 0 → constants_text d cs vs ≡ []
no_more d [] bs vs is none = refl
no_more d (c ∷ cs) bs vs is none = absurd (omega (arith, ap length is, none))

none_to_say : (d : System) (i : Interp) (bs : List Constant) → AreConstants d bs → length bs ≡ 0 → interpretation_text d i ≡ []
unfolding interpretation_text
none_to_say d i bs are none = no_more d (constants_of d) bs i.consts are.all none

some_more : (d : System) (cs : List ConstantParts) (bs : List Constant) (vs : List Value) → bs ≡ map without_module cs → length bs ≢ 0 → constants_text d cs vs ≡ codes "  interpretation\n" ++ constant_texts d cs vs
some_more d [] bs vs is some = absurd (some (ap length is))
some_more d (c ∷ cs) bs vs is some = refl

some_to_say : (d : System) (i : Interp) (bs : List Constant) → AreConstants d bs → length bs ≢ 0 → interpretation_text d i ≡ codes "  interpretation\n" ++ constant_texts d (constants_of d) i.consts
unfolding interpretation_text
some_to_say d i bs are some = some_more d (constants_of d) bs i.consts are.all some

-- by the test whether there are none
pub none_said : (d : System) (i : Interp) (bs : List Constant) (b : Bool) (now : List ℕ) → AreConstants d bs → b ≡ nat_eq (length bs) 0 → b ≡ true → now ≡ now ++ interpretation_text d i
none_said d i bs b now are is holds = sym (ap (λ x. now ++ x) (none_to_say d i bs are (no_length (length bs) (sym is ∙ holds))) ∙ append-nil now)
  where
    no_length : (n : ℕ) → nat_eq n 0 ≡ true → n ≡ 0
    no_length n e = grind (arith, nat_tests)

pub some_said : (d : System) (i : Interp) (bs : List Constant) (vs : List Value) (b : Bool) (now one two : List ℕ) → AreConstants d bs → b ≡ nat_eq (length bs) 0 → b ≡ false → vs ≡ i.consts
    → one ≡ now ++ codes "  interpretation\n" → two ≡ one ++ constant_texts d (constants_of d) vs → two ≡ now ++ interpretation_text d i
some_said d i bs vs b now one two are is fails same first second =
    second
    ∙ ap (λ x. x ++ constant_texts d (constants_of d) vs) first
    ∙ ap (λ ws. (now ++ codes "  interpretation\n") ++ constant_texts d (constants_of d) ws) same
    ∙ append_assoc now (codes "  interpretation\n") (constant_texts d (constants_of d) i.consts)
    ∙ ap (λ x. now ++ x) (sym (some_to_say d i bs are (some_length (length bs) (sym is ∙ fails))))
  where
    some_length : (n : ℕ) → nat_eq n 0 ≡ false → n ≢ 0
    some_length n e = grind (arith, nat_tests)
