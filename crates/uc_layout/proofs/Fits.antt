-- The first type without a fitting value, and where there is none.
use Rattle.std.proofs.Common.{◌≡◌, ℕ, ◌+◌, ◌<◌, ◌≤◌, List, [], ◌∷◌, map, length, drop, get_or, Option, Some, None, Bool, true, false, refl, ap, ◌∙◌, sym, arith, ◌≢◌}
use Rattle.std.specs.Prelude.{if◌then◌else◌, slice_get, IsTrue, ◌&&◌}
use Rattle.std.specs.Bool.{Decides}
use Rattle.std.specs.List.{list_all}
use Rattle.std.proofs.Math.Bool.{and-false}
use Rattle.std.proofs.lemmas.List.{drop_all, drop_more}
use Rattle.uc_values.specs.declared.ty.Ty.{Ty}
use Rattle.uc_values.specs.declared.value.Value.{Value}
use Rattle.uc_values.specs.declared.table.Row.{Row}
use Rattle.uc_values.specs.declared.table.Table.{Table}
use Rattle.uc_values.specs.Values.{fits}
use Rattle.uc_meaning.specs.declared.scope.Interp.{Interp}
use Rattle.uc_meaning.specs.Lookup.{System}
use Rattle.uc_meaning.specs.Cells.{FitAll, FitRows, FitTables, FunctionParts, IsInterpretation, constants_of, functions_of}
use Rattle.uc_meaning.specs.Ends.{first_unfit}
use Rattle.uc_meaning.proofs.Lists.{drop_at, drop_past}
use Rattle.uc_layout.specs.declared.instances_symbols.FunctionTypes.{FunctionTypes}
use Rattle.uc_layout.specs.InstancesSymbols.{signature_of}
use Rattle.uc_layout.specs.Fits.{fits_some, all_fit, row_fits, table_fits, tables_fit}

-- at the first type
at_value : (k : ℕ) (t : Ty) (ts : List Ty) (vs : List Value) (n : ℕ) →
    first_unfit k (t ∷ ts) (drop n vs) ≡ (if fits_some t (slice_get vs n) then first_unfit (k + 1) ts (drop (n + 1) vs) else Some k)
at_value k t ts vs n = by (slice_get vs n) refl
  where
    by : (o : Option Value) → slice_get vs n ≡ o → first_unfit k (t ∷ ts) (drop n vs) ≡ (if fits_some t o then first_unfit (k + 1) ts (drop (n + 1) vs) else Some k)
    by None none = ap (first_unfit k (t ∷ ts)) (drop_past vs n none)
    by (Some v) some = ap (first_unfit k (t ∷ ts)) (drop_at vs n v some)

-- Before turn k all values fit so far.
pub record FitFrom (types : List Ty) (vs : List Value) (k : ℕ) : Type 0 where
  pub rest : first_unfit k (drop k types) (drop k vs) ≡ first_unfit 0 types vs

pub fit_begin : (types : List Ty) (vs : List Value) → FitFrom types vs 0
fit_begin types vs = record { rest = refl }

module _ (types : List Ty) (vs : List Value) (k : ℕ) (t d : Ty) (before : FitFrom types vs k) (within : k < length types) (is : t ≡ get_or types k d) where
  turn : first_unfit k (drop k types) (drop k vs) ≡ (if fits_some t (slice_get vs k) then first_unfit (k + 1) (drop (k + 1) types) (drop (k + 1) vs) else Some k)
  turn =
      ap (λ ts. first_unfit k ts (drop k vs)) (drop_more types k d within ∙ ap (λ x. x ∷ drop (k + 1) types) (sym is))
      ∙ at_value k t (drop (k + 1) types) vs k

  pub fit_more : fits_some t (slice_get vs k) ≡ true → FitFrom types vs (k + 1)
  fit_more fine = record {
    rest = sym (turn ∙ ap (λ b. if b then first_unfit (k + 1) (drop (k + 1) types) (drop (k + 1) vs) else Some k) fine) ∙ before.rest;
  }

  pub fit_broken : fits_some t (slice_get vs k) ≡ false → Some k ≡ first_unfit 0 types vs
  fit_broken fails = sym (turn ∙ ap (λ b. if b then first_unfit (k + 1) (drop (k + 1) types) (drop (k + 1) vs) else Some k) fails) ∙ before.rest

pub fit_end : (types : List Ty) (vs : List Value) (k : ℕ) → FitFrom types vs k → length types ≤ k → None ≡ first_unfit 0 types vs
fit_end types vs k before past = sym (ap (λ ts. first_unfit k ts (drop k vs)) (drop_all k types past)) ∙ before.rest

-- where all fit, there are enough
pub enough : (n : ℕ) (ts : List Ty) (vs : List Value) → first_unfit n ts vs ≡ None → length ts ≤ length vs
enough n [] vs none = omega arith
enough n (t ∷ ts) [] none = cc
enough n (t ∷ ts) (v ∷ vs) none = by (fits t v) none (enough (n + 1) ts vs)
  where
    by : (b : Bool) → (if b then first_unfit (n + 1) ts vs else Some n) ≡ None → (first_unfit (n + 1) ts vs ≡ None → length ts ≤ length vs) → length (t ∷ ts) ≤ length (v ∷ vs)
    by true h more = omega (arith, more h)
    by false h more = cc

-- ---- tests, and what they decide

both : {P Q : Type 0} (a b : Bool) → Decides a P → Decides b Q → Decides (a && b) (P × Q)
both true b first second = (λ is. (first.0 refl, second.0 is), λ h. second.1 h.1)
both false b first second = (λ is. absurd (let no : false ≡ true = is in cc), λ h. first.1 h.0)

is_test : (b : Bool) → Decides b (IsTrue b)
is_test b = (λ is. is, λ h. h)

never : Decides false ⊥
never = (λ is. absurd (let no : false ≡ true = is in cc), λ h. absurd h)

always : Decides true (Unit {0})
always = (λ is. tt, λ h. refl)

pub fit_decided : (ts : List Ty) (vs : List Value) → Decides (all_fit ts vs) (FitAll ts vs)
unfolding all_fit FitAll
fit_decided [] [] = always
fit_decided [] (v ∷ vs) = never
fit_decided (t ∷ ts) [] = never
fit_decided (t ∷ ts) (v ∷ vs) = both (fits t v) (all_fit ts vs) (is_test (fits t v)) (fit_decided ts vs)

three : {P Q R : Type 0} (a b : Bool) → Decides a (P × Q) → Decides b R → Decides (a && b) (P × Q × R)
three true b first second = (λ is. ((first.0 refl).0, (first.0 refl).1, second.0 is), λ h. second.1 h.2)
three false b first second = (λ is. absurd (let no : false ≡ true = is in cc), λ h. first.1 (h.0, h.1))

rows_decided : (f : FunctionParts) (rows : List Row) → Decides (list_all (row_fits (signature_of f)) rows) (FitRows f rows)
unfolding FitRows
rows_decided f [] = always
rows_decided f (row ∷ rows) =
    three (row_fits (signature_of f) row) (list_all (row_fits (signature_of f)) rows)
    (both (all_fit f.arguments row.arguments) (fits f.result row.result) (fit_decided f.arguments row.arguments) (is_test (fits f.result row.result)))
    (rows_decided f rows)

pub tables_decided : (fs : List FunctionParts) (ts : List Table) → Decides (tables_fit (map signature_of fs) ts) (FitTables fs ts)
unfolding tables_fit FitTables
tables_decided [] [] = always
tables_decided [] (t ∷ ts) = never
tables_decided (f ∷ fs) [] = never
tables_decided (f ∷ fs) (t ∷ ts) =
    three (table_fits (signature_of f) t) (tables_fit (map signature_of fs) ts)
    (both (list_all (row_fits (signature_of f)) t.rows) (fits f.result t.default) (rows_decided f t.rows) (is_test (fits f.result t.default)))
    (tables_decided fs ts)

-- lists of two lengths
pub unlike : (ts : List Ty) (vs : List Value) → length ts ≢ length vs → all_fit ts vs ≡ false
unfolding all_fit
unlike [] [] h = absurd (h refl)
unlike [] (v ∷ vs) h = refl
unlike (t ∷ ts) [] h = refl
unlike (t ∷ ts) (v ∷ vs) h = ap (λ b. fits t v && b) (unlike ts vs (λ e. h (omega arith))) ∙ and-false (fits t v)

pub unlike_tables : (fs : List FunctionTypes) (ts : List Table) → length fs ≢ length ts → tables_fit fs ts ≡ false
unfolding tables_fit
unlike_tables [] [] h = absurd (h refl)
unlike_tables [] (t ∷ ts) h = refl
unlike_tables (f ∷ fs) [] h = refl
unlike_tables (f ∷ fs) (t ∷ ts) h = ap (λ b. table_fits f t && b) (unlike_tables fs ts (λ e. h (omega arith))) ∙ and-false (table_fits f t)

-- an interpretation, by its constants and then its tables
module _ (s : System) (i : Interp) (types : List Ty) (listed : types ≡ map (λ c. c.type) (constants_of s)) where
  pub no_constants : all_fit types i.consts ≡ false → Decides false (IsInterpretation s i)
  no_constants fails = (
    λ is. absurd (let no : false ≡ true = is in cc),
    λ h. sym fails ∙ ap (λ ts. all_fit ts i.consts) listed ∙ (fit_decided (map (λ c. c.type) (constants_of s)) i.consts).1 h.constants,
  )

  pub interpretation : all_fit types i.consts ≡ true → (fs : List FunctionTypes) → fs ≡ map signature_of (functions_of s) → Decides (tables_fit fs i.tables) (IsInterpretation s i)
  interpretation fine fs listed_too = (
    λ is. record {
      constants = (fit_decided (map (λ c. c.type) (constants_of s)) i.consts).0 (ap (λ ts. all_fit ts i.consts) (sym listed) ∙ fine);
      tables = (tables_decided (functions_of s) i.tables).0 (ap (λ gs. tables_fit gs i.tables) (sym listed_too) ∙ is);
    },
    λ h. ap (λ gs. tables_fit gs i.tables) listed_too ∙ (tables_decided (functions_of s) i.tables).1 h.tables,
  )
