-- All init code, in terms of that of the instances inside an instance and of its own blocks.
use Rattle.std.proofs.Common.{◌≡◌, ℕ, zero, suc, ◌-◌, List, [], ◌∷◌, ◌++◌, map, length, take, drop, Some, None, refl, ap, ◌∙◌, sym, arith}
use Rattle.std.specs.List.{flat_map}
use Rattle.uc_syntax.specs.declared.statement.Stmt.{Stmt}
use Rattle.uc_syntax.specs.declared.declaration.Decl.{Decl}
use Rattle.uc_syntax.specs.declared.declaration.Module.{Module}
use Rattle.uc_syntax.proofs.Added.{append_nil}
use Rattle.std.proofs.lemmas.List.{length-map}
use Rattle.uc_values.specs.declared.ty.Ty.{Ty}
use Rattle.uc_values.specs.declared.value.Value.{Value}
use Rattle.uc_meaning.specs.declared.scope.Scope.{Scope}
use Rattle.uc_meaning.specs.declared.scope.Site.{Site}
use Rattle.uc_meaning.specs.declared.scope.Interp.{Interp}
use Rattle.uc_meaning.specs.Lookup.{System, init_in, main_module}
use Rattle.uc_meaning.specs.Cells.{InstanceAt, instances_below, main_instance, as_list, longest_chain, cells_of}
use Rattle.uc_meaning.specs.Code.{Running, Execution, Ending, Goes, Stopped, Unfit, then_run, run_each, run}
use Rattle.uc_meaning.specs.Steps.{init, init_from, scope_of, state_of}
use Rattle.uc_meaning.specs.Ends.{cell_types, init_begun}
use Rattle.uc_meaning.specs.OverflowsRuns.{RunMet, met_each, met_after, run_met}
use Rattle.uc_meaning.specs.Checks.{traced_init, init_met, init_met_from}
use Rattle.uc_runs.specs.Levels.{run_at, one_at}
use Rattle.uc_runs.proofs.Forms.{run_none, run_next, met_none, met_in_order}
use Rattle.uc_runs.proofs.Places.{in_turn}
use Rattle.uc_executions.specs.Starts.{inits, inits_met, own_init, own_init_met}

-- code behind other code runs from where the other goes on
run_in_order : (n : ℕ) (system : System) (front back : List Stmt) (r : Running) → run_at n system (front ++ back) r ≡ then_run (run_at n system front r) (run_at n system back)
run_in_order n system [] back r = ap (λ e. then_run e (run_at n system back)) (sym (run_none n system r))
run_in_order n system (s ∷ front) back r =
    run_next n system s (front ++ back) r
    ∙ (λ i. then_run (one_at n system s r) (λ q. run_in_order n system front back q i))
    ∙ sym (in_turn (one_at n system s r) (run_at n system front) (run_at n system back))
    ∙ ap (λ e. then_run e (run_at n system back)) (sym (run_next n system s front r))

module _ (system : System) where
  abbrev pub block_of : Decl → Execution
  block_of d = run system (init_in d)

  abbrev pub blocks_of : List Decl → Execution
  blocks_of ds = run system (flat_map init_in ds)

  abbrev pub block_met : Decl → RunMet
  block_met d = run_met system (init_in d)

  abbrev pub blocks_met : List Decl → RunMet
  blocks_met ds = run_met system (flat_map init_in ds)

  pub no_block : (r : Running) → blocks_of [] r ≡ Goes r
  no_block r = run_none longest_chain system r

  pub next_block : (d : Decl) (ds : List Decl) (r : Running) → blocks_of (d ∷ ds) r ≡ then_run (block_of d r) (blocks_of ds)
  next_block d ds r = run_in_order longest_chain system (init_in d) (flat_map init_in ds) r

  pub no_block_met : (r : Running) → blocks_met [] r ≡ []
  no_block_met r = met_none longest_chain system r

  pub next_block_met : (d : Decl) (ds : List Decl) (r : Running) → blocks_met (d ∷ ds) r ≡ block_met d r ++ met_after (block_of d r) (blocks_met ds)
  next_block_met d ds r = met_in_order longest_chain system (init_in d) (flat_map init_in ds) r

-- instances one after another, as they are listed
module _ {A : Type 0} (meant : A → InstanceAt) (n : ℕ) (system : System) where
  abbrev pub init_one : A → Execution
  init_one a = init_from n system (meant a)

  abbrev pub init_all : List A → Execution
  init_all xs = inits n system (map meant xs)

  abbrev pub init_one_met : A → RunMet
  init_one_met a = init_met_from n system (meant a)

  abbrev pub init_all_met : List A → RunMet
  init_all_met xs = inits_met n system (map meant xs)

  pub no_init : (r : Running) → init_all [] r ≡ Goes r
  unfolding run_each
  no_init r = refl

  pub next_init : (a : A) (xs : List A) (r : Running) → init_all (a ∷ xs) r ≡ then_run (init_one a r) (init_all xs)
  unfolding run_each
  next_init a xs r = refl

  pub no_init_met : (r : Running) → init_all_met [] r ≡ []
  unfolding met_each
  no_init_met r = refl

  pub next_init_met : (a : A) (xs : List A) (r : Running) → init_all_met (a ∷ xs) r ≡ init_one_met a r ++ met_after (init_one a r) (init_all_met xs)
  unfolding met_each
  next_init_met a xs r = refl

-- an instance behind those inside it
inits_more : (n : ℕ) (system : System) (here : InstanceAt) (r : Running) →
    init_from (suc n) system here r ≡ then_run (inits n system (instances_below system here) r) (own_init system here)
unfolding init_from
inits_more n system here r = refl

inits_met_more : (n : ℕ) (system : System) (here : InstanceAt) (r : Running) →
    init_met_from (suc n) system here r
    ≡ inits_met n system (instances_below system here) r ++ met_after (inits n system (instances_below system here) r) (own_init_met system here)
unfolding init_met_from
inits_met_more n system here r = refl

pub some_init : (n : ℕ) (system : System) (here : InstanceAt) (r : Running) → (n ≡ 0 → ⊥) →
    then_run (inits (n - 1) system (instances_below system here) r) (own_init system here) ≡ init_from n system here r
some_init zero system here r some = absurd (some refl)
some_init (suc n) system here r some =
    let one : suc n - 1 ≡ n = omega arith in
    ap (λ k. then_run (inits k system (instances_below system here) r) (own_init system here)) one ∙ sym (inits_more n system here r)

pub some_init_met : (n : ℕ) (system : System) (here : InstanceAt) (r : Running) → (n ≡ 0 → ⊥) →
    inits_met (n - 1) system (instances_below system here) r ++ met_after (inits (n - 1) system (instances_below system here) r) (own_init_met system here)
    ≡ init_met_from n system here r
some_init_met zero system here r some = absurd (some refl)
some_init_met (suc n) system here r some =
    let one : suc n - 1 ≡ n = omega arith in
    ap (λ k. inits_met k system (instances_below system here) r ++ met_after (inits k system (instances_below system here) r) (own_init_met system here)) one
    ∙ sym (inits_met_more n system here r)

pub stopped_init : (n : ℕ) (system : System) (here : InstanceAt) (r : Running) → n ≡ 0 → Stopped ≡ init_from n system here r
unfolding init_from
stopped_init n system here r none = sym (ap (λ k. init_from k system here r) none)

pub stopped_init_met : (n : ℕ) (system : System) (here : InstanceAt) (r : Running) → n ≡ 0 → init_met_from n system here r ≡ []
unfolding init_met_from
stopped_init_met n system here r none = ap (λ k. init_met_from k system here r) none

-- main, where there is one
goes_on : (e : Ending) → then_run e Goes ≡ e
goes_on (Goes r) = refl
goes_on Stopped = refl
goes_on (Unfit left) = refl

nothing_behind : (e : Ending) → met_after e (λ r. []) ≡ []
nothing_behind (Goes r) = refl
nothing_behind Stopped = refl
nothing_behind (Unfit left) = refl

pub main_init : (system : System) (m : Module) (r : Running) → Some m ≡ main_module system → init_from longest_chain system (main_instance m) r ≡ init system r
unfolding init run_each
main_init system m r some =
    sym (goes_on (init_from longest_chain system (main_instance m) r))
    ∙ ap (λ o. run_each (map (λ n. init_from longest_chain system (main_instance n)) (as_list o)) r) some

pub main_init_met : (system : System) (m : Module) (r : Running) → Some m ≡ main_module system → init_met_from longest_chain system (main_instance m) r ≡ init_met system r
unfolding init_met met_each
main_init_met system m r some =
    sym (append_nil (init_met_from longest_chain system (main_instance m) r))
    ∙ ap (λ ws. init_met_from longest_chain system (main_instance m) r ++ ws) (sym (nothing_behind (init_from longest_chain system (main_instance m) r)))
    ∙ ap (λ o. met_each (map (λ n. traced_init longest_chain system (main_instance n) (init_met_from longest_chain system (main_instance n))) (as_list o)) r) some

pub no_main : (system : System) (r : Running) → None ≡ main_module system → Goes r ≡ init system r
unfolding init run_each
no_main system r none = ap (λ o. run_each (map (λ n. init_from longest_chain system (main_instance n)) (as_list o)) r) none

pub no_main_met : (system : System) (r : Running) → None ≡ main_module system → init_met system r ≡ []
unfolding init_met met_each
no_main_met system r none =
    sym (ap (λ o. met_each (map (λ n. traced_init longest_chain system (main_instance n) (init_met_from longest_chain system (main_instance n))) (as_list o)) r) none)

-- where init code begins
pub place : (system : System) (i : Interp) (choices : List Value) (count : ℕ) → count ≡ length (cells_of system) → (s : Scope) → s ≡ scope_of i [] (state_of (take count choices)) →
    (sites : List Site) → sites ≡ [] →
    let r : Running = record { scope = s; sites = sites; left = drop count choices } in r ≡ init_begun system i choices
place system i choices count cells s is sites none =
    (λ k. record { scope = is k; sites = none k; left = drop count choices })
    ∙ ap (λ n. record { scope = scope_of i [] (state_of (take n choices)); sites = []; left = drop n choices }) cells

pub as_many_cells : (system : System) (types : List Ty) → types ≡ cell_types system → length types ≡ length (cells_of system)
as_many_cells system types is = ap length is ∙ length-map (cells_of system) (λ c. c.type)
