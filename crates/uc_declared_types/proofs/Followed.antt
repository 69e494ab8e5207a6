-- No way through defines is longer than the declarations of the module.
use Rattle.std.proofs.Common.{◌≡◌, ℕ, zero, suc, Bool, true, false, List, length, Option, Some, None, refl, ap, sym, subst, ◌∙◌}
use Rattle.uc_syntax.specs.declared.expression.Expr.{Expr}
use Rattle.uc_syntax.specs.declared.declaration.Module.{Module}
use Rattle.uc_meaning.specs.Lookup.{System, Defined}
use Rattle.uc_rules.specs.Names.{Called, CalledFunction, CalledDefine, called_named}
use Rattle.uc_rules.specs.Reads.{body_reads, define_reads, parameter_names, reads_through}
use Rattle.uc_declared_types.specs.AliasLaw.{IsAmong}
use Rattle.uc_declared_types.specs.WayLaws.{DefinesAreFollowed}
use Rattle.uc_declared_types.proofs.Rounds.{Rounds, settled}
use Rattle.uc_declared_types.proofs.Calls.{call_declared, define_among, defined_names, names_most}
use Rattle.uc_declared_types.proofs.Bodies.{reads_grow}

nothing : {A : Type 0} → true ≡ false → A
nothing h = cc

same_bool : (b c : Bool) → (b ≡ true → c ≡ true) → (c ≡ true → b ≡ true) → b ≡ c
same_bool true c h k = sym (h refl)
same_bool false true h k = nothing (sym (k refl))
same_bool false false h k = refl

module _ (system : System) (m : Module) where
  abbrev round : ℕ → ℕ → Bool
  round n f = reads_through n system m f

  body_grows : (by with' : ℕ → Bool) → ((x : ℕ) → by x ≡ true → with' x ≡ true) → (o : Option Called) → body_reads system m by o ≡ true → body_reads system m with' o ≡ true
  body_grows by with' more (Some (CalledDefine d)) h = reads_grow system m (parameter_names d.parameters) by with' more d.body h
  body_grows by with' more (Some (CalledFunction s)) h = h
  body_grows by with' more None h = h

  begins : (f : ℕ) → round 0 f ≡ false
  unfolding reads_through
  begins f = refl

  grows : (n : ℕ) (f : ℕ) → round n f ≡ true → round (suc n) f ≡ true
  unfolding reads_through
  grows zero f h = nothing (sym h)
  grows (suc n) f h = body_grows (round n) (round (suc n)) (grows n) (called_named system m f) h

  by_called : (by : ℕ → Bool) (f : ℕ) (o : Option Called) → called_named system m f ≡ o → body_reads system m by o ≡ true → IsAmong f (defined_names m.decls)
  by_called by f None is h = nothing (sym h)
  by_called by f (Some (CalledFunction s)) is h = nothing (sym h)
  by_called by f (Some (CalledDefine d)) is h = define_among f d m.decls (sym (call_declared system m f) ∙ is)

  within : (n : ℕ) (f : ℕ) → round n f ≡ true → IsAmong f (defined_names m.decls)
  unfolding reads_through
  within zero f h = nothing (sym h)
  within (suc n) f h = by_called (round n) f (called_named system m f) refl h

  stays : (n : ℕ) → ((f : ℕ) → round n f ≡ round (suc n) f) → (f : ℕ) → round (suc n) f ≡ round (suc (suc n)) f
  unfolding reads_through
  stays n same f =
      same_bool (round (suc n) f) (round (suc (suc n)) f) (grows (suc n) f)
      (body_grows (round (suc n)) (round n) (λ x h. same x ∙ h) (called_named system m f))

  rounds : Rounds round (defined_names m.decls)
  rounds = record { begins = begins; grows = grows; within = within; stays = stays }

  pub define_followed : (f : ℕ) → define_reads system m f ≡ body_reads system m (define_reads system m) (called_named system m f)
  unfolding reads_through
  define_followed f = settled round (defined_names m.decls) rounds (length m.decls) (names_most m.decls) f

pub defines_are_followed : DefinesAreFollowed
defines_are_followed system m f = define_followed system m f
