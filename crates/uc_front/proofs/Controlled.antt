-- A design as reports look at it.
use Rattle.std.proofs.Common.{◌≡◌, ℕ, List, subst}
use Rattle.uc_syntax.specs.declared.declaration.Module.{Module}
use Rattle.uc_syntax.specs.Contents.{Contents}
use Rattle.uc_meaning.specs.Lookup.{System, system_of}
use Rattle.uc_report.specs.declared.control_rules.ControlFault.{ControlFault}
use Rattle.uc_report.specs.ControlRules.{KeepsControl, IsFirstControlFault}

abbrev pub seen_as : List (List ℕ) → List ℕ → List Module → ℕ → System
seen_as names files modules main = record { names = names; files = files; modules = modules; main = main }

pub seen : (d : Contents) (main : ℕ) (names : List (List ℕ)) (files : List ℕ) (modules : List Module) → names ≡ d.names → files ≡ d.files → modules ≡ d.modules →
    seen_as names files modules main ≡ system_of d main
seen d main names files modules a b c = λ i. seen_as (a i) (b i) (c i) main

pub keeps_seen : (s system : System) → s ≡ system → KeepsControl s → KeepsControl system
keeps_seen s system same keeps = subst KeepsControl same keeps

pub broken_seen : (s system : System) (fault : ControlFault) → s ≡ system → IsFirstControlFault s fault → IsFirstControlFault system fault
broken_seen s system fault same first = subst (λ d. IsFirstControlFault d fault) same first
