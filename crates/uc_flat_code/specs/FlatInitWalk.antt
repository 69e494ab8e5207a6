-- What steps of the walk over init code give, and how names get back what they stood for before.
use Rattle.std.specs.Prelude.{◌≡◌, ℕ, List, [], ◌∷◌, slice_set, Option, Some, None, Result, Ok, Err}
use Rattle.uc_flat_expressions.specs.declared.typed.Meant.{Meant}
use Rattle.uc_flat_expressions.specs.declared.typed.FlatError.{FlatError}
use Rattle.uc_flat_expressions.specs.declared.typed.FlatError.TheVariants.{NoMemory, NotBuilt}
use Rattle.uc_flat_code.specs.declared.made.MadeCode.{MadeCode}
use Rattle.uc_flat_code.specs.declared.locals.Shadowed.{Shadowed}
use Rattle.uc_flat_code.specs.Init.{Made}

abbrev pub with_names : MadeCode → List Meant → Made
with_names a names = record { code = a.code; further = a.further; names = names }

-- what is asked for, with what names stand for behind it, or that it is not there; want of memory says nothing
abbrev pub IsWalked : Option Made → List Meant → Result MadeCode FlatError → Type 0
IsWalked o names (Ok a) = o ≡ Some (with_names a names)
IsWalked o names (Err NotBuilt) = o ≡ None
IsWalked o names (Err NoMemory) = Unit {0}

-- what a name stands for, to be put aside
abbrev pub aside : ℕ → Option Meant → List Shadowed
aside name None = []
aside name (Some meant) = record { name = name; meant = meant } ∷ []

-- names with what they stood for before, which was put aside from the first to the last
unfoldable pub undone : List Shadowed → List Meant → List Meant
undone [] names = names
undone (s ∷ ss) names = slice_set (undone ss names) s.name s.meant
