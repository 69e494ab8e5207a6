-- What a design holds, and what it keeps.
use Rattle.std.specs.Prelude.{◌≡◌, ℕ, nat_lt, List, map, length, IsTrue}
use Rattle.uc_syntax.specs.declared.declaration.Module.{Module}
use Rattle.uc_syntax.specs.WrittenTypes.{labels_of}
use Rattle.uc_syntax.specs.Mentions.{OfName, NamesBelow, FilesBelow, modules_mention}

-- The texts of the names, the names of the files, the labels of each enum that is written, and the modules.
pub record Contents : Type 0 where
  pub names : List (List ℕ)
  pub files : List ℕ
  pub enums : List (List ℕ)
  pub modules : List Module

-- Every name number is one of the names, every place is in one of the files, and the enums are those that are written.
pub record IsDesign (names : List (List ℕ)) (files : List ℕ) (enums : List (List ℕ)) (modules : List Module) : Type 0 where
  pub files_named : NamesBelow (length names) (map OfName files)
  pub names_known : NamesBelow (length names) (modules_mention modules)
  pub files_known : FilesBelow (length files) (modules_mention modules)
  pub enums_written : enums ≡ labels_of modules

-- the design of these names, files and modules
abbrev pub design_of : List (List ℕ) → List ℕ → List Module → Contents
design_of names files modules = record { names = names; files = files; enums = labels_of modules; modules = modules }
