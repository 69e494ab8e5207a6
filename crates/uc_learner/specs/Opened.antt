-- What is known of the problem that a meter has opened, and of its log.
use Rattle.std.specs.Prelude.{◌≡◌, ℕ, List, [], ◌∷◌, ◌++◌, Option, None, Some}
use Rattle.uc_ops.specs.declared.node.Node.{Node}
use Rattle.uc_log.specs.declared.entry.Entry.{Entry}
use Rattle.uc_log.specs.declared.entry.Entry.TheVariants.{Learnt}
use Rattle.uc_log.specs.Problems.{Question, IsQuestion}
use Rattle.uc_log.specs.Entries.{Known, known_of, known_after, Accepts}

-- what is known at first: nothing where no problem is open
abbrev pub opened_known : Option Question → Known
opened_known None = record { circuit = []; atoms = []; clauses = [] }
opened_known (Some q) = known_of q

-- what is known after the entries of the log
abbrev pub known_now : Option Question → List Entry → Known
known_now opened entries = known_after (opened_known opened) entries

-- the log is accepted for the opened problem
abbrev pub AcceptsFor : List Node → Option Question → List Entry → Type 0
AcceptsFor nodes None entries = ⊥
AcceptsFor nodes (Some q) entries = Accepts nodes q entries

-- the opened problem keeps what each problem keeps
abbrev pub HasQuestion : Option Question → Type 0
HasQuestion opened = (q : Question) → opened ≡ Some q → IsQuestion q

-- the last entry is an empty clause
pub record GivesEmpty (entries : List Entry) : Type 0 where
  pub before : List Entry
  pub hints : List ℕ
  pub is : entries ≡ before ++ Learnt [] hints ∷ []
