-- A conditional whose arms are opened.
use Rattle.std.specs.Prelude.{ℕ, List}
use Rattle.uc_symstep.specs.declared.branch.Open.{Open}
use Rattle.uc_symstep.specs.declared.state.Symbolic.{Symbolic}

-- by the condition, what tells whether the first arm is taken, what tells it of the other one, and the cells
abbrev pub opened : Symbolic → ℕ → ℕ → ℕ → List ℕ → Open
opened s condition inner other cells = record {
  condition = condition;
  other = other;
  first = record { cells = s.cells; path = s.path; taken = inner; choices = s.choices; sites = s.sites; next = s.next };
  cells = cells;
  path = s.path;
  taken = s.taken;
}
