-- How a run ends.
use Rattle.std.specs.Prelude.{◌≡◌, ◌⊎◌, ℕ, ◌+◌, ◌*◌, ◌≤◌, Bool, IsTrue, List, ◌++◌, length, Option, Some, None}
use Rattle.uc_io.specs.Faults.{Rose}
use Rattle.uc_io.specs.Sink.{GrewByFront}
use Rattle.uc_report.specs.Verdicts.{out_of_budget}
use Rattle.uclid.specs.declared.answer.Session.{Session}
use Rattle.uclid.specs.declared.answer.Answer.{Answer}
use Rattle.uclid.specs.declared.top.Outcome.{Outcome}
use Rattle.uclid.specs.Answers.{IsAnswer, status_of, session_of, text_of, line_budget}

-- What a run saw of its texts: whether they tell their bytes, what they hold under each name, and how many faults they counted before it and after it.
pub record TextsSeen : Type 0 where
  pub tells : Bool
  pub held : List ℕ → Option (List ℕ)
  pub faults : ℕ
  pub faults_after : ℕ

-- What a run saw of its sink: whether it tells its bytes, those that it took before the run and after it, and how many faults it counted.
pub record SinkSeen : Type 0 where
  pub tells : Bool
  pub taken : List ℕ
  pub taken_after : List ℕ
  pub faults : ℕ
  pub faults_after : ℕ

-- the whole text was written
abbrev pub Wrote : SinkSeen → List ℕ → Type 0
Wrote sink text = IsTrue sink.tells → sink.taken_after ≡ sink.taken ++ text

-- a front of the text was written, and the sink counted a fault
abbrev pub WroteFront : SinkSeen → List ℕ → Type 0
WroteFront sink text = (IsTrue sink.tells → GrewByFront sink.taken sink.taken_after text) × Rose sink.faults sink.faults_after

-- nothing was written
abbrev pub WroteNothing : SinkSeen → Type 0
WroteNothing sink = IsTrue sink.tells → sink.taken_after ≡ sink.taken

-- All of the answer's text was written and the status is its own, or a front of it was written before a fault of the sink, and the status is 6.
abbrev pub IsWritten : List (List ℕ) → Answer → SinkSeen → ℕ → Type 0
IsWritten words a sink status = ((status ≡ status_of a) × Wrote sink (text_of words a)) ⊎ ((status ≡ 6) × WroteFront sink (text_of words a))

-- the right answer is there with its session, and it was written
pub record EndsBy (texts : TextsSeen) (words : List (List ℕ)) (sink : SinkSeen) (o : Outcome) (a : Answer) : Type 0 where
  pub right : IsAnswer texts.tells words texts.held a
  pub session : o.session ≡ session_of a
  pub written : IsWritten words a sink o.status

-- Nothing was written: the status is 5 after a fault of the texts, and 7 for want of memory.
pub record EndsEarly (texts : TextsSeen) (sink : SinkSeen) (o : Outcome) : Type 0 where
  pub session : o.session ≡ None
  pub status : ((o.status ≡ 5) × Rose texts.faults texts.faults_after) ⊎ (o.status ≡ 7)
  pub written : WroteNothing sink

-- what writing an answer leads to
abbrev pub HasWritten : List (List ℕ) → Answer → SinkSeen → Outcome → Type 0
HasWritten words a sink o =
    ((o.session ≡ session_of a) × IsWritten words a sink o.status)
    ⊎ ((o.session ≡ None) × (o.status ≡ 7) × WroteNothing sink)

-- For a session the meter rose by at least the budget for each line that is undecided by it, and by at most the budget for each line. Without one it did not fall.
abbrev pub HasPaidFor : ℕ → ℕ → Option Session → Type 0
HasPaidFor before after (Some s) = (before + line_budget * out_of_budget s.report.lines ≤ after) × (after ≤ before + line_budget * length s.report.lines)
HasPaidFor before after None = before ≤ after

abbrev pub HasPaid : ℕ → ℕ → Outcome → Type 0
HasPaid before after o = HasPaidFor before after o.session

-- How a run ends: by the right answer, or early.
abbrev pub Ends : TextsSeen → List (List ℕ) → SinkSeen → Outcome → Type 0
Ends texts words sink o = ((a : Answer) × EndsBy texts words sink o a) ⊎ EndsEarly texts sink o
