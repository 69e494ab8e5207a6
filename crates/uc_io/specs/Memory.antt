-- Texts and a sink in memory.
use Rattle.std.specs.Prelude.{ℕ, List, [], ◌∷◌, Option, Some, None, String, Vec, string_bytes, slice_get, drop, if◌then◌else◌}
use Rattle.std.specs.Str.{bytes_eq}
use Rattle.std.specs.declared.alloc.Global.{Global}
use Rattle.uc_io.specs.Calls.{Plan}
use Rattle.uc_io.specs.declared.calls.Calls.{Calls}
use Rattle.uc_io.specs.declared.mem_sink.MemSink.{MemSink}
use Rattle.uc_io.specs.declared.mem_texts.MemTexts.{MemTexts}
use Rattle.uc_io.specs.declared.mem_texts.Reading.{Reading}

-- a name and the bytes under it
abbrev pub File : Type 0
File = String Global × Vec ℕ Global

-- the bytes of the first text of a name
abbrev pub held_in : List File → List ℕ → Option (List ℕ)
held_in [] name = None
held_in (file ∷ files) name = if bytes_eq (string_bytes file.0) name then Some file.1.items else held_in files name

abbrev pub bytes_of : Option File → List ℕ
bytes_of None = []
bytes_of (Some file) = file.1.items

-- what is left of the open text
abbrev pub left_in : List File → Option Reading → List ℕ
left_in files None = []
left_in files (Some place) = drop place.position (bytes_of (slice_get files place.file))

abbrev pub plan_of : Calls → Plan
plan_of calls = record { piece = calls.piece; fails = calls.fails.items; next = calls.next }

-- the meanings of texts in memory

abbrev pub texts_held : MemTexts → List ℕ → Option (List ℕ)
texts_held texts = held_in texts.files.items

abbrev pub texts_left : MemTexts → List ℕ
texts_left texts = left_in texts.files.items texts.reading

abbrev pub texts_faults : MemTexts → ℕ
texts_faults texts = texts.calls.faults

abbrev pub texts_plan : MemTexts → Plan
texts_plan texts = plan_of texts.calls

-- and those of a sink in memory

abbrev pub sink_taken : MemSink → List ℕ
sink_taken sink = sink.taken.items

abbrev pub sink_faults : MemSink → ℕ
sink_faults sink = sink.calls.faults

abbrev pub sink_plan : MemSink → Plan
sink_plan sink = plan_of sink.calls
