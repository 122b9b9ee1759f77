-- How the commands of the program end, and what is reported then.
use Rattle.std.specs.Prelude.{◌≡◌, ◌⊎◌, ◌++◌, ℕ, true, false, List, [], OnOk, Result, Ok, Err, string_bytes}
use Rattle.std.specs.Int.NonZero.{non_zero_u32_get}
use Rattle.segword.specs.Words.{IsFirstFault, IsValid, Shape}
use Rattle.segcli.specs.Explained.{SpellsWord, explanation}
use Rattle.segcli.specs.Faults.{end_of_run, fault_of_replay, fault_of_trace, fault_line, fault_status, is_write_end}
use Rattle.segcli.specs.Printing.{PrintOutcome, IsPrinted, IsFlushed}
use Rattle.segcli.specs.Notes.{note_of}
use Rattle.segcli.specs.Replayed.{IsPlanOf, replay_text}
use Rattle.segcli.specs.Totals.{text_in}
use Rattle.segreplay.specs.declared.fault.ReplayFault.{ReplayFault}
use Rattle.segreplay.specs.declared.fault.TraceFault.{TraceFault}
use Rattle.segreplay.specs.declared.run.Replayed.{Replayed}
use Rattle.segreplay.specs.declared.run.ReplayPlan.{ReplayPlan}
use Rattle.segreplay.specs.Caches.{IsReplayFault}
use Rattle.segreplay.specs.Replays.{IsReplay, is_memory_end, planned}
use Rattle.segtasks.specs.declared.asked.Replay.{Replay}
use Rattle.segscript.specs.Words.{EachTurn, EndsOnce, is_make_fault, is_read_fault, is_write_fault, RunFault}
use Rattle.segscript.specs.Words.{RunOutcome, ShapeIsAnswered}
use Rattle.segcli.specs.Streams.{HandedOut, Input, IsUnflushed, Output, Took}
use Rattle.segload.specs.Words.{IsLoad, Totals}
use Rattle.segcli.specs.declared.fault.ProgramFault.{ProgramFault}
use Rattle.segcli.specs.declared.fault.ProgramFault.TheVariants as fault
use Rattle.segtasks.specs.declared.asked.LoadTask.{LoadTask}
use Rattle.segtasks.specs.declared.asked.Word.{Word}
use Rattle.segcli.specs.declared.explanation.Meaning.{Meaning}
use Rattle.segtasks.specs.declared.task.Task.{Task}
use Rattle.segtasks.specs.declared.task.Task.TheVariants as command

-- ---- a script

-- The script of the reader was run, and the run ended so.
-- What was read and written belongs to that end.
-- Each turn was one of the pass that its line names.
-- A fault of creating the index comes before anything is read or written.
pub record RanScript {R W : Type 0} (i : Input R) (o : Output W) (shape : Shape)
    (end : Result (Unit {0}) RunFault) : Type 0 where
  pub outcome : RunOutcome shape (λ seen. HandedOut i seen) (i.source.is_at_end i.new)
      (λ text. Took o text) (o.sink.flushes o.old) (o.sink.flushes o.new) end
  pub each_turn : EachTurn shape (λ seen. HandedOut i seen) (i.source.is_at_end i.new)
      (λ text. Took o text) (o.sink.flushes o.old) (o.sink.flushes o.new) end
  pub read : i.source.has_failed i.new ≡ is_read_fault end
  pub write : o.sink.has_failed o.new ≡ is_write_fault end
  pub ended : EndsOnce (i.source.ends i.old) (i.source.ends i.new) end
  pub answered : ShapeIsAnswered shape end
  pub made : is_make_fault end ≡ true → (i.new ≡ i.old) × (o.new ≡ o.old)

abbrev pub ScriptOutcome : {R W : Type 0} → Input R → Output W → Shape
    → Result (Unit {0}) ProgramFault → Type 0
ScriptOutcome i o shape end =
    (ended : Result (Unit {0}) RunFault)
    × RanScript i o shape ended
    × (end ≡ end_of_run ended)

-- ---- a word, and other texts

-- The text was shown, or the writer failed.
abbrev pub ShowOutcome : List ℕ → {W : Type 0} → Output W → Result (Unit {0}) ProgramFault → Type 0
ShowOutcome text o (Ok _) = PrintOutcome text o {E = ProgramFault} (Ok tt)
ShowOutcome text o (Err fault.Write) = PrintOutcome text o (Err fault.Write)
ShowOutcome text o (Err _) = ⊥

-- A word that has a meaning was explained. Only a word that has none is a bad one.
abbrev pub WordOutcome : Word → {W : Type 0} → Output W → Result (Unit {0}) ProgramFault → Type 0
WordOutcome word o (Err fault.BadWord)
    = ((m : Meaning) → SpellsWord word.kind word.text.now m → ⊥) × Took o [] × IsUnflushed o
WordOutcome word o end =
    (m : Meaning) × SpellsWord word.kind word.text.now m × ShowOutcome (explanation m) o end

-- ---- a load

-- This is a fault of a load of this shape, in which no pass is stopped: the shape's first fault,
-- or no memory is left, but then the shape is valid.
abbrev pub IsFaultOfLoad : Shape → ProgramFault → Type 0
IsFaultOfLoad shape (fault.BadShape f) = IsFirstFault shape f
IsFaultOfLoad shape fault.OutOfMemory = IsValid shape
IsFaultOfLoad shape _ = ⊥

-- The totals were shown of this load, in its format. Or there are no totals, and nothing was written.
abbrev pub LoadOutcome : LoadTask → {W : Type 0} → Output W → Result (Unit {0}) ProgramFault
    → Type 0
LoadOutcome load o (Ok _) =
    (totals : Totals) × IsLoad load.shape load.seed (non_zero_u32_get load.keys) load.commands totals
    × ShowOutcome (text_in load.format totals) o (Ok tt)
LoadOutcome load o (Err fault.Write) =
    (totals : Totals) × IsLoad load.shape load.seed (non_zero_u32_get load.keys) load.commands totals
    × ShowOutcome (text_in load.format totals) o (Err fault.Write)
LoadOutcome load o (Err f) = IsFaultOfLoad load.shape f × Took o [] × IsUnflushed o

-- ---- a replay

-- how the command `replay` ends if the trace ended so
abbrev pub end_of_trace : Result (Unit {0}) TraceFault → Result (Unit {0}) ProgramFault
end_of_trace (Ok _) = Ok tt
end_of_trace (Err f) = Err (fault_of_trace f)

-- and if its totals were shown, or not
abbrev pub end_of_replay : Result (Unit {0}) ProgramFault → Result (Unit {0}) TraceFault
    → Result (Unit {0}) ProgramFault
end_of_replay (Ok _) end = end_of_trace end
end_of_replay (Err f) _ = Err f

-- The trace of the reader was replayed, and its totals were shown.
-- They are those of the commands before the trace's fault, if it has one.
-- If it has none, the reader came to its end. If memory is wanted, no totals are shown.
pub record ShowsReplay (asked : Replay) {R W : Type 0} (i : Input R) (o : Output W)
    (end : Result (Unit {0}) ProgramFault) : Type 0 where
  pub plan : ReplayPlan
  pub seen : List ℕ
  pub replayed : Replayed
  pub shown : Result (Unit {0}) ProgramFault
  pub planned : IsPlanOf asked plan
  pub read : HandedOut i seen
  pub replays : IsReplay plan (i.source.is_at_end i.new) seen replayed
  pub whole : OnOk replayed.end (i.source.is_at_end i.new)
  pub memory : is_memory_end replayed.end ≡ false
  pub shows : ShowOutcome (replay_text asked.format replayed.totals.items) o shown
  pub ended : end ≡ end_of_replay shown replayed.end

-- A replay was shown, or it failed before there were totals to show, and nothing was written: for
-- a cache that couldn't be made, and then nothing was read; or for memory.
abbrev pub ReplayOutcome : Replay → {R W : Type 0} → Input R → Output W
    → Result (Unit {0}) ProgramFault → Type 0
ReplayOutcome asked i o end =
    ShowsReplay asked i o end
    ⊎ ((plan : ReplayPlan) × (why : ReplayFault) × IsPlanOf asked plan
    × IsReplayFault (planned plan) (i.new ≡ i.old) why
    × (end ≡ Err (fault_of_replay why)) × Took o [] × IsUnflushed o)

-- ---- commands

abbrev pub CommandOutcome : {R W : Type 0} → Input R → Output W → Task
    → Result (Unit {0}) ProgramFault → Type 0
CommandOutcome i o (command.Script shape explain file) end = ScriptOutcome i o shape end
CommandOutcome i o (command.Load load) end =
    (i.new ≡ i.old) × (o.sink.has_failed o.new ≡ is_write_end end) × LoadOutcome load o end
CommandOutcome i o (command.Replay asked) end =
    (o.sink.has_failed o.new ≡ is_write_end end) × ReplayOutcome asked i o end
CommandOutcome i o (command.Word word) end =
    (i.new ≡ i.old) × (o.sink.has_failed o.new ≡ is_write_end end) × WordOutcome word o end
CommandOutcome i o (command.Show text) end =
    (i.new ≡ i.old) × (o.sink.has_failed o.new ≡ is_write_end end)
    × ShowOutcome (string_bytes text) o end

-- What follows this command if it ended so. A success has status 0, and nothing more is written.
-- For a fault the writer is flushed, and the fault's line is printed to the error writer,
-- with what the command has explained of the fault.
abbrev pub Concludes : {W E : Type 0} → Output W → Output E → Task
    → Result (Unit {0}) ProgramFault → ℕ → Type 0
Concludes o errors command (Ok _) status =
    (status ≡ 0) × (o.new ≡ o.old) × (errors.new ≡ errors.old)
Concludes o errors command (Err f) status =
    (status ≡ fault_status f) × IsFlushed o
    × IsPrinted (fault_line f ++ note_of command f) errors
