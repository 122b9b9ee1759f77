-- A text that was shown, as the end of the command that shows it.
use Rattle.std.proofs.Common.{◌≡◌, ◌∙◌, ℕ, List, Result, Ok, Err, subst}
use Rattle.std.specs.Int.NonZero.{non_zero_u32_get}
use Rattle.segload.specs.Words.{IsLoad, Totals}
use Rattle.segcli.specs.Explained.{SpellsWord, explanation}
use Rattle.segcli.specs.Totals.{text_in}
use Rattle.segcli.specs.Commands.{LoadOutcome, ShowOutcome, WordOutcome}
use Rattle.segcli.specs.Streams.{Output}
use Rattle.segtasks.specs.declared.asked.LoadTask.{LoadTask}
use Rattle.segtasks.specs.declared.asked.Word.{Word}
use Rattle.segcli.specs.declared.explanation.Meaning.{Meaning}
use Rattle.segcli.specs.declared.fault.ProgramFault.{ProgramFault}
use Rattle.segcli.specs.declared.fault.ProgramFault.TheVariants as fault

-- the explanation of a meaning
module _ (word : Word) (m : Meaning) {W : Type 0} (o : Output W) where
  word_ends : (end : Result (Unit {0}) ProgramFault) → SpellsWord word.kind word.text.now m → ShowOutcome (explanation m) o end → WordOutcome word o end
  word_ends (Err fault.BadWord) says shown = absurd shown
  word_ends end says shown = (m, says, shown)

  pub word_shown : (end : Result (Unit {0}) ProgramFault) {line : List ℕ} → SpellsWord word.kind word.text.now m → line ≡ explanation m → ShowOutcome line o end → WordOutcome word o end
  word_shown end says is shown = word_ends end says (subst (λ l. ShowOutcome l o end) is shown)

-- the totals of a load
module _ (load : LoadTask) {W : Type 0} (o : Output W) where
  load_ends : (totals : Totals) (end : Result (Unit {0}) ProgramFault)
      → IsLoad load.shape load.seed (non_zero_u32_get load.keys) load.commands totals
      → ShowOutcome (text_in load.format totals) o end → LoadOutcome load o end
  load_ends totals (Ok v) is shown = (totals, is, shown)
  load_ends totals (Err fault.Write) is shown = (totals, is, shown)
  load_ends totals (Err f) is shown = absurd shown

  pub load_shown : (end : Result (Unit {0}) ProgramFault) {text lines : List ℕ} → (totals : Totals)
      × IsLoad load.shape load.seed (non_zero_u32_get load.keys) load.commands totals
      × (text ≡ text_in load.format totals) → lines ≡ text → ShowOutcome lines o end
      → LoadOutcome load o end
  load_shown end told same shown = load_ends told.0 end told.1 (subst (λ l. ShowOutcome l o end) (same ∙ told.2) shown)
