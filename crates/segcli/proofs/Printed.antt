-- A text that is printed, and two of them, one behind the other.
use Rattle.std.proofs.Common.{◌≡◌, ◌∙◌, ◌<◌, ◌++◌, ℕ, List, [], length, Result, Ok, Err, is_err, true, ap, arith, sym, inl, inr, append_assoc, length-append, true≢false}
use Rattle.segscript.specs.Device.{TakesPart}
use Rattle.segscript.specs.Words.{IsBeginning, one_more}
use Rattle.segscript.specs.declared.device.Failed.{Failed}
use Rattle.segscript.specs.declared.device.Sink as Sink
use Rattle.segscript.proofs.Devices.{nothing_more}
use Rattle.segcli.specs.Streams.{output}
use Rattle.segcli.specs.Printing.{PrintOutcome}

begins_behind : (first part second : List ℕ) → IsBeginning part second → IsBeginning (first ++ part) (first ++ second)
begins_behind first part second (rest, is, some) = (rest, ap (λ l. first ++ l) is ∙ sym (append_assoc first part rest), some)

longer : (rest second : List ℕ) → 0 < length rest → 0 < length (rest ++ second)
longer rest second some = omega (arith, length-append {A = ℕ}, some)

begins_before : (first part second : List ℕ) → IsBeginning part first → IsBeginning part (first ++ second)
begins_before first part second (rest, is, some) = (rest ++ second, ap (λ l. l ++ second) is ∙ append_assoc part rest second, longer rest second some)

module _ {W : Type 0} (sink : Sink.Ghosts W) (more : (s t u : W) (a b : List ℕ) → sink.takes s a t → sink.takes t b u → sink.takes s (a ++ b) u) where
  -- a text was written, and the flush was tried
  pub flushed : (old mid new : W) (text : List ℕ) (end : Result (Unit {0}) Failed) → sink.takes old text mid
      → sink.flushes mid ≡ sink.flushes old → sink.takes mid [] new → sink.flushes new ≡ one_more (sink.flushes mid)
      → PrintOutcome text (output sink old new) end
  flushed old mid new text (Ok v) wrote same none once = (nothing_more sink.takes more old mid new text wrote none, once ∙ ap one_more same)
  flushed old mid new text (Err why) wrote same none once = inr (nothing_more sink.takes more old mid new text wrote none, once ∙ ap one_more same)

  -- the first text was cut short
  pub first_cut : (old new : W) (first second : List ℕ) (end : Result (Unit {0}) Failed) → is_err end ≡ true
      → TakesPart sink.takes old first new → sink.flushes new ≡ sink.flushes old
      → PrintOutcome (first ++ second) (output sink old new) end
  first_cut old new first second (Ok v) failed (part, begins, wrote) same = absurd (true≢false (sym failed))
  first_cut old new first second (Err why) failed (part, begins, wrote) same = inl (part, wrote, begins_before first part second begins, same)

  -- the second was printed, or that was tried
  pub both_printed : (old mid new : W) (first second : List ℕ) (end : Result (Unit {0}) Failed)
      → sink.takes old first mid → sink.flushes mid ≡ sink.flushes old
      → PrintOutcome second (output sink mid new) end
      → PrintOutcome (first ++ second) (output sink old new) end
  both_printed old mid new first second (Ok v) wrote same printed = (more old mid new first second wrote printed.0, printed.1 ∙ ap one_more same)
  both_printed old mid new first second (Err why) wrote same (inl (part, rest, begins, still)) =
      inl (
        first ++ part,
        more old mid new first part wrote rest,
        begins_behind first part second begins,
        still
            ∙ same,
      )
  both_printed old mid new first second (Err why) wrote same (inr (all, once)) = inr (more old mid new first second wrote all, once ∙ ap one_more same)
