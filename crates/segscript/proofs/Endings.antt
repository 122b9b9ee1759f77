-- How a run over a server ends: as the turns of the model say, and as the turns of its passes say.
use Rattle.std.proofs.Common.{Ok, Err, Result, ◌≡◌, ℕ, false, List, [], ◌∷◌, ◌++◌, inl, inr, refl, sym, ◌∙◌, ap, subst, subst₂}
use Rattle.std.proofs.lemmas.Bool.{true≢false}
use Rattle.segword.specs.Words.{Shape}
use Rattle.segmodel.specs.Words.{fresh, Outcome, Runs, State}
use Rattle.segbase.specs.Words.{Pass}
use Rattle.segindex.specs.Words.{board_of, Index, IsNew, shape_of}
use Rattle.segscript.specs.Spelling.{PassTurn}
use Rattle.segscript.specs.Script.{ServesLines, Steps, ServesScript}
use Rattle.segscript.specs.Passes.{OneTakes}
use Rattle.segscript.specs.EachTurn.{EachTurn}
use Rattle.segscript.specs.Run.{ServesWholeLines, StopsWriting, EndOfRun, RunOutcome, is_make_fault}
use Rattle.segscript.specs.Server.{TurnsOne, state}
use Rattle.segscript.specs.declared.server.Server.{Server}
use Rattle.segscript.specs.Words.{RunFault}
use Rattle.segscript.specs.declared.fault.RunFault.TheVariants as fault

-- ---- what each turn keeps

-- It is so at the end of a run too.
module _ (passes : ℕ) {S : Type 0} (step : S → PassTurn → Outcome → S → Type 0) (KeepsLaw : S → Type 0)
    (each : (old new : S) (said : PassTurn) (outcome : Outcome) → KeepsLaw old → step old said outcome new → KeepsLaw new)
  where
    runs_keep : (old new : S) (turns : List PassTurn) (outcomes : List Outcome) → KeepsLaw old → Runs step old turns outcomes new → KeepsLaw new
    runs_keep old new [] [] kept run = subst KeepsLaw (sym run) kept
    runs_keep old new [] (r ∷ rs) kept run = absurd run
    runs_keep old new (t ∷ ts) [] kept run = absurd run
    runs_keep old new (t ∷ ts) (r ∷ rs) kept run = runs_keep run.0 new ts rs (each old run.0 t r kept run.1) run.2

    serving_keeps : (old : S) → KeepsLaw old → (new : S) (lines : List (List ℕ)) (text : List ℕ) → ServesLines passes step old lines text new → KeepsLaw new
    serving_keeps old kept new lines text served = runs_keep old new served.turns served.outcomes kept served.run

    ends_keep : (old new : S) → KeepsLaw old → (Read : List ℕ → Type 0) (Ends : Type 0) (Wrote : List ℕ → Type 0) (before flushes : ℕ) (result : Result (Unit {0}) RunFault)
        → EndOfRun passes step old new Read Ends Wrote before flushes result → is_make_fault result ≡ false → KeepsLaw new
    ends_keep old new kept Read Ends Wrote before flushes (Ok u) out made = serving_keeps old kept new (out.6.lines ++ out.6.last ∷ []) out.1 out.6.served
    ends_keep old new kept Read Ends Wrote before flushes (Err fault.Read) out made = serving_keeps old kept new out.5.lines out.1 out.5.served
    ends_keep old new kept Read Ends Wrote before flushes (Err fault.TooLong) out made = serving_keeps old kept new out.5.lines out.1 out.5.served
    ends_keep old new kept Read Ends Wrote before flushes (Err (fault.Line n)) out made = serving_keeps old kept new out.5.lines out.1 out.5.served
    ends_keep old new kept Read Ends Wrote before flushes (Err fault.Write) out made = elim out.4 [
      | inl part ↦
          let off = part.1 in
          let before_it = serving_keeps old kept off.state off.lines off.told off.earlier in
          serving_keeps off.state before_it new (off.line ∷ []) off.reply off.served
      | inr all ↦ serving_keeps old kept new (all.2.lines ++ all.2.last ∷ []) out.1 all.2.served
    ]
    ends_keep old new kept Read Ends Wrote before flushes (Err (fault.Make f)) out made = absurd (true≢false made)

-- ---- turns that are read in another way

-- Each step of what is behind a script is one of what it is read as, and what is kept stays so. Then a run ends for both in one way.
module _ (passes : ℕ) {S T : Type 0} (step : S → PassTurn → Outcome → S → Type 0) (read_step : T → PassTurn → Outcome → T → Type 0) (read : S → T)
    (KeepsLaw : S → Type 0) (each : (old new : S) (said : PassTurn) (outcome : Outcome) → KeepsLaw old → step old said outcome new → KeepsLaw new × read_step (read old) said outcome (read new))
  where
    runs_as : (old new : S) (turns : List PassTurn) (outcomes : List Outcome) → KeepsLaw old → Runs step old turns outcomes new → Runs read_step (read old) turns outcomes (read new)
    runs_as old new [] [] kept run = ap read run
    runs_as old new [] (r ∷ rs) kept run = absurd run
    runs_as old new (t ∷ ts) [] kept run = absurd run
    runs_as old new (t ∷ ts) (r ∷ rs) kept run = let one = each old run.0 t r kept run.1 in (read run.0, one.1, runs_as run.0 new ts rs one.0 run.2)

    module _ (old : S) (kept : KeepsLaw old) where
      serves_as : (new : S) (lines : List (List ℕ)) (text : List ℕ) → ServesLines passes step old lines text new → ServesLines passes read_step (read old) lines text (read new)
      serves_as new lines text served = record {
        turns = served.turns;
        outcomes = served.outcomes;
        says = served.says;
        run = runs_as old new served.turns served.outcomes kept served.run;
        told = served.told;
      }

    module _ (old new : S) (kept : KeepsLaw old) where
      comes_as : (seen text : List ℕ) → ServesWholeLines passes step old new seen text → ServesWholeLines passes read_step (read old) (read new) seen text
      comes_as seen text here = record { lines = here.lines; rest = here.rest; splits = here.splits; short = here.short; served = serves_as old kept new here.lines text here.served }

      completes_as : (script text : List ℕ) → ServesScript passes step old new script text → ServesScript passes read_step (read old) (read new) script text
      completes_as script text all = record { lines = all.lines; last = all.last; splits = all.splits; served = serves_as old kept new (all.lines ++ all.last ∷ []) text all.served }

      stops_as : (Ends : Type 0) (seen part : List ℕ) → StopsWriting passes step old new Ends seen part → StopsWriting passes read_step (read old) (read new) Ends seen part
      stops_as Ends seen part off = record {
        lines = off.lines;
        line = off.line;
        after = off.after;
        state = read off.state;
        told = off.told;
        begun = off.begun;
        reply = off.reply;
        whole = off.whole;
        each = off.each;
        unbroken = off.unbroken;
        known = off.known;
        earlier = serves_as old kept off.state off.lines off.told off.earlier;
        served = serves_as off.state (serving_keeps passes step KeepsLaw
            (λ a b t r law took. (each a b t r law took).0) old kept off.state off.lines off.told off.earlier) new
            (off.line ∷ []) off.reply off.served;
        begins = off.begins;
        written = off.written;
      }

      pub ends_as : (Read : List ℕ → Type 0) (Ends : Type 0) (Wrote : List ℕ → Type 0) (before flushes : ℕ) (result : Result (Unit {0}) RunFault)
          → EndOfRun passes step old new Read Ends Wrote before flushes result → EndOfRun passes read_step (read old) (read new) Read Ends Wrote before flushes result
      ends_as Read Ends Wrote before flushes (Ok u) out = (out.0, out.1, out.2, out.3, out.4, out.5, completes_as out.0 out.1 out.6)
      ends_as Read Ends Wrote before flushes (Err fault.Read) out = (out.0, out.1, out.2, out.3, out.4, comes_as out.0 out.1 out.5)
      ends_as Read Ends Wrote before flushes (Err fault.TooLong) out = (out.0, out.1, out.2, out.3, out.4, comes_as out.0 out.1 out.5, out.6)
      ends_as Read Ends Wrote before flushes (Err (fault.Line n)) out =
          let bad = out.5 in (
            out.0,
            out.1,
            out.2,
            out.3,
            out.4,
            record {
              lines = bad.lines;
              bad = bad.bad;
              after = bad.after;
              whole = bad.whole;
              each = bad.each;
              unbroken = bad.unbroken;
              is_bad = bad.is_bad;
              known = bad.known;
              served = serves_as old kept new bad.lines out.1 bad.served;
              number = bad.number;
            },
          )
      ends_as Read Ends Wrote before flushes (Err fault.Write) out = (
        out.0,
        out.1,
        out.2,
        out.3,
        elim out.4 [
          | inl part ↦ inl (part.0, stops_as Ends out.0 out.1 part.1)
          | inr all ↦ inr (all.0, all.1, completes_as out.0 out.1 all.2)
        ],
      )
      ends_as Read Ends Wrote before flushes (Err (fault.Make f)) out = tt

-- ---- of a server

module _ (old new : Server) (Read : List ℕ → Type 0) (Ends : Type 0) (Wrote : List ℕ → Type 0) (before flushes : ℕ) (result : Result (Unit {0}) RunFault)
    (out : EndOfRun (shape_of old.index.now).passes TurnsOne old new Read Ends Wrote before flushes result)
  where
    -- as the model says
    pub model_took : EndOfRun (shape_of old.index.now).passes (Steps (shape_of old.index.now)) (state old) (state new) Read Ends Wrote before flushes result
    model_took =
        let shape = shape_of old.index.now in
        ends_as shape.passes TurnsOne (Steps shape) state (λ (s : Server). shape_of s.index.now ≡ shape)
        (λ (a b : Server) t r same one. (ap shape_of one.index ∙ same, subst (λ s. Steps s (state a) t r (state b)) same one.served)) old new refl Read Ends Wrote before flushes result out

    -- as its passes say
    pub passes_took : EndOfRun (shape_of old.index.now).passes (OneTakes (board_of old.index.now)) old.passes.items new.passes.items Read Ends Wrote before flushes result
    passes_took =
        ends_as (shape_of old.index.now).passes TurnsOne (OneTakes (board_of old.index.now)) (λ (s : Server). s.passes.items) (λ (s : Server). board_of s.index.now ≡ board_of old.index.now)
        (λ (a b : Server) t r same one. (ap board_of one.index ∙ same, subst (λ c. OneTakes c a.passes.items t r b.passes.items) same one.one)) old new refl Read Ends Wrote before flushes result out

    -- over the same index
    pub same_index : is_make_fault result ≡ false → new.index.now ≡ old.index.now
    same_index =
        ends_keep (shape_of old.index.now).passes TurnsOne (λ (s : Server). s.index.now ≡ old.index.now)
        (λ (a b : Server) t r same one. one.index ∙ same) old new refl Read Ends Wrote before flushes result out

-- ---- of an index that was just made, whose shape is known under another name

module _ (shape : Shape) (Read : List ℕ → Type 0) (Ends : Type 0) (Wrote : List ℕ → Type 0) (before flushes : ℕ) where
  pub model_ends : (found : Shape) (start end : State) → found ≡ shape → start ≡ fresh shape → (result : Result (Unit {0}) RunFault)
      → EndOfRun found.passes (Steps found) start end Read Ends Wrote before flushes result → RunOutcome shape Read Ends Wrote before flushes result
  model_ends found start end of new result out = (end, subst₂ (λ (s : Shape) (from : State). EndOfRun s.passes (Steps s) from end Read Ends Wrote before flushes result) of new out)

  pub passes_end : (index : Index) (start end : List Pass) → IsNew shape index start → (result : Result (Unit {0}) RunFault)
      → EndOfRun (shape_of index).passes (OneTakes (board_of index)) start end Read Ends Wrote before flushes result → EachTurn shape Read Ends Wrote before flushes result
  passes_end index start end new result out =
      by result (subst (λ n. EndOfRun n (OneTakes (board_of index)) start end Read Ends Wrote before flushes result)
      (ap (λ (s : Shape). s.passes) new.made.of) out)
    where
      by : (result : Result (Unit {0}) RunFault)
          → EndOfRun shape.passes (OneTakes (board_of index)) start end Read Ends Wrote before flushes result
          → EachTurn shape Read Ends Wrote before flushes result
      by (Ok u) out = (index, start, end, new, out)
      by (Err fault.Read) out = (index, start, end, new, out)
      by (Err fault.Write) out = (index, start, end, new, out)
      by (Err fault.TooLong) out = (index, start, end, new, out)
      by (Err (fault.Line n)) out = (index, start, end, new, out)
      by (Err (fault.Make f)) out = tt
