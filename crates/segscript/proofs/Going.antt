-- Where a run is between two reads, and how it ends.
use Rattle.std.proofs.Common.{Ok, Err, Result, ◌≡◌, ℕ, ◌+◌, ◌≤◌, ◌-◌, ◌^◌, min, length-take, List, [], ◌++◌, length, take, inl, inr, refl, ◌∙◌, ap, arith, append-nil, length-append}
use Rattle.segmodel.specs.Words.{Outcome}
use Rattle.segscript.specs.Spelling.{PassTurn}
use Rattle.segscript.specs.Device.{one_more}
use Rattle.segscript.specs.Running.{HasServed, FeedOutcome, FinishOutcome}
use Rattle.segscript.specs.Run.{EndOfRun}
use Rattle.segscript.specs.Words.{RunFault}
use Rattle.segscript.specs.declared.fault.RunFault.TheVariants as fault
use Rattle.segscript.proofs.LineLemmas.{reached, at_start}
use Rattle.segscript.proofs.Feeding.{seen_bad_where, stops_where}

-- these bytes came, and this text was written
pub record Going (passes : ℕ) {S : Type 0} (step : S → PassTurn → Outcome → S
    → Type 0) (start state : S) {R W : Type 0} (hands : R → List ℕ → R → Type 0) (takes : W → List ℕ → W
    → Type 0) (from reader : R) (to writer : W) (total : ℕ) (line : List ℕ) (number : ℕ) : Type 0 where
  pub seen : List ℕ
  pub told : List ℕ
  pub came : hands from seen reader
  pub went : takes to told writer
  pub here : HasServed passes step start state seen told line number
  pub counted : length seen ≡ total

-- as many bytes are asked for as there is room
pub asked : (piece buffer : List ℕ) (total room : ℕ) → length piece ≡ 4096 → room ≡ min (2 ^ 63 - total) 4096
    → length buffer ≡ length (take room piece) → (length buffer ≡ room) × (room ≤ 4096) × (room ≤ 2 ^ 63 - total)
asked piece buffer total room full is same = let t = length-take room piece in (omega arith, omega arith, omega arith)

module _ (passes : ℕ) {S : Type 0} (step : S → PassTurn → Outcome → S → Type 0) (start : S) {R W : Type 0}
    (hands : R → List ℕ → R → Type 0) (hands_more : (s t u : R) (a b : List ℕ) → hands s a t → hands t b u → hands s (a ++ b) u)
    (takes : W → List ℕ → W → Type 0) (takes_more : (s t u : W) (a b : List ℕ) → takes s a t → takes t b u → takes s (a ++ b) u)
    (flushes : W → ℕ)
  where
    pub going_start : (state : S) (from : R) (to : W) (line : List ℕ) → state ≡ start → line ≡ []
        → hands from [] from → takes to [] to → Going passes step start state hands takes from from to to 0 line 1
    going_start state from to line new none came went = record {
      seen = [];
      told = [];
      came = came;
      went = went;
      here = rw (none, new) (at_start passes step start);
      counted = refl;
    }

    -- some bytes were read and fed
    pub going_on : (state state' : S) (from reader reader' : R) (to writer writer' : W) (total n : ℕ) (line line' : List ℕ) (number number' : ℕ) (bytes fed : List ℕ)
        (going : Going passes step start state hands takes from reader to writer total line number)
        → hands reader bytes reader' → fed ≡ bytes → length bytes ≡ n
        → (text : List ℕ) × takes writer text writer' × HasServed passes step start state' (going.seen ++ fed) (going.told ++ text) line' number'
        → Going passes step start state' hands takes from reader' to writer' (total + n) line' number'
    going_on state state' from reader reader' to writer writer' total n line line' number number' bytes fed going came same count out = record {
      seen = going.seen ++ bytes;
      told = going.told ++ out.0;
      came = hands_more from reader reader' going.seen bytes going.came came;
      went = takes_more to writer writer' going.told out.0 going.went out.1;
      here = rw same at out.2;
      counted = simp length-append (ap (λ k. k + length bytes) going.counted ∙ ap (λ k. total + k) count);
    }

    -- a fault while bytes were fed
    pub ends_fed : (state state' : S) (from reader reader' : R) (to writer writer' : W) (total : ℕ) (line line' : List ℕ) (number number' : ℕ) (bytes fed : List ℕ) (Ends : Type 0) (f : RunFault)
        (going : Going passes step start state hands takes from reader to writer total line number)
        → flushes writer' ≡ flushes to
        → hands reader bytes reader' → fed ≡ bytes
        → FeedOutcome passes step start state' (λ text. takes writer text writer') (going.seen ++ fed) going.told line' number' (Err f)
        → EndOfRun passes step start state' (λ seen. hands from seen reader') Ends (λ text. takes to text writer') (flushes to) (flushes writer') (Err f)
    ends_fed state state' from reader reader' to writer writer' total line line' number number' bytes fed Ends fault.Read going none came same out = absurd out
    ends_fed state state' from reader reader' to writer writer' total line line' number number' bytes fed Ends fault.TooLong going none came same out = absurd out
    ends_fed state state' from reader reader' to writer writer' total line line' number number' bytes fed Ends (fault.Make m) going none came same out = absurd out
    ends_fed state state' from reader reader' to writer writer' total line line' number number' bytes fed Ends (fault.Line n) going none came same out = (
      going.seen ++ bytes,
      going.told ++ out.0,
      hands_more from reader reader' going.seen bytes going.came came,
      takes_more to writer writer' going.told out.0 going.went out.1,
      none,
      seen_bad_where passes step start state' _ _ _ ⊥ Ends (λ never. absurd never) (rw same at out.2),
    )
    ends_fed state state' from reader reader' to writer writer' total line line' number number' bytes fed Ends fault.Write going none came same out = (
      going.seen ++ bytes,
      going.told ++ out.0,
      hands_more from reader reader' going.seen bytes going.came came,
      takes_more to writer writer' going.told out.0 going.went out.1,
      inl (none, stops_where passes step start state' _ _ ⊥ Ends (λ never. absurd never) (rw same at out.2)),
    )

    -- the reader failed
    pub ends_read : (state : S) (from reader reader' : R) (to writer : W) (total : ℕ) (line : List ℕ) (number : ℕ) (Ends : Type 0)
        (going : Going passes step start state hands takes from reader to writer total line number)
        → flushes writer ≡ flushes to
        → hands reader [] reader'
        → EndOfRun passes step start state (λ seen. hands from seen reader') Ends (λ text. takes to text writer) (flushes to) (flushes writer) (Err fault.Read)
    ends_read state from reader reader' to writer total line number Ends going none came = (
      going.seen ++ [],
      going.told,
      hands_more from reader reader' going.seen [] going.came came,
      going.went,
      none,
      rw append-nil (reached passes step start state going.seen going.told line number going.here),
    )

    -- the end of the input
    pub ends_finish : (state state' : S) (from reader reader' : R) (to writer writer' : W) (total : ℕ)
        (line : List ℕ) (number : ℕ) (bytes : List ℕ) (Ends : Type 0) (result : Result (Unit {0}) RunFault)
        (going : Going passes step start state hands takes from reader to writer total line number)
        → flushes writer ≡ flushes to
        → hands reader bytes reader' → bytes ≡ [] → Ends
        → FinishOutcome passes step start state' (λ text. takes writer text writer') (flushes writer) (flushes writer') going.seen going.told result
        → EndOfRun passes step start state' (λ seen. hands from seen reader') Ends (λ text. takes to text writer') (flushes to) (flushes writer') result
    ends_finish state state' from reader reader' to writer writer' total line number bytes Ends (Ok u) going none came empty ends out = (
      going.seen ++ bytes,
      going.told ++ out.0,
      hands_more from reader reader' going.seen bytes going.came came,
      ends,
      takes_more to writer writer' going.told out.0 going.went out.1,
      out.2 ∙ ap one_more none,
      rw (empty, append-nil) out.3,
    )
    ends_finish state state' from reader reader' to writer writer' total line number bytes Ends (Err (fault.Line n)) going none came empty ends out = (
      going.seen ++ bytes,
      going.told ++ out.0,
      hands_more from reader reader' going.seen bytes going.came came,
      takes_more to writer writer' going.told out.0 going.went out.1,
      out.2 ∙ none,
      seen_bad_where passes step start state' _ _ _ (Unit {0}) Ends (λ last. ends) (rw (empty, append-nil) out.3),
    )
    ends_finish state state' from reader reader' to writer writer' total line number bytes Ends (Err fault.Write) going none came empty ends out = (
      going.seen ++ bytes,
      going.told ++ out.0,
      hands_more from reader reader' going.seen bytes going.came came,
      takes_more to writer writer' going.told out.0 going.went out.1,
      elim out.2 [
        | inl part ↦ inl (part.0 ∙ none, stops_where passes step start state' _ _ (Unit {0}) Ends (λ last. ends) (rw (empty, append-nil) part.1))
        | inr all ↦ inr (all.0 ∙ ap one_more none, ends, rw (empty, append-nil) all.1)
      ],
    )
    ends_finish state state' from reader reader' to writer writer' total line number bytes Ends (Err fault.Read) going none came empty ends out = absurd out
    ends_finish state state' from reader reader' to writer writer' total line number bytes Ends (Err fault.TooLong) going none came empty ends out = absurd out
    ends_finish state state' from reader reader' to writer writer' total line number bytes Ends (Err (fault.Make m)) going none came empty ends out = absurd out
