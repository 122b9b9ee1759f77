-- Lines that are served one after another, and a run that goes on byte by byte.
use Rattle.std.proofs.Common.{Err, Bool, ◌≡◌, ◌≢◌, ℕ, ◌+◌, ◌<◌, inl, inr, List, [], ◌∷◌, ◌++◌, length, true, eqb, refl, sym, ◌∙◌, ap, arith, append_assoc, append-nil, length-append}
use Rattle.std.specs.List.{flat_map, AllByRecursion}
use Rattle.std.proofs.lemmas.Grind.{flat_map-append}
use Rattle.std.proofs.lemmas.Bool.{eqb-true}
use Rattle.segmodel.specs.Words.{Outcome}
use Rattle.segmodel.proofs.RunLemmas.{Runs-append}
use Rattle.segscript.specs.Spelling.{PassTurn, IsSayable, reply, spelling}
use Rattle.segscript.specs.Script.{IsLine, ended, Splits, Say, IsBad, ServesLines, ServesScript}
use Rattle.segscript.specs.Device.{IsBeginning}
use Rattle.segscript.specs.Run.{ServesWholeLines, StopsWriting, IsSeenBad}
use Rattle.segscript.specs.Running.{HasServed, LineOutcome, FeedOutcome, FinishOutcome}
use Rattle.segscript.specs.Words.{RunFault}
use Rattle.segscript.specs.declared.fault.RunFault.TheVariants as fault
use Rattle.segscript.specs.declared.limits.TheConstants.{LINE_BYTES}

Say-append : (passes : ℕ) (xs ys : List (List ℕ)) (ts us : List PassTurn) → Say passes xs ts → Say passes ys us → Say passes (xs ++ ys) (ts ++ us)
Say-append passes [] ys [] us first more = more
Say-append passes [] ys (t ∷ ts) us first more = absurd first
Say-append passes ([] ∷ xs) ys ts us first more = Say-append passes xs ys ts us first more
Say-append passes ((b ∷ bs) ∷ xs) ys [] us first more = absurd first
Say-append passes ((b ∷ bs) ∷ xs) ys (t ∷ ts) us first more = (first.0, first.1, Say-append passes xs ys ts us first.2 more)

Say-one : (passes : ℕ) (line : List ℕ) (said : PassTurn) → 0 < length line → IsSayable passes said → line ≡ spelling said → Say passes (line ∷ []) (said ∷ [])
Say-one passes [] said some may same = absurd (omega arith)
Say-one passes (b ∷ bs) said some may same = (may, same, tt)

pub IsLine-append : (xs ys : List ℕ) → IsLine xs → IsLine ys → IsLine (xs ++ ys)
IsLine-append [] ys first more = more
IsLine-append (x ∷ xs) ys first more = (first.0, IsLine-append xs ys first.1 more)

pub lines-append : (xs ys : List (List ℕ)) → AllByRecursion IsLine xs → AllByRecursion IsLine ys → AllByRecursion IsLine (xs ++ ys)
lines-append [] ys first more = more
lines-append (x ∷ xs) ys first more = (first.0, lines-append xs ys first.1 more)

-- one byte more of the line
pub Splits-byte : (bytes : List ℕ) (lines : List (List ℕ)) (rest : List ℕ) (b : ℕ) → Splits bytes lines rest → b ≢ 10 → Splits (bytes ++ b ∷ []) lines (rest ++ b ∷ [])
Splits-byte bytes lines rest b splits other = record {
  whole = rw splits.whole (append_assoc (flat_map ended lines) rest (b ∷ []));
  each = splits.each;
  partial = IsLine-append rest (b ∷ []) splits.partial (other, tt);
}

-- the end of the line
pub Splits-end : (bytes : List ℕ) (lines : List (List ℕ)) (rest : List ℕ) → Splits bytes lines rest → Splits (bytes ++ 10 ∷ []) (lines ++ rest ∷ []) []
Splits-end bytes lines rest splits = record {
  whole = rw splits.whole (simp (flat_map-append, append_assoc, append-nil));
  each = lines-append lines (rest ∷ []) splits.each (splits.partial, tt);
  partial = tt;
}

module _ (passes : ℕ) {S : Type 0} (step : S → PassTurn → Outcome → S → Type 0) where
  -- more lines are served after some
  ServesLines-append : (old mid new : S) (xs ys : List (List ℕ)) (s t : List ℕ)
      → ServesLines passes step old xs s mid → ServesLines passes step mid ys t new
      → ServesLines passes step old (xs ++ ys) (s ++ t) new
  ServesLines-append old mid new xs ys s t first more = record {
    turns = first.turns ++ more.turns;
    outcomes = first.outcomes ++ more.outcomes;
    says = Say-append passes xs ys first.turns more.turns first.says more.says;
    run = Runs-append step old mid new first.turns more.turns first.outcomes more.outcomes first.run more.run;
    told = rw (first.told, more.told) (sym (flat_map-append reply first.outcomes more.outcomes));
  }

  -- a line that says a turn is served by its outcome
  pub ServesLines-one : (old new : S) (line text : List ℕ) (said : PassTurn) (outcome : Outcome) → 0 < length line
      → IsSayable passes said × (line ≡ spelling said) → step old said outcome new → text ≡ reply outcome
      → ServesLines passes step old (line ∷ []) text new
  ServesLines-one old new line text said outcome some says steps same = record {
    turns = said ∷ [];
    outcomes = outcome ∷ [];
    says = Say-one passes line said some says.0 says.1;
    run = (new, steps, refl);
    told = same ∙ sym (append-nil (reply outcome));
  }

  ServesLines-none : (state : S) → ServesLines passes step state [] [] state
  ServesLines-none state = record { turns = []; outcomes = []; says = tt; run = refl; told = refl }

  -- an empty line is skipped
  pub ServesLines-empty : (state : S) (line : List ℕ) (empty : Bool) → empty ≡ eqb (length line) 0 → empty ≡ true → ServesLines passes step state (line ∷ []) [] state
  ServesLines-empty state [] empty e is = record { turns = []; outcomes = []; says = tt; run = refl; told = refl }
  ServesLines-empty state (b ∷ bs) empty e is = let h : length (b ∷ bs) ≡ 0 = eqb-true (length (b ∷ bs)) 0 (sym e ∙ is) in absurd (omega arith)

  module _ (start state : S) where
    -- a byte of the line has come
    pub at_byte : (seen told line : List ℕ) (number b : ℕ) → HasServed passes step start state seen told line number
        → b ≢ 10 → length line < LINE_BYTES → HasServed passes step start state (seen ++ b ∷ []) told (line ++ b ∷ [])
        number
    at_byte seen told line number b here other room = record {
      lines = here.lines;
      splits = Splits-byte seen here.lines line b here.splits other;
      short = simp length-append (omega arith);
      served = here.served;
      numbered = here.numbered;
    }

    -- the end of the line has come, and it was served
    pub at_end : (new : S) (seen told text line : List ℕ) (number : ℕ)
        → HasServed passes step start state seen told line number
        → ServesLines passes step state (line ∷ []) text new
        → HasServed passes step start new (seen ++ 10 ∷ []) (told ++ text) [] (number + 1)
    at_end new seen told text line number here served = record {
      lines = here.lines ++ line ∷ [];
      splits = Splits-end seen here.lines line here.splits;
      short = omega arith;
      served = ServesLines-append start state new here.lines (line ∷ []) told text here.served served;
      numbered = simp length-append (ap (λ n. n + 1) here.numbered);
    }

    pub reached : (seen told line : List ℕ) (number : ℕ) → HasServed passes step start state seen told line number → ServesWholeLines passes step start state seen told
    reached seen told line number here = record { lines = here.lines; rest = line; splits = here.splits; short = here.short; served = here.served }

    -- the byte is one more than a line can have
    pub too_long : (seen told line : List ℕ) (number b : ℕ)
        → HasServed passes step start state seen told line number → b ≢ 10 → length line ≡ LINE_BYTES
        → IsSeenBad passes step start state ⊥ (seen ++ b ∷ []) (told ++ []) number
    too_long seen told line number b here other full = record {
      lines = here.lines;
      bad = line ++ b ∷ [];
      after = [];
      whole = rw here.splits.whole (simp (append_assoc, append-nil));
      each = here.splits.each;
      unbroken = IsLine-append line (b ∷ []) here.splits.partial (other, tt);
      is_bad = inl (simp length-append (omega arith));
      known = inr (inl (simp length-append (omega arith)));
      served = rw append-nil here.served;
      number = here.numbered;
    }

    -- the line whose end has come is bad
    whole_bad : (seen told line : List ℕ) (number : ℕ) → HasServed passes step start state seen told line number
        → IsBad passes line → IsSeenBad passes step start state ⊥ (seen ++ 10 ∷ []) (told ++ []) number
    whole_bad seen told line number here bad = record {
      lines = here.lines;
      bad = line;
      after = 10 ∷ [];
      whole = rw here.splits.whole (simp append_assoc);
      each = here.splits.each;
      unbroken = here.splits.partial;
      is_bad = bad;
      known = inl ([], refl);
      served = rw append-nil here.served;
      number = here.numbered;
    }

    -- the last line is bad
    last_bad : (seen told line : List ℕ) (number : ℕ) → HasServed passes step start state seen told line number
        → IsBad passes line → IsSeenBad passes step start state (Unit {0}) seen (told ++ []) number
    last_bad seen told line number here bad = record {
      lines = here.lines;
      bad = line;
      after = [];
      whole = rw here.splits.whole (simp append-nil);
      each = here.splits.each;
      unbroken = here.splits.partial;
      is_bad = bad;
      known = inr (inr (refl, tt));
      served = rw append-nil here.served;
      number = here.numbered;
    }

    -- the line whose end has come was served, and its reply was cut short
    whole_stops : (new : S) (seen told begun reply line : List ℕ) (number : ℕ)
        → HasServed passes step start state seen told line number → IsBeginning begun reply
        → ServesLines passes step state (line ∷ []) reply new
        → StopsWriting passes step start new ⊥ (seen ++ 10 ∷ []) (told ++ begun)
    whole_stops new seen told begun reply line number here begins served = record {
      lines = here.lines;
      line = line;
      after = 10 ∷ [];
      state = state;
      told = told;
      begun = begun;
      reply = reply;
      whole = rw here.splits.whole (simp append_assoc);
      each = here.splits.each;
      unbroken = here.splits.partial;
      known = inl ([], refl);
      earlier = here.served;
      served = served;
      begins = begins;
      written = refl;
    }

    -- the last line was served, and its reply was cut short
    last_stops : (new : S) (seen told begun reply line : List ℕ) (number : ℕ)
        → HasServed passes step start state seen told line number → IsBeginning begun reply
        → ServesLines passes step state (line ∷ []) reply new
        → StopsWriting passes step start new (Unit {0}) seen (told ++ begun)
    last_stops new seen told begun reply line number here begins served = record {
      lines = here.lines;
      line = line;
      after = [];
      state = state;
      told = told;
      begun = begun;
      reply = reply;
      whole = rw here.splits.whole (simp append-nil);
      each = here.splits.each;
      unbroken = here.splits.partial;
      known = inr (refl, tt);
      earlier = here.served;
      served = served;
      begins = begins;
      written = refl;
    }

    -- the last line was served
    pub finish_text : (seen told text line : List ℕ) (number : ℕ) (new : S)
        → HasServed passes step start state seen told line number
        → ServesLines passes step state (line ∷ []) text new
        → ServesScript passes step start new seen (told ++ text)
    finish_text seen told text line number new here served = record {
      lines = here.lines;
      last = line;
      splits = here.splits;
      served = ServesLines-append start state new here.lines (line ∷ []) told text here.served served;
    }

  -- nothing has come yet
  pub at_start : (start : S) → HasServed passes step start start [] [] [] 1
  at_start start = record {
    lines = [];
    splits = record { whole = refl; each = tt; partial = tt };
    short = omega arith;
    served = ServesLines-none start;
    numbered = refl;
  }

  -- a fault at the end of a line
  pub feed-fault : (start old new : S) (Wrote : List ℕ → Type 0) (seen told line after : List ℕ) (number count b : ℕ) (f : RunFault) → b ≡ 10
      → HasServed passes step start old seen told line number
      → LineOutcome passes step old new Wrote line number (Err f)
      → FeedOutcome passes step start new Wrote (seen ++ b ∷ []) told after count (Err f)
  feed-fault start old new Wrote seen told line after number count b fault.Read ten here h = absurd h
  feed-fault start old new Wrote seen told line after number count b fault.TooLong ten here h = absurd h
  feed-fault start old new Wrote seen told line after number count b (fault.Make m) ten here h = absurd h
  feed-fault start old new Wrote seen told line after number count b (fault.Line n) ten here h = ([], h.0, rw (ten, h.1, h.2) (whole_bad start old seen told line number here h.3))
  feed-fault start old new Wrote seen told line after number count b fault.Write ten here h = (h.0, h.2, rw ten (whole_stops start old new seen told h.0 h.1 line number here h.3 h.4))

  -- a fault at the last line
  pub finish-fault : (start old new : S) (Wrote : List ℕ → Type 0) (before flushes : ℕ) (seen told line : List ℕ) (number : ℕ) (f : RunFault) → flushes ≡ before
      → HasServed passes step start old seen told line number → LineOutcome passes step old new Wrote line number (Err f) → FinishOutcome passes step start new Wrote before flushes seen told (Err f)
  finish-fault start old new Wrote before flushes seen told line number fault.Read none here h = absurd h
  finish-fault start old new Wrote before flushes seen told line number fault.TooLong none here h = absurd h
  finish-fault start old new Wrote before flushes seen told line number (fault.Make m) none here h = absurd h
  finish-fault start old new Wrote before flushes seen told line number (fault.Line n) none here h = ([], h.0, none, rw (h.1, h.2) (last_bad start old seen told line number here h.3))
  finish-fault start old new Wrote before flushes seen told line number fault.Write none here h =
      (h.0, h.2, inl (none, last_stops start old new seen told h.0 h.1 line number here h.3 h.4))
