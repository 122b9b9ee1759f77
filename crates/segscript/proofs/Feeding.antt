-- Bytes that are fed one after another.
use Rattle.std.proofs.Common.{Result, subst, Err, ◌≡◌, ℕ, ◌+◌, ◌<◌, List, [], ◌∷◌, ◌++◌, length, take, drop, get_or, refl, sym, ◌∙◌, ap, append_assoc, append-nil, inl, inr}
use Rattle.std.proofs.lemmas.List.{take-append-drop, drop_more}
use Rattle.segmodel.specs.Words.{Outcome}
use Rattle.segscript.specs.Spelling.{PassTurn}
use Rattle.segscript.specs.Run.{IsSeenBad, StopsWriting}
use Rattle.segscript.specs.Running.{HasServed, FeedOutcome}
use Rattle.segscript.specs.Words.{RunFault}
use Rattle.segscript.specs.declared.fault.RunFault.TheVariants as fault

-- what is known of the line doesn't change where the end is known in another way
pub seen_bad_where : (passes : ℕ) {S : Type 0} (step : S → PassTurn → Outcome → S
    → Type 0) (start end : S) (seen text : List ℕ) (n : ℕ) (Ends Is : Type 0) → (Ends → Is)
    → IsSeenBad passes step start end Ends seen text n → IsSeenBad passes step start end Is seen text n
seen_bad_where passes step start end seen text n Ends Is is bad = record {
  lines = bad.lines;
  bad = bad.bad;
  after = bad.after;
  whole = bad.whole;
  each = bad.each;
  unbroken = bad.unbroken;
  is_bad = bad.is_bad;
  known = elim bad.known [
    | inl whole ↦ inl whole
    | inr (inl long) ↦ inr (inl long)
    | inr (inr last) ↦ inr (inr (last.0, is last.1))
  ];
  served = bad.served;
  number = bad.number;
}

-- later bytes don't change what the first bad line is
seen_bad_more : (passes : ℕ) {S : Type 0} (step : S → PassTurn → Outcome → S
    → Type 0) (start end : S) (seen more text : List ℕ) (n : ℕ) → IsSeenBad passes step start end ⊥ seen text n
    → IsSeenBad passes step start end ⊥ (seen ++ more) text n
seen_bad_more passes step start end seen more text n bad = record {
  lines = bad.lines;
  bad = bad.bad;
  after = bad.after ++ more;
  whole = rw bad.whole (simp append_assoc);
  each = bad.each;
  unbroken = bad.unbroken;
  is_bad = bad.is_bad;
  known = elim bad.known [
    | inl whole ↦ inl (whole.0 ++ more, rw whole.1 refl)
    | inr (inl long) ↦ inr (inl long)
    | inr (inr ends) ↦ absurd ends.1
  ];
  served = bad.served;
  number = bad.number;
}

-- nor is the line another whose reply was cut short
pub stops_where : (passes : ℕ) {S : Type 0} (step : S → PassTurn → Outcome → S
    → Type 0) (start end : S) (seen part : List ℕ) (Ends Is : Type 0) → (Ends → Is)
    → StopsWriting passes step start end Ends seen part → StopsWriting passes step start end Is seen part
stops_where passes step start end seen part Ends Is is off = record {
  lines = off.lines;
  line = off.line;
  after = off.after;
  state = off.state;
  told = off.told;
  begun = off.begun;
  reply = off.reply;
  whole = off.whole;
  each = off.each;
  unbroken = off.unbroken;
  known = elim off.known [
    | inl whole ↦ inl whole
    | inr last ↦ inr (last.0, is last.1)
  ];
  earlier = off.earlier;
  served = off.served;
  begins = off.begins;
  written = off.written;
}

stops_more : (passes : ℕ) {S : Type 0} (step : S → PassTurn → Outcome → S
    → Type 0) (start end : S) (seen more part : List ℕ) → StopsWriting passes step start end ⊥ seen part
    → StopsWriting passes step start end ⊥ (seen ++ more) part
stops_more passes step start end seen more part off = record {
  lines = off.lines;
  line = off.line;
  after = off.after ++ more;
  state = off.state;
  told = off.told;
  begun = off.begun;
  reply = off.reply;
  whole = rw off.whole (simp append_assoc);
  each = off.each;
  unbroken = off.unbroken;
  known = elim off.known [
    | inl whole ↦ inl (whole.0 ++ more, rw whole.1 refl)
    | inr ends ↦ absurd ends.1
  ];
  earlier = off.earlier;
  served = off.served;
  begins = off.begins;
  written = off.written;
}

-- these bytes were fed after seen, and what was written came after told
pub record Fed (passes : ℕ) {S : Type 0} (step : S → PassTurn → Outcome → S
    → Type 0) (start : S) {W : Type 0} (takes : W → List ℕ → W → Type 0) (old : W) (seen told bytes : List ℕ)
    (new : W) (state : S) (line : List ℕ) (number : ℕ) : Type 0 where
  pub text : List ℕ
  pub took : takes old text new
  pub here : HasServed passes step start state (seen ++ bytes) (told ++ text) line number

module _ (passes : ℕ) {S : Type 0} (step : S → PassTurn → Outcome → S → Type 0) (start : S) {W : Type 0} (takes : W
    → List ℕ → W → Type 0) (more : (s t u : W) (a b : List ℕ) → takes s a t → takes t b u
    → takes s (a ++ b) u) where
  pub fed_none : (old : W) (seen told : List ℕ) (state : S) (line : List ℕ) (number : ℕ) → takes old [] old
      → HasServed passes step start state seen told line number
      → Fed passes step start takes old seen told [] old state line number
  fed_none old seen told state line number none here = record { text = []; took = none; here = rw (append-nil, append-nil) here }

  pub fed_more : (old mid new : W) (seen told bytes : List ℕ) (b : ℕ) (state state' : S) (line line' : List ℕ) (number number' : ℕ) (longer : List ℕ)
      (fed : Fed passes step start takes old seen told bytes mid state line number)
      → (text : List ℕ) × takes mid text new × HasServed passes step start state' ((seen ++ bytes) ++ b ∷ []) ((told ++ fed.text) ++ text) line' number'
      → longer ≡ bytes ++ b ∷ [] → Fed passes step start takes old seen told longer new state' line' number'
  fed_more old mid new seen told bytes b state state' line line' number number' longer fed next same = record {
    text = fed.text ++ next.0;
    took = more old mid new fed.text next.0 fed.took next.1;
    here = rw (same, ← append_assoc seen bytes (b ∷ []), ← append_assoc told fed.text next.0) next.2;
  }

  pub fault_later : (old mid new : W) (seen told bytes : List ℕ) (b : ℕ) (rest all : List ℕ) (state state' : S) (line line' : List ℕ) (number number' : ℕ) (f : RunFault)
      (fed : Fed passes step start takes old seen told bytes mid state line number)
      → all ≡ (bytes ++ b ∷ []) ++ rest
      → FeedOutcome passes step start state' (λ text. takes mid text new) ((seen ++ bytes) ++ b ∷ []) (told ++ fed.text) line' number' (Err f)
      → FeedOutcome passes step start state' (λ text. takes old text new) (seen ++ all) told line' number' (Err f)
  fault_later old mid new seen told bytes b rest all state state' line line' number number' fault.Read fed same out = absurd out
  fault_later old mid new seen told bytes b rest all state state' line line' number number' (fault.Make m) fed same out = absurd out
  fault_later old mid new seen told bytes b rest all state state' line line' number number' fault.TooLong fed same out = absurd out
  fault_later old mid new seen told bytes b rest all state state' line line' number number' (fault.Line n) fed same out = (
    fed.text ++ out.0,
    more old mid new fed.text out.0 fed.took out.1,
    rw (
      same,
      ← append_assoc told fed.text out.0,
      ← append_assoc seen (bytes ++ b ∷ []) rest,
      ← append_assoc seen bytes (b ∷ []),
    ) (seen_bad_more passes step start state' ((seen ++ bytes) ++ b ∷ []) rest
        _ n out.2),
  )
  fault_later old mid new seen told bytes b rest all state state' line line' number number' fault.Write fed same out = (
    fed.text ++ out.0,
    more old mid new fed.text out.0 fed.took out.1,
    rw (
      same,
      ← append_assoc told fed.text out.0,
      ← append_assoc seen (bytes ++ b ∷ []) rest,
      ← append_assoc seen bytes (b ∷ []),
    ) (stops_more passes step start state' ((seen ++ bytes) ++ b ∷ []) rest _
        out.2),
  )

-- the bytes before, the byte at i and those behind it
pub cut_at : (bytes : List ℕ) (i : ℕ) → i < length bytes → bytes ≡ (take i bytes ++ get_or bytes i 0 ∷ []) ++ drop (i + 1) bytes
cut_at bytes i within = sym (take-append-drop i bytes) ∙ ap (λ r. take i bytes ++ r) (drop_more bytes i 0 within) ∙ sym (append_assoc (take i bytes) (get_or bytes i 0 ∷ []) (drop (i + 1) bytes))

-- what became of bytes that were fed, where the number of passes is known under another name
pub at_passes : (passes passes' : ℕ) → passes' ≡ passes
    → {S : Type 0} (step : S → PassTurn → Outcome → S → Type 0) (start state state' : S) (Wrote : List ℕ
    → Type 0) (line line' : List ℕ) (number number' : ℕ) (bytes : List ℕ) (result : Result (Unit {0}) RunFault)
    → ((start : S) (seen told : List ℕ) → HasServed passes' step start state seen told line number → FeedOutcome passes' step start state' Wrote (seen ++ bytes) told line' number' result)
    → (seen told : List ℕ) → HasServed passes step start state seen told line number → FeedOutcome passes step start state' Wrote (seen ++ bytes) told line' number' result
at_passes passes passes' same {S} step start state state' Wrote line line' number number' bytes result outcome =
    let P : ℕ → Type 0 = λ n. (seen told : List ℕ) → HasServed n step start state seen told line number → FeedOutcome n step start state' Wrote (seen ++ bytes) told line' number' result in
    subst P same (outcome start)
