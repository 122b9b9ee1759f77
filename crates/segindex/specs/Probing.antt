-- A probe: a set of a key and, if it was stored, a get of the key.
use Rattle.std.specs.Prelude.{◌≡◌, ◌≢◌, ◌⊎◌, ℕ, ◌≤◌, List, ◌∷◌, Option}
use Rattle.segword.specs.Words.{Shape}
use Rattle.segmodel.specs.declared.entry.Entry.TheVariants.{Wrote}
use Rattle.segmodel.specs.declared.request.Request.TheVariants.{Set}
use Rattle.segmodel.specs.declared.request.Reply.TheVariants.{Stored}
use Rattle.segmodel.specs.declared.answer.GetAnswer.TheVariants as get
use Rattle.segmodel.specs.declared.answer.WriteAnswer.TheVariants as write
use Rattle.segmodel.specs.Words.{after, CameBetween, Entry, GetAnswer, IsBetween, IsExpired, stirred, StoresValue, TakesKeyOut}
use Rattle.segmodel.specs.Words.{WriteAnswer}
use Rattle.segcore.specs.Event as event
use Rattle.segbase.specs.Words.{Board, number, Pass, seen, SinceFirst}
use Rattle.segread.specs.Words.{ReadsKey}
use Rattle.segwrite.specs.Words.{IsSetAnswer, IsTold, Writes}

-- At a moment between one history and a longer one the key stood, and its deadline had come.
abbrev pub ExpiredBetween : Shape → List ℕ → ℕ → List Entry → List Entry → Type 0
ExpiredBetween shape key now old new =
    (history : List Entry) × IsBetween old new history × IsExpired (after shape history) now key

-- Since a moment at which a value was stored under the key, a get answers so.
-- It finds another value only if that one was stored since.
-- It is a Miss only if the key was deleted or evicted since, or its deadline had come.
-- It is Busy only if at least 64 entries of the key's bucket came in during the get.
abbrev pub IsReadSince : Shape → List ℕ → List ℕ → ℕ → GetAnswer → List Entry → List Entry
    → List Entry → Type 0
IsReadSince shape key value now (get.Found other) stored old new =
    (other ≡ value) ⊎ CameBetween (StoresValue key other) stored new
IsReadSince shape key value now get.Miss stored old new =
    CameBetween (TakesKeyOut key) stored new ⊎ ExpiredBetween shape key now stored new
IsReadSince shape key value now get.Busy stored old new = 64 ≤ stirred shape key old new

-- The set came in at a moment of its call.
-- The get, which leads from `between` to `q`, answers as one that was made since the set's entry.
pub record ReadsStored (shape : Shape) (pass : ℕ) (key value : List ℕ) (now : ℕ) (told : GetAnswer)
    (old : List Entry) (between q : Pass) : Type 0 where
  pub segment : Option ℕ
  pub history : List Entry
  pub stored : IsTold shape pass (Set key value now) Stored segment old (seen between) history
  pub read : SinceFirst between q
      (λ start. IsReadSince shape key value now told
      (Wrote pass (Set key value now) Stored segment ∷ history) (event.seen start) (seen q))

-- The set and the get are handed the same `now`.
-- The set comes first, and leaves the pass as `between`.
-- If the set was refused, the key isn't read and the get's answer is Busy.
pub record Probes (b : Board) (key value : List ℕ) (draw now : ℕ) (told : WriteAnswer × GetAnswer)
    (p q : Pass) : Type 0 where
  pub between : Pass
  pub writes : Writes b (Set key value now) told.0 p between
  pub set : IsSetAnswer told.0
  pub refused : told.0 ≢ write.Stored → (told.1 ≡ get.Busy) × (q ≡ between)
  pub reads : told.0 ≡ write.Stored → ReadsKey b key draw now told.1 between q
  pub stored : told.0 ≡ write.Stored
      → ReadsStored b.shape (number p) key value now told.1 (seen p) between q
