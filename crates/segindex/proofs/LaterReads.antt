-- What stood is read later, by the contract of a get and the laws of the model.
use Rattle.std.proofs.Common.{◌≡◌, ℕ, List, ◌∷◌, Some, ap, ◌∙◌, inl, inr}
use Rattle.std.specs.Prelude.{◌⊎◌, option_map}
use Rattle.std.proofs.lemmas.Bool.{cond-true}
use Rattle.segword.specs.Words.{Shape}
use Rattle.segmodel.specs.declared.entry.Entry.TheVariants.{Wrote}
use Rattle.segmodel.specs.declared.request.Reply.TheVariants.{Stored}
use Rattle.segmodel.specs.declared.answer.GetAnswer.TheVariants as get
use Rattle.segmodel.specs.declared.answer.WriteAnswer.TheVariants as write
use Rattle.segmodel.specs.Words.{after, Begins, CameBetween, ChangedIsStored, EarlierIsLegal, Entry}
use Rattle.segmodel.specs.Words.{GetAnswer, GoneIsTakenOut, IsExpired, IsLegal, key_of, Request}
use Rattle.segmodel.specs.Words.{StoresValue, TakesKeyOut, value_of}
use Rattle.segmodel.proofs.Keys.{at_self}
use Rattle.segmodel.proofs.HistoryLemmas.{standing-put}
use Rattle.segcore.proofs.Moments.{begins_on}
use Rattle.segcore.specs.Event as event
use Rattle.segbase.specs.Words.{Board, number, Pass, seen, SinceFirst}
use Rattle.segread.specs.Words.{IsGetAnswer}
use Rattle.segwrite.specs.Words.{Writes}
use Rattle.segwrite.proofs.Told.{told_since}
use Rattle.segindex.specs.LaterReads.{Stood, StoresBetween}
use Rattle.segindex.specs.Probing.{ExpiredBetween, IsReadSince}

-- what was just stored stands
pub stored_stands : (shape : Shape) (pass : ℕ) (request : Request) (segment : ℕ) (history : List Entry)
    → Stood shape (key_of request) (value_of request) (Wrote pass request Stored (Some segment) ∷ history)
stored_stands shape pass request segment history =
    ap (λ o. option_map (λ item. item.value) o) (standing-put shape (key_of request) (value_of request) segment (after shape history) (key_of request) ∙ cond-true _ _ _ (at_self (key_of request)))

-- the same from the first step of the call on
pub stores_since : (b : Board) (request : Request) (p q : Pass) → Writes b request write.Stored p q → SinceFirst p q (λ start. StoresBetween b.shape (number p) request (event.seen start) (seen q))
stores_since b request p q writes =
    let segment = writes.answer.0 in
    let told = told_since b request Stored (Some segment) p q writes.on writes.answer.1 in (
      told.0,
      told.1,
      record {
        segment = segment;
        history = told.2.0;
        told = told.2.1;
        stood = stored_stands b.shape (number p) request segment told.2.0;
      },
    )

-- what came in before an earlier moment came in before a later one
came_by : (Is : Entry → Type 0) (old at new : List Entry) → Begins at new → CameBetween Is old at → CameBetween Is old new
came_by Is old at new begins came = (came.0, (came.1.0, came.1.1, begins_on (came.0 ∷ came.1.0) at new came.1.2 begins, came.1.3))

pub later_read : EarlierIsLegal → GoneIsTakenOut → ChangedIsStored
    → (shape : Shape) (key value : List ℕ) (now : ℕ) (told : GetAnswer) (stood old new : List Entry)
    → IsLegal shape new → Stood shape key value stood → Begins stood old → IsGetAnswer shape key now told old new
    → IsReadSince shape key value now told stood old new
later_read earlier gone changed shape key value now (get.Found other) stood old new legal stands begins answer =
    let at = answer.0 in
    let since = begins_on stood old at begins answer.1.0 in
    still (changed shape stood at now key value other (earlier shape at new answer.1.1 legal) since stands answer.2)
  where
    still : (other ≡ value) ⊎ CameBetween (StoresValue key other) stood answer.0
        → (other ≡ value) ⊎ CameBetween (StoresValue key other) stood new
    still (inl same) = inl same
    still (inr came) = inr (came_by (StoresValue key other) stood answer.0 new answer.1.1 came)
later_read earlier gone changed shape key value now get.Miss stood old new legal stands begins answer =
    let at = answer.0 in
    let since = begins_on stood old at begins answer.1.0 in
    still (gone shape stood at now key value (earlier shape at new answer.1.1 legal) since stands answer.2)
  where
    still : CameBetween (TakesKeyOut key) stood answer.0 ⊎ IsExpired (after shape answer.0) now key
        → CameBetween (TakesKeyOut key) stood new ⊎ ExpiredBetween shape key now stood new
    still (inl came) = inl (came_by (TakesKeyOut key) stood answer.0 new answer.1.1 came)
    still (inr expired) = inr (answer.0, (begins_on stood old answer.0 begins answer.1.0, answer.1.1), expired)
later_read earlier gone changed shape key value now get.Busy stood old new legal stands begins answer = answer
