-- What a get reads after a set of its key was stored.
use Rattle.std.proofs.Common.{ℕ, List, ◌∷◌, Option, Some, None}
use Rattle.segword.specs.Words.{Shape}
use Rattle.segmodel.specs.declared.entry.Entry.TheVariants.{Wrote}
use Rattle.segmodel.specs.declared.request.Request.TheVariants.{Set}
use Rattle.segmodel.specs.declared.request.Reply.TheVariants.{Stored}
use Rattle.segmodel.specs.Words.{after, Begins, ChangedIsStored, EarlierIsLegal, Entry}
use Rattle.segmodel.specs.Words.{Follows, GetAnswer, GoneIsTakenOut, IsLegal}
use Rattle.segread.specs.Words.{IsGetAnswer}
use Rattle.segindex.specs.LaterReads.{Stood}
use Rattle.segindex.specs.Probing.{IsReadSince}
use Rattle.segindex.proofs.LaterReads.{later_read, stored_stands}

-- the value of a set that could come next stands
set_stands : (shape : Shape) (pass : ℕ) (key value : List ℕ) (now : ℕ) (segment : Option ℕ) (history : List Entry)
    → Follows shape (after shape history) (Wrote pass (Set key value now) Stored segment)
    → Stood shape key value (Wrote pass (Set key value now) Stored segment ∷ history)
set_stands shape pass key value now None history follows = absurd follows.1
set_stands shape pass key value now (Some s) history follows = stored_stands shape pass (Set key value now) s history

pub read_since : EarlierIsLegal → GoneIsTakenOut → ChangedIsStored
    → (shape : Shape) (pass : ℕ) (key value : List ℕ) (now : ℕ) (told : GetAnswer) (segment : Option ℕ) (history old new : List Entry)
    → IsLegal shape new → Begins old new → Begins (Wrote pass (Set key value now) Stored segment ∷ history) old → IsGetAnswer shape key now told old new
    → IsReadSince shape key value now told (Wrote pass (Set key value now) Stored segment ∷ history) old new
read_since earlier gone changed shape pass key value now told segment history old new legal grows begins answer =
    let stored = Wrote pass (Set key value now) Stored segment ∷ history in
    let follows = (earlier shape stored old begins (earlier shape old new grows legal)).1 in
    later_read earlier gone changed shape key value now told stored old new legal (set_stands shape pass key value now segment history follows) begins answer
