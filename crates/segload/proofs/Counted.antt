-- What is counted of a command, by the entries that it added.
use Rattle.std.proofs.Common.{◌≡◌, ℕ, zero, suc, List, [], ◌∷◌, ◌++◌, Option, Some, None, refl, sym, ap, ◌∙◌, subst, inl, inr, zero-add, arith}
use Rattle.segmodel.proofs.Counts.{count_by-cons}
use Rattle.segmodel.specs.Words.{Entry, Reply, Request}
use Rattle.segmodel.specs.declared.request.Request.TheVariants as request
use Rattle.segmodel.specs.declared.request.Reply.TheVariants as reply
use Rattle.segmodel.specs.declared.entry.Entry.TheVariants.{Wrote, Evicted, Refilled}
use Rattle.segword.specs.Words.{Shape}
use Rattle.segevict.specs.Words.{AreEvictions}
use Rattle.segpolicy.specs.declared.load.Kind.TheVariants as kind
use Rattle.segpolicy.specs.Words.{Draws, Kind, Load, next_load, next_of}
use Rattle.segtally.specs.declared.tally.Tally.{Tally}
use Rattle.segtally.specs.declared.tally.Tally.TheVariants as tally
use Rattle.segload.specs.declared.totals.Tallies.{Tallies}
use Rattle.segload.specs.Counting.{no_tallies, count_of_reply, with_one_more, tells, replies, CountsReplies}
use Rattle.segload.specs.Making.{ClientState, load_deadline, load_moment, IsReadAs, IsVersionReadAs, IsWrittenAs, Empties, IsStoredAs, CameTo, draws_after, Makes}

-- tallies that counted the writes among the entries before count those among the entries now, with one command more
abbrev Counts : Tally → List Entry → List Entry → Type 0
Counts counted_as before now = (t : Tallies) → CountsReplies t before → CountsReplies (with_one_more counted_as t) now

-- how a reply is counted
reply_tally : Reply → Tally
reply_tally reply.Stored = tally.Stored
reply_tally reply.NotStored = tally.NotStored
reply_tally reply.Exists = tally.Exists
reply_tally reply.NotFound = tally.NotFound
reply_tally reply.Deleted = tally.Deleted

-- one more entry, counted by its reply
replied_more : (said told : Reply) (n : ℕ) (request : Request) (segment : Option ℕ) (own : List Entry) (t : Tallies)
    → count_of_reply told t ≡ replies told own → count_of_reply told (with_one_more (reply_tally said) t) ≡ replies told (Wrote n request said segment ∷ own)
unfolding reply_tally
replied_more reply.Stored reply.Stored n request segment own t h = omega (arith, h, count_by-cons (tells reply.Stored) (Wrote n request reply.Stored segment) own)
replied_more reply.Stored reply.NotStored n request segment own t h = omega (arith, h, count_by-cons (tells reply.NotStored) (Wrote n request reply.Stored segment) own)
replied_more reply.Stored reply.Exists n request segment own t h = omega (arith, h, count_by-cons (tells reply.Exists) (Wrote n request reply.Stored segment) own)
replied_more reply.Stored reply.NotFound n request segment own t h = omega (arith, h, count_by-cons (tells reply.NotFound) (Wrote n request reply.Stored segment) own)
replied_more reply.Stored reply.Deleted n request segment own t h = omega (arith, h, count_by-cons (tells reply.Deleted) (Wrote n request reply.Stored segment) own)
replied_more reply.NotStored reply.Stored n request segment own t h = omega (arith, h, count_by-cons (tells reply.Stored) (Wrote n request reply.NotStored segment) own)
replied_more reply.NotStored reply.NotStored n request segment own t h = omega (arith, h, count_by-cons (tells reply.NotStored) (Wrote n request reply.NotStored segment) own)
replied_more reply.NotStored reply.Exists n request segment own t h = omega (arith, h, count_by-cons (tells reply.Exists) (Wrote n request reply.NotStored segment) own)
replied_more reply.NotStored reply.NotFound n request segment own t h = omega (arith, h, count_by-cons (tells reply.NotFound) (Wrote n request reply.NotStored segment) own)
replied_more reply.NotStored reply.Deleted n request segment own t h = omega (arith, h, count_by-cons (tells reply.Deleted) (Wrote n request reply.NotStored segment) own)
replied_more reply.Exists reply.Stored n request segment own t h = omega (arith, h, count_by-cons (tells reply.Stored) (Wrote n request reply.Exists segment) own)
replied_more reply.Exists reply.NotStored n request segment own t h = omega (arith, h, count_by-cons (tells reply.NotStored) (Wrote n request reply.Exists segment) own)
replied_more reply.Exists reply.Exists n request segment own t h = omega (arith, h, count_by-cons (tells reply.Exists) (Wrote n request reply.Exists segment) own)
replied_more reply.Exists reply.NotFound n request segment own t h = omega (arith, h, count_by-cons (tells reply.NotFound) (Wrote n request reply.Exists segment) own)
replied_more reply.Exists reply.Deleted n request segment own t h = omega (arith, h, count_by-cons (tells reply.Deleted) (Wrote n request reply.Exists segment) own)
replied_more reply.NotFound reply.Stored n request segment own t h = omega (arith, h, count_by-cons (tells reply.Stored) (Wrote n request reply.NotFound segment) own)
replied_more reply.NotFound reply.NotStored n request segment own t h = omega (arith, h, count_by-cons (tells reply.NotStored) (Wrote n request reply.NotFound segment) own)
replied_more reply.NotFound reply.Exists n request segment own t h = omega (arith, h, count_by-cons (tells reply.Exists) (Wrote n request reply.NotFound segment) own)
replied_more reply.NotFound reply.NotFound n request segment own t h = omega (arith, h, count_by-cons (tells reply.NotFound) (Wrote n request reply.NotFound segment) own)
replied_more reply.NotFound reply.Deleted n request segment own t h = omega (arith, h, count_by-cons (tells reply.Deleted) (Wrote n request reply.NotFound segment) own)
replied_more reply.Deleted reply.Stored n request segment own t h = omega (arith, h, count_by-cons (tells reply.Stored) (Wrote n request reply.Deleted segment) own)
replied_more reply.Deleted reply.NotStored n request segment own t h = omega (arith, h, count_by-cons (tells reply.NotStored) (Wrote n request reply.Deleted segment) own)
replied_more reply.Deleted reply.Exists n request segment own t h = omega (arith, h, count_by-cons (tells reply.Exists) (Wrote n request reply.Deleted segment) own)
replied_more reply.Deleted reply.NotFound n request segment own t h = omega (arith, h, count_by-cons (tells reply.NotFound) (Wrote n request reply.Deleted segment) own)
replied_more reply.Deleted reply.Deleted n request segment own t h = omega (arith, h, count_by-cons (tells reply.Deleted) (Wrote n request reply.Deleted segment) own)

replied : (said : Reply) (n : ℕ) (request : Request) (segment : Option ℕ) (before now : List Entry) → now ≡ Wrote n request said segment ∷ before → Counts (reply_tally said) before now
replied said n request segment before now e t counts told = replied_more said told n request segment before t (counts told) ∙ ap (replies told) (sym e)

-- what is no reply adds to none of the tallies of replies
unreplied : Tally → Type 0
unreplied counted_as = (told : Reply) (t : Tallies) → count_of_reply told (with_one_more counted_as t) ≡ count_of_reply told t

hit : unreplied tally.Hit
unfolding unreplied
hit told t = elim told as (λ r. count_of_reply r (with_one_more tally.Hit t) ≡ count_of_reply r t) [
  | reply.Stored ↦ refl
  | reply.NotStored ↦ refl
  | reply.Exists ↦ refl
  | reply.NotFound ↦ refl
  | reply.Deleted ↦ refl
]

miss : unreplied tally.Miss
unfolding unreplied
miss told t = elim told as (λ r. count_of_reply r (with_one_more tally.Miss t) ≡ count_of_reply r t) [
  | reply.Stored ↦ refl
  | reply.NotStored ↦ refl
  | reply.Exists ↦ refl
  | reply.NotFound ↦ refl
  | reply.Deleted ↦ refl
]

no_room : unreplied tally.NoRoom
unfolding unreplied
no_room told t = elim told as (λ r. count_of_reply r (with_one_more tally.NoRoom t) ≡ count_of_reply r t) [
  | reply.Stored ↦ refl
  | reply.NotStored ↦ refl
  | reply.Exists ↦ refl
  | reply.NotFound ↦ refl
  | reply.Deleted ↦ refl
]

bucket_full : unreplied tally.BucketFull
unfolding unreplied
bucket_full told t = elim told as (λ r. count_of_reply r (with_one_more tally.BucketFull t) ≡ count_of_reply r t) [
  | reply.Stored ↦ refl
  | reply.NotStored ↦ refl
  | reply.Exists ↦ refl
  | reply.NotFound ↦ refl
  | reply.Deleted ↦ refl
]

busy : unreplied tally.Busy
unfolding unreplied
busy told t = elim told as (λ r. count_of_reply r (with_one_more tally.Busy t) ≡ count_of_reply r t) [
  | reply.Stored ↦ refl
  | reply.NotStored ↦ refl
  | reply.Exists ↦ refl
  | reply.NotFound ↦ refl
  | reply.Deleted ↦ refl
]

untold : (counted_as : Tally) (before now : List Entry) → unreplied counted_as → now ≡ before → Counts counted_as before now
unfolding unreplied
untold counted_as before now same e t counts told = same told t ∙ (counts told ∙ ap (replies told) (sym e))

counts_read : (shape : Shape) (history : List Entry) (pass : ℕ) (own : List Entry) (key : List ℕ) (told : Tally)
    (now : List Entry) → IsReadAs shape history pass own key told → now ≡ own → Counts told own now
counts_read shape history pass own key tally.Hit now read e = untold tally.Hit own now hit e
counts_read shape history pass own key tally.Miss now read e = untold tally.Miss own now miss e
counts_read shape history pass own key tally.Busy now read e = untold tally.Busy own now busy e
counts_read shape history pass own key _ now read e = absurd read

counts_version : (shape : Shape) (history : List Entry) (pass : ℕ) (own : List Entry) (key : List ℕ) (told : Tally)
    (from to : ClientState) (now : List Entry) → IsVersionReadAs shape history pass own key told from to → now ≡ own
    → Counts told own now
counts_version shape history pass own key tally.Hit from to now read e = untold tally.Hit own now hit e
counts_version shape history pass own key tally.Miss from to now read e = untold tally.Miss own now miss e
counts_version shape history pass own key tally.Busy from to now read e = untold tally.Busy own now busy e
counts_version shape history pass own key _ from to now read e = absurd read.0

counts_written : (shape : Shape) (history : List Entry) (pass : ℕ) (asked : Request) (told : Tally)
    (before now : List Entry) → IsWrittenAs shape history pass asked told before now → Counts told before now
unfolding reply_tally
counts_written shape history pass asked tally.Stored before now written = replied reply.Stored pass asked (Some written.0) before now written.1
counts_written shape history pass asked tally.NotStored before now written = replied reply.NotStored pass asked None before now written
counts_written shape history pass asked tally.Exists before now written = replied reply.Exists pass asked None before now written
counts_written shape history pass asked tally.NotFound before now written = replied reply.NotFound pass asked None before now written
counts_written shape history pass asked tally.Deleted before now written = replied reply.Deleted pass asked None before now written
counts_written shape history pass asked tally.BucketFull before now written = untold tally.BucketFull before now bucket_full written.0
counts_written shape history pass asked tally.Busy before now written = untold tally.Busy before now busy written.0
counts_written shape history pass asked _ before now written = absurd written

-- an eviction or a refilling is no reply
evicted_one : (told : Reply) (pass segment : ℕ) (key : List ℕ) (own : List Entry) → replies told (Evicted pass key segment ∷ own) ≡ replies told own
evicted_one reply.Stored pass segment key own = count_by-cons (tells reply.Stored) (Evicted pass key segment) own ∙ zero-add (replies reply.Stored own)
evicted_one reply.NotStored pass segment key own = count_by-cons (tells reply.NotStored) (Evicted pass key segment) own ∙ zero-add (replies reply.NotStored own)
evicted_one reply.Exists pass segment key own = count_by-cons (tells reply.Exists) (Evicted pass key segment) own ∙ zero-add (replies reply.Exists own)
evicted_one reply.NotFound pass segment key own = count_by-cons (tells reply.NotFound) (Evicted pass key segment) own ∙ zero-add (replies reply.NotFound own)
evicted_one reply.Deleted pass segment key own = count_by-cons (tells reply.Deleted) (Evicted pass key segment) own ∙ zero-add (replies reply.Deleted own)

refilled_one : (told : Reply) (pass segment deadline : ℕ) (own : List Entry) → replies told (Refilled pass segment deadline ∷ own) ≡ replies told own
refilled_one reply.Stored pass segment deadline own = count_by-cons (tells reply.Stored) (Refilled pass segment deadline) own ∙ zero-add (replies reply.Stored own)
refilled_one reply.NotStored pass segment deadline own = count_by-cons (tells reply.NotStored) (Refilled pass segment deadline) own ∙ zero-add (replies reply.NotStored own)
refilled_one reply.Exists pass segment deadline own = count_by-cons (tells reply.Exists) (Refilled pass segment deadline) own ∙ zero-add (replies reply.Exists own)
refilled_one reply.NotFound pass segment deadline own = count_by-cons (tells reply.NotFound) (Refilled pass segment deadline) own ∙ zero-add (replies reply.NotFound own)
refilled_one reply.Deleted pass segment deadline own = count_by-cons (tells reply.Deleted) (Refilled pass segment deadline) own ∙ zero-add (replies reply.Deleted own)

evicted_more : (told : Reply) (pass segment : ℕ) (evictions own : List Entry) → AreEvictions pass segment evictions → replies told (evictions ++ own) ≡ replies told own
evicted_more told pass segment [] own all = refl
evicted_more told pass segment (added ∷ more) own all =
    subst (λ e. replies told (e ∷ (more ++ own)) ≡ replies told own) (sym all.0.1)
    (evicted_one told pass segment all.0.0 (more ++ own) ∙ evicted_more told pass segment more own all.1)

emptied : (told : Reply) (pass segment : ℕ) (before room : List Entry) → Empties pass segment before room → replies told room ≡ replies told before
emptied told pass segment before room (evictions, all, is) = ap (replies told) is ∙ evicted_more told pass segment evictions before all

counts_stored : (shape : Shape) (history : List Entry) (pass : ℕ) (asked : Request) (told : Tally)
    (from to : ClientState) (before now : List Entry) → IsStoredAs shape history pass asked told from to before now
    → Counts told before now
counts_stored shape history pass asked told from to before now (inl (written, kept)) = counts_written shape history pass asked told before now written
counts_stored shape history pass asked told from to before now (inr ((room, out, inl written), turned)) = λ t counts.
    counts_written shape history pass asked told (Refilled pass (next_of from.segments) load_deadline ∷ room) now written t
    (λ said. counts said ∙ sym (refilled_one said pass (next_of from.segments) load_deadline room ∙ emptied said pass (next_of from.segments) before room out))
counts_stored shape history pass asked told from to before now (inr ((room, out, inr (none, same, others)), turned)) = λ t counts.
    subst (λ x. Counts x room now) (sym none) (untold tally.NoRoom room now no_room same) t (λ said. counts said ∙ sym (emptied said pass (next_of from.segments) before room out))

counts_one : (shape : Shape) (history : List Entry) (pass : ℕ) (of : Kind) (load : Load) (told : Tally)
    (from to : ClientState) (before now : List Entry) → CameTo shape history pass of load told from to before now
    → Counts told before now
counts_one shape history pass kind.Get load told from to before now came = counts_read shape history pass before load.key told now came.0 came.1
counts_one shape history pass kind.Gets load told from to before now came = counts_version shape history pass before load.key told from to now came.0 came.1
counts_one shape history pass kind.Set load told from to before now came = counts_stored shape history pass (request.Set load.key load.value load_moment) told from to before now came
counts_one shape history pass kind.Add load told from to before now came = counts_stored shape history pass (request.Add load.key load.value load_moment) told from to before now came
counts_one shape history pass kind.Replace load told from to before now came = counts_stored shape history pass (request.Replace load.key load.value load_moment) told from to before now came
counts_one shape history pass kind.Cas load told from to before now came = counts_stored shape history pass (request.Cas load.key load.value from.version load_moment) told from to before now came
counts_one shape history pass kind.Delete load told from to before now came = counts_written shape history pass (request.Delete load.key load_moment) told before now came.0

counts_nothing : (told : Reply) → count_of_reply told no_tallies ≡ replies told []
counts_nothing reply.Stored = refl
counts_nothing reply.NotStored = refl
counts_nothing reply.Exists = refl
counts_nothing reply.NotFound = refl
counts_nothing reply.Deleted = refl

-- the tallies of commands count the replies among the entries that these added
pub counts_made : (shape : Shape) (history : List Entry) (pass : ℕ) (draws : Draws) (made : ℕ) (t : Tallies)
    (course : ClientState) (own : List Entry) → Makes shape history pass draws made t course own
    → CountsReplies t own
counts_made shape history pass draws zero t course own makes = λ told. ap (count_of_reply told) makes.0 ∙ (counts_nothing told ∙ ap (replies told) (sym makes.2))
counts_made shape history pass draws (suc made) t course own (told, before, from, own_before, makes, came, counts) =
    let load = next_load (draws_after draws made) in
    subst (λ x. CountsReplies x own) (sym counts)
    (counts_one shape history pass load.kind load told from course own_before own came before (counts_made shape history pass draws made before from own_before makes))
