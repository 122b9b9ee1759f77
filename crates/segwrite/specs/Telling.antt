-- What the replies to writes say of the one history.
use Rattle.std.specs.Prelude.{◌≡◌, ℕ, ◌%◌, ◌^◌, ◌==◌, is_some, List, ◌∷◌, Option, if◌then◌else◌}
use Rattle.segword.specs.Words.{Shape}
use Rattle.segmodel.specs.declared.entry.Entry.TheVariants.{Wrote}
use Rattle.segmodel.specs.declared.request.Reply.TheVariants.{Stored, Exists, NotFound}
use Rattle.segmodel.specs.Words.{after, Begins, bucket_of, Entry, present, Reply, reply_in, Request}
use Rattle.segmodel.specs.Words.{writes}

-- From one history to a longer one, the request of this pass has this reply.
-- Its entry came in right after a history at which a cache of one thread gives this reply.
pub record IsTold (shape : Shape) (pass : ℕ) (request : Request) (said : Reply)
    (segment : Option ℕ) (old new history : List Entry) : Type 0 where
  pub since : Begins old history
  pub entered : Begins (Wrote pass request said segment ∷ history) new
  pub replied : said ≡ reply_in shape (after shape history) request

abbrev pub WasTold : Shape → ℕ → Request → Reply → List Entry → List Entry → Type 0
WasTold shape pass request said old new =
    (segment : Option ℕ)
    × ((history : List Entry) × IsTold shape pass request said segment old new history)

-- the reply to a cas of a key at a moment,
-- with the version that the key's bucket had at an earlier moment
abbrev pub cas_reply : Shape → List ℕ → ℕ → List Entry → List Entry → Reply
cas_reply shape key now old new =
    if is_some (present (after shape new) now key)
    then (if writes shape new (bucket_of shape key) % 2 ^ 32
    == writes shape old (bucket_of shape key) % 2 ^ 32
    then Stored
    else Exists)
    else NotFound
