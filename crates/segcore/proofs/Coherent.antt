-- What the chains of a lawful trace and the cache have to do with one another, as it is proved by induction.
use Rattle.std.specs.Prelude.{◌≡◌, ℕ, ◌+◌, ◌*◌, ◌<◌, ◌≤◌, ◌==◌, ◌⊎◌, true, List, [], ◌∷◌, Option, Some, None, if◌then◌else◌}
use Rattle.segword.specs.Words.{covers, IsKey, IsValue, Shape, span_of}
use Rattle.segmodel.specs.Words.{after, bucket_of, Cached, key_of, standing}
use Rattle.segcore.specs.Words.{Event}
use Rattle.segcore.specs.declared.event.Event.TheVariants.{Linked, Relinked, Chained}
use Rattle.segcore.specs.Event.{seen}
use Rattle.segcore.specs.Bucket.{Slot, slot, Content, nothing, item, next, copy, Bucket, last, fresh_position, IsPosition, bucket_after}
use Rattle.segcore.specs.Overflow.{home_of}
use Rattle.segcore.specs.Row.{Holds, row_after, row_alone}
use Rattle.segcore.specs.Mark.{same_key, marked, last_at}
use Rattle.segcore.specs.Standing.{cached}

-- ---- chains

-- what a position holds: an item in the chain, the number of the next bucket at the end of one, a copy in a drawn bucket alone
abbrev pub IsContent : List Event → ℕ → Bucket → ℕ → Content → Type 0
IsContent h b u n nothing = Unit {0}
IsContent h b u n (item a) = IsPosition u n
IsContent h b u n (next m) = (d : ℕ) × (d < u.chained) × (n ≡ 8 * d + 7) × (home_of h m ≡ Some (record { bucket = b; depth = d + 1 }))
IsContent h b u n (copy w) = (n ≡ fresh_position u) × ((m : ℕ) × (u.spare ≡ Some m))

pub record IsChain (h : List Event) (b : ℕ) (u : Bucket) : Type 0 where
  pub short : u.chained < 4
  pub contents : (n : ℕ) → IsContent h b u n (u.items n)
  -- the overflow buckets drawn for it are those of its chain, and the spare one
  pub homes : (m d : ℕ) → home_of h m ≡ Some (record { bucket = b; depth = d }) → ((0 < d) × (d ≤ u.chained)) ⊎ ((d ≡ u.chained + 1) × (u.spare ≡ Some m))
  pub spare : (m : ℕ) → u.spare ≡ Some m → (u.chained < 3) × (home_of h m ≡ Some (record { bucket = b; depth = u.chained + 1 }))

-- ---- items

-- the item's key stands in its segment, with the value of its row
pub record IsStanding (z : Shape) (h : List Event) (b n : ℕ) (a : Slot) : Type 0 where
  pub here : bucket_of z a.key ≡ b
  pub position : IsPosition (bucket_after z h b) n
  pub within : (a.segment < z.passes * z.segments_each) × (a.row < z.rows)
  pub linked : (row_after h a.segment a.row).linked ≡ Some a.key
  pub value : List ℕ
  pub valid : IsKey a.key × IsValue value
  pub holds : Holds (row_after h a.segment a.row) a.key value
  -- all rows of the item are linked to the key
  pub rows : (i : ℕ) → covers a.row (span_of a.key value) i ≡ true → (row_alone h a.segment i).linked ≡ Some a.key
  pub stands : standing (after z (seen h)) a.key ≡ Some (cached value a.segment)
  pub last : last_at (marked h) a.key ≡ Some (slot a.key a.segment a.row)

-- where the last link of a key and the chainings after it put its item
abbrev pub moved : Bucket → Option ℕ → Option ℕ
moved u None = None
moved u (Some n) = Some (if last u == n then fresh_position u else n)

abbrev pub place : Shape → List Event → List ℕ → Option ℕ
place z [] k = None
place z (Linked p q s r n ∷ h) k = if same_key (key_of q) k then Some n else place z h k
place z (Relinked p k' f i s r n ∷ h) k = if same_key k' k then Some n else place z h k
place z (Chained p b m ∷ h) k = if b == bucket_of z k then moved (bucket_after z h b) (place z h k) else place z h k
place z (_ ∷ h) k = place z h k

pub record Coherent (z : Shape) (h : List Event) : Type 0 where
  pub chains : (b : ℕ) → IsChain h b (bucket_after z h b)
  pub items : (b n : ℕ) (a : Slot) → (bucket_after z h b).items n ≡ item a → IsStanding z h b n a
  -- an item is at its key's place; so no key has two
  pub placed : (b n : ℕ) (a : Slot) → (bucket_after z h b).items n ≡ item a → place z h a.key ≡ Some n
  -- what stands has an item
  pub all : (k : List ℕ) (x : Cached) → standing (after z (seen h)) k ≡ Some x → (n : ℕ) × (a : Slot) × ((bucket_after z h (bucket_of z k)).items n ≡ item a) × (a.key ≡ k)
