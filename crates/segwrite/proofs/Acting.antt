-- A step in a bucket whose bit the pass has: what it leaves of the bucket, and of its keys where it adds no entry.
use Rattle.std.proofs.Common.{◌≡◌, ℕ, true, List, [], ◌∷◌, ◌++◌, None, sym, ap, ◌∙◌, subst}
use Rattle.std.proofs.lemmas.Bool.{cond-true}
use Rattle.segmodel.specs.Words.{after, bucket_of, IsSameAt}
use Rattle.segcore.specs.Words.{acts, bucket_after, bucket_at, entry_of, Event, HasBit, is}
use Rattle.segcore.specs.Words.{with_entry}
use Rattle.segcore.specs.Event as event
use Rattle.segcore.proofs.Quiet.{quiet, quiet_at}
use Rattle.segbase.specs.Words.{AddsAtOnce, Board, number, Pass, seen, trace}
use Rattle.segbase.proofs.Moves.{moved_then}
use Rattle.segstore.specs.Words.{Idles, memo}
use Rattle.segwrite.specs.Growing.{bucket_seen, Prepares}
use Rattle.segstore.proofs.UnderBit.{moved_at}

module _ (b : Board) (e : Event) (p q : Pass) (bucket : ℕ) (d : AddsAtOnce b (e ∷ []) p q) (bit : HasBit b.shape (trace p) (number p) bucket) where
  -- others did nothing in it meanwhile
  pub as_seen : bucket_after b.shape (d.others ++ trace p) bucket ≡ bucket_seen b bucket p
  as_seen = quiet b.shape d.others (trace p) (number p) bucket d.before d.none bit.1

  pub keys_as_seen : (key : List ℕ) → bucket_of b.shape key ≡ bucket → IsSameAt b.shape (after b.shape (seen p)) (after b.shape (event.seen (d.others ++ trace p))) key
  keys_as_seen key of = quiet_at b.shape d.others (trace p) (number p) key d.before d.none (ap (λ k. (bucket_after b.shape (trace p) k).holder) of ∙ bit.1)

  pub acted : is (bucket_at b.shape e) bucket ≡ true → bucket_seen b bucket q ≡ acts e (bucket_seen b bucket p)
  acted at = ap (λ h. bucket_after b.shape h bucket) d.now
      ∙ (cond-true (is (bucket_at b.shape e) bucket) (acts e (bucket_after b.shape (d.others ++ trace p) bucket)) (bucket_after b.shape (d.others ++ trace p) bucket) at ∙ ap (acts e) as_seen)

  pub prepares : entry_of e ≡ None → q.plain ≡ p.plain → memo q ≡ memo p → Prepares b (e ∷ []) bucket p q
  prepares none plain same = record {
    moved = d.moved;
    plain = plain;
    memo = same;
    keys = λ key of. subst (λ h. IsSameAt b.shape (after b.shape (seen p)) (after b.shape h) key)
        (sym (ap event.seen d.now ∙ ap (λ o. with_entry o (event.seen (d.others ++ trace p))) none))
        (keys_as_seen key of);
  }

-- a pass that did nothing
pub idle_prepares : (b : Board) (p q : Pass) (bucket : ℕ) → Idles b p q → HasBit b.shape (trace p) (number p) bucket → Prepares b [] bucket p q
idle_prepares b p q bucket i bit = record {
  moved = i.moved;
  plain = i.plain;
  memo = i.memo;
  keys = λ key of. moved_at b [] p q key i.moved (subst (HasBit b.shape (trace p) (number p)) (sym of) bit) tt;
}

-- one after another
pub prepares_then : (b : Board) (first second : List Event) (bucket : ℕ) (p q r : Pass) → Prepares b first bucket p q → Prepares b second bucket q r → Prepares b (second ++ first) bucket p r
prepares_then b first second bucket p q r i j = record {
  moved = moved_then b first second p q r i.moved j.moved;
  plain = j.plain ∙ i.plain;
  memo = j.memo ∙ i.memo;
  keys = λ key of. let old = i.keys key of in let new = j.keys key of in record { stands = new.stands ∙ old.stands; finds = λ now. new.finds now ∙ old.finds now; version = new.version ∙ old.version };
}
