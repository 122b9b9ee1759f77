-- A chain that grew: an overflow bucket was drawn where no word was left, joined the chain, and has an empty word for a new key.
use Rattle.std.proofs.Common.{◌≡◌, ℕ, ◌+◌, ◌*◌, ◌<◌, List, [], ◌∷◌, ◌++◌, Some, None, refl, sym, ap, ◌∙◌, subst, inl, arith}
use Rattle.std.proofs.lemmas.Bool.{eq-eqb}
use Rattle.segword.specs.Words.{Shape}
use Rattle.segmodel.specs.Words.{after, Begins, bucket_of, keys_in, standing}
use Rattle.segcore.specs.declared.event.Event.TheVariants.{Drew}
use Rattle.segcore.specs.Event as event
use Rattle.segcore.specs.Mark as mark
use Rattle.segcore.specs.Words.{acts, Bucket, bucket_after, Event, HasNoEmptyWord, IsItemAt}
use Rattle.segcore.specs.Words.{IsLawful, nothing}
use Rattle.segcore.proofs.KeyCounts.{counted_full, wide}
use Rattle.segcore.proofs.Limits.{home_in}
use Rattle.segcore.proofs.Marked.{entries_marked}
use Rattle.segcore.proofs.Orderly.{all_drawn_marked}
use Rattle.segbase.specs.Words.{AddsAtOnce, Board, cell_at, depth_to_draw, home_at, IsPassOf}
use Rattle.segbase.specs.Words.{number, Pass, Place, position, trace}
use Rattle.segstore.specs.Words.{HasCleanBit, memo}
use Rattle.segwrite.specs.Full.{HasNoWord, CanGrow, DrewInNeed}
use Rattle.segwrite.specs.FirstEmpty.{AreTakenBefore}
use Rattle.segwrite.specs.Writing.{IsInChain, IsNewKey}
use Rattle.segwrite.specs.Growing.{bucket_seen, IsLast, HasSpare, Prepares, joins, Joins, Lengthens}
use Rattle.segwrite.proofs.Acting.{as_seen, keys_as_seen, acted, prepares, prepares_then}
use Rattle.segwrite.proofs.Joining.{last_later, home_is}
use Rattle.segwrite.proofs.Places.{position_at, overflow_at}

-- all words of a bucket are taken, and no overflow bucket waits for its chain
pub no_word : (z : Shape) (h : List Event) (key : List ℕ) → IsLawful z h
    → HasNoEmptyWord (bucket_after z h (bucket_of z key)) → (bucket_after z h (bucket_of z key)).spare ≡ None
    → standing (after z (event.seen h)) key ≡ None → HasNoWord z (mark.marked h) key
no_word z h key l all none absent =
    let k = bucket_of z key in let same = entries_marked h in let full = counted_full z h k l all in let long = wide z h k l none in record {
      new = ap (λ g. standing (after z g) key) same ∙ absent;
      full = ap (λ g. keys_in z (after z g) k) same ∙ omega (arith, full, long);
    }

module _ (b : Board) (bucket overflow : ℕ) (place : Place) (word : ℕ) (p r : Pass) (is : IsPassOf b p) (clean : HasCleanBit b p bucket) (l : IsLast b bucket place word p)
    (all : HasNoEmptyWord (bucket_seen b bucket p)) (drew : AddsAtOnce b (Drew (number p) bucket (depth_to_draw b bucket p) overflow ∷ []) p r) where
  abbrev z : Shape
  z = b.shape

  abbrev u : Bucket
  u = bucket_seen b bucket p

  abbrev draws : Event
  draws = Drew (number p) bucket (depth_to_draw b bucket p) overflow

  drawn : bucket_seen b bucket r ≡ acts draws u
  drawn = acted b draws p r bucket drew clean.bit (eq-eqb bucket bucket refl)

  pub spare_drawn : HasSpare b bucket overflow r
  spare_drawn = record {
    bit = (clean.bit.0, ap (λ (v : Bucket). v.holder) drawn ∙ (clean.bit.1 ∙ ap Some (sym drew.moved.same)));
    unwritten = ap (λ (v : Bucket). v.written) drawn ∙ clean.unwritten;
    spare = ap (λ (v : Bucket). v.spare) drawn;
    full = subst HasNoEmptyWord (sym drawn) all;
  }

  pub last_drawn : IsLast b bucket place word r
  last_drawn = last_later b draws p r bucket place word is drew clean.bit (eq-eqb bucket bucket refl) (record { chained = refl; here = refl; frequencies = λ h s i. refl }) l

  pub home_drawn : home_at b place r ≡ bucket
  home_drawn = home_is b bucket overflow place word r drew.moved.pass spare_drawn last_drawn

  -- ---- the moment of the draw

  abbrev then : List Event
  then = drew.others ++ trace p

  lawful_drawn : IsLawful z (draws ∷ then)
  lawful_drawn = subst (IsLawful z) drew.now drew.moved.pass.lawful

  can_grow : (key : List ℕ) → bucket_of z key ≡ bucket → IsNewKey b key p → CanGrow z (mark.marked then) key
  can_grow key of absent =
      let seen_so = as_seen b draws p r bucket drew clean.bit in
      let all_then : HasNoEmptyWord (bucket_after z then bucket) = subst HasNoEmptyWord (sym seen_so) all in
      let none_then : (bucket_after z then bucket).spare ≡ None = ap (λ (v : Bucket). v.spare) seen_so ∙ clean.undrawn in
      let long = wide z then bucket lawful_drawn.0 none_then in let count = all_drawn_marked then in
      let suits = lawful_drawn.1.suits in let e0 = suits.0 in let e1 = suits.1 in let deep = suits.3 in let few = suits.4 in record {
        no_word = no_word z then key lawful_drawn.0 (subst (λ k. HasNoEmptyWord (bucket_after z then k)) (sym of) all_then) (ap (λ k. (bucket_after z then k).spare) of ∙ none_then)
            ((keys_as_seen b draws p r bucket drew clean.bit key of).stands ∙ absent);
        short = subst (λ k. mark.width (mark.marked then) k < 4) (sym of) (omega (arith, long, deep, few));
        left = omega (arith, count, e0, e1);
      }

  module _ (q : Pass) (plain : r.plain ≡ p.plain) (same : memo r ≡ memo p) (joined : Joins b bucket overflow r q) where
    abbrev room : Place
    room = record { bucket = z.buckets + overflow; word = 2 }

    abbrev longer : Bucket
    longer = bucket_seen b bucket q

    lawful_now : IsLawful z (trace q)
    lawful_now = joined.1.moved.pass.lawful

    in_need : (key : List ℕ) → bucket_of z key ≡ bucket → IsNewKey b key p → DrewInNeed z key (number p) (trace p) (trace q)
    in_need key of absent =
        let on = joined.1.moved in let deep = depth_to_draw b bucket p in record {
          at = then;
          depth = deep;
          overflow = overflow;
          since = (drew.others, refl);
          draw = subst (λ k. Begins (Drew (number p) k deep overflow ∷ then) (trace q)) (sym of) (on.more, on.goes_on ∙ ap (λ h. on.more ++ h) drew.now);
          could = can_grow key of absent;
        }

    room_at : IsItemAt z (trace q) bucket (8 * longer.chained + 2) (cell_at z room)
    room_at = ((omega arith, omega arith), overflow_at z (trace q) bucket longer.chained overflow 2 joined.2.home (omega arith))

    room_position : position z (trace q) room ≡ 8 * longer.chained + 2
    room_position = position_at z (trace q) bucket (8 * longer.chained + 2) room room_at.1

    pub overflow_in : overflow < z.overflow
    overflow_in = home_in z (trace q) overflow _ lawful_now joined.2.home

    pub lengthened : Lengthens b bucket (record { place = room; word = 0 }) p q
    lengthened =
        let both = prepares_then b (draws ∷ []) (joins (number r) bucket overflow joined.0) bucket p r q (prepares b draws p r bucket drew clean.bit refl plain same) joined.1 in record {
          depth = depth_to_draw b bucket p;
          overflow = overflow;
          words = joined.0;
          prepares = subst (λ n. Prepares b (joins n bucket overflow joined.0 ++ draws ∷ []) bucket p q) drew.moved.same both;
          clean = joined.2.clean;
          second = refl;
          free = λ key of absent. record {
            chain = subst (λ k. IsInChain b k room q) (sym of)
                (record {
                  in_table = (omega (arith, overflow_in), omega arith, omega arith);
                  at = subst (λ n. IsItemAt z (trace q) bucket n (cell_at z room)) (sym room_position) room_at;
                });
            is = inl (
              refl,
              subst (λ k. (bucket_after z (trace q) k).items (position z (trace q) room) ≡ nothing)
                  (sym of) (ap longer.items room_position ∙ joined.2.empty),
              (both.keys key of).stands
                  ∙ absent,
              subst (λ k. AreTakenBefore (bucket_after z (trace q) k) (position z (trace q) room))
                  (sym of) (subst (AreTakenBefore longer) (sym room_position) joined.2.before),
            );
          };
          could = in_need;
        }
