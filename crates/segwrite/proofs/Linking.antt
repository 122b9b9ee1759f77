-- The exchange of the key's word, for an item or for nothing: it comes about, at the first try or after its frequency rose.
use Rattle.std.proofs.Common.{◌≡◌, ◌≢◌, ℕ, ◌≤◌, false, List, [], ◌∷◌, ◌++◌, refl, sym, ap, ◌∙◌, subst, ⊎_elim, append_assoc, append-nil, arith}
use Rattle.segword.specs.Words.{IsSameItem}
use Rattle.segmodel.specs.Words.{bucket_of, Request}
use Rattle.segcore.specs.declared.event.Event.TheVariants.{Linked, Unlinked}
use Rattle.segcore.specs.Words.{by, Event, Fits, HasBit, is_of_now, IsLawful, Leaving, NoneBy}
use Rattle.segcore.proofs.Quiet.{later}
use Rattle.segbase.specs.Words.{AddsAtOnce, AddsEvents, Board, HasItemOf, IsPassOf}
use Rattle.segbase.specs.Words.{Missed, number, Pass, Place, position, trace}
use Rattle.segbase.proofs.Moves.{stays, moved_then}
use Rattle.segcore.proofs.Moments.{none_both}
use Rattle.segwrite.specs.Words.{Target}
use Rattle.segwrite.specs.Writing.{IsInChain, IsEarlier, IsTarget}
use Rattle.segstore.proofs.UnderBit.{moved_bucket, moved_bit}
use Rattle.segwrite.proofs.Places.{same_position, chain_later}

-- a step after others that did nothing
pub did_after : (b : Board) (own : List Event) (p q r : Pass) → AddsAtOnce b [] p q → AddsAtOnce b own q r → AddsAtOnce b own p r
did_after b own p q r d e =
    let old : e.others ++ trace q ≡ (e.others ++ d.others) ++ trace p = ap (λ h. e.others ++ h) d.now ∙ sym (append_assoc e.others d.others (trace p)) in record {
      moved = subst (λ es. AddsEvents b es p r) (append-nil own) (moved_then b [] own p q r d.moved e.moved);
      others = e.others ++ d.others;
      none = none_both (number p) e.others d.others (subst (λ n. NoneBy n e.others) d.moved.same e.none) d.none;
      before = subst (IsLawful b.shape) old e.before;
      now = e.now ∙ ap (λ h. own ++ h) old;
    }

pub did_nothing : (b : Board) (p : Pass) → IsPassOf b p → AddsAtOnce b [] p p
did_nothing b p is = record { moved = stays b p is; others = []; none = tt; before = is.lawful; now = refl }

-- ---- an exchange in the place of the key's item

-- an event of its pass, at a position, that asks nothing of the moment itself
pub record IsExchange (event : ℕ → ℕ → Event) : Type 0 where
  pub by_pass : (pass at : ℕ) → by (event pass at) ≡ pass
  pub settled : (pass at : ℕ) → is_of_now (event pass at) ≡ false

abbrev pub event_at : Board → (ℕ → ℕ → Event) → Place → Pass → Event
event_at b event place p = event (number p) (position b.shape (trace p) place)

-- it may come about now, where the word is the one that was seen last, or one of a higher frequency
pub record Retrying (b : Board) (key : List ℕ) (event : ℕ → ℕ → Event) (place : Place) (old : ℕ) (first p : Pass) : Type 0 where
  pub did : AddsAtOnce b [] first p
  pub same : event_at b event place p ≡ event_at b event place first
  pub fits : Fits b.shape (trace p) (event_at b event place p)
  pub bit : HasBit b.shape (trace p) (number p) (bucket_of b.shape key)
  pub chain : IsInChain b (bucket_of b.shape key) place p
  pub has : HasItemOf b key place p
  pub earlier : IsEarlier b place old p

module _ (b : Board) (key : List ℕ) (event : ℕ → ℕ → Event) where
  pub retry_first : (place : Place) (old : ℕ) (p : Pass) → IsPassOf b p
      → HasBit b.shape (trace p) (number p) (bucket_of b.shape key)
      → Fits b.shape (trace p) (event_at b event place p) → IsInChain b (bucket_of b.shape key) place p
      → HasItemOf b key place p → IsEarlier b place old p → Retrying b key event place old p p
  retry_first place old p is bit fits chain has earlier = record { did = did_nothing b p is; same = refl; fits = fits; bit = bit; chain = chain; has = has; earlier = earlier }

  module _ (place : Place) (old found : ℕ) (first p q : Pass) (l : Retrying b key event place old first p) where
    pub retry_later : IsExchange event → Missed b place old found p q → Retrying b key event place found first q
    retry_later is m =
        let d = m.did in let now = event_at b event place p in
        let same : event_at b event place q ≡ now = (λ t. event (d.moved.same t) (same_position b [] p q (bucket_of b.shape key) place d.moved l.chain t)) in
        let none = subst (λ n. NoneBy n d.others) (sym (is.by_pass (number p) (position b.shape (trace p) place))) d.none in
        let fits : Fits b.shape (d.others ++ trace p) now = later b.shape d.others (trace p) now d.before none (is.settled (number p) (position b.shape (trace p) place)) l.fits in
        let high = m.higher l.earlier.0 l.earlier.1 in record {
          did = did_after b [] first p q l.did d;
          same = same ∙ l.same;
          fits = subst (Fits b.shape (trace q)) (sym same) (subst (λ h. Fits b.shape h now) (sym d.now) fits);
          bit = moved_bit b [] p q (bucket_of b.shape key) d.moved l.bit tt;
          chain = chain_later b [] p q (bucket_of b.shape key) place d.moved l.chain;
          has = (l.has.0, (λ t. (moved_bucket b [] p q (bucket_of b.shape key) d.moved l.bit tt t).items (same_position b [] p q (bucket_of b.shape key) place d.moved l.chain t)) ∙ l.has.1, l.has.2);
          earlier = subst (λ y. IsSameItem found y × (found ≤ y)) m.is ((subst (λ t. 1 ≤ t) high.0.1 high.0.0, refl, refl), omega arith);
        }

    pub came_about : AddsAtOnce b (event_at b event place p ∷ []) p q → AddsAtOnce b (event_at b event place first ∷ []) first q
    came_about d = did_after b (event_at b event place first ∷ []) first p q l.did (subst (λ e. AddsAtOnce b (e ∷ []) p q) l.same d)

-- the key's own word, and not one that is free for it
pub own_item : (b : Board) (key : List ℕ) (target : Target) (p : Pass) → IsTarget b key target p → target.word ≢ 0 → HasItemOf b key target.place p × IsEarlier b target.place target.word p
own_item b key target p found some = ⊎_elim (λ free. absurd (some free.0)) (λ has. has) found.is

-- ---- a link

-- the event of a link
abbrev pub link_event : Request → ℕ → ℕ → ℕ → ℕ → Event
link_event request segment row pass at = Linked pass request segment row at

abbrev pub linked_by : Board → Request → ℕ → ℕ → Place → Pass → Event
linked_by b request segment row = event_at b (link_event request segment row)

pub is_link : (request : Request) (segment row : ℕ) → IsExchange (link_event request segment row)
is_link request segment row = record { by_pass = λ pass at. refl; settled = λ pass at. refl }

-- ---- a clear

abbrev pub unlink_event : List ℕ → Leaving → ℕ → ℕ → Event
unlink_event key why pass at = Unlinked pass key at why

pub is_unlink : (key : List ℕ) (why : Leaving) → IsExchange (unlink_event key why)
is_unlink key why = record { by_pass = λ pass at. refl; settled = λ pass at. refl }
