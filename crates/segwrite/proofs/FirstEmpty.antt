-- A row that was linked for a new key took the first empty word of its chain.
use Rattle.std.proofs.Common.{◌≡◌, ◌≢◌, ℕ, ◌+◌, ◌*◌, ◌/◌, List, [], ◌∷◌, ◌++◌, Option, Some, None, refl, sym, ap, ◌∙◌, subst, inl, inr, ⊎_elim, arith}
use Rattle.std.proofs.lemmas.Option.{none-some, same_Some}
use Rattle.segword.specs.Words.{Shape}
use Rattle.segmodel.specs.Words.{after, Begins, bucket_of, Cached, key_of, Request, standing}
use Rattle.segcore.specs.declared.event.Event.TheVariants.{Linked}
use Rattle.segcore.specs.Bucket.{Content, copy, item, next, nothing}
use Rattle.segcore.specs.Event as event
use Rattle.segcore.specs.Mark as mark
use Rattle.segcore.specs.Words.{Bucket, bucket_after, Event, HasBit, IsLawful, IsPosition, Slot}
use Rattle.segcore.proofs.Coherent.{IsChain, IsContent, place as trace_place}
use Rattle.segcore.proofs.Homes.{joins, no_next}
use Rattle.segcore.proofs.Marked.{chained_marked, entries_marked, place_marked}
use Rattle.segcore.proofs.Moments.{begins_on, lawful_before, marked_begins}
use Rattle.segcore.proofs.Standing.{coherent}
use Rattle.segbase.specs.Words.{AddsAtOnce, AddsEvents, Board, IsPassOf, number, Pass, position}
use Rattle.segbase.specs.Words.{seen, trace}
use Rattle.segbase.proofs.Moves.{moved_on}
use Rattle.segwrite.specs.Words.{Target}
use Rattle.segwrite.specs.FirstEmpty.{IsFirstEmpty, IsFirstNothing, IsTaken, LinkedFirst, TookFirstEmpty}
use Rattle.segwrite.specs.Writing.{IsNewKey, IsTarget}
use Rattle.segwrite.proofs.Acting.{as_seen, keys_as_seen}
use Rattle.segwrite.proofs.Linking.{linked_by}

-- the word that a search found for an absent key is the first empty one
first_of : (b : Board) (key : List ℕ) (target : Target) (p : Pass) → IsPassOf b p → IsTarget b key target p
    → IsNewKey b key p → IsFirstNothing (bucket_after b.shape (trace p) (bucket_of b.shape key))
    (position b.shape (trace p) target.place)
first_of b key target p is found absent = ⊎_elim
    (λ free. record { here = found.chain.at.0; empty = free.1; before = free.3 })
    (λ has.
    let z = b.shape in let named = has.0 in
    let stands = ((coherent z (trace p) is.lawful).items (bucket_of z key) _ named.0 named.1).stands in
    absurd (none-some _ (sym absent ∙ (ap (standing (after z (seen p))) (sym named.2) ∙ stands))))
    found.is

-- it is still so at the link, under the bit
pub took_first : (b : Board) (request : Request) (target : Target) (segment row : ℕ) (own : List Event)
    (p q r s : Pass) → AddsEvents b own p q → IsPassOf b q
    → HasBit b.shape (trace q) (number q) (bucket_of b.shape (key_of request))
    → IsTarget b (key_of request) target q
    → AddsAtOnce b (linked_by b request segment row target.place q ∷ []) q r → trace s ≡ trace r → LinkedFirst b.shape request (number p) (trace p) (trace s)
took_first b request target segment row own p q r s m is bit found d same =
    let z = b.shape in let key = key_of request in let home = bucket_of z key in let at = position z (trace q) target.place in let e = linked_by b request segment row target.place q in
    let then : List Event = d.others ++ trace q in record {
      at = then;
      segment = segment;
      row = row;
      position = at;
      since = begins_on (trace p) (trace q) then (moved_on b own p q m) (d.others, refl);
      link = ([], subst (λ n. trace s ≡ Linked n request segment row at ∷ then) m.same (same ∙ d.now));
      first = λ absent. subst (λ u. IsFirstNothing u at) (sym (as_seen b e q r home d bit)) (first_of b key target q is found (sym (keys_as_seen b e q r home d bit key refl).stands ∙ absent));
    }

-- a link between wider moments
pub first_wider : (z : Shape) (request : Request) (pass other : ℕ) (h g h' g' : List Event) → pass ≡ other
    → Begins h' h → Begins g g' → LinkedFirst z request pass h g → LinkedFirst z request other h' g'
first_wider z request pass other h g h' g' same before after f = record {
  at = f.at;
  segment = f.segment;
  row = f.row;
  position = f.position;
  since = begins_on h' h f.at before f.since;
  link = subst (λ n. Begins (Linked n request f.segment f.row f.position ∷ f.at) g') same (begins_on (Linked pass request f.segment f.row f.position ∷ f.at) g g' f.link after);
  first = f.first;
}

-- ---- in the terms of the call

module _ (z : Shape) (h : List Event) (key : List ℕ) (l : IsLawful z h) where
  abbrev home : ℕ
  home = bucket_of z key

  abbrev u : Bucket
  u = bucket_after z h home

  -- a word that isn't empty has an item or leads on
  taken_at : (n : ℕ) → IsPosition u n → u.items n ≢ nothing → IsTaken z (mark.marked h) key n
  taken_at n at some = by (u.items n) refl ((coherent z h l).chains home)
    where
      by : (x : Content) → u.items n ≡ x → IsChain h home u → IsTaken z (mark.marked h) key n
      by nothing is chain = absurd (some is)
      by (item a) is chain =
          let st = (coherent z h l).items home n a is in inl (
            a.key,
            st.here,
            place_marked z h a.key ∙ (coherent z h l).placed home n a is,
            λ none. none-some _ (sym none ∙ (ap (λ entries. standing (after z entries) a.key) (entries_marked h) ∙ st.stands)),
          )
      by (next m) is chain =
          let i : IsContent h home u n (next m) = subst (IsContent h home u n) is (chain.contents n) in
          let low = i.1 in let same = i.2 in let joined = chained_marked z h home in inr (omega arith, omega arith)
      by (copy w) is chain =
          let i : IsContent h home u n (copy w) = subst (IsContent h home u n) is (chain.contents n) in
          let same = i.0 in let low = at.0 in absurd (omega arith)

  empty_at : (n : ℕ) → u.items n ≡ nothing → ¬ (IsTaken z (mark.marked h) key n)
  empty_at n none (inl (other, here, placed, stands)) = by (standing (after z (event.seen h)) other) refl
    where
      no_item : (a : Slot) → nothing ≢ item a
      no_item a e = cc

      by : (found : Option Cached) → standing (after z (event.seen h)) other ≡ found → ⊥
      by None gone = stands (ap (λ entries. standing (after z entries) other) (entries_marked h) ∙ gone)
      by (Some x) found =
          let c = coherent z h l in let w = c.all other x found in
          let there : trace_place z h other ≡ Some w.0 = ap (trace_place z h) (sym w.3) ∙ c.placed (bucket_of z other) w.0 w.1 w.2 in
          let same : w.0 ≡ n = same_Some w.0 n (sym there ∙ (sym (place_marked z h other) ∙ placed)) in
          no_item w.1 (sym none ∙ (ap u.items (sym same) ∙ subst (λ k. (bucket_after z h k).items w.0 ≡ item w.1) here w.2))
  empty_at n none (inr (seven, low)) =
      let joined = chained_marked z h home in
      let j = joins z h home (n / 8) l (omega (arith, seven, low)) in
      let same : 8 * (n / 8) + 7 ≡ n = omega (arith, seven) in
      no_next j.0 (sym none ∙ (ap u.items (sym same) ∙ j.1))

  first_marked : (n : ℕ) → IsFirstNothing u n → IsFirstEmpty z (mark.marked h) key n
  first_marked n f = let joined = chained_marked z h home in let low = f.here.0 in record {
    here = (omega arith, f.here.1);
    empty = empty_at n f.empty;
    before = λ earlier lt some. let position : IsPosition u earlier = (omega (arith, lt), some) in taken_at earlier position (f.before earlier lt position);
  }

pub took_marked : (z : Shape) (request : Request) (pass : ℕ) (old new : List Event) → IsLawful z new
    → LinkedFirst z request pass old new → TookFirstEmpty z request pass (mark.marked old) (mark.marked new)
took_marked z request pass old new l f = record {
  at = mark.marked f.at;
  segment = f.segment;
  row = f.row;
  position = f.position;
  since = marked_begins old f.at f.since;
  link = marked_begins (Linked pass request f.segment f.row f.position ∷ f.at) new f.link;
  first = λ absent. first_marked z f.at (key_of request) (lawful_before z f.link.0 (Linked pass request f.segment f.row f.position ∷ f.at) (subst (IsLawful z) f.link.1 l)).0 f.position
      (f.first (ap (λ entries. standing (after z entries) (key_of request)) (sym (entries_marked f.at)) ∙ absent));
}
