-- The exchange of a move: the word that it expects is one of the item's, it comes about at the first try or after the frequency rose, and then no word names the row that the item left.
use Rattle.std.proofs.Common.{◌≡◌, ◌≢◌, ℕ, ◌+◌, ◌*◌, ◌/◌, ◌%◌, ◌^◌, ◌<◌, eqb, List, [], ◌∷◌, Option, Some, None, option_map, Result, Ok, Err, refl, sym, ap, ◌∙◌, subst, arith}
use Rattle.std.specs.Prelude.{OnOk, IfErr}
use Rattle.std.proofs.lemmas.Bool.{cond-true, eq-eqb}
use Rattle.std.proofs.lemmas.Option.{none-some, same_Some}
use Rattle.segword.specs.Words.{Item, item_word, Shape}
use Rattle.segmodel.specs.Words.{bucket_of, Cached, tag_of, with_segment}
use Rattle.segcore.specs.Event as event
use Rattle.segcore.specs.Words.{cached, content_word, Event, frequency_of, IsLawful, IsOwnRow}
use Rattle.segcore.specs.Words.{May, packed, relink, row_after, RowGone, same_key, Slot, span_in, word}
use Rattle.segcore.proofs.Caches.{stands, stands_moved}
use Rattle.segcore.proofs.Coherent.{IsStanding}
use Rattle.segcore.proofs.Exact.{content_at}
use Rattle.segcore.proofs.Keys.{same_true}
use Rattle.segcore.proofs.Limits.{low_frequency, low_row, low_segment}
use Rattle.segcore.proofs.Spans.{header_some, own_first}
use Rattle.segcore.proofs.Standing.{coherent}
use Rattle.segbase.specs.Words.{AddsAtOnce, Board, cell_at, IsPassOf, Missed, number, Pass, Place}
use Rattle.segbase.specs.Words.{position, position_at, trace}
use Rattle.segbase.proofs.Standing.{tag_of_word, place_of_word}
use Rattle.segstore.specs.Words.{memo}
use Rattle.segstore.proofs.Keeping.{AreCalmIn, own_linked}
use Rattle.segwrite.specs.Words.{IsEarlier}
use Rattle.segwrite.proofs.Linking.{IsExchange, retry_first, Retrying}
use Rattle.segevict.specs.Relinking.{relinked, Relinks, TriesToRelink}

-- ---- one try

module _ (b : Board) (named : Slot) (into to : ℕ) (place : Place) (w : ℕ) (p : Pass) (is : IsPassOf b p) (r : Relinks b named into to place w p) where
  abbrev z : Shape
  z = b.shape

  abbrev there : ℕ
  there = position z (trace p) place

  abbrev home : ℕ
  home = bucket_of z named.key

  st : IsStanding z (trace p) home there named
  st = (coherent z (trace p) is.lawful).items home there named r.fits.suits.2

  abbrev frequency : ℕ
  frequency = frequency_of (trace p) named.segment named.row

  now : word z (trace p) (cell_at z place) ≡ packed (tag_of named.key) frequency named.segment named.row
  now = content_at z (trace p) home there (cell_at z place) r.chain.at ∙ ap (content_word (trace p)) r.fits.suits.2

  -- the word has the item's tag, segment and row
  pub parts_of : (x : Item) → item_word x ≡ w → (x.tag ≡ tag_of named.key) × (w ≡ packed x.tag x.freq named.segment named.row)
  parts_of x e =
      let few = low_frequency z (trace p) named.segment named.row is.lawful in
      let ls = low_segment z named.segment is.valid st.within.0 in let lr = low_row z named.row is.valid st.within.1 in
      let tag : x.tag ≡ tag_of named.key = sym (tag_of_word x.tag x.freq x.seg x.row x.freq_in_range x.seg_in_range x.row_in_range)
      ∙ (ap (λ n. n / 2 ^ 52) e ∙ (r.earlier.0.1 ∙ (ap (λ n. n / 2 ^ 52) now ∙ tag_of_word (tag_of named.key) frequency named.segment named.row few ls lr))) in
      let at : x.seg * 2 ^ 20 + x.row ≡ named.segment * 2 ^ 20 + named.row = sym (place_of_word x.tag x.freq x.seg x.row x.seg_in_range x.row_in_range)
      ∙ (ap (λ n. n % 2 ^ 44) e ∙ (r.earlier.0.2 ∙ (ap (λ n. n % 2 ^ 44) now ∙ place_of_word (tag_of named.key) frequency named.segment named.row ls lr))) in
      let low = x.row_in_range in
      let segment : x.seg ≡ named.segment = omega (arith, at, lr, low) in
      let row : x.row ≡ named.row = omega (arith, at, lr, low) in
      (tag, sym e ∙ (λ i. packed x.tag x.freq (segment i) (row i)))

  own_there : IsOwnRow z (trace p) (number p) into to
  own_there = own_first z (trace p) (number p) into to (span_in (trace p) into to) (header_some ((row_after (trace p) into to).words 0)) r.fits.suits.0

  pub in_segments : into < 2 ^ 24
  in_segments = low_segment z into is.valid own_there.0

  pub in_rows : to < 2 ^ 20
  in_rows = low_row z to is.valid own_there.1

  pub may_relink : (read : ℕ) → May z (trace p) (number p) (relink named.key named.segment named.row read into to there (cell_at z place))
  may_relink read = (r.fits, r.chain.at)

pub tried : (b : Board) (named : Slot) (into to : ℕ) (place : Place) (w : ℕ) (p q : Pass) (told : Result (Unit {0}) ℕ) → IsEarlier b place w p
    → OnOk told (AddsAtOnce b (relinked named into to (position_at b place p) (number p) ∷ []) p q)
    → IfErr told (λ found. Missed b place w found p q) → q.plain ≡ p.plain → memo q ≡ memo p
    → TriesToRelink b named into to place w told p q
tried b named into to place w p q (Ok done) earlier did missed plain same = record { did = did; plain = plain; memo = same }
tried b named into to place w p q (Err found) earlier did missed plain same = (missed, (missed.higher earlier.0 earlier.1).1, plain, same)

-- ---- one try after the other

abbrev pub relink_event : Slot → ℕ → ℕ → ℕ → ℕ → Event
relink_event named into to pass at = relinked named into to at pass

pub is_relink : (named : Slot) (into to : ℕ) → IsExchange (relink_event named into to)
is_relink named into to = record { by_pass = λ pass at. refl; settled = λ pass at. refl }

module _ (b : Board) (named : Slot) (into to : ℕ) (place : Place) (w : ℕ) where
  pub relinking_first : (p : Pass) → IsPassOf b p → Relinks b named into to place w p → Retrying b named.key (relink_event named into to) place w p p
  relinking_first p is r = retry_first b named.key (relink_event named into to) place w p is r.bit r.fits r.chain (named, r.fits.suits.2, refl) r.earlier

  pub relinks_on : (first p : Pass) → Retrying b named.key (relink_event named into to) place w first p → Relinks b named into to place w p
  relinks_on first p l = record { bit = l.bit; fits = l.fits; chain = l.chain; earlier = l.earlier }

-- ---- the row that it left

-- what stands in a segment after a move was moved there
in_moved : (o : Option Cached) (t : ℕ) (v : List ℕ) (s : ℕ) → option_map (with_segment t) o ≡ Some (cached v s) → t ≡ s
in_moved None t v s e = absurd (none-some (cached v s) e)
in_moved (Some x) t v s e = ap (λ (y : Cached). y.segment) (same_Some (with_segment t x) (cached v s) e)

pub relinked_gone : (z : Shape) (h : List Event) (p : ℕ) (named : Slot) (into to n : ℕ)
    → IsLawful z (relinked named into to n p ∷ h) → (row_after h named.segment named.row).linked ≡ Some named.key
    → RowGone z named.segment named.row (relinked named into to n p ∷ h)
relinked_gone z h p named into to n l on b m x here es er =
    let e = relinked named into to n p in
    let i = (coherent z (e ∷ h) l).items b m x here in
    let apart : named.segment ≢ into = l.1.follows.3 in
    let linked : (row_after (e ∷ h) named.segment named.row).linked ≡ Some named.key =
    own_linked z (e ∷ []) h p named.segment named.row l
    (subst (AreCalmIn named.segment) (sym (cond-true (eqb p p) (e ∷ []) [] (eq-eqb p p refl))) ((λ same. apart (sym same)), tt)) l.1.follows.1 ∙ on in
    let same : x.key ≡ named.key = same_Some x.key named.key (sym i.linked ∙ ((λ t. (row_after (e ∷ h) (es t) (er t)).linked) ∙ linked)) in
    let now = stands_moved z p named.key named.segment into (event.seen h) named.key
    ∙ cond-true (same_key named.key named.key) (option_map (with_segment into) (stands z (event.seen h) named.key)) (stands z (event.seen h) named.key) (same_true named.key named.key refl) in
    let there : stands z (event.seen (e ∷ h)) named.key ≡ Some (cached i.value named.segment) = (λ t. stands z (event.seen (e ∷ h)) (sym same t)) ∙ (i.stands ∙ ap (λ s. Some (cached i.value s)) es) in
    apart (sym (in_moved (stands z (event.seen h) named.key) into i.value named.segment (sym now ∙ there)))
