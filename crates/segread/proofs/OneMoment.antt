-- A value and a version of one moment: between two looks that found one item stood that item, and the version was that of a clear bit.
use Rattle.std.proofs.Common.{◌≡◌, ℕ, ◌+◌, ◌/◌, ◌%◌, ◌^◌, ◌<◌, ◌≤◌, List, ◌++◌, Some, None, option_map, sym, ap, ◌∙◌, subst, arith}
use Rattle.std.proofs.lemmas.Option.{same_Some}
use Rattle.segword.specs.Words.{IsSameItem, IsValid, Shape}
use Rattle.segmodel.specs.Words.{after, bucket_of, Cached, reads_version, standing}
use Rattle.segcore.specs.declared.cell.Cell.TheVariants.{OfBucket}
use Rattle.segcore.specs.Event as event
use Rattle.segcore.specs.Words.{bucket_after, cached, Event, Holds, inside, IsLawful, NoneRefills}
use Rattle.segcore.specs.Words.{Row, row_after, word}
use Rattle.segcore.proofs.Buckets.{bit_small, unwritten_version}
use Rattle.segcore.proofs.Versions.{free}
use Rattle.segcore.proofs.Standing.{coherent}
use Rattle.segcore.proofs.Exact.{named_at, one_value}
use Rattle.segcore.proofs.Moments.{lawful_before}
use Rattle.segbase.specs.Words.{Board, cell_at, home_bucket, number, Pass, Place, position, seen}
use Rattle.segbase.specs.Words.{trace}
use Rattle.segstore.specs.Words.{FoundItem, IsChained, IsReader, row_part, segment_part}
use Rattle.segstore.specs.Words.{word_of_place}
use Rattle.segstore.proofs.Words.{same_segment, names_in}
use Rattle.segstore.proofs.Before.{stood_before}
use Rattle.segread.specs.Scanning.{HasDeadline}
use Rattle.segmodel.proofs.HistoryLemmas.{stands_present}
use Rattle.segread.proofs.Deadlines.{deadline_since}
use Rattle.segread.proofs.ItemRows.{AllLinked, first_linked, found_rows, item_stays, linked_since}

same_row_part : (v w : ℕ) → IsSameItem v w → row_part v ≡ row_part w
same_row_part v w e = low v ∙ (ap (λ n. n % 2 ^ 20) e.2 ∙ sym (low w))
  where
    low : (n : ℕ) → n % 2 ^ 20 ≡ n % 2 ^ 44 % 2 ^ 20
    low n = omega arith

-- under a clear bit the version of the information word is the cache's
clear_version : (z : Shape) (h : List Event) (b : ℕ) → z.first_version < 2 ^ 32 → IsLawful z h
    → (bucket_after z h b).holder ≡ None → (z.first_version + (bucket_after z h b).version) % 2 ^ 32 ≡
    (after z (event.seen h)).version b
clear_version z h b few l none =
    let lt = bit_small (bucket_after z h b).holder in
    let x : word z h (OfBucket b 0) / 2 ^ 32 ≡ (z.first_version + (bucket_after z h b).version) % 2 ^ 32 = omega arith in
    sym x ∙ unwritten_version z h b few l (free z h b l none)

-- with g where the item was found, r the moment between, and t where its word was looked at again
module _ (z : Shape) (place : Place) (w w' : ℕ) (key value : List ℕ) (h g : List Event) (late early : List Event) (v : IsValid z) (found : FoundItem z place w key value h g)
    (l : IsLawful z (late ++ (early ++ g))) (lr : IsLawful z (early ++ g)) (none_late : NoneRefills (segment_part w) late) (none_early : NoneRefills (segment_part w) early)
    (c : IsChained z (late ++ (early ++ g)) place) (stood : word_of_place z (late ++ (early ++ g)) place ≡ w') (same : IsSameItem w w') where
  abbrev r : List Event
  r = early ++ g

  abbrev t : List Event
  t = late ++ r

  abbrev s : ℕ
  s = segment_part w

  abbrev n : ℕ
  n = row_part w

  rows_found : AllLinked g s n key
  rows_found = found_rows z h g place w key value v (lawful_before z early g lr) found

  rows_then : AllLinked r s n key
  rows_then = linked_since z early g s n key lr none_early rows_found

  linked_then : (row_after r s n).linked ≡ Some key
  linked_then = first_linked r s n key rows_then

  row_then : row_after r s n ≡ row_after found.saw.at s n
  row_then = item_stays z early g s n key lr none_early rows_found ∙ found.still

  pub stands_then : standing (after z (event.seen r)) key ≡ Some (cached value s)
  stands_then =
      let was = found.saw.was in
      let x = names_in z t place w' v l c stood (subst (λ m. 1 ≤ m) same.1 same.0) in
      let b = home_bucket z t place in
      let i = named_at z t b (position z t place) (cell_at z place) x.tag x.segment x.row v l x.names in
      let es : i.slot.segment ≡ s = i.segment ∙ (sym x.is_segment ∙ sym (same_segment w w' same)) in
      let er : i.slot.row ≡ n = i.row ∙ (sym x.is_row ∙ sym (same_row_part w w' same)) in
      let st = (coherent z t l).items b (position z t place) i.slot i.here in
      let on_t : (row_after t s n).linked ≡ Some key = first_linked t s n key (linked_since z late r s n key l none_late rows_then) in
      let row_is : (m : List Event) → row_after m i.slot.segment i.slot.row ≡ row_after m s n = λ m. (λ j. row_after m (es j) (er j)) in
      let ek : i.slot.key ≡ key = same_Some i.slot.key key (sym st.linked ∙ (ap (λ (u : Row). u.linked) (row_is t) ∙ on_t)) in
      let old = stood_before z late r b (position z t place) i.slot key l (subst (λ m. NoneRefills m late) (sym es) none_late) (ap (λ (u : Row). u.linked) (row_is r) ∙ linked_then) i.here in
      let then' = (coherent z r lr).items b old.0 i.slot old.1 in
      let held : Holds (row_after r s n) i.slot.key then'.value = λ j lt. ap (λ (u : Row). u.words j) (sym (row_is r)) ∙ then'.holds j lt in
      let held' : Holds (row_after r s n) key value = λ j lt. ap (λ (u : Row). u.words j) row_then ∙ was.holds j lt in
      let ev = one_value (row_after r s n) i.slot.key then'.value key value then'.valid.0 was.valid.0 then'.valid.1 was.valid.1 held held' in
      ap (standing (after z (event.seen r))) (sym ek) ∙ (then'.stands ∙ (λ j. Some (cached (ev j) (es j))))

  pub reads_then : (now version deadline : ℕ) → HasDeadline z s deadline g → now < deadline
      → z.first_version < 2 ^ 32 → (bucket_after z r (bucket_of z key)).holder ≡ None
      → version ≡ (z.first_version + (bucket_after z r (bucket_of z key)).version) % 2 ^ 32
      → reads_version z (after z (event.seen r)) now key ≡ Some (value, version)
  reads_then now version deadline had before few none is =
      let b = bucket_of z key in
      let cache = after z (event.seen r) in
      let e : version ≡ cache.version b = is ∙ clear_version z r b few lr none in
      ap (option_map (λ (item : Cached). (item.value, cache.version b)))
      (stands_present cache key value s deadline now stands_then
      (deadline_since z early g s deadline none_early had) before) ∙ ap (λ (m : ℕ). Some (value, m)) (sym e)

-- of passes: p before the try, q in the segment, r after the look at the information, and t after the third look
pub one_moment : (b : Board) (p q r t : Pass) (place : Place) (w w' : ℕ) (key value : List ℕ) (now version deadline : ℕ) → HasDeadline b.shape (segment_part w) deadline (trace q) → now < deadline
    → b.shape.first_version < 2 ^ 32 → IsValid b.shape → FoundItem b.shape place w key value (trace p) (trace q)
    → 0 < inside (trace q) (number q) (segment_part w) → IsReader b q r → IsReader b r t → IsChained b.shape (trace t) place → word_of_place b.shape (trace t) place ≡ w' → IsSameItem w w'
    → (bucket_after b.shape (trace r) (bucket_of b.shape key)).holder ≡ None → version ≡ (b.shape.first_version + (bucket_after b.shape (trace r) (bucket_of b.shape key)).version) % 2 ^ 32
    → reads_version b.shape (after b.shape (seen r)) now key ≡ Some (value, version)
one_moment b p q r t place w w' key value now version deadline had before few v found there i j c stood same none is =
    let z = b.shape in let s = segment_part w in
    let m = i.reads.moved in let k = j.reads.moved in
    let there' : 0 < inside (trace r) (number r) s = subst (λ n. 0 < inside (trace r) n s) (sym m.same) (subst (λ n. 0 < n) (sym (i.reads.inside s)) there) in
    let to_t : trace t ≡ k.more ++ (m.more ++ trace q) = k.goes_on ∙ ap (λ h. k.more ++ h) m.goes_on in
    subst (λ h. reads_version z (after z (event.seen h)) now key ≡ Some (value, version)) (sym m.goes_on)
    (reads_then z place w w' key value (trace p) (trace q) k.more m.more v found
    (subst (IsLawful z) to_t k.pass.lawful) (subst (IsLawful z) m.goes_on m.pass.lawful)
    (k.kept s (j.reads.stays s there')) (m.kept s (i.reads.stays s there))
    (subst (λ h. IsChained z h place) to_t c) (subst (λ h. word_of_place z h place ≡ w') to_t stood) same
    now version deadline had before few
    (subst (λ h. (bucket_after z h (bucket_of z key)).holder ≡ None) m.goes_on none)
    (subst (λ h. version ≡ (z.first_version + (bucket_after z h (bucket_of z key)).version) % 2 ^ 32) m.goes_on is))
