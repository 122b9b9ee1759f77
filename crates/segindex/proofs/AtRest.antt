-- What the words of a chain at rest say: the pair that a word names, the bucket that the last one leads on to, and where the chain ends.
use Rattle.std.proofs.Common.{◌≡◌, ℕ, ◌+◌, ◌-◌, ◌*◌, ◌%◌, ◌^◌, ◌<◌, ◌≤◌, Bool, true, false, cond, ltb, nat_lt, List, length, Some, sym, refl, ap, ◌∙◌, subst, inl, inr, ⊎_elim, arith}
use Rattle.std.proofs.lemmas.Bool.{cases_lt, lt-ltb, le-ltb, ltb-false, ltb-true}
use Rattle.std.specs.Prelude.{Option, option_map}
use Rattle.segword.specs.Words.{chain_word, IsChainWord, IsKey, IsValid, IsValue, Item, item_width, item_word as word_of_item}
use Rattle.segword.specs.Words.{place_behind, row_behind, row_of, row_width, Shape, span_of_header}
use Rattle.segmodel.specs.Words.{Cached}
use Rattle.segcore.specs.declared.cell.Cell.TheVariants.{OfRow}
use Rattle.segcore.specs.Words.{bucket_after, Cell, Event, Holds, home as home_at, home_of, IsItemAt}
use Rattle.segcore.specs.Words.{IsSegment, KeyAt, Row, row_after, span_in, word}
use Rattle.segcore.proofs.Chains.{chain_of}
use Rattle.segcore.proofs.ChainWords.{leads_on, ends_there}
use Rattle.segcore.proofs.Limits.{few_drawn}
use Rattle.segcore.proofs.Spans.{first_words}
use Rattle.segcore.proofs.StepKinds.{cell_in}
use Rattle.segbase.specs.declared.closing.Words.{Words}
use Rattle.segbase.specs.Words.{cell_at, home_bucket, IsAtRest, Place, position, shape_of}
use Rattle.segbase.specs.Words.{word_of_cell}
use Rattle.segbase.specs.Closing.{HasWordsOf, rows_there, word_on}
use Rattle.segbase.proofs.Placed.{item_home}
use Rattle.segstore.specs.Words.{IsChained, row_part, segment_part, WasLinked}
use Rattle.segstore.proofs.ItemRows.{item_is_pair, item_word, outside, past_item, place_fits}
use Rattle.segstore.proofs.Words.{at_place, stood_item, segment_of_packed, row_of_packed}
use Rattle.segread.specs.Words.{place_of}
use Rattle.segindex.specs.Closing.{IsWordIn, IsBucketIn, IsPairAt}

-- ---- a row

-- a word of the item that begins in a row is what the events made it
module _ (words : Words) (trace : List Event) (segment row place : ℕ) (rest : IsAtRest words trace) (in_table : IsSegment (shape_of words) segment)
    (own : row < (shape_of words).rows) (inside : place < item_width) where
  abbrev rows_all : ℕ
  rows_all = (shape_of words).rows

  abbrev there : ℕ
  there = rows_there words segment row

  abbrev row_word : ℕ
  row_word = word_of_cell words (OfRow segment (row_behind row place) (place_behind place))

  at_rest : (r n : ℕ) → r < rows_all → n < row_width → word_of_cell words (OfRow segment r n) ≡ (row_after trace segment r).words n
  at_rest r n lt within = rest.each (OfRow segment r n) (in_table, lt, within)

  -- behind the last row of the segment is 0, and nothing is stored there either
  past_rows : rows_all ≤ row_behind row place → (row_after trace segment row).words place ≡ 0
  past_rows past = ⊎_elim
      (λ on. item_word trace segment row place on ∙ ap (λ (u : Row). u.words (place_behind place)) (outside (shape_of words) trace segment (row_behind row place) rest.lawful past))
      (λ behind. past_item trace segment row place behind)
      (cases_lt place (row_width * span_in trace segment row))

  item_at_rest : word_on words segment row place ≡ (row_after trace segment row).words place
  item_at_rest = of (nat_lt place (row_width * there)) refl
    where
      header : span_of_header (word_of_cell words (OfRow segment row 0)) ≡ span_in trace segment row
      header = ap span_of_header (at_rest row 0 own (omega arith))

      of : (here : Bool) → nat_lt place (row_width * there) ≡ here → cond here row_word 0 ≡ (row_after trace segment row).words place
      of true is =
          let low = ltb-true place (row_width * there) is in let within = place_fits place inside in
          let on : place < row_width * span_in trace segment row = omega (arith, low, header) in
          at_rest (row_behind row place) (place_behind place) (omega (arith, low, own)) within
          ∙ (first_words trace segment (row_behind row place) (place_behind place) within ∙ sym (item_word trace segment row place on))
      of false is =
          let high = ltb-false place (row_width * there) is in ⊎_elim
          (λ before. sym (past_item trace segment row place (omega (arith, high, before, header))))
          (λ past. sym (past_rows past))
          (cases_lt (row_behind row place) rows_all)

-- ---- a word

module _ (words : Words) (trace : List Event) (home at : ℕ) (place : Place) (rest : IsAtRest words trace) (is : IsWordIn words trace home at place) where
  abbrev z : Shape
  z = shape_of words

  abbrev cell : Cell
  cell = cell_at z place

  low : home < z.buckets
  low = item_home z trace home at place rest.lawful is.1

  same_word : word_of_cell words cell ≡ word z trace cell
  same_word = rest.each cell (cell_in z trace home at cell rest.lawful low is.1.1)

  place_is : (home_bucket z trace place ≡ home) × (position z trace place ≡ at)
  place_is = at_place z trace home at place is.1.1

  chained : IsChained z trace place
  chained = record {
    in_table = is.0;
    at = subst (λ b. IsItemAt z trace b (position z trace place) cell) (sym place_is.0) (subst (λ n. IsItemAt z trace home n cell) (sym place_is.1) is.1);
  }

  module _ (item : Item) (of : word_of_item item ≡ word_of_cell words cell) where
    linked : (key : List ℕ) × (value : List ℕ) × WasLinked z place (word_of_cell words cell) key value trace
    linked = stood_item z trace place (word_of_cell words cell) rest.valid rest.lawful chained (sym same_word)
        (let low_tag = item.tag_above_zero in let e = of in omega arith)

    in_segment : segment_part (word_of_cell words cell) ≡ item.seg
    in_segment = ap segment_part (sym of) ∙ segment_of_packed item.tag item.freq item.seg item.row item.seg_in_range item.row_in_range

    in_row : row_part (word_of_cell words cell) ≡ item.row
    in_row = ap row_part (sym of) ∙ row_of_packed item.tag item.freq item.seg item.row item.row_in_range

    -- an item's row is in the table
    pub row_in_table : IsSegment z item.seg × (item.row < z.rows)
    row_in_table = let there = linked.2.in_segment in (subst (λ s. IsSegment z s) in_segment there.0, subst (λ r. r < z.rows) in_row there.1)

    -- and its words are those of the key's pair
    same_row : (row : List ℕ) → length row ≡ item_width → HasWordsOf words item.seg item.row row → row_of linked.0 linked.1 ≡ row
    same_row row long each = let x = linked.2 in
        item_is_pair trace item.seg item.row linked.0 linked.1 row x.valid.0 x.valid.1
        (subst (λ s. Holds (row_after trace s item.row) linked.0 linked.1) in_segment
        (subst (λ r. Holds (row_after trace (segment_part (word_of_cell words cell)) r) linked.0 linked.1) in_row x.holds))
        long (λ n lt. each n lt ∙ item_at_rest words trace item.seg item.row n rest row_in_table.0 row_in_table.1 lt)

    pub pair_is : (row : List ℕ) (result : Option (List ℕ × List ℕ)) → length row ≡ item_width → HasWordsOf words item.seg item.row row
        → ((key value : List ℕ) → IsKey key → IsValue value → row_of key value ≡ row → result ≡ Some (key, value)) → IsPairAt z trace home at result
    pair_is row result long each packed = let x = linked.2 in let key = linked.0 in let value = linked.1 in
        subst (λ r. IsPairAt z trace home at r) (sym (packed key value x.valid.0 x.valid.1 (same_row row long each))) (
          x.here.0 ∙ place_is.0,
          subst (λ n. KeyAt z key trace n) place_is.1 x.here.1,
          ap (option_map (λ (c : Cached). c.value)) x.stands,
        )

-- ---- the buckets of a chain

-- the bucket that the chain begins with
pub first_bucket : (words : Words) (trace : List Event) (home : ℕ) → IsValid (shape_of words) → home < (shape_of words).buckets → IsBucketIn words trace home 0 home
first_bucket words trace home v lt w low high =
    let z = shape_of words in
    let t : ltb home z.buckets ≡ true = lt-ltb home z.buckets lt in
    let e : w ≡ 8 * 0 + w = omega arith in (
      ((let a : home < z.buckets + z.overflow = omega arith in a), low, high),
      (((let a : 8 * 0 + w < 8 * (bucket_after z trace home).chained + 8 = omega arith in a), (let a : 0 < (8 * 0 + w) % 8 = omega arith in a)), rw t (refl, e, high)),
    )

module _ (words : Words) (trace : List Event) (home depth bucket : ℕ) (rest : IsAtRest words trace) (is : IsBucketIn words trace home depth bucket) where
  abbrev shape : Shape
  shape = shape_of words

  abbrev last : Place
  last = place_of bucket 7

  last_in : IsWordIn words trace home (8 * depth + 7) last
  last_in = is 7 (omega arith) (omega arith)

  within : home < shape.buckets
  within = low words trace home (8 * depth + 7) last rest last_in

  last_word : word_of_cell words (cell_at shape last) ≡ word shape trace (cell_at shape last)
  last_word = same_word words trace home (8 * depth + 7) last rest last_in

  -- the last word leads on
  pub next_bucket : (number : ℕ) → chain_word number ≡ word_of_cell words (cell_at shape last) → number < 65536 → IsBucketIn words trace home (depth + 1) (shape.buckets + number)
  next_bucket number leads few w low high =
      let found : word shape trace (cell_at shape last) ≡ number + 1 = sym last_word ∙ sym leads in
      let on = leads_on shape trace home depth (cell_at shape last) rest.valid rest.lawful within last_in.1 (omega (arith, found)) (omega (arith, found, few)) in
      let same : on.1.0 ≡ number = let e = on.1.1 in omega (arith, e, found) in
      let of : home_of trace number ≡ Some (home_at home (depth + 1)) = subst (λ n. home_of trace n ≡ Some (home_at home (depth + 1))) same on.1.2 in
      let most : number < shape.overflow = subst (λ n. n < shape.overflow) same on.1.3 in
      let deep : depth < (bucket_after shape trace home).chained = on.0 in
      let t : ltb (shape.buckets + number) shape.buckets ≡ false = le-ltb (shape.buckets + number) shape.buckets (omega arith) in
      let e : shape.buckets + number - shape.buckets ≡ number = omega arith in (
        ((let a : shape.buckets + number < shape.buckets + shape.overflow = omega arith in a), low, high),
        (
          (
            (let a : 8 * (depth + 1) + w < 8 * (bucket_after shape trace home).chained + 8 = omega arith in a),
            (let a : 0 < (8 * (depth + 1) + w) % 8 = omega arith in a),
          ),
          rw (t, e) (depth + 1, of, refl, high),
        ),
      )

  -- or ends the chain
  pub chain_ends : ¬ (IsChainWord (word_of_cell words (cell_at shape last))) → (bucket_after shape trace home).chained ≤ depth
  chain_ends none =
      let w = word shape trace (cell_at shape last) in
      let no_chain : ¬ (IsChainWord w) = subst (λ n. ¬ (IsChainWord n)) last_word none in
      ends_there shape trace home depth (cell_at shape last) rest.valid rest.lawful last_in.1.1 (⊎_elim
      (λ lt. ⊎_elim
      (λ some. let on = leads_on shape trace home depth (cell_at shape last) rest.valid rest.lawful within last_in.1 some lt in
      let most = few_drawn shape rest.valid in let few = on.1.3 in let is_chain = on.1.1 in
      absurd (no_chain (omega (arith, is_chain), omega (arith, is_chain, most, few))))
      (λ le. inl (omega (arith, le)))
      (cases_lt 0 w))
      (λ le. inr le)
      (cases_lt w (2 ^ 52)))

  -- no chain is deeper
  pub not_deeper : depth < 4
  not_deeper = let deep = last_in.1.0.0 in let short = (chain_of shape trace rest.lawful home).short in omega (arith, deep, short)
