-- A pass that only looks: looks add up, and what it may read stays as it is.
use Rattle.std.proofs.Common.{◌≡◌, ℕ, suc, ◌+◌, ◌*◌, ◌<◌, ◌≤◌, true, [], ◌++◌, length, refl, sym, ap, ◌∙◌, subst, inl, ⊎_elim, append_assoc, arith}
use Rattle.std.proofs.lemmas.Bool.{cases_lt}
use Rattle.segcore.specs.Words.{IsLawful, IsOwnRow, May, MayRead, NoneBy, Row, row_after, row_load, span_in, Step, View}
use Rattle.segword.specs.Words.{covers, place_behind, row_behind, row_width, span_of_header}
use Rattle.segcore.proofs.Readable.{read_row, may_read}
use Rattle.segcore.proofs.Moments.{lawful_before, none_both}
use Rattle.segcore.proofs.Spans.{covers-behind, covers-first, first_words, header_some, item_after}
use Rattle.segbase.specs.declared.place.RowPlace.{RowPlace}
use Rattle.segbase.specs.Words.{AddsAtOnce, Board, IsPassOf, number, Pass, Stepped, trace}
use Rattle.segbase.proofs.Moves.{moved_then, stays}
use Rattle.segstore.specs.Calls.{step_count}
use Rattle.segstore.specs.Reading.{OnlyLooks, IsReadable, ReadsRow}
use Rattle.segstore.proofs.ItemRows.{item_word, outside, place_inside}

-- ---- looks, one after another

pub one_step : (b : Board) (p q : Pass) (step : Step) (found : ℕ) → Stepped b step found p q → step_count q ≡ step_count p + 1
one_step b p q step found st = ap (λ (v : View). length v.looks) st.told.now ∙ (let e : suc (step_count p) ≡ step_count p + 1 = omega arith in e)

pub did_then : (b : Board) (p q r : Pass) → AddsAtOnce b [] p q → AddsAtOnce b [] q r → AddsAtOnce b [] p r
did_then b p q r d e =
    let now : trace r ≡ (e.others ++ d.others) ++ trace p = e.now ∙ (ap (λ h. e.others ++ h) d.now ∙ sym (append_assoc e.others d.others (trace p))) in record {
      moved = moved_then b [] [] p q r d.moved e.moved;
      others = e.others ++ d.others;
      none = none_both (number p) e.others d.others (subst (λ n. NoneBy n e.others) d.moved.same e.none) d.none;
      before = subst (IsLawful b.shape) now e.moved.pass.lawful;
      now = now;
    }

pub looked_then : (b : Board) (p q r : Pass) → OnlyLooks b p q → OnlyLooks b q r → OnlyLooks b p r
looked_then b p q r l k = record { did = did_then b p q r l.did k.did; plain = k.plain ∙ l.plain; memo = k.memo ∙ l.memo }

-- ---- rows that a pass may read

-- those of the item that begins in a row, as far as they are in the table
pub item_readable : (b : Board) (p : Pass) (s r i : ℕ) → IsReadable b p s r → covers r (span_in (trace p) s r) i ≡ true → i < b.shape.rows
    → MayRead b.shape (trace p) (number p) s i
item_readable b p s r i may c lt = may.2 i c lt

-- and that row itself
pub first_readable : (b : Board) (p : Pass) (s r : ℕ) → IsReadable b p s r → MayRead b.shape (trace p) (number p) s r
first_readable b p s r may =
    let header = (row_after (trace p) s r).words 0 in
    item_readable b p s r r may (covers-first r (span_of_header header) (header_some header)) may.1

-- the item stays as it is while the pass looks
pub same_row : (b : Board) (p q : Pass) (s r : ℕ) → AddsAtOnce b [] p q → IsReadable b p s r → row_after (trace q) s r ≡ row_after (trace p) s r
same_row b p q s r d may = let old = trace p in ap (λ h. row_after h s r) d.now ∙ item_after old (d.others ++ old) s r (λ i c. ⊎_elim
    (λ lt. read_row b.shape d.others old (number p) s i d.before d.none (item_readable b p s r i may c lt))
    (λ past. outside b.shape (d.others ++ old) s i d.before past ∙ sym (outside b.shape old s i (lawful_before b.shape d.others old d.before) past))
    (cases_lt i b.shape.rows))

still_may : (b : Board) (p q : Pass) (s r : ℕ) → AddsAtOnce b [] p q → MayRead b.shape (trace p) (number p) s r → MayRead b.shape (trace q) (number q) s r
still_may b p q s r d may = subst (λ n. MayRead b.shape (trace q) n s r) (sym d.moved.same)
    (subst (λ h. MayRead b.shape h (number p) s r) (sym d.now)
    (may_read b.shape d.others (trace p) (number p) s r d.before d.none may))

-- a look keeps what the pass may read
pub readable : (b : Board) (p q : Pass) (s r : ℕ) → AddsAtOnce b [] p q → IsReadable b p s r → IsReadable b q s r
readable b p q s r d may =
    let same : span_in (trace p) s r ≡ span_in (trace q) s r = ap (λ (u : Row). span_of_header (u.words 0)) (sym (same_row b p q s r d may)) in (
      may.0,
      may.1,
      λ i c lt. still_may b p q s i d (may.2 i (subst (λ n. covers r n i ≡ true) (sym same) c) lt),
    )

-- ---- reads of one row

pub reads_then : (b : Board) (p q t : Pass) (s r : ℕ) → ReadsRow b p q s r → ReadsRow b q t s r → ReadsRow b p t s r
reads_then b p q t s r i j = record { looked = looked_then b p q t i.looked j.looked; readable = j.readable; same = j.same ∙ i.same }

-- a look at whatever else
pub looked_row : (b : Board) (p q : Pass) (s r : ℕ) → IsReadable b p s r → OnlyLooks b p q → ReadsRow b p q s r
looked_row b p q s r may l = record { looked = l; readable = readable b p q s r l.did may; same = same_row b p q s r l.did may }

-- a load of one word, and of one of another row of the item
pub loaded_in : (b : Board) (p q : Pass) (s r i w found : ℕ) → IsReadable b p s r → Stepped b (row_load s i w) found p q → ReadsRow b p q s r
loaded_in b p q s r i w found may st = looked_row b p q s r may (record { did = st.did; plain = st.plain; memo = st.memo })

pub loaded : (b : Board) (p q : Pass) (s r w found : ℕ) → IsReadable b p s r → Stepped b (row_load s r w) found p q → ReadsRow b p q s r
loaded b p q s r w found may st = loaded_in b p q s r r w found may st

pub may_load : (b : Board) (p : Pass) (s r w : ℕ) → IsReadable b p s r → w < row_width → May b.shape (trace p) (number p) (row_load s r w)
may_load b p s r w may lt = (may.0, may.1, lt, first_readable b p s r may)

-- a word of a row of the pass's own
pub may_load_own : (b : Board) (p : Pass) (s r w : ℕ) → IsOwnRow b.shape (trace p) (number p) s r → w < row_width → May b.shape (trace p) (number p) (row_load s r w)
may_load_own b p s r w own lt = (own.0, own.1, lt, inl own.2)

pub may_load_place : (b : Board) (p : Pass) (s r place : ℕ) → IsReadable b p s r → place < row_width * span_in (trace p) s r → row_behind r place < b.shape.rows
    → May b.shape (trace p) (number p) (row_load s (row_behind r place) (place_behind place))
may_load_place b p s r place may inside lt = (
  may.0,
  lt,
  place_inside place ((row_after (trace p) s r).words 0) inside,
  item_readable b p s r (row_behind r place) may (covers-behind r (span_in (trace p) s r) place inside) lt,
)

-- what such a load finds is the item's word
pub found_place : (b : Board) (p q : Pass) (s r place found : ℕ) → ReadsRow b p q s r → place < row_width * span_in (trace p) s r
    → found ≡ (row_after (trace q) s (row_behind r place)).words (place_behind place) → found ≡ (row_after (trace q) s r).words place
found_place b p q s r place found reads inside is =
    let here : place < row_width * span_in (trace q) s r = subst (λ (u : Row). place < row_width * span_of_header (u.words 0)) (sym reads.same) inside in
    is ∙ first_words (trace q) s (row_behind r place) (place_behind place) (place_inside place ((row_after (trace p) s r).words 0) inside)
    ∙ sym (item_word (trace q) s r place here)

-- behind the table's rows it is 0
pub none_place : (b : Board) (p : Pass) (s r place : ℕ) → IsPassOf b p → place < row_width * span_in (trace p) s r → b.shape.rows ≤ row_behind r place
    → (row_after (trace p) s r).words place ≡ 0
none_place b p s r place is inside past =
    item_word (trace p) s r place inside ∙ ap (λ (u : Row). u.words (place_behind place)) (outside b.shape (trace p) s (row_behind r place) is.lawful past)

-- a word that was read before
pub word_before : (b : Board) (p q : Pass) (s r w found : ℕ) → ReadsRow b p q s r → found ≡ (row_after (trace p) s r).words w → found ≡ (row_after (trace q) s r).words w
word_before b p q s r w found i is = is ∙ ap (λ (x : Row). x.words w) (sym i.same)

-- the row of a place, by the numbers that the place was asked for
pub same_readable : (b : Board) (p : Pass) (at : RowPlace) (s r : ℕ) → (at.segment ≡ s) × (at.row ≡ r) → IsReadable b p s r → IsReadable b p at.segment at.row
same_readable b p at s r is may = subst (λ t. IsReadable b p t at.row) (sym is.0) (subst (IsReadable b p s) (sym is.1) may)

pub same_reads : (b : Board) (p q : Pass) (at : RowPlace) (s r : ℕ) → (at.segment ≡ s) × (at.row ≡ r) → ReadsRow b p q at.segment at.row → ReadsRow b p q s r
same_reads b p q at s r is reads = subst (λ t. ReadsRow b p q t r) is.0 (subst (ReadsRow b p q at.segment) is.1 reads)

-- a pass that has read no word yet
pub reads_nothing : (b : Board) (p : Pass) (s r : ℕ) → IsPassOf b p → IsReadable b p s r → ReadsRow b p p s r
reads_nothing b p s r is may = record {
  looked = record { did = record { moved = stays b p is; others = []; none = tt; before = is.lawful; now = refl }; plain = refl; memo = refl };
  readable = may;
  same = refl;
}
