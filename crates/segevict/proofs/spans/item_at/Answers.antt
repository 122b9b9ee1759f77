use Rattle.std.proofs.Common.{◌≡◌, ◌+◌, ◌%◌, ◌<◌, ◌≤◌, Some, sym, ap, ◌∙◌, subst, arith}
use Rattle.std.proofs.lemmas.Option.{none-some, same_Some}
use Rattle.segword.specs.Words.{tag_from_hash}
use Rattle.segmodel.specs.Words.{bucket_of, tag_of}
use Rattle.segcore.specs.Words.{row_after}
use Rattle.segcore.proofs.Limits.{bucket_in}
use Rattle.segbase.specs.Words.{trace}
use Rattle.segstore.proofs.Held.{IsPairOf}
use Rattle.segstore.proofs.Keeping.{same_used}
use Rattle.segwrite.proofs.Places.{idles_then}
use Rattle.segevict.proofs.Items.{item_named}
use Rattle.segevict.proofs.Naming.{quiet_still, used_still}
use Rattle.segevict.proofs.StoredRows.{of_row, still_linked, still_own, pair_named}
use Rattle.segevict.proofs.spans.item_at.Goals as goal

-- an item that a word names has so many rows that are used
pub returns-then-saturating_sub-rows-clause-gone : goal.returns-then-saturating_sub-rows-clause-gone
returns-then-saturating_sub-rows-clause-gone c = λ none bucket at a is es er.
    let b = c.args.board.now in let p = c.args.pass.now in let r = c.rows_from-rows in let q = r.new.pass in let used = c.requires.used in
    let item = item_named b bucket at c.args.segment c.args.row used.0 q (quiet_still b p q c.requires.quiet r.ensures.idles)
    (same_used p q c.args.segment r.ensures.idles.plain ∙ used.1) used.2 (a, is, (es, er)) in
    let ends = subst (λ n. c.args.row + n ≤ used.0) (sym r.ensures.rows) item.ends in
    let same : used.0 ≡ c.in_ok-used.field-0 =
    same_Some used.0 c.in_ok-used.field-0 (sym (same_used p q c.args.segment r.ensures.idles.plain ∙ used.1) ∙ (sym c.used.ensures ∙ c.in_ok-used.was)) in
    let few = c.if-saturating_sub-rows.true in let left = c.saturating_sub.ensures in omega (arith, ends, same, few, left)

pub key_of_row-requires-clause-readable : goal.key_of_row-requires-clause-readable
key_of_row-requires-clause-readable c =
    let b = c.args.board.now in let p = c.args.pass.now in let r = c.rows_from-rows in let q = r.new.pass in let used = c.requires.used in
    (of_row b c.args.segment c.args.row q (quiet_still b p q c.requires.quiet r.ensures.idles) (used_still b c.args.segment c.args.row used.0 p q r.ensures.idles used.1 used.2)).readable

pub returns-in_err-key-clause-idles : goal.returns-in_err-key-clause-idles
returns-in_err-key-clause-idles c = let r = c.rows_from-rows in let looked = c.key_of_row.ensures.reads.looked in
    idles_then c.args.board.now c.args.pass.now r.new.pass c.key_of_row.new.pass r.ensures.idles (record { moved = looked.did.moved; plain = looked.plain; memo = looked.memo })

-- the row of an item that a word names has a key
pub returns-in_err-key-clause-gone : goal.returns-in_err-key-clause-gone
returns-in_err-key-clause-gone c = λ none bucket at a is es er.
    let b = c.args.board.now in let p = c.args.pass.now in let r = c.rows_from-rows in let f = r.new.pass in let k = c.key_of_row in let used = c.requires.used in
    let of = of_row b c.args.segment c.args.row f (quiet_still b p f c.requires.quiet r.ensures.idles) (used_still b c.args.segment c.args.row used.0 p f r.ensures.idles used.1 used.2) in
    let linked = still_linked b c.args.segment c.args.row f k.new.pass of k.ensures.reads in
    let pair = pair_named b.shape (trace k.new.pass) bucket at c.args.segment c.args.row of.key k.ensures.reads.looked.did.moved.pass.lawful (a, is, (es, er)) linked in
    let found = k.ensures.key of.key pair.value pair.valid.0 pair.valid.1 pair.holds in
    none-some of.key (sym (c.in_err-key.was) ∙ found)

pub returns-clause-idles : goal.returns-clause-idles
returns-clause-idles c = let r = c.rows_from-rows in let looked = c.key_of_row.ensures.reads.looked in
    idles_then c.args.board.now c.args.pass.now r.new.pass c.key_of_row.new.pass r.ensures.idles (record { moved = looked.did.moved; plain = looked.plain; memo = looked.memo })

pub returns-clause-stored : goal.returns-clause-stored
returns-clause-stored c = let b = c.args.board.now in let p = c.args.pass.now in let first = c.rows_from-rows in let f = first.new.pass in let k = c.key_of_row in let q = k.new.pass in
    let s = c.args.segment in let r = c.args.row in let used = c.requires.used in let key = c.in_ok-key.key in
    let of = of_row b s r f (quiet_still b p f c.requires.quiet first.ensures.idles) (used_still b s r used.0 p f first.ensures.idles used.1 used.2) in
    let lawful = k.ensures.reads.looked.did.moved.pass.lawful in
    let linked = still_linked b s r f q of k.ensures.reads in
    let found : c.key_of_row.result ≡ Some key = c.in_ok-key.was in
    let key_is : IsPairOf (row_after (trace q) s r) of.key → key ≡ of.key =
    λ pair. same_Some key of.key (sym found ∙ k.ensures.key of.key pair.value pair.valid.0 pair.valid.1 pair.holds) in
    let home : c.bucket_of.result ≡ bucket_of b.shape key = c.bucket_of.ensures ∙ (λ i. c.hash-hash.ensures i % (c.shape.ensures i).buckets) in
    let low = subst (λ n. n < b.shape.buckets) (sym home) (bucket_in b.shape key c.requires.quiet.pass.valid) in
    let home_is : key ≡ of.key → c.bucket_of.result ≡ bucket_of b.shape of.key = λ same. home ∙ ap (bucket_of b.shape) same in
    let tag_is : key ≡ of.key → c.tag_of.result ≡ tag_of of.key =
    λ same. c.tag_of.ensures ∙ (ap tag_from_hash c.hash-hash.ensures ∙ ap tag_of same) in
    record {
      key = of.key;
      own = still_own b s r f q of k.ensures.reads;
      linked = linked;
      home = (low, λ k n at. home_is (key_is (pair_named b.shape (trace q) k n s r of.key lawful at linked)));
      tag = λ k n at. tag_is (key_is (pair_named b.shape (trace q) k n s r of.key lawful at linked));
    }
