use Rattle.std.proofs.Common.{◌≡◌, ◌%◌, ◌<◌, refl, sym, ap, ◌∙◌, subst}
use Rattle.std.specs.Prelude.{IsSome}
use Rattle.std.proofs.lemmas.Option.{same_Some}
use Rattle.segword.specs.Words.{tag_from_hash}
use Rattle.segmodel.specs.Words.{bucket_of, tag_of}
use Rattle.segcore.specs.Words.{row_after}
use Rattle.segcore.proofs.Limits.{bucket_in}
use Rattle.segbase.specs.Words.{trace}
use Rattle.segstore.proofs.Held.{IsPairOf}
use Rattle.segevict.proofs.StoredRows.{of_row, still_linked, still_own, pair_held, pair_named}
use Rattle.segevict.proofs.row.item_of_row.Goals as goal

pub key_of_row-requires-clause-readable : goal.key_of_row-requires-clause-readable
key_of_row-requires-clause-readable c = (of_row c.args.board.now c.args.segment c.args.row c.args.pass.now c.requires.quiet c.requires.used).readable

pub unwrap-key-requires : goal.unwrap-key-requires
unwrap-key-requires c = let b = c.args.board.now in let k = c.key_of_row in let p = c.args.pass.now in
    let of = of_row b c.args.segment c.args.row p c.requires.quiet c.requires.used in
    let pair = pair_held b c.args.segment c.args.row p k.new.pass of k.ensures.reads c.requires.pair in
    subst IsSome (sym (k.ensures.key pair.key pair.value pair.is_key pair.is_value pair.holds)) refl

pub returns-clause-stored : goal.returns-clause-stored
returns-clause-stored c = let b = c.args.board.now in let k = c.key_of_row in let q = k.new.pass in
    let s = c.args.segment in let r = c.args.row in
    let of = of_row b s r c.args.pass.now c.requires.quiet c.requires.used in
    let lawful = k.ensures.reads.looked.did.moved.pass.lawful in
    let linked = still_linked b s r c.args.pass.now q of k.ensures.reads in
    let key_is : IsPairOf (row_after (trace q) s r) of.key → c.unwrap-key.result ≡ of.key =
    λ pair. same_Some c.unwrap-key.result of.key (sym c.unwrap-key.ensures ∙ k.ensures.key of.key pair.value pair.valid.0 pair.valid.1 pair.holds) in
    let home : c.bucket_of.result ≡ bucket_of b.shape c.unwrap-key.result = c.bucket_of.ensures ∙ (λ i. c.hash-hash.ensures i % (c.shape.ensures i).buckets) in
    let low = subst (λ n. n < b.shape.buckets) (sym home) (bucket_in b.shape c.unwrap-key.result c.requires.quiet.pass.valid) in
    let home_is : c.unwrap-key.result ≡ of.key → c.bucket_of.result ≡ bucket_of b.shape of.key = λ same. home ∙ ap (bucket_of b.shape) same in
    let tag_is : c.unwrap-key.result ≡ of.key → c.tag_of.result ≡ tag_of of.key =
    λ same. c.tag_of.ensures ∙ (ap tag_from_hash c.hash-hash.ensures ∙ ap tag_of same) in
    record {
      key = of.key;
      own = still_own b s r c.args.pass.now q of k.ensures.reads;
      linked = linked;
      home = (low, λ k n at. home_is (key_is (pair_named b.shape (trace q) k n s r of.key lawful at linked)));
      tag = λ k n at. tag_is (key_is (pair_named b.shape (trace q) k n s r of.key lawful at linked));
    }
