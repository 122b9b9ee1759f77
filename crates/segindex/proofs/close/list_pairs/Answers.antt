use Rattle.std.proofs.Common.{◌≡◌, ap, subst, arith}
use Rattle.segword.specs.Words.{Shape}
use Rattle.segbase.specs.Words.{shape_of}
use Rattle.segindex.specs.Closing.{IsListed}
use Rattle.segindex.proofs.Listing.{lists_none}
use Rattle.segindex.proofs.close.list_pairs.Goals as goal

pub loop-bucket-init : goal.loop-bucket-init
loop-bucket-init c = record {
  lists = λ trace rest. rw c.new-pairs.ensures.items (lists_none (shape_of c.args.words.now) trace rest.lawful);
  few = omega (arith, c.new-pairs.ensures.len);
  room = omega (arith, c.new-pairs.ensures.capacity);
}

pub returns : goal.returns
returns c = record {
  lists = λ trace rest.
      let words = c.args.words.now in
      let same : c.shape-bucket-end.result.buckets ≡ (shape_of words).buckets = ap (λ (z : Shape). z.buckets) c.shape-bucket-end.ensures in
      let past = c.loop-bucket-test.false in let up = c.loop-bucket.auto.bucket-end in
      let all : c.loop-bucket.bucket ≡ (shape_of words).buckets = omega arith in
      subst (λ n. IsListed words trace n 1 c.loop-bucket.pairs.items) all (c.loop-bucket.invariant.lists trace rest);
  few = let past = c.loop-bucket-test.false in let up = c.loop-bucket.auto.bucket-end in
      let few = c.loop-bucket.invariant.few in let same =
      ap (λ (z : Shape). z.buckets) c.shape-bucket-end.ensures in omega (arith, few, past, up, same);
  room = c.loop-bucket.invariant.room;
  wanted = tt;
}
