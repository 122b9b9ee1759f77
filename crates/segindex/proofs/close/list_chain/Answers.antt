use Rattle.std.proofs.Common.{◌≡◌, ◌+◌, ◌<◌, refl, sym, ap, ◌∙◌, subst, arith}
use Rattle.std.proofs.lemmas.Bool.{false≢true}
use Rattle.segword.specs.Words.{IsChainWord, Shape}
use Rattle.segbase.specs.Words.{shape_of}
use Rattle.segindex.specs.Closing.{IsBucketIn}
use Rattle.segindex.proofs.AtRest.{first_bucket, next_bucket, chain_ends, not_deeper}
use Rattle.segindex.proofs.Listing.{on_err, lists_bucket, lists_chain}
use Rattle.segindex.proofs.close.list_chain.Goals as goal

pub loop-depth-init : goal.loop-depth-init
loop-depth-init c = record { lists = λ trace rest. (first_bucket c.args.words.now trace c.args.home rest.valid c.requires.home, λ lists. lists); few = omega arith; room = λ compact. compact }

pub list_bucket-requires : goal.list_bucket-requires
list_bucket-requires c = let r = c.requires.rest in (r.0, c.args.home, c.loop-depth.depth, r.1, (c.loop-depth.invariant.lists r.0 r.1).0)

pub item-requires : goal.item-requires
item-requires c = let r = c.requires.rest in ((c.loop-depth.invariant.lists r.0 r.1).0 7 (omega arith) (omega arith)).0

pub returns-in_err-list_bucket-clause-wanted : goal.returns-in_err-list_bucket-clause-wanted
returns-in_err-list_bucket-clause-wanted c =
    on_err c.from_residual.result (λ trace rest. c.in_err-list_bucket.ensures.wanted trace c.args.home c.loop-depth.depth rest (c.loop-depth.invariant.lists trace rest).0)

pub returns-in_default : goal.returns-in_default
returns-in_default c = record {
  lists = λ trace rest lists.
      let words = c.args.words.now in let home = c.args.home in let depth = c.loop-depth.depth in let inv = c.loop-depth.invariant.lists trace rest in
      lists_chain (shape_of words) trace rest.lawful home depth c.list_bucket.new.pairs.items
      (chain_ends words trace home depth c.loop-depth.bucket rest inv.0 (λ is. false≢true (c.in_default.ensures.variant.1 (subst IsChainWord (sym c.item.ensures) is))))
      (c.in_ok-list_bucket.ensures.lists trace home depth rest inv.0 (inv.1 lists));
  few = let test = c.loop-depth-test.true in let few = c.loop-depth.invariant.few in omega (arith, few, test, c.in_ok-list_bucket.ensures.few);
  room = λ compact. c.in_ok-list_bucket.ensures.room (c.loop-depth.invariant.room compact);
  wanted = tt;
}

pub loop-depth-preserved : goal.loop-depth-preserved
loop-depth-preserved c = record {
  lists = λ trace rest.
      let words = c.args.words.now in let home = c.args.home in let depth = c.loop-depth.depth in let inv = c.loop-depth.invariant.lists trace rest in
      let same : c.shape.result.buckets ≡ (shape_of words).buckets = ap (λ (z : Shape). z.buckets) c.shape.ensures in
      let few : c.in-Some.number < 65536 = let e = c.in-Some.ensures.some in let w = (c.in-Some.ensures.variant.0 refl).1 in omega arith in (
        subst (λ n. IsBucketIn words trace home (depth + 1) (n + c.in-Some.number)) (sym same)
            (next_bucket words trace home depth c.loop-depth.bucket rest inv.0 c.in-Some.number
            (c.in-Some.ensures.some ∙ c.item.ensures) few),
        λ lists. lists_bucket (shape_of words) trace rest.lawful home depth c.list_bucket.new.pairs.items (c.in_ok-list_bucket.ensures.lists trace home depth rest inv.0 (inv.1 lists)),
      );
  few = let few = c.loop-depth.invariant.few in omega (arith, few, c.in_ok-list_bucket.ensures.few);
  room = λ compact. c.in_ok-list_bucket.ensures.room (c.loop-depth.invariant.room compact);
}

pub returns : goal.returns
returns c = record {
  lists = λ trace rest lists.
      let deep = not_deeper c.args.words.now trace c.args.home c.loop-depth.depth c.loop-depth.bucket rest
      (c.loop-depth.invariant.lists trace rest).0 in let over = c.loop-depth-test.false in absurd (omega arith);
  few = let up = c.loop-depth.auto.depth-end in let few = c.loop-depth.invariant.few in omega (arith, few, up);
  room = c.loop-depth.invariant.room;
  wanted = tt;
}
