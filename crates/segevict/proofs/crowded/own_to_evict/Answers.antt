use Rattle.std.proofs.Common.{◌≡◌, ◌%◌, ◌<◌, IfSome, Some, sym, ◌∙◌, subst, arith}
use Rattle.segmodel.specs.Words.{bucket_of, owner}
use Rattle.segcore.proofs.Limits.{bucket_in}
use Rattle.segbase.specs.Words.{number}
use Rattle.segstore.proofs.Looks.{one_step}
use Rattle.segstore.proofs.Refills.{idles}
use Rattle.segwrite.proofs.Places.{idles_then, step_idles}
use Rattle.segwrite.proofs.Searching.{begins_at}
use Rattle.segevict.proofs.Own.{finds_own, IsOwnIn, own_either, own_row, own_still}
use Rattle.segevict.proofs.Walking.{less_left, one_more, onward, place_left}
use Rattle.segevict.proofs.crowded.own_to_evict.Goals as goal

pub loop-next-init : goal.loop-next-init
loop-next-init c =
    let b = c.args.board.now in
    let home : c.bucket_of.result ≡ bucket_of b.shape c.args.key.now = c.bucket_of.ensures ∙ (λ i. c.hash.ensures i % (c.shape.ensures i).buckets) in
    record {
      idles = idles b c.args.pass.now c.requires.quiet.pass;
      chain = begins_at b c.args.pass.now c.bucket_of.result (subst (λ n. n < b.shape.buckets) (sym home) (bucket_in b.shape c.args.key.now c.requires.quiet.pass.valid));
      steps = omega arith;
      own = tt;
    }

pub look-word-requires-clause-pass : goal.look-word-requires-clause-pass
look-word-requires-clause-pass c = c.loop-next.invariant.idles.moved.pass

pub look-word-requires-clause-place : goal.look-word-requires-clause-place
look-word-requires-clause-place c = c.loop-next.invariant.chain.in_table

pub next_place-requires-clause-word : goal.next_place-requires-clause-word
next_place-requires-clause-word c = let within = c.loop-next.invariant.chain.in_table in omega (arith, within.2)

pub loop-next-smaller : goal.loop-next-smaller
loop-next-smaller c = let l = c.look-word in let b = c.args.board.now in
    less_left b c.bucket_of.result c.loop-next.pass l.new.pass c.loop-next.place l.result c.loop-next.invariant.chain
    (step_idles b _ _ _ _ l.ensures.step l.ensures.did) l.ensures.reads c.next_place.result c.next_place.ensures c.in-Some.next c.in-Some.is

pub loop-next-preserved : goal.loop-next-preserved
loop-next-preserved c = let l = c.look-word in let b = c.args.board.now in let was = c.loop-next.invariant in
    let look = step_idles b _ _ _ _ l.ensures.step l.ensures.did in
    let one = one_step b c.loop-next.pass l.new.pass _ _ l.ensures.step in
    let more = one_more b c.bucket_of.result c.loop-next.pass l.new.pass c.loop-next.place l.result was.chain look l.ensures.reads
    c.next_place.result c.next_place.ensures c.in-Some.next c.in-Some.is in
    let before = was.steps in record {
      idles = idles_then b c.args.pass.now c.loop-next.pass l.new.pass was.idles look;
      chain = (onward b c.bucket_of.result c.loop-next.pass l.new.pass c.loop-next.place l.result was.chain look l.ensures.reads
          c.next_place.result c.next_place.ensures c.in-Some.next c.in-Some.is).there;
      steps = omega (arith, before, one, more);
      own = own_either l.new.pass c.sooner-first.result c.loop-next.first c.own_item.result c.sooner-first.ensures.either
          (own_still c.loop-next.pass l.new.pass c.loop-next.first look.plain was.own) c.own_item.ensures.own;
    }

pub returns-in_err-first-in-None : goal.returns-in_err-first-in-None
returns-in_err-first-in-None c = let l = c.look-word in let b = c.args.board.now in let was = c.loop-next.invariant in
    let look = idles_then b c.args.pass.now c.loop-next.pass l.new.pass was.idles (step_idles b _ _ _ _ l.ensures.step l.ensures.did) in
    let one = one_step b c.loop-next.pass l.new.pass _ _ l.ensures.step in let before = was.steps in
    let short = place_left b c.bucket_of.result c.loop-next.place c.loop-next.pass was.idles.moved.pass was.chain in record {
      finds = finds_own b c.from_residual.result c.args.pass.now l.new.pass c.requires.quiet look (omega (arith, one, before, short))
          (subst (λ found. IfSome found (λ row. owner b.shape row.segment ≡ number c.args.pass.now)) (sym c.from_residual.ensures) tt);
    }

pub returns-in-None : goal.returns-in-None
returns-in-None c = let l = c.look-word in let b = c.args.board.now in let was = c.loop-next.invariant in
    let step = step_idles b _ _ _ _ l.ensures.step l.ensures.did in
    let look = idles_then b c.args.pass.now c.loop-next.pass l.new.pass was.idles step in
    let one = one_step b c.loop-next.pass l.new.pass _ _ l.ensures.step in let before = was.steps in
    let short = place_left b c.bucket_of.result c.loop-next.place c.loop-next.pass was.idles.moved.pass was.chain in
    let first = c.in_ok-first-in-None.field-0 in
    let own = own_either l.new.pass c.sooner-first.result c.loop-next.first c.own_item.result c.sooner-first.ensures.either
    (own_still c.loop-next.pass l.new.pass c.loop-next.first step.plain was.own) c.own_item.ensures.own in record {
      finds = finds_own b (Some first.row) c.args.pass.now l.new.pass c.requires.quiet look (omega (arith, one, before, short))
          (own_row b c.args.pass.now l.new.pass first c.requires.quiet look (subst (λ o. IfSome o (IsOwnIn l.new.pass)) c.in_ok-first-in-None.was own));
    }
