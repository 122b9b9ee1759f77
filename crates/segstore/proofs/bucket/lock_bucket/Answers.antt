use Rattle.std.proofs.Common.{◌≡◌, ◌%◌, ◌<◌, refl, sym, ◌∙◌, subst, rules}
use Rattle.segmodel.specs.Words.{bucket_of}
use Rattle.segcore.proofs.Limits.{bucket_in}
use Rattle.segstore.proofs.Idling.{gave_up, in_vain, goes_same}
use Rattle.segstore.proofs.Locking.{unlocked, locks_bucket, locks_undrawn, locks_unread}
use Rattle.segstore.proofs.bucket.lock_bucket.Goals as goal

pub returns-then-is_some : goal.returns-then-is_some
returns-then-is_some c = record {
  locks = record {
    on = goes_same c.args.board.now c.args.pass.now c.requires.quiet;
    answer = refl;
    already = search rules;
    draws_nothing = λ bucket. refl;
    reads_nothing = refl;
  };
}

pub returns-then-not-take_bucket : goal.returns-then-not-take_bucket
returns-then-not-take_bucket c =
    let b = c.args.board.now in let quiet = c.requires.quiet in
    let home : c.bucket_of-bucket.result ≡ bucket_of b.shape c.args.key.now = c.bucket_of-bucket.ensures ∙ (λ i. c.hash.ensures i % (c.shape.ensures i).buckets) in
    let within : c.bucket_of-bucket.result < b.shape.buckets = subst (λ n. n < b.shape.buckets) (sym home) (bucket_in b.shape c.args.key.now quiet.pass.valid) in
    let gave = gave_up b c.args.pass.now c.take_bucket.new.pass c.bucket_of-bucket.result quiet within
    c.if-not-take_bucket.ensures.takes c.if-not-take_bucket.ensures.same.0 c.if-not-take_bucket.ensures.same.1
    in
    let free = sym c.locked.ensures ∙ unlocked c.locked.result c.if-is_some.ensures in
    record {
      locks = record {
        on = gave.0;
        answer = rw (← home) (gave.1, in_vain c.args.pass.now c.take_bucket.new.pass c.bucket_of-bucket.result free gave.2);
        already = search (rules, free);
        draws_nothing = gave.3;
        reads_nothing = gave.4;
      };
    }

pub returns : goal.returns
returns c =
    let b = c.args.board.now in let p = c.args.pass.now in let r = c.take_bucket.new.pass in let q = c.set_lock.new.pass in
    let bucket = c.bucket_of-bucket.result in let took = c.if-not-take_bucket.ensures in let set = c.set_lock.ensures in
    let home : bucket ≡ bucket_of b.shape c.args.key.now = c.bucket_of-bucket.ensures ∙ (λ i. c.hash.ensures i % (c.shape.ensures i).buckets) in
    let free = sym c.locked.ensures ∙ unlocked c.locked.result c.if-is_some.ensures in
    let locks = locks_bucket b p r q bucket c.requires.quiet free took.takes took.same.0 took.same.1 set.pass set.view set.sets in
    record {
      locks = record {
        on = locks.0;
        answer = rw (← home) locks.1;
        already = search (rules, free);
        draws_nothing = locks_undrawn b p r q bucket c.requires.quiet free took.takes took.same.0 took.same.1 set.pass set.view set.sets;
        reads_nothing = locks_unread b p r q bucket c.requires.quiet free took.takes took.same.0 took.same.1 set.pass set.view set.sets;
      };
    }
