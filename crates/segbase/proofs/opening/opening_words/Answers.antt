use Rattle.std.proofs.Common.{◌≡◌, ℕ, ◌*◌, ◌+◌, ◌^◌, set, sym, ◌∙◌, subst, arith, length-set}
use Rattle.segbase.proofs.Opened.{IsBegun, begun_one, opened}
use Rattle.segbase.proofs.opening.opening_words.Goals as goal

pub loop-bucket-preserved : goal.loop-bucket-preserved
loop-bucket-preserved c =
    let words = c.loop-bucket.words.items in let b = c.loop-bucket.bucket in let v : ℕ = c.args.shape.first_version * 2 ^ 32 in
    let inv = c.loop-bucket.invariant in let long = inv.0 in let below = c.loop-bucket-test.true in
    let is : c.pack.result ≡ v = let e = c.pack.ensures in omega arith in (
      length-set words (1 + 8 * b) c.pack.result ∙ inv.0,
      subst (λ n. IsBegun v (b + 1) (set words (1 + 8 * b) n)) (sym is) (begun_one v b words (omega arith) inv.1),
      inv.2,
    )

pub returns : goal.returns
returns c =
    let words = c.loop-bucket.words.items in let inv = c.loop-bucket.invariant in let long = inv.0 in
    let past = c.loop-bucket-test.false in let up = c.loop-bucket.auto.bucket-end in
    let all : c.loop-bucket.bucket ≡ c.args.shape.buckets = omega arith in
    opened c.args.shape words inv.2 (omega arith) (subst (λ n. IsBegun (c.args.shape.first_version * 2 ^ 32) n words) all inv.1)
