use Rattle.std.proofs.Common.{◌++◌, ◌∙◌, List, ℕ, ap, codes, decimal}
use Rattle.segcli.specs.Replayed.{mean, policy_text, rate_part, rows_of, share}
use Rattle.segcli.proofs.TotalsText.{put_more, put_bytes, if_ok}
use Rattle.segcli.proofs.replayed.put_line.Goals as goal

pub returns : goal.returns
returns c =
    let totals = c.args.totals.now in
    let t = totals.counts in
    let old : List ℕ = c.args.text.now.items in
    let rows = c.in_ok-put_count.ensures.text ∙ ap (λ n. c.put_policy.new.text.items ++ codes " rows=" ++ decimal n) c.rows_of.ensures in
    let rate = c.in_ok-put_rate.ensures.text ∙ ap (λ n. c.put_count-4.new.text.items ++ rate_part (codes " rate=") n) c.share.ensures in
    let given = c.in_ok-put_rate-2.ensures.text ∙ ap (λ n. c.put_count-12.new.text.items ++ rate_part (codes " given=") n) c.mean.ensures in
    let zero = put_more old (policy_text totals.cache.policy) (codes " rows=") (decimal (rows_of totals.cache.shape)) c.in_ok-put_policy.ensures.text rows in
    let one = put_more old _ (codes " bytes=") (decimal totals.bytes) zero c.in_ok-put_count-2.ensures.text in
    let two = put_more old _ (codes " gets=") (decimal t.gets) one c.in_ok-put_count-3.ensures.text in
    let three = put_more old _ (codes " hits=") (decimal t.hits) two c.in_ok-put_count-4.ensures.text in
    let four = put_bytes old _ (rate_part (codes " rate=") (share t.hits t.gets)) three rate in
    let five = put_more old _ (codes " sets=") (decimal t.sets) four c.in_ok-put_count-5.ensures.text in
    let six = put_more old _ (codes " deletes=") (decimal t.deletes) five c.in_ok-put_count-6.ensures.text in
    let seven = put_more old _ (codes " evicted=") (decimal t.evicted) six c.in_ok-put_count-7.ensures.text in
    let eight = put_more old _ (codes " kept=") (decimal t.kept) seven c.in_ok-put_count-8.ensures.text in
    let nine = put_more old _ (codes " refused=") (decimal t.refused) eight c.in_ok-put_count-9.ensures.text in
    let ten = put_more old _ (codes " busy=") (decimal t.busy) nine c.in_ok-put_count-10.ensures.text in
    let eleven = put_more old _ (codes " items=") (decimal t.items) ten c.in_ok-put_count-11.ensures.text in
    let twelve = put_more old _ (codes " lives=") (decimal totals.lives) eleven c.in_ok-put_count-12.ensures.text in
    let thirteen = put_bytes old _ (rate_part (codes " given=") (mean t.given t.stored)) twelve given in
    record { text = if_ok c.put.result (λ _ more. put_bytes old _ (codes "\n") thirteen more) c.put.ensures.text }
