use Rattle.std.proofs.Common.{List, ℕ, refl, codes, decimal}
use Rattle.segcli.proofs.TotalsText.{put_more, put_bytes, if_ok}
use Rattle.segcli.proofs.json.put_tallies.Goals as goal

pub returns : goal.returns
returns c = let t = c.args.tallies.now in let old : List ℕ = c.args.text.now.items in
    let one = put_bytes old (codes ",\"hit\":") (decimal t.hit) refl c.in_ok-put_count.ensures.text in
    let two = put_more old _ (codes ",\"miss\":") (decimal t.miss) one c.in_ok-put_count-2.ensures.text in
    let three = put_more old _ (codes ",\"stored\":") (decimal t.stored) two c.in_ok-put_count-3.ensures.text in
    let four = put_more old _ (codes ",\"not_stored\":") (decimal t.not_stored) three c.in_ok-put_count-4.ensures.text in
    let five = put_more old _ (codes ",\"exists\":") (decimal t.exists) four c.in_ok-put_count-5.ensures.text in
    let six = put_more old _ (codes ",\"not_found\":") (decimal t.not_found) five c.in_ok-put_count-6.ensures.text in
    let seven = put_more old _ (codes ",\"deleted\":") (decimal t.deleted) six c.in_ok-put_count-7.ensures.text in
    let eight = put_more old _ (codes ",\"noroom\":") (decimal t.no_room) seven c.in_ok-put_count-8.ensures.text in
    let nine = put_more old _ (codes ",\"bucketfull\":") (decimal t.bucket_full) eight c.in_ok-put_count-9.ensures.text in
    record { text = if_ok c.put_count-10.result (λ _ more. put_more old _ (codes ",\"busy\":") (decimal t.busy) nine more) c.put_count-10.ensures.text }
