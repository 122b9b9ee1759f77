use Rattle.std.proofs.Common.{◌≡◌, Bool, true, rules, subst}
use Rattle.segbase.specs.Words.{Takes}
use Rattle.segbase.proofs.Moves.{may_release}
use Rattle.segtests_words.proofs.board.bit_of_bucket_1.Goals as goal

pub release-requires : goal.release-requires
release-requires g c =
    let b = c.in_ok-board.board in let p = c.in_ok-board.pass in let did = c.info_look-info.ensures.did in
    let won : c.take.result ≡ true = search rules in
    let takes : Takes b 1 true p c.take.new.pass = subst (λ (t : Bool). Takes b 1 t p c.take.new.pass) won c.take.ensures.takes in
    (did.moved.pass, may_release b p c.take.new.pass c.info_look-info.new.pass 1 takes did)
