use Rattle.std.proofs.Common.{◌∙◌, ◌<◌, length, arith}
use Rattle.std.proofs.lemmas.List.{length-set}
use Rattle.segindex.specs.Words.{board_of}
use Rattle.segclient.specs.Made.{Gets}
use Rattle.segclient.proofs.InTurn.{next_made, none_made}
use Rattle.segclient.proofs.member.Member.get_many.Goals as goal

pub loop-place-init : goal.loop-place-init
loop-place-init c = record {
  member = c.requires.member;
  long = c.requires.answers;
  made = none_made Gets (board_of c.args.index.now) c.args.self.now;
}

pub loop-place-preserved : goal.loop-place-preserved
loop-place-preserved c =
    let was = c.loop-place.invariant in
    let keys = c.args.keys.now in
    let answers = c.loop-place.answers in
    let place = c.loop-place.place in
    let in_keys : place < length keys = c.loop-place-test.true in
    let in_answers : place < length answers = let long = was.long in omega arith in
    record {
      member = c.get.ensures.member;
      long = length-set answers place c.get.result ∙ was.long;
      made = next_made Gets keys answers place (board_of c.args.index.now) c.args.self.now c.loop-place.self c.look_ahead_from.new.self c.get.new.self c.index-keys-place.result c.get.result
          in_keys in_answers c.index-keys-place.is was.made c.look_ahead_from.ensures.looks c.get.ensures.reads;
    }
