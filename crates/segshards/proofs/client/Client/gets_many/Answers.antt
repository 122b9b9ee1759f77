use Rattle.std.proofs.Common.{◌∙◌, ◌<◌, length, refl, arith}
use Rattle.std.proofs.lemmas.List.{length-set}
use Rattle.segshards.specs.Many.{GetsKeyVersion}
use Rattle.segshards.proofs.InTurn.{next_made, none_made}
use Rattle.segshards.proofs.client.Client.gets_many.Goals as goal

pub loop-place-init : goal.loop-place-init
loop-place-init c = record {
  long = c.requires.answers;
  made = none_made GetsKeyVersion c.args.self.now;
  same = refl;
}

pub loop-place-preserved : goal.loop-place-preserved
loop-place-preserved c =
    let was = c.loop-place.invariant in
    let keys = c.args.keys.now in
    let answers = c.loop-place.answers in
    let place = c.loop-place.place in
    let in_keys : place < length keys = c.loop-place-test.true in
    let in_answers : place < length answers = let long = was.long in omega arith in
    record {
      long = length-set answers place c.gets.result ∙ was.long;
      made = next_made GetsKeyVersion keys answers place c.args.self.now c.loop-place.self c.look_ahead_from.new.self c.gets.new.self c.index-keys-place.result c.gets.result
          in_keys in_answers c.index-keys-place.is was.made c.look_ahead_from.ensures.looks c.gets.ensures.reads;
      same = c.gets.ensures.same ∙ (c.look_ahead_from.ensures.same ∙ was.same);
    }
