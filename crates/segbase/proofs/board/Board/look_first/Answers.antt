use Rattle.segbase.proofs.board.Board.look_first.Goals as goal

pub returns : goal.returns
returns c = record {
  looks = record {
    place = record { bucket = c.bucket_of-bucket.result; word = 1 };
    step = (c.look.result, c.look.ensures.step);
    did = c.look.ensures.did;
  };
}
