use Rattle.std.proofs.Common.{rules, refl, inr}
use Rattle.segbase.proofs.Moves.{stays}
use Rattle.segstore.proofs.Idling.{goes_same}
use Rattle.segevict.specs.Frequencies.{WasOften}
use Rattle.segevict.proofs.KeyTries.{no_tries}
use Rattle.segevict.proofs.retention.keep.Goals as goal

pub returns-in_default : goal.returns-in_default
returns-in_default c = record {
  keeps = record {
    on = goes_same c.args.board.now c.args.pass.now c.requires.quiet;
    answer = refl;
    not_yours = search rules;
    costs = record {
      order = λ into in_use t. search (rules, in_use);
      tries = λ rows is. no_tries c.args.board.now
          (WasOften c.args.board.now.shape c.args.segment c.args.cutoff c.args.pass.now c.args.pass.now) rows
          c.args.pass.now c.args.pass.now (stays c.args.board.now c.args.pass.now c.requires.quiet.pass);
      draws_nothing = λ bucket. refl;
      reads_nothing = refl;
    };
  };
}

pub returns-then-ne : goal.returns-then-ne
returns-then-ne c = record {
  keeps = record {
    on = goes_same c.args.board.now c.args.pass.now c.requires.quiet;
    answer = inr (search rules, refl, refl);
    not_yours = search rules;
    costs = record {
      order = λ into in_use t. search (rules, in_use);
      tries = λ rows is. no_tries c.args.board.now
          (WasOften c.args.board.now.shape c.args.segment c.args.cutoff c.args.pass.now c.args.pass.now) rows
          c.args.pass.now c.args.pass.now (stays c.args.board.now c.args.pass.now c.requires.quiet.pass);
      draws_nothing = λ bucket. refl;
      reads_nothing = refl;
    };
  };
}
