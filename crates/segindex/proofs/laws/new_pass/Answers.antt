use Rattle.std.proofs.Common.{ap}
use Rattle.segcore.specs.Event as event
use Rattle.segcore.specs.Words.{marked}
use Rattle.segmodel.specs.History as history
use Rattle.segbase.specs.Words.{number}
use Rattle.segindex.proofs.Made.{all_empty, new_quiet}
use Rattle.segindex.proofs.laws.new_pass.Goals as goal

pub returns : goal.returns
returns c = record {
  quiet = new_quiet;
  number = λ b n p new. new.number;
  nothing = λ b n p new. (
    ap marked new.nothing,
    ap event.seen new.nothing,
    ap (λ h. history.mine (number p) (event.seen h)) new.nothing,
  );
  empty = λ b n p new segment. all_empty b n p segment new;
  free = λ b n p new. (new.plain.current, new.locked, new.holding);
}
