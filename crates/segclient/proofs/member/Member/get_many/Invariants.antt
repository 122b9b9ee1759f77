use Rattle.std.proofs.Common.{◌≡◌, length, take}
use Rattle.segindex.specs.Words.{board_of}
use Rattle.segclient.specs.Made.{Gets}
use Rattle.segclient.specs.Many.{InTurn}
use Rattle.segclient.specs.Member.{IsMember}
use Rattle.segclient.proofs.member.Member.get_many.Given as goal

abbrev pub invariant-loop-place : goal.invariant-loop-place
invariant-loop-place l = record {
  member : IsMember l.index l.self;
  long : length l.answers ≡ length l.keys;
  made : InTurn Gets (take l.place l.keys) (take l.place l.answers) (board_of l.index) l.fn.self l.self;
}
