use Rattle.std.proofs.Common.{◌≡◌, ℕ, List, false}
use Rattle.segreplay.specs.declared.player.Assignment.{Assignment}
use Rattle.segreplay.specs.Replays.{AddsLives, AllPlay}
use Rattle.segreplay.specs.Traces.{HasRead}
use Rattle.segreplay.proofs.run.read_all.Given as goal

abbrev pub invariant-loop-read : goal.invariant-loop-read
invariant-loop-read g l = record {
  works : g.S.Source.has_failed l.source ≡ false;
  ran : (seen : List ℕ) × (made : List Assignment) × g.S.Source.hands l.fn.source seen l.source
      × AllPlay made l.fn.players l.players × HasRead l.fn.reading.rules seen made l.reading
      × AddsLives made l.fn.lives l.lives;
}
