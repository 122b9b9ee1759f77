use Rattle.std.proofs.Common.{◌+◌, ◌*◌, Some, refl, ap, arith}
use Rattle.segindex.specs.Words.{board_of}
use Rattle.segstore.proofs.Idling.{goes_same}
use Rattle.segevict.proofs.RowsOut.{goes_then}
use Rattle.segclient.specs.declared.effort.Effort.{Effort}
use Rattle.segclient.specs.Clearing.{most_steps_of_put, most_steps_of_turn}
use Rattle.segclient.specs.PutParts.{effort_from}
use Rattle.segclient.proofs.Few.{turn_few, turn_next, turns_few}
use Rattle.segclient.proofs.OneTurn.{clears_as, clears_then, none_clears}
use Rattle.segclient.proofs.clearing.clear_rows.Goals as goal

pub loop-tried-init : goal.loop-tried-init
loop-tried-init c =
    let b = board_of c.args.index.now in
    let p = c.args.pass.now in
    let least = Some c.args.terms.least in
    record {
      on = goes_same b p c.requires.quiet;
      cleared = c.requires.cleared;
      refilled = let x = ap (λ (e : Effort). e.refilled) c.none-effort.ensures in omega (arith, x);
      kept = let x = ap (λ (e : Effort). e.kept) c.none-effort.ensures in omega (arith, x);
      keys = let x = ap (λ (e : Effort). e.keys) c.none-effort.ensures in omega (arith, x);
      clears = clears_as b least 0 (most_steps_of_turn * 0) (effort_from 0 0 0) c.none-effort.result p p (omega arith) c.none-effort.ensures (none_clears b least p);
    }

pub returns-then-turn-clause-on : goal.returns-then-turn-clause-on
returns-then-turn-clause-on c = goes_then (board_of c.args.index.now) c.args.pass.now c.loop-tried.pass c.clear_row-turn.new.pass c.loop-tried.invariant.on c.clear_row-turn.ensures.on

pub returns-then-turn-clause-clears : goal.returns-then-turn-clause-clears
returns-then-turn-clause-clears c =
    let turn = c.clear_row-turn in
    let tried = c.loop-tried.tried in
    let below = c.loop-tried-test.true in
    let few = c.turns_of-turns.ensures.few in
    clears_then (board_of c.args.index.now) (Some c.args.terms.least) (most_steps_of_turn * tried) most_steps_of_turn most_steps_of_put c.loop-tried.effort
    turn.result.effort c.plus-effort.result c.args.pass.now c.loop-tried.pass turn.new.pass
    (turn_few tried (omega (arith, below, few))) c.plus-effort.ensures c.loop-tried.invariant.clears turn.ensures.clears

pub loop-tried-preserved : goal.loop-tried-preserved
loop-tried-preserved c =
    let b = board_of c.args.index.now in
    let p = c.args.pass.now in
    let was = c.loop-tried.invariant in
    let q = c.loop-tried.pass in
    let turn = c.clear_row-turn in
    let r = turn.new.pass in
    let few = turn.ensures.few in
    let sum = c.plus-effort.ensures in
    let tried = c.loop-tried.tried in
    record {
      on = goes_then b p q r was.on turn.ensures.on;
      cleared = turn.ensures.cleared;
      refilled = let x = ap (λ (e : Effort). e.refilled) sum in let y = was.refilled in let z = few.0 in omega (arith, x, y, z);
      kept = let x = ap (λ (e : Effort). e.kept) sum in let y = was.kept in let z = few.1 in omega (arith, x, y, z);
      keys = let x = ap (λ (e : Effort). e.keys) sum in let y = was.keys in let z = few.2 in omega (arith, x, y, z);
      clears = clears_then b (Some c.args.terms.least) (most_steps_of_turn * tried) most_steps_of_turn (most_steps_of_turn * (tried + 1))
          c.loop-tried.effort turn.result.effort c.plus-effort.result p q r (turn_next tried) sum was.clears
          turn.ensures.clears;
    }

pub returns-in_default-clause-clears : goal.returns-in_default-clause-clears
returns-in_default-clause-clears c =
    let tried = c.loop-tried.tried in
    let below = c.loop-tried-test.true in
    let few = c.turns_of-turns.ensures.few in
    clears_as (board_of c.args.index.now) (Some c.args.terms.least) (most_steps_of_turn * tried) most_steps_of_put c.loop-tried.effort c.loop-tried.effort c.args.pass.now c.loop-tried.pass
    (turns_few tried (omega (arith, below, few))) refl c.loop-tried.invariant.clears

pub returns-clause-clears : goal.returns-clause-clears
returns-clause-clears c =
    let tried = c.loop-tried.tried in
    let end = c.loop-tried.auto.tried-end in
    let few = c.turns_of-turns.ensures.few in
    clears_as (board_of c.args.index.now) (Some c.args.terms.least) (most_steps_of_turn * tried) most_steps_of_put c.loop-tried.effort c.loop-tried.effort c.args.pass.now c.loop-tried.pass
    (turns_few tried (omega (arith, end, few))) refl c.loop-tried.invariant.clears
