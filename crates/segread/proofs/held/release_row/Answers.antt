use Rattle.std.proofs.Common.{None, [], ◌∷◌, arith}
use Rattle.segcore.specs.Words.{entered, glanced, raised}
use Rattle.segcore.specs.declared.event.Event.TheVariants.{Left}
use Rattle.segbase.specs.Words.{number}
use Rattle.segbase.proofs.Moves.{moved_count}
use Rattle.segstore.proofs.Costs.{costs_nothing}
use Rattle.segstore.proofs.Looks.{one_step}
use Rattle.segread.proofs.Pacing.{same_steps}
use Rattle.segread.proofs.HoldCalls.{moved_to, releases, takes_no_bit, draws_nothing}
use Rattle.segread.proofs.held.release_row.Goals as goal

pub returns : goal.returns
returns c =
    let b = c.args.board.now in let p = c.args.pass.now in let r = c.leave.new.pass in
    let q = c.set_hold.new.pass in let left = c.leave.ensures in let st = left.step.1 in
    let set = c.set_hold.ensures in
    let own = Left (number p) c.args.row.segment ∷ [] in
    let ends = releases b p r q c.args.row c.requires.pass c.requires.row left.did st.plain st.memo set.pass set.view set.sets in
    let m = moved_to b own None p r q c.requires.pass left.did.moved (tt, tt) st.plain st.memo set.pass set.view set.sets in record {
      releases = record {
        on = ends.0;
        costs_nothing = costs_nothing p q
            (takes_no_bit b own None p r q c.requires.pass left.did.moved (tt, tt) st.plain st.memo set.pass set.view set.sets)
            (draws_nothing b own None p r q c.requires.pass left.did.moved (tt, tt) st.plain st.memo set.pass set.view set.sets)
            (λ i. (moved_count b own p q raised m i, moved_count b own p q entered m i, λ bucket. moved_count b own p q (glanced bucket) m i));
        steps = (let one = one_step b p r _ _ st in let same = same_steps r q set.view in omega (arith, one, same));
        releases = ends.1;
      };
    }
