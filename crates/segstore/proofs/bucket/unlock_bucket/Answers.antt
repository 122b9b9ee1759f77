use Rattle.std.proofs.Common.{sym, refl, rules}
use Rattle.segstore.proofs.Quiet.{has_locked}
use Rattle.segstore.proofs.Costs.{costs_nothing}
use Rattle.segstore.proofs.Idling.{goes_same}
use Rattle.segstore.proofs.Locking.{takes_none, unlocks_bucket, unlocks_undrawn, unlocks_unread}
use Rattle.segstore.proofs.bucket.unlock_bucket.Goals as goal

pub release-requires : goal.release-requires
release-requires c =
    let quiet = c.requires.quiet in
    let clean = has_locked c.args.board.now c.args.pass.now c.in-Some.bucket quiet (sym c.in-Some.ensures) in
    (quiet.pass, (clean.bit, clean.unwritten, clean.undrawn, tt))

pub returns-in_default : goal.returns-in_default
returns-in_default c = record {
  unlocks = record {
    on = goes_same c.args.board.now c.args.pass.now c.requires.quiet;
    answer = refl;
    was_locked = search rules;
    costs_nothing = refl;
  };
}

pub returns : goal.returns
returns c =
    let b = c.args.board.now in let p = c.args.pass.now in let r = c.release.new.pass in let q = c.set_lock.new.pass in
    let quiet = c.requires.quiet in let had = sym c.in-Some.ensures in let freed = c.release.ensures in let step = freed.step.1 in let set = c.set_lock.ensures in
    let unlocks = unlocks_bucket b p r q c.in-Some.bucket quiet had freed.did freed.free step.plain step.memo set.pass set.view set.sets in
    record {
      unlocks = record {
        on = unlocks.0;
        answer = unlocks.1;
        was_locked = search rules;
        costs_nothing = costs_nothing p q
            (takes_none b p r q c.in-Some.bucket quiet had freed.did freed.free step.plain step.memo set.pass set.view set.sets)
            (unlocks_undrawn b p r q c.in-Some.bucket quiet had freed.did freed.free step.plain step.memo set.pass set.view set.sets)
            (unlocks_unread b p r q c.in-Some.bucket quiet had freed.did freed.free step.plain step.memo set.pass set.view set.sets);
      };
    }
