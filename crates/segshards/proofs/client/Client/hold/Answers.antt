use Rattle.std.proofs.Common.{◌≡◌, false, refl, rules}
use Rattle.std.specs.Prelude.{is_some}
use Rattle.segclient.specs.Made.{HoldsKey}
use Rattle.segshards.proofs.Held.{has_hold, none_held, takes_hold}
use Rattle.segshards.proofs.Same.{called_same}
use Rattle.segshards.proofs.client.Client.hold.Goals as goal

pub returns-in-Holding : goal.returns-in-Holding
returns-in-Holding c =
    let none : is_some c.args.self.now.holds ≡ false = search rules in record {
      holds = takes_hold c.args.key.now _ c.hold.result c.args.self.now _ c.place_of-place.result c.index_mut-shard.result.now c.set_now.new.self c.hold.new.self none c.in-Holding.is
          (c.place_of-place.ensures.shard, c.place_of-place.ensures.within) c.index_mut-shard.ensures.value c.set_now.ensures.sets c.hold.ensures.holds refl refl refl;
      held = has_hold c.args.key.now c.in-Holding.hold c.hold.result c.args.self.now.shards.items _
          c.place_of-place.result c.set_now.new.self c.hold.new.self c.in-Holding.is c.place_of-place.ensures.within
          c.hold.ensures.holds refl refl;
      same = called_same (HoldsKey c.args.key.now c.hold.result) c.args.self.now c.place_of-place.result c.index_mut-shard.result.now c.set_now.new.self c.hold.new.self
          (λ b old new made. made.counts.keeps.settings.number) c.index_mut-shard.ensures.value c.set_now.ensures.sets c.hold.ensures.holds;
    }

pub returns-in-Miss : goal.returns-in-Miss
returns-in-Miss c =
    let none : is_some c.args.self.now.holds ≡ false = search rules in record {
      holds = takes_hold c.args.key.now _ c.hold.result c.args.self.now _ c.place_of-place.result c.index_mut-shard.result.now c.set_now.new.self c.hold.new.self none c.in-Miss.is
          (c.place_of-place.ensures.shard, c.place_of-place.ensures.within) c.index_mut-shard.ensures.value
          c.set_now.ensures.sets c.hold.ensures.holds refl refl (none_held c.args.self.now.holds none);
      held = tt;
      same = called_same (HoldsKey c.args.key.now c.hold.result) c.args.self.now c.place_of-place.result c.index_mut-shard.result.now c.set_now.new.self c.hold.new.self
          (λ b old new made. made.counts.keeps.settings.number) c.index_mut-shard.ensures.value c.set_now.ensures.sets c.hold.ensures.holds;
    }

pub returns-in-Busy : goal.returns-in-Busy
returns-in-Busy c =
    let none : is_some c.args.self.now.holds ≡ false = search rules in record {
      holds = takes_hold c.args.key.now _ c.hold.result c.args.self.now _ c.place_of-place.result c.index_mut-shard.result.now c.set_now.new.self c.hold.new.self none c.in-Busy.is
          (c.place_of-place.ensures.shard, c.place_of-place.ensures.within) c.index_mut-shard.ensures.value
          c.set_now.ensures.sets c.hold.ensures.holds refl refl (none_held c.args.self.now.holds none);
      held = tt;
      same = called_same (HoldsKey c.args.key.now c.hold.result) c.args.self.now c.place_of-place.result c.index_mut-shard.result.now c.set_now.new.self c.hold.new.self
          (λ b old new made. made.counts.keeps.settings.number) c.index_mut-shard.ensures.value c.set_now.ensures.sets c.hold.ensures.holds;
    }

pub returns-in-AlreadyHolding : goal.returns-in-AlreadyHolding
returns-in-AlreadyHolding c =
    let none : is_some c.args.self.now.holds ≡ false = search rules in record {
      holds = takes_hold c.args.key.now _ c.hold.result c.args.self.now _ c.place_of-place.result c.index_mut-shard.result.now c.set_now.new.self c.hold.new.self none c.in-AlreadyHolding.is
          (c.place_of-place.ensures.shard, c.place_of-place.ensures.within) c.index_mut-shard.ensures.value
          c.set_now.ensures.sets c.hold.ensures.holds refl refl (none_held c.args.self.now.holds none);
      held = tt;
      same = called_same (HoldsKey c.args.key.now c.hold.result) c.args.self.now c.place_of-place.result c.index_mut-shard.result.now c.set_now.new.self c.hold.new.self
          (λ b old new made. made.counts.keeps.settings.number) c.index_mut-shard.ensures.value c.set_now.ensures.sets c.hold.ensures.holds;
    }
