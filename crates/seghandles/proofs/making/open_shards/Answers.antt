use Rattle.std.proofs.Common.{◌≡◌, List, [], ◌∷◌, ◌++◌, refl, sym, ◌∙◌, subst, arith}
use Rattle.std.specs.List.{AllZip}
use Rattle.std.proofs.lemmas.List.Elements.{All-append, All-cons, All-nil}
use Rattle.segclient.proofs.Places.{zip_push}
use Rattle.seghandles.specs.declared.home.Home.{Home}
use Rattle.seghandles.specs.Making.{IsHomeOf, IsNewShard}
use Rattle.seghandles.proofs.Along.{longer}
use Rattle.seghandles.proofs.Dealt.{no_rows, rows_more, three_long}
use Rattle.seghandles.proofs.making.open_shards.Goals as goal

pub loop-init : goal.loop-init
loop-init c =
    let made = c.in-Ok-with_capacity.ensures in
    let len = made.len in
    let room = made.capacity in (
      [],
      record {
        count = refl;
        new = All-nil (IsNewShard c.args.plan.shape);
        homes_of = subst (λ (l : List Home). AllZip IsHomeOf [] l) (sym {A = List Home} made.items) tt;
        long = c.in-Ok.ensures.long;
        rows_of = no_rows c.in-Ok.rows.items c.in-Ok.ensures.empty;
        len = len;
        room = room;
      },
    )

pub loop-preserved : goal.loop-preserved
loop-preserved c =
    let shards = c.loop.invariant.0 in
    let was = c.loop.invariant.1 in
    let shape = c.args.plan.shape in
    let home = c.in_ok-home.home in
    let adds = c.in_ok-home.ensures.opened in
    let before = c.loop.homes.items in
    let old = c.loop.rows.items in
    let new = c.open_shard.new.rows.items in
    let pushed = c.push_reserved.ensures in
    let len = was.len in
    let room = was.room in (
      shards ++ adds.shard ∷ [],
      record {
        count = sym (longer shards adds.shard c.loop.counter (sym was.count));
        new = All-append (IsNewShard shape) shards (adds.shard ∷ []) was.new (All-cons (IsNewShard shape) adds.shard [] adds.is_new (All-nil (IsNewShard shape)));
        homes_of = subst (λ (l : List Home). AllZip IsHomeOf (shards ++ adds.shard ∷ []) l)
            (sym {A = List Home} pushed.items) (zip_push IsHomeOf shards before adds.shard home was.homes_of
            adds.home_of);
        long = three_long (λ guest w is. is.items ≡ w.items ++ guest ∷ []) adds.guests old new adds.deals ∙ was.long;
        rows_of = rows_more shape home old new shards adds was.rows_of;
        len = omega (arith, pushed.len, len);
        room = omega (arith, pushed.capacity, room);
      },
    )
