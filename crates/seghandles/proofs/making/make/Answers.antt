use Rattle.std.proofs.Common.{map, ◌∙◌, arith}
use Rattle.segclient.proofs.Places.{zip_long}
use Rattle.seghandles.specs.Making.{IsClientOf, IsHomeOf}
use Rattle.seghandles.specs.Opening.{in_box}
use Rattle.seghandles.proofs.Dealt.{all_clients, is_cache, rows_in_range}
use Rattle.seghandles.proofs.making.make.Goals as goal

pub box_clients-requires : goal.box_clients-requires
box_clients-requires c = record {
  some = rows_in_range c.args.plan c.in_ok-homes.homes.items c.in_ok-homes.rows.items c.in_ok-homes.ensures.opened c.requires.some c.requires.few;
}

pub new-cache-requires : goal.new-cache-requires
new-cache-requires c =
    let opens = c.in_ok-homes.ensures.opened in
    let long = zip_long IsHomeOf opens.shards c.in_ok-homes.homes.items opens.homes_of in
    let count = opens.count in
    let some = c.requires.some in
    let have = c.in_ok-homes.homes.ok.0 in
    record { some = omega (arith, long, count, some, have) }

pub returns-clause-opened : goal.returns-clause-opened
returns-clause-opened c =
    let opens = c.in_ok-homes.ensures.opened in
    let rows = c.in_ok-homes.rows.items in
    let clients = map in_box c.in-Ok.clients.items in
    record {
      shards = opens.shards;
      count = opens.count;
      new = opens.new;
      cache = is_cache opens.shards c.in-Ok-new.home.value c.new-cache.result c.in_ok-homes.homes c.in-Ok-new.ensures.ok c.new-cache.ensures.homes opens.homes_of;
      long = zip_long IsClientOf rows clients c.in-Ok.ensures ∙ opens.long;
      each = all_clients opens.shards rows clients opens.rows_of c.in-Ok.ensures;
    }
