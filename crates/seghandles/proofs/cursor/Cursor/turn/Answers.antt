use Rattle.std.proofs.Common.{refl}
use Rattle.seghandles.proofs.Turned.{put_back}
use Rattle.seghandles.proofs.cursor.Cursor.turn.Goals as goal

pub returns-in-Content : goal.returns-in-Content
returns-in-Content c = record {
  takes = record { home = c.in-Some.home; homes = c.in-Some.ensures.items };
  lists = c.in-Content.ensures;
  next = refl;
}

pub returns-in-Refused : goal.returns-in-Refused
returns-in-Refused c = record {
  last = c.in-Some.home;
  among = c.pop.new.self.items;
  homes = c.in-Some.ensures.items;
  is_refusal = c.in-Refused.ensures.1;
  same = put_back c.args.self.now.homes.items c.pop.new.self.items c.push_reserved.new.self.items c.in-Some.home
      c.in-Refused.home c.in-Some.ensures.items c.push_reserved.ensures.items c.in-Refused.ensures.0;
  pairs = c.new.ensures.items;
}

pub returns-in-Gone : goal.returns-in-Gone
returns-in-Gone c = record {
  takes = record { home = c.in-Some.home; homes = c.in-Some.ensures.items };
  loses = c.in-Gone.ensures;
  pairs = c.new.ensures.items;
}
