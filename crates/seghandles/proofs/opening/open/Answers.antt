use Rattle.std.proofs.Common.{rules, ◌≡◌, length, map, sym, ◌∙◌}
use Rattle.seghandles.specs.Opening.{in_box}
use Rattle.seghandles.proofs.Closed.{empty}
use Rattle.seghandles.proofs.Opened.{opened_long, same_long, same_values}
use Rattle.seghandles.proofs.opening.open.Goals as goal

pub hand_out-requires : goal.hand_out-requires
hand_out-requires c =
    let long : length c.args.handles.now ≡ c.args.plan.shape.passes = search rules in
    record {
      same = same_long c.are_empty.new.handles c.args.handles.now c.are_empty.ensures.same ∙ long
          ∙ sym (opened_long c.args.plan c.in-Ok.home.value c.in-Ok.clients.items c.in-Ok.ensures.opened);
    }

pub returns-in-Ok : goal.returns-in-Ok
returns-in-Ok c =
    let long : length c.args.handles.now ≡ c.args.plan.shape.passes = search rules in
    let boxes = c.in-Ok.clients.items in (
      record {
        count = long;
        cache = empty c.args.cache.now.value (sym c.is_empty.ensures.empty ∙ c.if-not-is_empty.false);
        clients_empty = sym c.are_empty.ensures.empty ∙ c.if-not-are_empty.false;
      },
      record {
        home = c.in-Ok.home.value;
        clients = map in_box boxes;
        opened = c.in-Ok.ensures.opened;
        cache_in = c.fill.ensures;
        clients_in = c.hand_out.ensures ∙ same_values boxes;
      },
    )
