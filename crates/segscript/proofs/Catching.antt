-- A server whose pass at a place caught up, before that pass takes its turn.
use Rattle.std.proofs.Common.{◌≡◌, ◌<◌, ℕ, All, List, get_or, length, slice_get, Option, Some, None, sym, ◌∙◌, arith}
use Rattle.std.proofs.lemmas.Option.{slice_get-get_or, slice_get_read}
use Rattle.segbase.specs.Words.{Pass}
use Rattle.segread.specs.Words.{Hold}
use Rattle.segstore.specs.Words.{IsQuiet}
use Rattle.segindex.specs.Words.{board_of, shape_of}
use Rattle.segscript.specs.Passes.{AreInOrder, CatchesUp, SeesAllOf}
use Rattle.segscript.specs.Server.{IsReady}
use Rattle.segscript.specs.declared.server.Server.{Server}
use Rattle.segscript.proofs.Meetings.{learned_in_order}

pub all_quiet : (server : Server) → IsReady server → All (IsQuiet (board_of server.index.now)) server.passes.items
all_quiet server ready n p within =
    let held : n < length server.holds.items = (let all = ready.all in let holds = ready.holds in omega arith) in
    (ready.in_order n (get_or server.passes.items n p) (get_or server.holds.items n None) (slice_get-get_or server.passes.items n p within) (slice_get-get_or server.holds.items n None held)).0.quiet

module _ (server : Server) (passes : List Pass) (place : ℕ) (ready : IsReady server) (up : CatchesUp (board_of server.index.now) server.last place server.passes.items passes)
    (within : place < (shape_of server.index.now).passes)
  where
    pub all_there : length passes ≡ (shape_of server.index.now).passes
    all_there = up.long ∙ ready.all

    -- what stands at the place in each list
    pub pass_there : (p : Pass) → p ≡ get_or passes place p → slice_get passes place ≡ Some p
    pass_there p value = slice_get_read passes (shape_of server.index.now).passes place p (sym all_there) within value

    pub hold_there : (hold : Option Hold) → hold ≡ get_or server.holds.items place hold → slice_get server.holds.items place ≡ Some hold
    hold_there hold value = slice_get_read server.holds.items (shape_of server.index.now).passes place hold (sym ready.holds) within value

    -- the only pass took the last turn too
    pub only_place : (shape_of server.index.now).passes ≡ 1 → server.last ≡ place
    only_place one = let last = ready.within in omega arith

    pub caught_up : AreInOrder (board_of server.index.now) passes server.holds.items
    caught_up = learned_in_order (board_of server.index.now) server.passes.items passes server.holds.items up.long up.learn (λ one. up.stays (only_place one)) ready.in_order

    pub all_seen : (p : Pass) → slice_get passes place ≡ Some p → SeesAllOf passes p
    all_seen p at =
        let last : server.last < length server.passes.items = (let all = ready.all in let before = ready.within in omega arith) in
        let was = slice_get-get_or server.passes.items server.last p last in
        up.sees (get_or server.passes.items server.last p) p was at (ready.ahead (get_or server.passes.items server.last p) was)
