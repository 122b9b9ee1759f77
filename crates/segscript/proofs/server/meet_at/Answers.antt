use Rattle.std.proofs.Common.{◌++◌, ◌<◌, get_or, length, set, sym, subst₂, arith}
use Rattle.std.proofs.lemmas.Option.{slice_get-get_or}
use Rattle.segindex.specs.Words.{board_of}
use Rattle.segscript.specs.Passes.{HaveMet}
use Rattle.segscript.proofs.Meetings.{met_back, met_onward}
use Rattle.segscript.proofs.server.meet_at.Goals as goal

pub returns-then-first-second : goal.returns-then-first-second
returns-then-first-second c =
    let cut = c.split_at_mut-front in
    let front = cut.result.0.now in
    let back = cut.result.1.now in
    let p = get_or front c.args.first c.index-front-first.result in
    let q = get_or back 0 c.index-back-0.result in
    let within : c.args.first < length front = (let less = c.if-first-second.true in let long = cut.ensures.front_len in omega arith) in
    let some : 0 < length back = (let second = c.requires.second in let long = cut.ensures.back_len in omega arith) in
    subst₂ (λ k old. HaveMet (board_of c.args.index.now) c.args.first k old (set front c.args.first c.meet.new.first ++ set back 0 c.meet.new.second)) cut.ensures.front_len (sym cut.ensures.value)
    (met_onward (board_of c.args.index.now) front back c.args.first p q c.meet.new.first c.meet.new.second within
    (slice_get-get_or front c.args.first _ within) (slice_get-get_or back 0 _ some) c.meet.ensures.meets)

pub returns-else-first-second : goal.returns-else-first-second
returns-else-first-second c =
    let cut = c.split_at_mut-front-else-first-second in
    let front = cut.result.0.now in
    let back = cut.result.1.now in
    let met = c.meet-else-first-second in
    let p = get_or front c.args.second c.index-front-second.result in
    let q = get_or back 0 c.index-back-0-else-first-second.result in
    let within : c.args.second < length front = (let not_less = c.if-first-second.false in let apart = c.requires.apart in let long = cut.ensures.front_len in omega arith) in
    let some : 0 < length back = (let first = c.requires.first in let long = cut.ensures.back_len in omega arith) in
    subst₂ (λ k old. HaveMet (board_of c.args.index.now) k c.args.second old (set front c.args.second met.new.second ++ set back 0 met.new.first)) cut.ensures.front_len (sym cut.ensures.value)
    (met_back (board_of c.args.index.now) front back c.args.second p q met.new.second met.new.first within
    (slice_get-get_or front c.args.second _ within) (slice_get-get_or back 0 _ some) met.ensures.meets)
