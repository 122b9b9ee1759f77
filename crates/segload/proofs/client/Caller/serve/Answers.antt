use Rattle.std.proofs.Common.{◌≡◌, ◌≢◌, true, false, refl, sym, ap, ◌∙◌, subst, inl, inr, rules}
use Rattle.std.proofs.lemmas.Bool.{false≢true}
use Rattle.segmodel.specs.Words.{Answer}
use Rattle.segmodel.specs.declared.answer.Answer.TheVariants.{Write}
use Rattle.segmodel.specs.declared.answer.WriteAnswer.TheVariants.{NoRoom}
use Rattle.segevict.proofs.RowsOut.{goes_then}
use Rattle.segindex.specs.Words.{AnswersCommand}
use Rattle.segpolicy.specs.Words.{next_of}
use Rattle.segload.specs.Making.{ClientState, turned_on}
use Rattle.segload.specs.Calls.{command_of, course_after, TriesForRoom}
use Rattle.segbase.specs.Words.{mine}
use Rattle.segload.specs.Counting.{CanCountMore, CountsRecycled, RecyclesFew}
use Rattle.segload.proofs.Recycling.{command_recycles, recycles_between, recycles_none}
use Rattle.segload.proofs.client.Caller.serve.Goals as goal

pub returns-then-ne-clause-serves : goal.returns-then-ne-clause-serves
returns-then-ne-clause-serves c =
    let b = c.args.index.now.board in let p = c.args.self.now.pass in let q = c.ask-answer.new.self.pass in let load = c.args.load in let told = c.ask-answer.result in
    let asked = subst (λ x. AnswersCommand b x load.draw told p q) c.command_of-command.ensures c.ask-answer.ensures.answers in
    let other : told ≢ Write NoRoom = search rules in
    inl (record {
      given = told;
      answers = subst (AnswersCommand b (command_of c.args.self.now.version load) load.draw told p) (sym c.remember.ensures.pass) asked;
      had_room = other;
      counted = c.tally_of.ensures;
      course = c.remember.ensures.course ∙ ap (course_after told) c.ask-answer.ensures.course;
    })

pub returns-then-not-make_room-clause-on : goal.returns-then-not-make_room-clause-on
returns-then-not-make_room-clause-on c =
    goes_then c.args.index.now.board c.args.self.now.pass c.ask-answer.new.self.pass c.make_room.new.self.pass c.ask-answer.ensures.on c.make_room.ensures.on

pub returns-then-not-make_room-clause-serves : goal.returns-then-not-make_room-clause-serves
returns-then-not-make_room-clause-serves c =
    let b = c.args.index.now.board in let p = c.args.self.now.pass in let q = c.ask-answer.new.self.pass in
    let r = c.make_room.new.self.pass in let load = c.args.load in let told = c.ask-answer.result in
    let asked = subst (λ x. AnswersCommand b x load.draw told p q) c.command_of-command.ensures c.ask-answer.ensures.answers in
    let full : told ≡ Write NoRoom = search rules in
    let room = c.if-not-make_room.ensures in
    inr (inr (record {
      full = q;
      found_none = subst (λ t. AnswersCommand b (command_of c.args.self.now.version load) load.draw t p q) full asked;
      no_room = subst (λ (k : ClientState). TriesForRoom (AnswersCommand b) (next_of k.segments) false q r) c.ask-answer.ensures.course room.room;
      counted = refl;
      course = room.course ∙ ap turned_on c.ask-answer.ensures.course;
    }))

pub returns-clause-on : goal.returns-clause-on
returns-clause-on c =
    let b = c.args.index.now.board in let p = c.args.self.now.pass in let q = c.ask-answer.new.self.pass in let r = c.make_room.new.self.pass in let s = c.ask.new.self.pass in
    goes_then b p q s c.ask-answer.ensures.on (goes_then b q r s c.make_room.ensures.on c.ask.ensures.on)

was_full : (c : goal.After-tally_of-2) → c.ask-answer.result ≡ Write NoRoom
was_full c = by c.ask-answer.result refl
  where
    by : (told : Answer) → c.ask-answer.result ≡ told → c.ask-answer.result ≡ Write NoRoom
    by (Write NoRoom) is = is
    by _ is = absurd (false≢true (sym c.if-ne.false ∙ (c.ne.ensures ∙ rw is refl)))

pub returns-clause-serves : goal.returns-clause-serves
returns-clause-serves c =
    let b = c.args.index.now.board in let p = c.args.self.now.pass in let q = c.ask-answer.new.self.pass in let r = c.make_room.new.self.pass in let s = c.ask.new.self.pass in
    let load = c.args.load in let told = c.ask-answer.result in let room = c.if-not-make_room.ensures in
    let asked = subst (λ x. AnswersCommand b x load.draw told p q) c.command_of-command.ensures c.ask-answer.ensures.answers in
    let full = was_full c in
    inr (inl (record {
      full = q;
      filled = r;
      given = c.ask.result;
      found_none = subst (λ t. AnswersCommand b (command_of c.args.self.now.version load) load.draw t p q) full asked;
      room = subst (λ (k : ClientState). TriesForRoom (AnswersCommand b) (next_of k.segments) true q r) c.ask-answer.ensures.course room.room;
      again = subst (λ x. AnswersCommand b x load.draw c.ask.result r s) c.command_of-command.ensures c.ask.ensures.answers;
      counted = c.tally_of-2.ensures;
      course = c.ask.ensures.course ∙ (room.course ∙ ap turned_on c.ask-answer.ensures.course);
    }))

pub returns-then-ne-clause-counts : goal.returns-then-ne-clause-counts
returns-then-ne-clause-counts c =
    let b = c.args.index.now.board in let old = c.args.self.now in let q = c.ask-answer.new.self.pass in let load = c.args.load in let told = c.ask-answer.result in
    let asked = subst (λ x. AnswersCommand b x load.draw told old.pass q) c.command_of-command.ensures c.ask-answer.ensures.answers in
    let counts = command_recycles b load.kind old.version load load.draw told old.pass q old.recycled asked c.requires.counts in
    subst (λ r. CountsRecycled r (mine c.remember.new.self.pass)) (sym (c.remember.ensures.recycled ∙ c.ask-answer.ensures.recycled))
    (subst (λ x. CountsRecycled old.recycled (mine x)) (sym c.remember.ensures.pass) counts)

pub returns-then-ne-clause-few : goal.returns-then-ne-clause-few
returns-then-ne-clause-few c = recycles_none c.args.self.now.recycled c.remember.new.self.recycled (c.remember.ensures.recycled ∙ c.ask-answer.ensures.recycled)

pub make_room-requires-clause-counts : goal.make_room-requires-clause-counts
make_room-requires-clause-counts c =
    let b = c.args.index.now.board in let old = c.args.self.now in let q = c.ask-answer.new.self.pass in let load = c.args.load in let told = c.ask-answer.result in
    let asked = subst (λ x. AnswersCommand b x load.draw told old.pass q) c.command_of-command.ensures c.ask-answer.ensures.answers in
    subst (λ r. CountsRecycled r (mine q)) (sym c.ask-answer.ensures.recycled)
    (command_recycles b load.kind old.version load load.draw told old.pass q old.recycled asked c.requires.counts)

pub make_room-requires-clause-fits : goal.make_room-requires-clause-fits
make_room-requires-clause-fits c = subst CanCountMore (sym c.ask-answer.ensures.recycled) c.requires.fits

pub returns-then-not-make_room-clause-few : goal.returns-then-not-make_room-clause-few
returns-then-not-make_room-clause-few c = subst (λ r. RecyclesFew r c.make_room.new.self.recycled) c.ask-answer.ensures.recycled c.make_room.ensures.few

pub returns-clause-counts : goal.returns-clause-counts
returns-clause-counts c =
    let b = c.args.index.now.board in let r = c.make_room.new.self in let s = c.ask.new.self.pass in let load = c.args.load in let told = c.ask.result in
    let asked = subst (λ x. AnswersCommand b x load.draw told r.pass s) c.command_of-command.ensures c.ask.ensures.answers in
    subst (λ x. CountsRecycled x (mine s)) (sym c.ask.ensures.recycled)
    (command_recycles b load.kind c.args.self.now.version load load.draw told r.pass s r.recycled asked c.make_room.ensures.counts)

pub returns-clause-few : goal.returns-clause-few
returns-clause-few c =
    recycles_between c.args.self.now.recycled c.ask-answer.new.self.recycled c.make_room.new.self.recycled
    c.ask.new.self.recycled c.ask-answer.ensures.recycled c.make_room.ensures.few c.ask.ensures.recycled
