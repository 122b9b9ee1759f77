-- The segment that a put or a write stored into has a deadline that is asked.
use Rattle.std.proofs.Common.{◌≡◌, ℕ, List, Option, Some, None, option_map, refl, ap, ◌∙◌, subst}
use Rattle.std.proofs.lemmas.Option.{none-some}
use Rattle.segmodel.specs.declared.answer.SegState.TheVariants.{InUse}
use Rattle.segmodel.specs.declared.answer.WriteAnswer.TheVariants as write
use Rattle.segmodel.specs.declared.request.Request.TheVariants.{Set}
use Rattle.segmodel.specs.Words.{Request}
use Rattle.segbase.specs.declared.pass.PlainPart.{PlainPart}
use Rattle.segbase.specs.Words.{Board, deadline_in, OwnSegment, own_segment, Pass, state_in}
use Rattle.segbase.proofs.Known.{own_kept}
use Rattle.segstore.specs.Words.{IsQuiet}
use Rattle.segwrite.specs.Words.{more, rows_of, Writes}
use Rattle.segclient.specs.declared.put.PutAnswer.{PutAnswer}
use Rattle.segclient.specs.declared.put.PutAnswer.TheVariants as put
use Rattle.segclient.specs.declared.segments.Window.{Window}
use Rattle.segclient.specs.PutCalls.{IsCall, IsInWindow, Makes, Plan, PutCall, sets, StoresUntil}
use Rattle.segclient.specs.Puts.{StoredFor}
use Rattle.segclient.specs.Putting.{IsPutAnswer}
use Rattle.segclient.proofs.Calls.{last_of, makes_on}

has_deadline : (own : Option OwnSegment) → state_in own ≡ Some InUse → (until : ℕ) × (deadline_in own ≡ Some until)
has_deadline None none = absurd (none-some InUse none)
has_deadline (Some own) is = (own.deadline, refl)

used_deadline : (rows : ℕ) (own : Option OwnSegment) → deadline_in (option_map (more rows) own) ≡ deadline_in own
used_deadline rows None = refl
used_deadline rows (Some own) = refl

-- the segment that a write stored into has a deadline that is asked
pub write_for : (b : Board) (window : Window) (request : Request) (p q : Pass) → IsQuiet b p
    → ((until : ℕ) → StoresUntil until p → IsInWindow window until) → Writes b request write.Stored p q → StoredFor window q
write_for b window request p q quiet within writes =
    let segment = writes.answer.0 in
    let uses = writes.answer.2 in
    let has = has_deadline (own_segment p.plain segment) (quiet.segments.in_use segment uses.current) in (
      has.0,
      (
        segment,
        ap (λ (x : PlainPart). x.current) uses.plain ∙ uses.current,
        ap (λ (x : PlainPart). deadline_in (own_segment x segment)) uses.plain
            ∙ own_kept p.plain segment (more (rows_of request)) deadline_in (used_deadline (rows_of request)) segment ∙ has.1,
      ),
      within has.0 (segment, uses.current, has.1),
    )

set_for : (b : Board) (plan : Plan) (p q : Pass) → IsQuiet b p → IsCall b plan (sets write.Stored) p q → StoredFor plan.window q
set_for b plan p q quiet (key, value, now, is, within, set, writes) = write_for b plan.window (Set key value now) p q quiet within writes

pub put_for : (b : Board) (plan : Plan) (pass rows : ℕ) (told : PutAnswer) (calls : List PutCall) (p q : Pass)
    → IsQuiet b p → IsPutAnswer b.shape pass rows told calls → Makes b plan calls p q → told ≡ put.Stored
    → StoredFor plan.window q
put_for b plan pass rows told calls p q quiet answer makes stored =
    let last = subst (λ t. IsPutAnswer b.shape pass rows t calls) stored answer in
    let made = last_of b plan (sets write.Stored) last.0 p q (subst (λ l. Makes b plan l p q) last.1 makes) in
    set_for b plan made.0 q (makes_on b plan last.0 p made.0 quiet made.1).quiet made.2
