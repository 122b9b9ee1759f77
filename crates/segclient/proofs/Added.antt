-- What a put, or room that is made, adds to the history: the sum over its calls.
use Rattle.std.proofs.Common.{◌≡◌, ◌≢◌, ℕ, Bool, List, [], ◌∷◌, Option, Some, inl, inr, refl, sym, ap, ◌∙◌, subst, arith}
use Rattle.std.specs.Prelude.{sum_by}
use Rattle.std.proofs.lemmas.List.Sums.{sum_by-cons}
use Rattle.std.proofs.lemmas.Option.{same_Some}
use Rattle.segmodel.specs.declared.answer.WriteAnswer.TheVariants as write
use Rattle.segmodel.specs.declared.entry.Entry.TheVariants.{Wrote}
use Rattle.segmodel.specs.declared.request.Reply.TheVariants.{Stored}
use Rattle.segmodel.specs.declared.request.Request.TheVariants.{Set}
use Rattle.segbase.specs.Words.{Board, mine, number, Pass}
use Rattle.segindex.specs.Words.{board_of, Index, shape_of}
use Rattle.segclient.specs.declared.member.Member.{Member}
use Rattle.segclient.specs.declared.put.PutAnswer.{PutAnswer}
use Rattle.segclient.specs.declared.put.PutAnswer.TheVariants as put
use Rattle.segclient.specs.Clearing.{came_to_step, Clears, effort_of_steps, Step}
use Rattle.segclient.specs.Entries.{AddsForPut, AddsRoom, IsAny, IsOnly}
use Rattle.segclient.specs.Member.{IsMember}
use Rattle.segwrite.specs.Words.{Writes}
use Rattle.segclient.specs.PutCalls.{PutCall, sets, Plan, came_to, refilled_segments, kept_items, evicted_keys, Makes, room_plan}
use Rattle.segclient.specs.Puts.{Chooses, deadline_of, MakesRoomFor, PutsFor}
use Rattle.segclient.specs.Putting.{IsPutAnswer}
use Rattle.segclient.proofs.Calls.{last_of}
use Rattle.segclient.specs.Counting.{given_up_too}
use Rattle.segclient.specs.declared.effort.Effort.{Effort}
use Rattle.segclient.specs.declared.stats.Stats.{Stats}
use Rattle.segclient.specs.PutParts.{AreOpen, effort_from, effort_of, IsEffort, with_effort}
use Rattle.segstore.specs.Words.{GoesOn, IsQuiet, memo}
use Rattle.segstore.proofs.Idling.{goes_same}
use Rattle.segclient.specs.declared.segments.Window.{Window}
use Rattle.segclient.proofs.Order.{busy_stored, full_stored, no_room_stored, room_open}
use Rattle.segclient.proofs.Steps.{clears_come, unasked_same}
use Rattle.segclient.proofs.Ways.{calls_come, so_many}

-- the set of a put that is Stored comes to nothing
stored_sum : (by : PutCall → ℕ) (earlier : List PutCall) → by (sets write.Stored) ≡ 0 → sum_by by earlier ≡ sum_by by (sets write.Stored ∷ earlier)
stored_sum by earlier zero = let all = sum_by-cons by (sets write.Stored) earlier in omega (arith, all, zero)

-- the pass that chose a segment is quiet still, and has the same number, entries and memo
pub record Chosen (b : Board) (p q : Pass) : Type 0 where
  pub on : GoesOn b p q
  pub entries : mine q ≡ mine p
  pub memo : memo q ≡ memo p

pub chosen_on : (b : Board) (p q : Pass) → IsQuiet b p → Chooses b p q → Chosen b p q
chosen_on b p q quiet (inl same) = subst (Chosen b p) (sym same) (record { on = goes_same b p quiet; entries = refl; memo = refl })
chosen_on b p q quiet (inr (segment, made)) = record {
  on = made.on;
  entries = ap mine made.answer;
  memo = ap (λ (r : Pass). memo r) made.answer;
}

module _ (i : Index) (time : ℕ) (key value : List ℕ) (old new : Member) (member : IsMember i old) where
  abbrev plan : ℕ → Window → Plan
  plan until window = record { request = Some (Set key value old.clock); cutoff = old.cutoff; deadline = until; window = window }

  abbrev Adds : ℕ → PutAnswer → List PutCall → List Step → Type 0
  Adds until told calls steps = AddsForPut (shape_of i) (number old.pass) old.cutoff (Set key value old.clock) until told (effort_of calls) (effort_of_steps steps) (mine old.pass) (mine new.pass)

  -- what was added since the segment was chosen was added since the put began
  from_old : (until : ℕ) (chosen q : Pass) (r k e : ℕ) → Chosen (board_of i) old.pass chosen → AddsRoom (shape_of i) (number chosen) old.cutoff (IsOnly until) r k e (mine chosen) (mine q)
      → AddsRoom (shape_of i) (number old.pass) old.cutoff (IsOnly until) r k e (mine old.pass) (mine q)
  from_old until chosen q r k e from adds =
      subst (λ n. AddsRoom (shape_of i) n old.cutoff (IsOnly until) r k e (mine old.pass) (mine q)) from.on.same
      (subst (λ l. AddsRoom (shape_of i) (number chosen) old.cutoff (IsOnly until) r k e l (mine q)) from.entries adds)

  -- a put that isn't Stored made no steps
  unstored : (until : ℕ) (window : Window) (calls : List PutCall) (chosen between : Pass) (steps : List Step)
      → AreOpen calls → Chooses (board_of i) old.pass chosen
      → Makes (board_of i) (plan until window) calls chosen between → steps ≡ []
      → Clears (board_of i) old.cutoff steps between new.pass
      → AddsRoom (shape_of i) (number old.pass) old.cutoff (IsOnly until) (sum_by (came_to refilled_segments) calls)
      (sum_by (came_to kept_items) calls) (sum_by (came_to evicted_keys) calls) (mine old.pass) (mine new.pass)
  unstored until window calls chosen between steps are chooses makes none clears =
      let b = board_of i in
      let from = chosen_on b old.pass chosen member.0 chooses in
      let same = unasked_same b old.cutoff steps between new.pass none clears in
      let came = calls_come b (plan until window) calls chosen new.pass from.on.quiet are (subst (Makes b (plan until window) calls chosen) (sym same) makes) in
      from_old until chosen new.pass (sum_by (came_to refilled_segments) calls) (sum_by (came_to kept_items) calls) (sum_by (came_to evicted_keys) calls) from came.adds

  pub put_adds : (told : PutAnswer) → (puts : PutsFor time key value told (board_of i) old new) → Adds puts.until told puts.calls puts.steps
  put_adds put.Stored puts =
      let b = board_of i in
      let between = puts.between in
      let until = puts.until in
      let asks = plan until puts.window in
      let from = chosen_on b old.pass puts.chosen member.0 puts.chooses.chooses in
      let earlier = puts.answer.0 in
      let is = puts.answer.1 in
      let last = last_of b asks (sets write.Stored) earlier puts.chosen between (subst (λ l. Makes b asks l puts.chosen between) is puts.makes) in
      let came = calls_come b asks earlier puts.chosen last.0 from.on.quiet puts.answer.2 last.1 in
      let asked : Set last.2.0 last.2.1 last.2.2 ≡ Set key value old.clock = same_Some (Set last.2.0 last.2.1 last.2.2) (Set key value old.clock) (sym last.2.3) in
      let writes = subst (λ r. Writes b r write.Stored last.0 between) asked last.2.6 in
      let cleared = clears_come b old.cutoff puts.steps between new.pass writes.on.quiet puts.clears in
      let same : number last.0 ≡ number old.pass = came.on.same ∙ from.on.same in
      let entry : mine between ≡ Wrote (number old.pass) (Set key value old.clock) Stored (Some writes.answer.0) ∷
      mine last.0 = writes.answer.1 ∙ ap (λ n. Wrote n (Set key value old.clock) Stored (Some writes.answer.0) ∷
      mine last.0) same in
      subst (λ l. Adds until put.Stored l puts.steps) (sym is) (
        mine last.0,
        from_old until puts.chosen last.0 (sum_by (came_to refilled_segments) (sets write.Stored ∷ earlier))
            (sum_by (came_to kept_items) (sets write.Stored ∷ earlier))
            (sum_by (came_to evicted_keys) (sets write.Stored ∷ earlier)) from
            (so_many b old.cutoff (IsOnly until) (sum_by (came_to refilled_segments) earlier)
            (sum_by (came_to kept_items) earlier) (sum_by (came_to evicted_keys) earlier)
            (sum_by (came_to refilled_segments) (sets write.Stored ∷ earlier))
            (sum_by (came_to kept_items) (sets write.Stored ∷ earlier))
            (sum_by (came_to evicted_keys) (sets write.Stored ∷ earlier)) puts.chosen last.0
            (stored_sum (came_to refilled_segments) earlier refl) (stored_sum (came_to kept_items) earlier refl) (stored_sum (came_to evicted_keys) earlier refl) came).adds,
        (
          writes.answer.0,
          subst (λ n. AddsRoom (shape_of i) n old.cutoff IsAny (sum_by (came_to_step refilled_segments) puts.steps)
              (sum_by (came_to_step kept_items) puts.steps) (sum_by (came_to_step evicted_keys) puts.steps)
              (Wrote (number old.pass) (Set key value old.clock) Stored (Some writes.answer.0) ∷ mine last.0)
              (mine new.pass))
              (writes.on.same ∙ same)
              (subst (λ l. AddsRoom (shape_of i) (number between) old.cutoff IsAny
              (sum_by (came_to_step refilled_segments) puts.steps) (sum_by (came_to_step kept_items) puts.steps)
              (sum_by (came_to_step evicted_keys) puts.steps) l (mine new.pass)) entry cleared.adds),
        ),
      )
  put_adds put.NoRoom puts = unstored puts.until puts.window puts.calls puts.chosen puts.between puts.steps
      (puts.not_stored no_room_stored) puts.chooses.chooses puts.makes (puts.unasked no_room_stored) puts.clears
  put_adds put.BucketFull puts = unstored puts.until puts.window puts.calls puts.chosen puts.between puts.steps
      (puts.not_stored full_stored) puts.chooses.chooses puts.makes (puts.unasked full_stored) puts.clears
  put_adds put.Busy puts = unstored puts.until puts.window puts.calls puts.chosen puts.between puts.steps
      (puts.not_stored busy_stored) puts.chooses.chooses puts.makes (puts.unasked busy_stored) puts.clears

pub room_adds : (i : Index) (made : Bool) (old new : Member) → IsMember i old → (room : MakesRoomFor made (board_of i) old new)
    → AddsRoom (shape_of i) (number old.pass) old.cutoff (IsOnly (deadline_of old))
    (sum_by (came_to refilled_segments) room.calls) (sum_by (came_to kept_items) room.calls)
    (sum_by (came_to evicted_keys) room.calls) (mine old.pass) (mine new.pass)
room_adds i made old new member room =
    (calls_come (board_of i) (room_plan old.cutoff (deadline_of old)) room.calls old.pass new.pass member.0
    (room_open (board_of i) old.cutoff (deadline_of old) room.calls old.pass new.pass room.makes)
    room.makes).adds

-- ---- what stays, and what is counted

pub room_memo : (b : Board) (cutoff : Option ℕ) (deadline : ℕ) (calls : List PutCall) (p q : Pass) → IsQuiet b p → Makes b (room_plan cutoff deadline) calls p q → memo q ≡ memo p
room_memo b cutoff deadline calls p q quiet makes = (calls_come b (room_plan cutoff deadline) calls p q quiet (room_open b cutoff deadline calls p q makes) makes).memo

pub counted_too : (calls : List PutCall) (effort : Effort) (stats : Stats) → IsEffort calls effort → with_effort effort stats ≡ given_up_too calls stats
counted_too calls effort stats is =
    ap (λ (n : ℕ). with_effort (effort_from n effort.kept effort.keys) stats) is.refilled
    ∙ ap (λ (n : ℕ). with_effort (effort_from (sum_by (came_to refilled_segments) calls) n effort.keys) stats) is.kept
    ∙ ap (λ (n : ℕ). with_effort (effort_from (sum_by (came_to refilled_segments) calls) (sum_by (came_to kept_items) calls) n) stats) is.keys

put_memo_open : (b : Board) (plan : Plan) (calls : List PutCall) (p q : Pass) → IsQuiet b p → AreOpen calls → Makes b plan calls p q → memo q ≡ memo p
put_memo_open b plan calls p q quiet are makes = (calls_come b plan calls p q quiet are makes).memo

pub put_memo : (b : Board) (plan : Plan) (pass rows : ℕ) (told : PutAnswer) (calls : List PutCall) (p q : Pass)
    → IsQuiet b p → IsPutAnswer b.shape pass rows told calls → (told ≢ put.Stored → AreOpen calls)
    → Makes b plan calls p q → memo q ≡ memo p
put_memo b plan pass rows put.Stored calls p q quiet (earlier, is, goes) other makes =
    let last = last_of b plan (sets write.Stored) earlier p q (subst (λ l. Makes b plan l p q) is makes) in
    last.2.6.answer.2.memo ∙ put_memo_open b plan earlier p last.0 quiet goes last.1
put_memo b plan pass rows put.NoRoom calls p q quiet answer other makes = put_memo_open b plan calls p q quiet (other no_room_stored) makes
put_memo b plan pass rows put.BucketFull calls p q quiet answer other makes = put_memo_open b plan calls p q quiet (other full_stored) makes
put_memo b plan pass rows put.Busy calls p q quiet answer other makes = put_memo_open b plan calls p q quiet (other busy_stored) makes
