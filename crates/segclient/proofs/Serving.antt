-- Right after room was made no write has too little: the segment has a row left, and a deadline that does.
use Rattle.std.proofs.Common.{◌≡◌, ◌≢◌, ◌≤◌, ℕ, Bool, true, false, ◌⊎◌, inl, inr, refl, sym, ap, ◌∙◌, subst, arith}
use Rattle.std.specs.Prelude.{◌+◌, ◌-◌, ◌/◌, ◌%◌, ◌^◌, cond, max, min, nat_lt}
use Rattle.std.proofs.lemmas.Bool.{false≢true}
use Rattle.std.proofs.lemmas.Nat.{mod_below}
use Rattle.segword.specs.Words.{most_rows}
use Rattle.segmodel.specs.declared.answer.WriteAnswer.TheVariants as write
use Rattle.segmodel.specs.Words.{Request, WriteAnswer}
use Rattle.segindex.specs.Words.{board_of, Index, shape_of}
use Rattle.segstore.specs.Words.{has_room_for}
use Rattle.segwrite.specs.Words.{rows_of, Writes}
use Rattle.segclient.specs.declared.member.Member.{Member}
use Rattle.segclient.specs.Lives.{deadline_by, life_window}
use Rattle.segclient.specs.Made.{life_of, MakesWrite}
use Rattle.segclient.specs.Member.{IsMember}
use Rattle.segclient.specs.PutCalls.{IsInWindow}
use Rattle.segclient.specs.PutParts.{is_outside}
use Rattle.segclient.specs.Puts.{deadline_of, MakesRoomFor}
use Rattle.segclient.proofs.Left.{most_some, room_for_fewer, room_for_one}
use Rattle.segclient.proofs.Setting.{not_outside}

-- what is left of a division by a step is no more than the step
rest_few : (n step : ℕ) → n % max 1 step ≤ step
rest_few n step = let below = mod_below n (max 1 step) (omega arith) in omega (arith, below)

module _ (now time : ℕ) where
  starts : (before : Bool) → cond before (now + time - time / 8) (2 ^ 32 - 1) ≤ cond before (now + time - (now + time) % max 1 (time / 8)) (2 ^ 32 - 1)
  starts true = let few = rest_few (now + time) (time / 8) in omega (arith, few)
  starts false = omega arith

  ends : (before : Bool) → cond before (now + time - (now + time) % max 1 (time / 8)) (2 ^ 32 - 1) ≤ cond before (now + time) (2 ^ 32 - 1)
  ends true = omega arith
  ends false = omega arith

  -- what is refilled for a time has a deadline that comes in it
  in_life : IsInWindow (life_window now time) (deadline_by now time (time / 8))
  in_life = (starts (nat_lt (now + time) (2 ^ 32 - 1)), ends (nat_lt (now + time) (2 ^ 32 - 1)))

module _ (i : Index) (request : ℕ → Request) (old made new : Member) (member : IsMember i old)
    (fits : rows_of (request made.clock) ≤ min (most_rows (board_of i).limits) (shape_of i).rows) (room : MakesRoomFor true (board_of i) old made) where
  -- the deadline does for what is stored then
  timely : is_outside (life_of made) made.pass ≡ false
  timely =
      not_outside (life_of made) (deadline_of old) made.pass (room.deadline refl)
      (subst (λ time. IsInWindow (life_window made.clock time) (deadline_of old)) (sym room.settings.time_to_live)
      (subst (λ now. IsInWindow (life_window now old.time_to_live) (deadline_of old)) (sym room.settings.clock) (in_life old.clock old.time_to_live)))

  abbrev rows : ℕ
  rows = min (most_rows (board_of i).limits) (shape_of i).rows

  serves : (told : WriteAnswer) → MakesWrite request told (board_of i) made new → told ≢ write.NoRoom
  serves told wrote is = by wrote.writes
    where
      same : wrote.chosen ≡ made.pass
      same = wrote.chooses.stays timely (room_for_one (shape_of i) rows made.pass (most_some (board_of i).limits (shape_of i).rows member.0.pass.valid.0.1.0) room.room)

      by : ((is_outside (life_of made) wrote.chosen ≡ true) × (told ≡ write.NoRoom) × (wrote.between ≡ wrote.chosen))
          ⊎ ((is_outside (life_of made) wrote.chosen ≡ false) × Writes (board_of i) (request made.clock) told wrote.chosen wrote.between) → ⊥
      by (inl late) = false≢true (sym timely ∙ ap (is_outside (life_of made)) (sym same) ∙ late.0)
      by (inr made_it) = false≢true (sym (made_it.1.no_room.0 is) ∙ ap (has_room_for (shape_of i) (rows_of (request made.clock))) same
          ∙ room_for_fewer (shape_of i) (rows_of (request made.clock)) rows made.pass fits room.room)

pub room_serves : (i : Index) (request : ℕ → Request) (told : WriteAnswer) (old made new : Member)
    → IsMember i old → rows_of (request made.clock) ≤ min (most_rows (board_of i).limits) (shape_of i).rows
    → MakesRoomFor true (board_of i) old made → MakesWrite request told (board_of i) made new → told ≢ write.NoRoom
room_serves i request told old made new member fits room = serves i request old made new member fits room told
