-- Linearizable, as Herlihy and Wing define it: calls that overlap in time, in one order of them all.
-- The law is proved as the contract of a function in src/laws.rt.
use Rattle.std.specs.Prelude.{◌≡◌, IfSome, ℕ, suc, ◌+◌, ◌*◌, ◌<◌, ◌≤◌, All, IsPermutation, List, [], ◌∷◌, map, Option, option_map, Some, None}
use Rattle.segword.specs.Words.{Shape}
use Rattle.segmodel.specs.declared.entry.Entry.TheVariants.{Wrote}
use Rattle.segmodel.specs.declared.answer.GetAnswer.TheVariants as get
use Rattle.segmodel.specs.declared.answer.GetsAnswer.TheVariants as gets
use Rattle.segmodel.specs.declared.request.Request.TheVariants.{Delete}
use Rattle.segmodel.specs.Words.{after, DeleteAnswer, Entry, GetAnswer, GetsAnswer, reads}
use Rattle.segmodel.specs.Words.{reads_version, Reply, reply_in, reply_of_delete, reply_of_write}
use Rattle.segmodel.specs.Words.{Request, WriteAnswer}
use Rattle.segcore.specs.Event as event
use Rattle.segcore.specs.Words.{IsSeenRun, World}
use Rattle.segbase.specs.Words.{Board, holding, number, Pass, seen, SinceFirst, view}
use Rattle.segread.specs.declared.held.HoldAnswer.TheVariants as hold
use Rattle.segread.specs.Words.{HoldAnswer, HoldsItem, ReadsBetween, ReadsKey, ReadsVersion}
use Rattle.segread.specs.Words.{ReadsVersionBetween}
use Rattle.segwrite.specs.Words.{Deletes, WasTold, Writes}
use mathlib.Core.Option.{some}
use lib.ListN.{get_elem?}

-- ---- calls

-- what a call does, of which each does one thing
pub data Effect : Type 0 where
  -- a get, a hold, or a gets that misses: a key, `now`, and the value that is read, or nothing
  gets_value : List ℕ → ℕ → Option (List ℕ) → Effect
  -- a gets: a key, `now`, and the value with its version, or nothing
  gets_version : List ℕ → ℕ → Option (List ℕ × ℕ) → Effect
  -- a write or a delete, and the reply to it
  writes : Request → Reply → Effect

-- A call of a pass. When it began and when it returned are counted in steps of all passes together.
pub record Call : Type 0 where
  pub pass : ℕ
  pub began : ℕ
  pub returned : ℕ
  pub effect : Effect

-- what the contract of a call says of its effect, from what its first step saw to its return
abbrev pub HasEffect : Shape → ℕ → Effect → List Entry → List Entry → Type 0
HasEffect shape pass (gets_value key now read) old new = ReadsBetween shape key now old new read
HasEffect shape pass (gets_version key now read) old new =
    ReadsVersionBetween shape key now old new read
HasEffect shape pass (writes request said) old new = WasTold shape pass request said old new

-- a call that led from the one pass to the other had this effect since its first step
abbrev pub Had : Shape → Effect → Pass → Pass → Type 0
Had shape effect p q =
    SinceFirst p q (λ start. HasEffect shape (number p) effect (event.seen start) (seen q))

-- In a run of so many steps, the call leads its pass from `before` to `after`.
-- Of what it does, only its contract is known.
pub record IsCallOf (shape : Shape) (world : ℕ → World) (steps : ℕ) (call : Call) : Type 0 where
  pub in_time : (call.began ≤ call.returned) × (call.returned ≤ steps)
  pub before : Pass
  pub after : Pass
  pub number : number before ≡ call.pass
  pub began : get_elem? (world call.began).views call.pass ≡ some (view before)
  pub returned : get_elem? (world call.returned).views call.pass ≡ some (view after)
  pub had : Had shape call.effect before after

-- ---- the effects of calls, by their contracts

-- A call that was refused has no effect.
abbrev pub effect_of_get : List ℕ → ℕ → GetAnswer → Option Effect
effect_of_get key now (get.Found value) = Some (gets_value key now (Some value))
effect_of_get key now get.Miss = Some (gets_value key now None)
effect_of_get key now get.Busy = None

abbrev pub effect_of_gets : List ℕ → ℕ → GetsAnswer → Option Effect
effect_of_gets key now (gets.Found value version) =
    Some (gets_version key now (Some (value, version)))
effect_of_gets key now gets.Miss = Some (gets_value key now None)
effect_of_gets key now gets.Busy = None

-- what is held is what was read
abbrev pub effect_of_hold : List ℕ → ℕ → HoldAnswer → Pass → Option Effect
effect_of_hold key now (hold.Holding held) q =
    Some (gets_value key now (option_map (λ item. item.value) (holding q)))
effect_of_hold key now hold.Miss q = Some (gets_value key now None)
effect_of_hold key now _ q = None

abbrev pub effect_of_write : Request → Option Reply → Option Effect
effect_of_write request None = None
effect_of_write request (Some said) = Some (writes request said)

abbrev pub GetHasEffect : Type 0
GetHasEffect = (b : Board) (key : List ℕ) (draw now : ℕ) (told : GetAnswer) (p q : Pass)
    → ReadsKey b key draw now told p q
    → IfSome (effect_of_get key now told) (λ effect. Had b.shape effect p q)

abbrev pub GetsHasEffect : Type 0
GetsHasEffect = (b : Board) (key : List ℕ) (draw now : ℕ) (told : GetsAnswer) (p q : Pass)
    → ReadsVersion b key draw now told p q
    → IfSome (effect_of_gets key now told) (λ effect. Had b.shape effect p q)

abbrev pub HoldHasEffect : Type 0
HoldHasEffect = (b : Board) (key : List ℕ) (now : ℕ) (told : HoldAnswer) (p q : Pass)
    → HoldsItem b key now told p q
    → IfSome (effect_of_hold key now told q) (λ effect. Had b.shape effect p q)

abbrev pub WriteHasEffect : Type 0
WriteHasEffect = (b : Board) (request : Request) (told : WriteAnswer) (p q : Pass)
    → Writes b request told p q
    → IfSome (effect_of_write request (reply_of_write told)) (λ effect. Had b.shape effect p q)

abbrev pub DeleteHasEffect : Type 0
DeleteHasEffect = (b : Board) (key : List ℕ) (now : ℕ) (told : DeleteAnswer) (p q : Pass)
    → Deletes b key now told p q
    → IfSome (effect_of_write (Delete key now) (reply_of_delete told))
    (λ effect. Had b.shape effect p q)

-- ---- an order

-- A call in the order. It takes effect at its point: when so many steps had come.
pub record Placed : Type 0 where
  pub call : Call
  pub point : ℕ

-- The answer is what a cache of one thread gives after the first of these histories.
-- A write adds its entry and so leads to the second; a read adds nothing.
abbrev pub IsRightAt : Shape → ℕ → Effect → List Entry → List Entry → Type 0
IsRightAt shape pass (gets_value key now read) before next =
    reads (after shape before) now key ≡ read
IsRightAt shape pass (gets_version key now read) before next =
    reads_version shape (after shape before) now key ≡ read
IsRightAt shape pass (writes request said) before next =
    (said ≡ reply_in shape (after shape before) request)
    × ((segment : Option ℕ) × (next ≡ Wrote pass request said segment ∷ before))

-- A read is at its point itself, and a write at the step right behind it.
-- So that both have a place of their own, there are two places for each step.
abbrev pub place : Effect → ℕ → ℕ
place (writes request said) point = 2 * point + 1
place _ point = 2 * point

-- the point is between the call's beginning and its return, and the answer is right there
pub record IsPlaced (shape : Shape) (world : ℕ → World) (placed : Placed) : Type 0 where
  pub since : 2 * placed.call.began ≤ place placed.call.effect placed.point
  pub until : place placed.call.effect placed.point ≤ 2 * placed.call.returned
  pub right : IsRightAt shape placed.call.pass placed.call.effect
      (event.seen (world placed.point).trace)
      (event.seen (world (suc placed.point)).trace)

-- The one may come before the other: its place isn't later,
-- and the other hadn't returned when the one began.
-- Two writes have points of their own, unless they are of one pass and overlap in time.
-- So two writes of one pass, of which the one had returned when the other began, have.
abbrev pub MayPrecede : Placed → Placed → Type 0
MayPrecede one other =
    (place one.call.effect one.point ≤ place other.call.effect other.point)
    × ¬ (other.call.returned ≤ one.call.began)
    × ((point : ℕ)
    → place one.call.effect one.point ≡ 2 * point + 1
    → place other.call.effect other.point ≡ 2 * point + 1
    → (one.call.pass ≡ other.call.pass) × (other.call.began < one.call.returned))

abbrev pub IsOrdered : List Placed → Type 0
IsOrdered [] = Unit {0}
IsOrdered (placed ∷ later) = All (MayPrecede placed) later × IsOrdered later

-- There is one order of all these calls. Each takes effect at a point of its own time,
-- at which its answer is right, and none comes before one that had returned when it began.
-- Two writes have points of their own, unless they are of one pass and overlap in time.
pub record Linearizable (shape : Shape) (world : ℕ → World) (calls : List Call) : Type 0 where
  pub order : List Placed
  pub all : IsPermutation calls (map (λ placed. placed.call) order)
  pub each : All (IsPlaced shape world) order
  pub in_time : IsOrdered order

-- ---- the law

-- In each run, of which it asks only what passes see, any calls of any passes are linearizable.
abbrev pub CallsAreLinearizable : Type 0
CallsAreLinearizable = (shape : Shape) (world : ℕ → World) (steps : ℕ) (calls : List Call)
    → IsSeenRun world steps
    → All (IsCallOf shape world steps) calls
    → Linearizable shape world calls
