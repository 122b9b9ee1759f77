-- How a gets ends: with the value of the item that was found with its version, or without one.
use Rattle.std.proofs.Common.{◌≡◌, ◌≢◌, ℕ, ◌+◌, ◌<◌, Bool, true, false, List, Some, ap, ◌∙◌, arith}
use Rattle.std.proofs.lemmas.Bool.{false≢true}
use Rattle.segword.specs.Words.{item_word, value_width}
use Rattle.segmodel.specs.declared.answer.GetsAnswer.TheVariants as gets
use Rattle.segmodel.specs.Words.{bucket_of, GetsAnswer}
use Rattle.segcore.specs.Words.{entered, Holds, inside, row_after}
use Rattle.segcore.proofs.Moments.{begins_on, seen_begins}
use Rattle.segbase.specs.Words.{Board, count, locked_of, number, Pass, seen, trace}
use Rattle.segbase.proofs.Moves.{moved_on, is_inside}
use Rattle.segstore.specs.Words.{FoundItem, HoldsPair, IsChained, IsQuiet, IsReadable, IsReader, IsReaderIn, LeavesSegment, ReadsRow, TakesAtMost}
use Rattle.segread.specs.declared.scan.Hit.{Hit}
use Rattle.segread.specs.declared.version.Versioned.TheVariants as versioned
use Rattle.segread.specs.Gets.{FindsVersion, ReadsVersion, Strides}
use Rattle.segread.specs.Hits.{GlancesNothing, RaisesFound}
use Rattle.segread.specs.Looking.{LooksFirst}
use Rattle.segread.proofs.Answered.{found_place, reads_version}
use Rattle.segread.proofs.ComingIn.{glances_none, leaves, looked, raises_none}
use Rattle.segread.proofs.Hits.{hit_raises, hit_readable, holds_pair, read_and_left, read_in, still_found, still_holds}
use Rattle.segstore.proofs.Readers.{then_reader}

-- with p before the call, m right after its first look, and q in the item's segment
module _ (b : Board) (key : List ℕ) (now : ℕ) (hit : Hit) (version : ℕ) (p m q : Pass)
    (x : FindsVersion b key now (versioned.Found hit version) m q) where
  pub ends_readable : IsReadable b q hit.item.seg hit.item.row
  ends_readable = hit_readable b m q hit.place hit.item hit.header key x.reads x.answer.found

  pub ends_pair : HoldsPair (row_after (trace q) hit.item.seg hit.item.row)
  ends_pair = holds_pair hit.place hit.item hit.header key b.shape (trace m) (trace q) x.answer.found

  -- with v after its value was read
  module _ (v : Pass) (read : ReadsRow b q v hit.item.seg hit.item.row) where
    abbrev value : List ℕ
    value = x.answer.found.value

    found_v : FoundItem b.shape hit.place (item_word hit.item) key value (trace m) (trace v)
    found_v = still_found b m q v hit.place hit.item hit.header key x.reads x.answer.found read

    in_v : IsReaderIn b m v hit.item.seg
    in_v = read_in b m q v hit.item.seg hit.item.row x.reads read

    pub ends_holds : Holds (row_after (trace v) hit.item.seg hit.item.row) key value
    ends_holds = still_holds b m q v hit.place hit.item hit.header key x.answer.found read

    pub ends_place : IsChained b.shape (trace v) hit.place
    ends_place = found_place b.shape hit.place (item_word hit.item) key value (trace m) (trace v) read.looked.did.moved.pass.lawful found_v

    -- with t after the hit was counted
    module _ (t : Pass) (counted : IsReader b v t) where
      pub ends_inside : 0 < inside (trace t) (number t) hit.item.seg
      ends_inside = is_inside b m t hit.item.seg (then_reader b m v t hit.item.seg in_v counted).reads

      pub ends : (draw : ℕ) (r : Pass) → LooksFirst b p m → IsQuiet b p → Strides 1 32 (2 + value_width) p q
          → locked_of p ≢ Some (bucket_of b.shape key) → TakesAtMost value_width q v → TakesAtMost 1 v t
          → count entered t ≡ count entered v → GlancesNothing v t → RaisesFound b hit.place hit.item draw v t
          → LeavesSegment b t r hit.item.seg → ReadsVersion b key draw now (gets.Found value version) p r
      ends draw r look quiet strode free loads one out unset raises gone =
          let still = looked b q v read.looked.did.moved in let away = leaves b hit.item.seg t r gone.moved in
          let to_v = moved_on b _ q v read.looked.did.moved in
          let to_t = moved_on b counted.reads.own v t counted.reads.moved in let to_r = moved_on b _ t r gone.moved in
          let up = begins_on (trace q) (trace v) (trace r) to_v (begins_on (trace v) (trace t) (trace r) to_t to_r) in
          reads_version b key p m r look (read_and_left b m q v t r hit.item.seg hit.item.row x.reads read counted gone)
          draw now (gets.Found value version) quiet
          (record {
            most = (let most = strode.most in let last = gone.steps in let same = still.0 in let none = away.0 in omega (arith, most, loads, one, out, last, same, none));
            visits = λ bucket. let before = strode.visits bucket in let same = still.0 in let none = away.0 in
                let first = glances_none q v still.1 bucket in let mid = unset bucket in let then = glances_none t r away.1 bucket in
                omega (arith, before, same, none, first, mid, then, out);
          })
          (let few = x.tries in let same = still.0 in let none = away.0 in omega (arith, few, same, none, out))
          (λ bucket. let few = x.glances bucket in let first = glances_none q v still.1 bucket in
          let mid = unset bucket in let then = glances_none t r away.1 bucket in omega (arith, few, first, mid, then))
          (hit_raises b key value draw m v t r in_v.reads.moved.same (moved_on b in_v.reads.own m v in_v.reads.moved) to_r
          (raises_none q v still.1 ∙ x.answer.raises_nothing)
          (raises key value (trace m) (is_inside b m v hit.item.seg in_v.reads) found_v) (raises_none t r away.1))
          (let told = x.answer.told in (told.0, (told.1.0, begins_on told.0 (seen q) (seen r) told.1.1 (seen_begins (trace q) (trace r) up)), told.2))
          (λ _ _ _. free)

-- an answer without a value
abbrev is_found : GetsAnswer → Bool
is_found (gets.Found found version) = true
is_found gets.Miss = false
is_found gets.Busy = false

module _ (b : Board) (key : List ℕ) (draw now : ℕ) (p m q : Pass) (look : LooksFirst b p m) (quiet : IsQuiet b p) (strode : Strides 1 32 0 p q) where
  pub ends_missed : FindsVersion b key now versioned.Miss m q → ReadsVersion b key draw now gets.Miss p q
  ends_missed x = reads_version b key p m q look x.reads draw now gets.Miss quiet strode x.tries x.glances x.answer.1 x.answer.0
      (λ value version told. absurd (false≢true (ap is_found told)))

  pub ends_busy : FindsVersion b key now versioned.Busy m q → ReadsVersion b key draw now gets.Busy p q
  ends_busy x = reads_version b key p m q look x.reads draw now gets.Busy quiet strode x.tries x.glances x.answer.1 x.answer.0
      (λ value version told. absurd (false≢true (ap is_found told)))
