-- Passes that leave one after another, and what is so of them then.
use Rattle.std.proofs.Common.{◌≡◌, ℕ, ◌+◌, ◌<◌, ◌≤◌, List, [], ◌∷◌, get_or, length, set, slice_get, Some, refl, sym, ap, subst, ◌∙◌, inl, inr, arith}
use Rattle.std.proofs.lemmas.Option.{same_Some, slice_get-get_or, slice_get_within}
use Rattle.segmodel.proofs.ListPlaces.{elsewhere}
use Rattle.segbase.specs.Words.{Board, Pass}
use Rattle.segstore.specs.Words.{IsQuiet}
use Rattle.segindex.specs.Words.{AreAllQuiet, board_of}
use Rattle.segscript.specs.Passes.{AllLeave, Leaves}
use Rattle.segscript.specs.Server.{IsReady}
use Rattle.segscript.specs.declared.server.Server.{Server}
use Rattle.segscript.proofs.Meetings.{same_or_apart}
use Rattle.segscript.proofs.Servers.{set_there}

-- ---- one after another, the last first

-- the passes from here on have left, and those before are as they were
pub record LeftFrom (b : Board) (from : ℕ) (old new : List Pass) : Type 0 where
  pub left : (n : ℕ) (p : Pass) → from ≤ n → slice_get old n ≡ Some p → (q : Pass) × (slice_get new n ≡ Some q) × Leaves b p q
  pub stay : (n : ℕ) → n < from → slice_get new n ≡ slice_get old n

pub none_left : (b : Board) (from : ℕ) (passes : List Pass) → length passes ≤ from → LeftFrom b from passes passes
none_left b from passes few = record {
  left = λ n p le at. let within = slice_get_within passes n p at in absurd (omega arith);
  stay = λ n less. refl;
}

pub one_left : (b : Board) (n : ℕ) (old new : List Pass) (p q : Pass) → LeftFrom b (n + 1) old new → slice_get new n ≡ Some p → Leaves b p q → LeftFrom b n old (set new n q)
one_left b n old new p q before at leaves = record {
  left = λ m x le was. elim (same_or_apart m n) [
    | inl same ↦
        let was_there = sym (before.stay n (omega arith)) ∙ at in
        let is = same_Some p x (sym was_there ∙ ap (slice_get old) (sym same) ∙ was) in
        (q, ap (slice_get (set new n q)) same ∙ set_there new n q p at, subst (λ y. Leaves b y q) is leaves)
    | inr apart ↦
        let is = before.left m x (omega arith) was in
        (is.0, elsewhere new n m q apart ∙ is.1, is.2)
  ];
  stay = λ m less. elsewhere new n m q (λ same. omega arith) ∙ before.stay m (omega arith);
}

pub all_left : (b : Board) (old new : List Pass) → length new ≡ length old → LeftFrom b 0 old new → AllLeave b old new
all_left b old new long all = record { long = long; each = λ n p at. all.left n p (omega arith) at }

-- ---- what is so of them then

found : {A : Type 0} (xs : List A) (n : ℕ) → n < length xs → (x : A) × (slice_get xs n ≡ Some x)
found [] n within = absurd (omega arith)
found (x ∷ xs) n within = (get_or (x ∷ xs) n x, slice_get-get_or (x ∷ xs) n x within)

-- they are all passes of the index, each between two calls
pub all_quiet_then : (server : Server) (new : List Pass) → IsReady server → AllLeave (board_of server.index.now) server.passes.items new → AreAllQuiet (board_of server.index.now) new
all_quiet_then server new ready all = record {
  quiet = λ n q at.
      let within = slice_get_within new n q at in
      let long = all.long in
      let was = found server.passes.items n (omega arith) in
      let is = all.each n was.0 was.1 in
      subst (IsQuiet (board_of server.index.now)) (same_Some is.0 q (sym is.1 ∙ at)) is.2.unlocks.goes_on.quiet;
  all = λ n below.
      let passes = ready.all in
      let holds = ready.holds in
      let was = found server.passes.items n (omega arith) in
      let held = found server.holds.items n (omega arith) in
      let is = all.each n was.0 was.1 in
      (n, is.0, is.1, is.2.unlocks.goes_on.same ∙ is.2.releases.goes_on.same ∙ (ready.in_order n was.0 held.0 was.1 held.1).1);
}
