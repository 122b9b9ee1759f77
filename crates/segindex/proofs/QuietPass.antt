-- What is so of every quiet pass: what it has seen, and its own segments, rows and lock.
use Rattle.std.proofs.Common.{◌≡◌, ℕ, ◌+◌, ◌*◌, ◌<◌, ◌≤◌, eqb, [], ◌∷◌, ⊎_elim, arith, List, Some, ap, sym, ◌∙◌, subst}
use Rattle.std.proofs.lemmas.Bool.{cases_Bool}
use Rattle.std.specs.Prelude.{◌↔◌, IsSome}
use Rattle.segword.specs.Words.{Shape}
use Rattle.segmodel.specs.Words.{after, keys_in, owner}
use Rattle.segmodel.specs.History as history
use Rattle.segcore.specs.Words.{all_drawn, chained_to, drawn, drawn_for, Event, IsLawful}
use Rattle.segcore.specs.Words.{Mark, marked, seen}
use Rattle.segcore.proofs.KeyCounts.{counted_few}
use Rattle.segcore.proofs.Limits.{drawn_few}
use Rattle.segcore.proofs.Marked.{chained_marked, drawn_marked}
use Rattle.segcore.proofs.Moments.{seen_begins}
use Rattle.segcore.proofs.Orderly.{all_drawn_marked}
use Rattle.segbase.specs.Words.{Board, Locked, locked, number, Pass, state_of, trace, used_of}
use Rattle.segbase.specs.Passes as passes
use Rattle.segbase.proofs.Owned.{owns_state, state_owned}
use Rattle.segstore.specs.Words.{IsQuiet, NoneSince}
use Rattle.segstore.proofs.Meanwhile.{none_entries}
use Rattle.segindex.specs.Laws.{IsOfLinkedItem}
use Rattle.segindex.proofs.FirstRows.{item_of_used, used_if_in_item}

-- a pass knows just the segments that it owns
pub owned : (b : Board) (p : Pass) (s : ℕ) → IsQuiet b p → IsSome (state_of p s) ↔ (owner b.shape s ≡ number p)
owned b p s quiet = (owns_state b p s quiet.pass, state_owned b p s quiet.pass)

-- the used rows are those of the items whose first rows marks name
pub rows : (b : Board) (p : Pass) (s used row : ℕ) → IsQuiet b p → used_of p s ≡ Some used → row < b.shape.rows → (row < used) ↔ IsOfLinkedItem p s row
rows b p s used row quiet is within = (item_of_used b p s used row quiet is, used_if_in_item b p s used row quiet is within)

-- nothing came into the bucket since it was locked
pub none_since : (b : Board) (p : Pass) (lock : Locked) → IsQuiet b p → locked p ≡ Some lock → NoneSince b.shape lock (passes.seen p)
none_since b p lock quiet is = let old = quiet.lock lock is in (
  seen_begins lock.trace (trace p) (old.more, old.since),
  ap (λ h. history.entries_of b.shape lock.bucket (seen h)) old.since ∙ none_entries b.shape lock.bucket old.more lock.trace old.still,
)

-- ---- chains

pub drawn_fewer : (marks : List Mark) (b : ℕ) → drawn_for marks b ≤ all_drawn marks
drawn_fewer [] b = omega arith
drawn_fewer (drawn a ∷ marks) b = let few = drawn_fewer marks b in ⊎_elim (λ t. rw t (omega arith)) (λ f. rw f (omega arith)) (cases_Bool (eqb a b))
drawn_fewer (mark ∷ marks) b = drawn_fewer marks b

-- a chain has no more overflow buckets than were drawn
pub chained_few : (z : Shape) (b : ℕ) (h : List Event) → IsLawful z h → chained_to (marked h) b ≤ z.overflow
chained_few z b h l =
    let drew = drawn_fewer (marked h) b in let all = all_drawn_marked h in let few = drawn_few z h l in
    let joined = drawn_marked z h b l in let as_marked = chained_marked z h b in omega arith

pub keys_few : (z : Shape) (b : ℕ) (h : List Event) → IsLawful z h → keys_in z (after z (seen h)) b ≤ 6 * chained_to (marked h) b + 7
keys_few z b h l = subst (λ n. keys_in z (after z (seen h)) b ≤ 6 * n + 7) (sym (chained_marked z h b)) (counted_few z h b l)
