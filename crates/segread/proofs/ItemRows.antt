-- What a hold's rows are, as segread tells it: all rows of its item are linked to its key.
use Rattle.std.proofs.Common.{◌≡◌, ℕ, true, List, sym, subst}
use Rattle.segword.specs.Words.{covers}
use Rattle.segcore.specs.Words.{Event}
pub use Rattle.segstore.proofs.LinkedRows.{AllLinked, first_linked, found_rows, item_stays, linked_since, may_read_linked, same_header, was_linked}
pub use Rattle.segstore.proofs.Seconds.{at_item}
use Rattle.segread.specs.Holds.{AreLinked}

pub all_linked : (h : List Event) (s r : ℕ) (k : List ℕ) → AreLinked h s r k → AllLinked h s r k
all_linked h s r k is i c = is i (subst (λ n. covers r n i ≡ true) (sym (same_header h s r)) c)

pub are_linked : (h : List Event) (s r : ℕ) (k : List ℕ) → AllLinked h s r k → AreLinked h s r k
are_linked h s r k all = λ other c. all other (subst (λ n. covers r n other ≡ true) (same_header h s r) c)
