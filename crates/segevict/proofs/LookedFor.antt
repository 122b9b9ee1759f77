-- A keep's looks at an item, before the bit: the item's key, how many rows it takes, and the word that names it.
use Rattle.std.proofs.Common.{◌≡◌, ℕ, ◌↔◌, false, is_some, [], Option, Some, None, IsSome, refl, sym, ap, ◌∙◌, subst, arith}
use Rattle.std.specs.Prelude.{IsNone}
use Rattle.segword.specs.Words.{IsSameItem, Item, tag_part}
use Rattle.segcore.specs.Words.{span_in}
use Rattle.segbase.specs.Words.{Board, HasStep, Pass, trace}
use Rattle.segbase.proofs.Starting.{has_later}
use Rattle.segstore.specs.Words.{Idles, IsQuiet}
use Rattle.segstore.proofs.Idling.{goes_nowhere}
use Rattle.segwrite.proofs.Places.{idles_then}
use Rattle.segevict.specs.Rows.{IsStoredIn}
use Rattle.segevict.specs.Target.{AreNextIn, has_rows_in}
use Rattle.segevict.proofs.Items.{span_over}
use Rattle.segevict.proofs.Seeking.{stored_over}

pub quiet_idle : (b : Board) (p q : Pass) → IsQuiet b p → Idles b p q → IsQuiet b q
quiet_idle b p q quiet i = (goes_nowhere b p q quiet i.moved i.plain i.memo).quiet

pub record LookedFor (b : Board) (bucket : ℕ) (sought : Item) (rows : ℕ) (p f : Pass) : Type 0 where
  pub idles : Idles b p f
  pub first : HasStep p f
  pub stored : IsStoredIn b bucket sought f
  pub takes : rows ≡ span_in (trace f) sought.seg sought.row

-- with a the pass after the loads of the key, g after that of the number of rows, f after the search
module _ (b : Board) (bucket : ℕ) (sought : Item) (segment row rows : ℕ) (p a g : Pass) (i : Idles b p a) (stored : IsStoredIn b bucket sought a) (j : Idles b a g) where
  pub stored_still : IsStoredIn b bucket sought g
  stored_still = stored_over b bucket sought [] a g j.moved tt stored

  pub looked_for : (f : Pass) → (sought.seg ≡ segment) × (sought.row ≡ row) → rows ≡ span_in (trace g) segment row → Idles b g f → HasStep g f → LookedFor b bucket sought rows p f
  looked_for f place takes k looks = let all = idles_then b p a g i j in record {
    idles = idles_then b p g f all k;
    first = has_later p g f all.moved.same all.moved.steps looks;
    stored = stored_over b bucket sought [] g f k.moved tt stored_still;
    takes = takes ∙ ((λ t. span_in (trace g) (sym place.0 t) (sym place.1 t))
        ∙ sym (span_over b [] g f sought.seg sought.row k.moved tt stored_still.own (ap is_some stored_still.linked)));
  }

module _ (b : Board) (bucket : ℕ) (sought : Item) (rows into : ℕ) (p f : Pass) (l : LookedFor b bucket sought rows p f) where
  -- as many rows are left as the item takes
  pub next_taken : (next : ℕ) → AreNextIn b into next rows f → AreNextIn b into next (span_in (trace f) sought.seg sought.row) f
  next_taken next = subst (λ n. AreNextIn b into next n f) l.takes

  -- or not so many
  pub none_taken : has_rows_in b.shape into rows f ≡ false → has_rows_in b.shape into (span_in (trace f) sought.seg sought.row) f ≡ false
  none_taken = subst (λ n. has_rows_in b.shape into n f ≡ false) l.takes

-- a word of an item is unpacked to one
pub some_item : (o : Option Item) (word other : ℕ) → (IsNone o ↔ (tag_part word ≡ 0)) → IsSameItem word other → IsSome o
some_item None word other none same = let no = none.0 refl in let some = same.0 in absurd (omega (arith, no, some))
some_item (Some item) word other none same = refl
