-- The word of a key's chain that a write of the key changes.
use Rattle.std.specs.Prelude.{◌≡◌, ◌≢◌, ℕ, ◌≤◌, ◌==◌, ◌⊎◌, List, true, is_some, Option, Some, None, MatchOption, if◌then◌else◌}
use Rattle.segword.specs.Words.{IsSameItem}
use Rattle.segmodel.specs.Words.{after, bucket_of, standing}
use Rattle.segcore.specs.Words.{bucket_after, HasNoEmptyWord, IsItemAt, word}
use Rattle.segbase.specs.Words.{Board, cell_at, HasItemOf, IsFree, IsPlace, Pass, Place, position}
use Rattle.segbase.specs.Words.{seen, trace}
use Rattle.segwrite.specs.declared.find.Target.{Target}
use Rattle.segwrite.specs.FirstEmpty.{AreTakenBefore}

-- the place is an item word of the bucket's chain
pub record IsInChain (b : Board) (bucket : ℕ) (place : Place) (p : Pass) : Type 0 where
  pub in_table : IsPlace b.shape place
  pub at : IsItemAt b.shape (trace p) bucket (position b.shape (trace p) place)
      (cell_at b.shape place)

-- the word is one that the item of this place had: its frequency may have risen since
abbrev pub IsEarlier : Board → Place → ℕ → Pass → Type 0
IsEarlier b place old p =
    IsSameItem old (word b.shape (trace p) (cell_at b.shape place))
    × (old ≤ word b.shape (trace p) (cell_at b.shape place))

-- the key doesn't stand
abbrev pub IsNewKey : Board → List ℕ → Pass → Type 0
IsNewKey b key p = standing (after b.shape (seen p)) key ≡ None

-- the words of a key's chain before this place are taken
abbrev pub IsFirst : Board → List ℕ → Place → Pass → Type 0
IsFirst b key place p =
    AreTakenBefore (bucket_after b.shape (trace p) (bucket_of b.shape key))
    (position b.shape (trace p) place)

-- the first empty word, if the key doesn't stand; or the word of the key's item
abbrev pub IsEmptyOrKeys : Board → List ℕ → Target → Pass → Type 0
IsEmptyOrKeys b key target p =
    ((target.word ≡ 0) × IsFree b key target.place p × IsNewKey b key p
    × IsFirst b key target.place p)
    ⊎ (HasItemOf b key target.place p × IsEarlier b target.place target.word p)

-- the word that a write of the key changes
pub record IsTarget (b : Board) (key : List ℕ) (target : Target) (p : Pass) : Type 0 where
  pub chain : IsInChain b (bucket_of b.shape key) target.place p
  pub is : IsEmptyOrKeys b key target p

-- the key doesn't stand, and no word of its chain is empty
pub record HasFullChain (b : Board) (key : List ℕ) (p : Pass) : Type 0 where
  pub absent : IsNewKey b key p
  pub taken : HasNoEmptyWord (bucket_after b.shape (trace p) (bucket_of b.shape key))

abbrev pub Finds : Board → List ℕ → Option Target → Pass → Type 0
Finds b key target p = MatchOption target (HasFullChain b key p) (λ found. IsTarget b key found p)

-- the key's own word, if a search found it, and not a word that is free for the key
abbrev pub own_word : Option Target → Option Target
own_word None = None
own_word (Some target) = if target.word == 0 then None else Some target

-- the first empty word of a search, after one word more
abbrev pub Updates : Target → Option Target → Option Target → Type 0
Updates target old new =
    ((target.word ≡ 0) × (new ≡ Some target) × (old ≡ None))
    ⊎ ((new ≡ old) × ((target.word ≢ 0) ⊎ (is_some old ≡ true)))
