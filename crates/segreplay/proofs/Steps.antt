-- Commands that were made one after the other.
use Rattle.std.proofs.Common.{◌≡◌, ◌<◌, ◌+◌, ℕ, List, [], ◌∷◌, ◌++◌, get_or, length, take, refl, subst}
use Rattle.std.proofs.lemmas.List.{take_more}
use Rattle.segreplay.specs.declared.player.Assignment.{Assignment}
use Rattle.segreplay.specs.declared.player.Player.{Player}
use Rattle.segreplay.specs.Playing.{Plays, TakesOwn}

pub plays_on : (turns more : List Assignment) (old between new : Player) → Plays turns old between → Plays more between new → Plays (turns ++ more) old new
plays_on [] more old between new one then = subst (λ p. Plays more p new) one then
plays_on (turn ∷ turns) more old between new one then =
    (one.0, one.1, plays_on turns more one.0 between new one.2 then)

pub plays_one : (turns : List Assignment) (turn : Assignment) (old between new : Player) → Plays turns old between → TakesOwn turn between new → Plays (turns ++ turn ∷ []) old new
plays_one turns turn old between new one then = plays_on turns (turn ∷ []) old between new one (new, then, refl)

-- the next of a list of commands
pub plays_next : (turns : List Assignment) (i : ℕ) (turn : Assignment) (old between new : Player) → i < length turns
    → turn ≡ get_or turns i turn → Plays (take i turns) old between → TakesOwn turn between new
    → Plays (take (i + 1) turns) old new
plays_next turns i turn old between new below is one then =
    rw (take_more turns i turn below) (plays_one (take i turns) (get_or turns i turn) old between new one (subst (λ t. TakesOwn t between new) is then))
