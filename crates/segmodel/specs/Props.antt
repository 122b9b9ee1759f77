-- Facts of histories that have at most one proof, so that a struct may keep them in a ghost field.
use Rattle.std.specs.Prelude.{ℕ, List, [], ◌∷◌, Option}
use Rattle.std.specs.Coded.{×_prop, Unit-prop}
use Rattle.std.proofs.Common.{sym, ◌∙◌}
use Rattle.std.proofs.Props.{props}
use Rattle.std.proofs.lemmas.List.{append_cancel_right}
use Rattle.segword.specs.Words.{pair-prop, Shape}
use Rattle.segmodel.specs.declared.request.Request.{Request}
use Rattle.segmodel.specs.declared.request.Reply.{Reply}
use Rattle.segmodel.specs.declared.request.Reply.TheVariants.{Stored}
use Rattle.segmodel.specs.declared.entry.Entry.{Entry}
use Rattle.segmodel.specs.declared.entry.Entry.TheVariants.{Wrote, Evicted, Refilled, Moved}
use Rattle.segmodel.specs.declared.entry.Cached.{Cached}
use Rattle.segmodel.specs.Cache.{Cache}
use Rattle.segmodel.specs.History.{IsPlaced, Follows, after, IsLegal, Begins, IsStanding}

pub Request-set : IsSet Request
Request-set = hlevel props

pub Reply-set : IsSet Reply
Reply-set = hlevel props

pub Cached-set : IsSet Cached
Cached-set = hlevel props

-- the two lists determine what the newer one has before the older one
pub Begins-prop : {A : Type 0} → IsSet (List A) → (old new : List A) → IsProp (Begins old new)
Begins-prop set old new =
    pair-prop (λ more. set new _)
    (λ more other at on. append_cancel_right more other old (sym at ∙ on))

IsPlaced-prop : (shape : Shape) (pass : ℕ) (reply : Reply) (named : Option ℕ)
    → IsProp (IsPlaced shape pass reply named)
IsPlaced-prop shape pass Stored named = hlevel props
IsPlaced-prop shape pass _ named = hlevel props

pub Follows-prop : (shape : Shape) (cache : Cache) (entry : Entry)
    → IsProp (Follows shape cache entry)
Follows-prop shape cache (Wrote pass request reply segment) =
    ×_prop (Reply-set reply _) (IsPlaced-prop shape pass reply segment)
Follows-prop shape cache (Evicted pass key segment) = hlevel props
Follows-prop shape cache (Refilled pass segment deadline) = hlevel props
Follows-prop shape cache (Moved pass key from to) = hlevel props

pub IsLegal-prop : (shape : Shape) (history : List Entry) → IsProp (IsLegal shape history)
IsLegal-prop shape [] = Unit-prop
IsLegal-prop shape (entry ∷ history) =
    ×_prop (IsLegal-prop shape history) (Follows-prop shape (after shape history) entry)

pub IsStanding-prop : (shape : Shape) (history : List Entry) (key value : List ℕ) (segment : ℕ)
    → IsProp (IsStanding shape history key value segment)
IsStanding-prop shape history key value segment = hlevel (props, IsLegal-prop, Cached-set)
