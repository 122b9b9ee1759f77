-- Known bytes of std's readers and writers, one step after another.
use Rattle.std.specs.Prelude.{ℕ, List, [], ◌++◌, Option, Some, None, refl}
use Rattle.std.specs.Io.KnownBytes.{Consumes, Appends}
use Rattle.segscript.specs.Memory.{hands_more, takes_more, takes_none}

pub Consumes-none : (s : Option (List ℕ)) → Consumes s s []
Consumes-none None = tt
Consumes-none (Some xs) = refl

pub Consumes-more : (s t u : Option (List ℕ)) (a b : List ℕ)
    → Consumes s t a
    → Consumes t u b
    → Consumes s u (a ++ b)
Consumes-more None t u a b h k = tt
Consumes-more (Some s) None u a b h k = absurd h
Consumes-more (Some s) (Some t) None a b h k = absurd k
Consumes-more (Some s) (Some t) (Some u) a b h k = hands_more s t u a b h k

pub Appends-none : (s : Option (List ℕ)) → Appends s s []
Appends-none None = tt
Appends-none (Some xs) = takes_none xs

pub Appends-more : (s t u : Option (List ℕ)) (a b : List ℕ)
    → Appends s t a
    → Appends t u b
    → Appends s u (a ++ b)
Appends-more None t u a b h k = tt
Appends-more (Some s) None u a b h k = absurd h
Appends-more (Some s) (Some t) None a b h k = absurd k
Appends-more (Some s) (Some t) (Some u) a b h k = takes_more s t u a b h k
