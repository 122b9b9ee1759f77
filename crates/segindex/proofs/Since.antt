-- What is so from the first step of a call on, said from what the pass had seen.
use Rattle.std.proofs.Common.{◌≡◌, ◌≤◌, ℕ, List, [], ◌∷◌, ◌++◌, Option, Some, refl, sym, ◌∙◌, inl, inr, append_assoc, arith}
use Rattle.std.proofs.lemmas.List.{append_cancel_right}
use Rattle.segword.specs.Words.{Shape}
use Rattle.segmodel.specs.declared.answer.GetAnswer.TheVariants as get
use Rattle.segmodel.specs.declared.answer.GetsAnswer.TheVariants as gets
use Rattle.segmodel.specs.Words.{Begins, bucket_of, Entry, GetAnswer, GetsAnswer, IsBetween, stirred}
use Rattle.segcore.specs.Event as event
use Rattle.segcore.specs.Mark as mark
use Rattle.segcore.specs.Words.{Event}
use Rattle.segcore.proofs.Changed.{entries_begin}
use Rattle.segcore.proofs.Moments.{begins_on, marked_begins, seen_begins}
use Rattle.segbase.specs.Words.{Pass, looks, marked, seen, SinceFirst, StartsAt, trace}
use Rattle.segbase.proofs.Starting.{start_grew}
use Rattle.segread.specs.Gets.{IsDisturbed, PresentBetween}
use Rattle.segread.specs.Hits.{RaisesFrom, RaisesOne}
use Rattle.segread.specs.Words.{IsGetAnswer, IsGetsAnswer, ReadsBetween}
use Rattle.segread.proofs.Raising.{raises_after}
use Rattle.segwrite.specs.Words.{WasFull}

-- ---- one first step

last_same : {A : Type 0} (xs ys : List A) (x y : A) → xs ++ x ∷ [] ≡ ys ++ y ∷ [] → x ≡ y
last_same [] [] x y e = cc
last_same [] (b ∷ []) x y e = cc
last_same [] (b ∷ c ∷ ys) x y e = cc
last_same (a ∷ []) [] x y e = cc
last_same (a ∷ c ∷ xs) [] x y e = cc
last_same (a ∷ xs) (b ∷ ys) x y e = last_same xs ys x y cc

-- a call has one first step at most
pub same_start : (p q : Pass) (one other : List Event) → StartsAt p q one → StartsAt p q other → one ≡ other
same_start p q one other s t =
    last_same s.later t.later one other (append_cancel_right (s.later ++ one ∷ []) (t.later ++ other ∷ []) (looks p)
    (append_assoc s.later (one ∷ []) (looks p) ∙ (sym s.looked ∙ (t.looked ∙ sym (append_assoc t.later (other ∷ []) (looks p))))))

-- ---- from what the pass had seen

pub grew_seen : (p q : Pass) (start : List Event) → StartsAt p q start → Begins (seen p) (event.seen start)
grew_seen p q start s = seen_begins (trace p) start (start_grew p q start s)

pub reads_since : (z : Shape) (key : List ℕ) (now : ℕ) (p q : Pass) (read : Option (List ℕ))
    → SinceFirst p q (λ start. ReadsBetween z key now (event.seen start) (seen q) read)
    → ReadsBetween z key now (seen p) (seen q) read
reads_since z key now p q read s = let is = s.2 in (is.0, (begins_on (seen p) (event.seen s.0) is.0 (grew_seen p q s.0 s.1) is.1.0, is.1.1), is.2)

pub stirred_since : (z : Shape) (key : List ℕ) (p q : Pass) → SinceFirst p q (λ start. 64 ≤ stirred z key (event.seen start) (seen q)) → 64 ≤ stirred z key (seen p) (seen q)
stirred_since z key p q s = let more = s.2 in let few = entries_begin z (bucket_of z key) (trace p) s.0 (start_grew p q s.0 s.1) in omega (arith, more, few)

pub get_since : (z : Shape) (key : List ℕ) (now : ℕ) (told : GetAnswer) (p q : Pass)
    → SinceFirst p q (λ start. IsGetAnswer z key now told (event.seen start) (seen q))
    → IsGetAnswer z key now told (seen p) (seen q)
get_since z key now (get.Found value) p q s = reads_since z key now p q (Some value) s
get_since z key now get.Miss p q s = reads_since z key now p q _ s
get_since z key now get.Busy p q s = stirred_since z key p q s

present_since : (z : Shape) (key : List ℕ) (now : ℕ) (p q : Pass) (start : List Event) → StartsAt p q start
    → PresentBetween z key now (event.seen start) (seen q) → PresentBetween z key now (seen p) (seen q)
present_since z key now p q start s is = (is.0, reads_since z key now p q (Some is.0) (start, s, is.1))

disturbed_since : (z : Shape) (key : List ℕ) (now : ℕ) (p q : Pass) (start : List Event) → StartsAt p q start → IsDisturbed z key now (event.seen start) p q → IsDisturbed z key now (seen p) p q
disturbed_since z key now p q start s (inl many) = inl (stirred_since z key p q (start, s, many))
disturbed_since z key now p q start s (inr both) = inr (
  (let more = both.0 in let few = entries_begin z (bucket_of z key) (trace p) start (start_grew p q start s) in omega (arith, more, few)),
  present_since z key now p q start s both.1,
)

pub gets_since : (z : Shape) (key : List ℕ) (now : ℕ) (told : GetsAnswer) (p q : Pass)
    → SinceFirst p q (λ start. IsGetsAnswer z key now told (event.seen start) p q)
    → IsGetsAnswer z key now told (seen p) p q
gets_since z key now (gets.Found value version) p q s = let is = s.2 in (is.0, (begins_on (seen p) (event.seen s.0) is.0 (grew_seen p q s.0 s.1) is.1.0, is.1.1), is.2)
gets_since z key now gets.Miss p q s = reads_since z key now p q _ s
gets_since z key now gets.Busy p q (start, s, inl many) = inl (disturbed_since z key now p q start s many)
gets_since z key now gets.Busy p q (start, s, inr held) = inr (held.0, present_since z key now p q start s held.1)

pub raises_since : (z : Shape) (key value : List ℕ) (draw : ℕ) (p q : Pass) → RaisesOne z key value draw p q → RaisesFrom z key value draw (trace p) p q
raises_since z key value draw p q s = raises_after z key value draw (trace p) s.0 p p q refl (start_grew p q s.0 s.1) refl s.2

pub between_since : (p q : Pass) (history : List Entry) → SinceFirst p q (λ start. IsBetween (event.seen start) (seen q) history) → IsBetween (seen p) (seen q) history
between_since p q history s = (begins_on (seen p) (event.seen s.0) history (grew_seen p q s.0 s.1) s.2.0, s.2.1)

pub full_since : (z : Shape) (key : List ℕ) (p q : Pass) → SinceFirst p q (λ start. WasFull z key (mark.marked start) (marked q)) → WasFull z key (marked p) (marked q)
full_since z key p q s = let is = s.2 in (is.0, (begins_on (marked p) (mark.marked s.0) is.0 (marked_begins (trace p) s.0 (start_grew p q s.0 s.1)) is.1.0, is.1.1), is.2)
