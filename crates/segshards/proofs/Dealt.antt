-- Clients that are made of the passes of new shards, until none is left.
use Rattle.std.proofs.Common.{◌≡◌, ℕ, zero, suc, ◌+◌, ◌<◌, ◌⊎◌, inl, inr, ⊎_elim, List, [], ◌∷◌, ◌++◌, All, length, slice_get, Some, refl, ap, ◌∙◌, subst, arith}
use Rattle.std.specs.Prelude.{Any, Contains}
use Rattle.std.specs.Global.{Vec}
use Rattle.std.proofs.lemmas.List.{length-append}
use Rattle.std.proofs.lemmas.List.Elements.{All-cons, All-head, All-nil, All-tail, All-weaker, Contains-push_cases}
use Rattle.std.proofs.lemmas.Option.{get_or_from_slice_get, slice_get_within}
use Rattle.segword.specs.Words.{Shape}
use Rattle.segbase.specs.Words.{number, Pass}
use Rattle.segindex.specs.Words.{Index, IsNew, shape_of}
use Rattle.segclient.specs.declared.client.Client as one
use Rattle.segclient.proofs.Places.{is_there}
use Rattle.segshards.specs.declared.client.Client.{Client}
use Rattle.segshards.specs.Client.{IsNewClient}
use Rattle.segshards.specs.Clients.{AreAllClients, HasPass}
use Rattle.segshards.specs.Closing.{AreTaken}
use Rattle.segshards.specs.Each.{AllThree}
use Rattle.segshards.specs.Shards.{AreNew}
use Rattle.segshards.proofs.Opened.{IsNewOf}
use Rattle.segshards.proofs.Places.{all_at, gone_through, three_at, zip_beside, zip_weaker}

abbrev pub is_taken : one.Client → Vec Pass → Vec Pass → Type 0
is_taken client old new = old.items ≡ new.items ++ client.member.pass ∷ []

-- the pass of this number of the shard is in the shard's list still
pub record IsLeft (lists : List (Vec Pass)) (shard k : ℕ) : Type 0 where
  pub passes : Vec Pass
  pub there : slice_get lists shard ≡ Some passes
  pub pass : Pass
  pub within : Contains passes.items pass
  pub number : number pass ≡ k

-- so many clients were made: each pass is one's, or is left
pub record AreDealt (shape : Shape) (indexes : List Index) (lists : List (Vec Pass)) (clients : List Client) (n : ℕ) : Type 0 where
  pub left : All (λ passes. length passes.items + n ≡ shape.passes) lists
  pub each : (shard : ℕ) (i : Index)
      → slice_get indexes shard ≡ Some i
      → (k : ℕ)
      → k < (shape_of i).passes
      → IsLeft lists shard k ⊎ HasPass clients shard k

pub new_long : (shape : Shape) (indexes : List Index) (lists : List (Vec Pass)) → AreNew shape indexes lists → All (λ passes. length passes.items ≡ shape.passes) lists
new_long shape [] [] new = All-nil (λ passes. length passes.items ≡ shape.passes)
new_long shape [] (l ∷ lists) new = absurd new
new_long shape (i ∷ indexes) [] new = absurd new
new_long shape (i ∷ indexes) (l ∷ lists) new = All-cons (λ passes. length passes.items ≡ shape.passes) l lists new.0.made.dealt.long (new_long shape indexes lists new.1)

-- before the first
pub none_dealt : (shape : Shape) (indexes : List Index) (lists : List (Vec Pass)) → AreNew shape indexes lists → AreDealt shape indexes lists [] 0
none_dealt shape indexes lists new = record {
  left = All-weaker (λ (l : Vec Pass). length l.items ≡ shape.passes) (λ l. length l.items + 0 ≡ shape.passes) (λ l long. omega (arith, long)) lists (new_long shape indexes lists new);
  each = λ s i at k below.
      let its = zip_beside (λ j l. IsNew shape j l.items) indexes lists s i new at in
      let same = ap (λ (z : Shape). z.passes) its.2.made.of in
      let long = its.2.made.dealt.long in
      let there = is_there its.0.items k (omega (arith, below, same, long)) in
      inl (record {
        passes = its.0;
        there = its.1;
        pass = there.0;
        within = (k, slice_get_within its.0.items k there.0 there.1, get_or_from_slice_get its.0.items k there.0 there.0 there.1);
        number = (its.2.made.dealt.each k there.0 there.1).number;
      });
}

one_shorter : (client : one.Client) (old new : Vec Pass) (n count : ℕ) → is_taken client old new → length old.items + n ≡ count → length new.items + (n + 1) ≡ count
one_shorter client old new n count taken long = let e = ap length taken in let parts = length-append new.items (client.member.pass ∷ []) in omega (arith, e, parts, long)

taken_left : (clients : List one.Client) (old new : List (Vec Pass)) (n count : ℕ) → AreTaken clients old new
    → All (λ passes. length passes.items + n ≡ count) old
    → All (λ passes. length passes.items + (n + 1) ≡ count) new
unfolding AllThree
taken_left [] [] [] n count taken left = All-nil (λ (l : Vec Pass). length l.items + (n + 1) ≡ count)
taken_left [] [] (l ∷ new) n count taken left = absurd taken
taken_left [] (k ∷ old) new n count taken left = absurd taken
taken_left (c ∷ clients) [] new n count taken left = absurd taken
taken_left (c ∷ clients) (k ∷ old) [] n count taken left = absurd taken
taken_left (c ∷ clients) (k ∷ old) (l ∷ new) n count taken left =
    All-cons (λ (m : Vec Pass). length m.items + (n + 1) ≡ count) l new
    (one_shorter c k l n count taken.0 (All-head (λ (m : Vec Pass). length m.items + n ≡ count) k old left))
    (taken_left clients old new n count taken.1 (All-tail (λ (m : Vec Pass). length m.items + n ≡ count) k old left))

still_there : {A : Type 0} (xs ys : List A) (n : ℕ) (x : A) → slice_get xs n ≡ Some x → slice_get (xs ++ ys) n ≡ Some x
still_there [] ys n x at = absurd (omega (arith, slice_get_within [] n x at))
still_there (y ∷ xs) ys zero x at = at
still_there (y ∷ xs) ys (suc n) x at = still_there xs ys n x at

still_has : (clients : List Client) (client : Client) (shard k : ℕ) → HasPass clients shard k → HasPass (clients ++ client ∷ []) shard k
still_has clients client shard k has = record {
  place = has.place;
  client = has.client;
  there = still_there clients (client ∷ []) has.place has.client has.there;
  one = has.one;
  its = has.its;
  number = has.number;
}

-- one client more has the last pass of each list
pub one_dealt : (shape : Shape) (indexes : List Index) (old new : List (Vec Pass)) (clients : List Client)
    (client : Client) (n : ℕ) → AreDealt shape indexes old clients n → AreTaken client.shards.items old new
    → AreDealt shape indexes new (clients ++ client ∷ []) (n + 1)
one_dealt shape indexes old new clients client n were taken = record {
  left = taken_left client.shards.items old new n shape.passes taken were.left;
  each = λ s i at k below. ⊎_elim
      (λ (left : IsLeft old s k).
      let its = three_at is_taken client.shards.items old new s left.passes taken left.there in
      ⊎_elim
      (λ stays. inl (record { passes = its.1; there = its.3; pass = left.pass; within = stays; number = left.number }))
      (λ goes. inr (record {
        place = length clients;
        client = client;
        there = (gone_through (clients ++ client ∷ []) clients [] client refl).1;
        one = its.0;
        its = its.2;
        number = ap number goes ∙ left.number;
      }))
      (Contains-push_cases its.1.items its.0.member.pass left.pass (subst (λ l. Contains l left.pass) its.4 left.within)))
      (λ has. inr (still_has clients client s k has))
      (were.each s i at k below);
}

-- no pass is left
pub all_dealt : (shape : Shape) (indexes : List Index) (lists : List (Vec Pass)) (clients : List Client) (n : ℕ)
    → AreDealt shape indexes lists clients n → n ≡ shape.passes → All (IsNewClient indexes) clients
    → AreAllClients indexes clients
all_dealt shape indexes lists clients n are end new = record {
  of = λ place client there. zip_weaker IsNewOf (λ i c. c.index.now ≡ i) indexes client.shards.items
      (λ i c starts. starts.1.index) (all_at (IsNewClient indexes) clients place client new there).shards;
  all = λ s i at k below. ⊎_elim
      (λ (left : IsLeft lists s k).
      let long = all_at (λ (l : Vec Pass). length l.items + n ≡ shape.passes) lists s left.passes are.left left.there in
      let within = left.within.1 in
      absurd (omega (arith, long, within, end)))
      (λ has. has)
      (are.each s i at k below);
}

-- a list is empty
pub none_left : (shape : Shape) (indexes : List Index) (lists : List (Vec Pass)) (clients : List Client) (n : ℕ)
    → AreDealt shape indexes lists clients n → Any (λ passes. passes.items ≡ []) lists → n ≡ shape.passes
none_left shape indexes lists clients n are empty =
    let long = are.left empty.0 empty.1 empty.2 in
    let same = subst (λ (l : Vec Pass). length l.items + n ≡ shape.passes) empty.3 long in
    let none = ap length empty.4 in
    omega (arith, same, none)
