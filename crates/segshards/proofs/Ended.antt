-- The end of a cache: passes that go to the lists of their shards, and shards with all of theirs.
use Rattle.std.proofs.Common.{◌≡◌, List, [], ◌∷◌, ◌++◌, All, append_assoc, length, map, Some, refl, sym, ap, ◌∙◌, subst}
use Rattle.std.specs.Prelude.{Contains}
use Rattle.std.specs.Global.{Vec}
use Rattle.std.specs.List.{AllZip}
use Rattle.std.proofs.lemmas.List.{append-nil, map-append}
use Rattle.std.proofs.lemmas.List.Elements.{All-append, All-cons, All-nil, All-same, Contains-append_left, Contains-push}
use Rattle.std.proofs.lemmas.Option.{slice_get-get_or}
use Rattle.segbase.specs.Words.{Pass}
use Rattle.segindex.specs.Words.{AreAllQuiet, board_of, Index, IsQuiet}
use Rattle.segclient.specs.declared.client.Client as one
use Rattle.segshards.specs.declared.client.Client.{Client}
use Rattle.segshards.specs.declared.closing.WholeShard.{WholeShard}
use Rattle.segshards.specs.Clients.{AreAllClients}
use Rattle.segshards.specs.Closing.{AreAdded}
use Rattle.segshards.specs.Each.{AllThree}
use Rattle.segshards.specs.Shards.{AreAllOfShards, AreOfShards}
use Rattle.segshards.proofs.Opened.{as_long}
use Rattle.segshards.proofs.Places.{all_at, zip_both, zip_from}

abbrev pub index_in : WholeShard → Index
index_in shard = shard.index

abbrev pub passes_in : WholeShard → Vec Pass
passes_in shard = shard.passes

abbrev pub is_added : one.Client → Vec Pass → Vec Pass → Type 0
is_added client old new = new.items ≡ old.items ++ client.member.pass ∷ []

abbrev pub is_of : Index → one.Client → Type 0
is_of i client = client.index.now ≡ i

-- the list of a shard has the pass of the client
abbrev pub has_pass : one.Client → Vec Pass → Type 0
has_pass client passes = Contains passes.items client.member.pass

-- the list of each shard has the client's pass of it
abbrev pub have_passes : List (Vec Pass) → Client → Type 0
have_passes lists client = AllZip has_pass client.shards.items lists

-- empty lists for so many shards
pub empty_lists : (indexes : List Index) (lists : List (Vec Pass)) → length lists ≡ length indexes → All (λ passes. passes.items ≡ []) lists → AreOfShards indexes lists
empty_lists indexes lists long empty = zip_from (λ i passes. All (IsQuiet (board_of i)) passes.items) indexes lists long (λ n i passes at_i at.
    All-same (IsQuiet (board_of i)) passes.items [] (all_at (λ passes. passes.items ≡ []) lists n passes empty at) (All-nil (IsQuiet (board_of i))))

one_quiet : (i : Index) (client : one.Client) (old new : Vec Pass) → is_of i client → All (IsQuiet (board_of i)) old.items → is_added client old new → All (IsQuiet (board_of i)) new.items
one_quiet i client old new of quiet added =
    All-same (IsQuiet (board_of i)) new.items (old.items ++ client.member.pass ∷ []) added
    (All-append (IsQuiet (board_of i)) old.items (client.member.pass ∷ []) quiet
    (All-cons (IsQuiet (board_of i)) client.member.pass [] (subst (λ j. IsQuiet (board_of j) client.member.pass) of client.is_member.0) (All-nil (IsQuiet (board_of i)))))

-- the lists with the passes of one client more
pub added_quiet : (indexes : List Index) (clients : List one.Client) (old new : List (Vec Pass))
    → AllZip is_of indexes clients → AreOfShards indexes old → AreAdded clients old new → AreOfShards indexes new
unfolding AllThree
added_quiet [] [] [] [] of quiet added = tt
added_quiet [] [] [] (l ∷ new) of quiet added = absurd added
added_quiet [] [] (k ∷ old) new of quiet added = absurd quiet
added_quiet [] (c ∷ clients) old new of quiet added = absurd of
added_quiet (i ∷ indexes) [] old new of quiet added = absurd of
added_quiet (i ∷ indexes) (c ∷ clients) [] new of quiet added = absurd quiet
added_quiet (i ∷ indexes) (c ∷ clients) (k ∷ old) [] of quiet added = absurd added
added_quiet (i ∷ indexes) (c ∷ clients) (k ∷ old) (l ∷ new) of quiet added =
    (one_quiet i c k l of.0 quiet.0 added.0, added_quiet indexes clients old new of.1 quiet.1 added.1)

-- they have what they had
pub still_have : (its clients : List one.Client) (old new : List (Vec Pass)) → AllZip has_pass its old → AreAdded clients old new → AllZip has_pass its new
unfolding AllThree
still_have [] [] [] [] had added = tt
still_have [] [] [] (l ∷ new) had added = absurd added
still_have [] (c ∷ clients) [] new had added = absurd added
still_have [] clients (k ∷ old) new had added = absurd had
still_have (x ∷ its) clients [] new had added = absurd had
still_have (x ∷ its) [] (k ∷ old) new had added = absurd added
still_have (x ∷ its) (c ∷ clients) (k ∷ old) [] had added = absurd added
still_have (x ∷ its) (c ∷ clients) (k ∷ old) (l ∷ new) had added =
    (subst (λ ps. Contains ps x.member.pass) (sym added.0) (Contains-append_left k.items (c.member.pass ∷ []) x.member.pass had.0), still_have its clients old new had.1 added.1)

-- and the passes of that client
pub now_have : (clients : List one.Client) (old new : List (Vec Pass)) → AreAdded clients old new → AllZip has_pass clients new
unfolding AllThree
now_have [] [] [] added = tt
now_have [] [] (l ∷ new) added = absurd added
now_have [] (k ∷ old) new added = absurd added
now_have (c ∷ clients) [] new added = absurd added
now_have (c ∷ clients) (k ∷ old) [] added = absurd added
now_have (c ∷ clients) (k ∷ old) (l ∷ new) added =
    (subst (λ ps. Contains ps c.member.pass) (sym added.0) (Contains-push k.items c.member.pass), now_have clients old new added.1)

-- in the end there are all passes of each shard
pub all_of_shards : (indexes : List Index) (clients : List Client) (lists : List (Vec Pass))
    → AreAllClients indexes clients → AreOfShards indexes lists → All (have_passes lists) clients
    → AreAllOfShards indexes lists
all_of_shards indexes clients lists are quiet have = zip_from (λ i passes. AreAllQuiet (board_of i) passes.items) indexes lists (as_long indexes lists quiet) (λ n i passes at_i at. record {
  quiet = λ place p there. all_at (IsQuiet (board_of i)) passes.items place p (zip_both (λ j ps. All (IsQuiet (board_of j)) ps.items) indexes lists n i passes quiet at_i at) there;
  all = λ k below.
      let its = are.all n i at_i k below in
      let has = zip_both has_pass its.client.shards.items lists n its.one passes (all_at (have_passes lists) clients its.place its.client have its.there) its.its at in
      (has.0, its.one.member.pass, slice_get-get_or passes.items has.0 its.one.member.pass has.1 ∙ ap (λ p. Some p) has.2, its.number);
})

-- ---- shards with their passes

-- beside shards that are left there are lists
pub lists_left : (i : Index) (indexes : List Index) (lists : List (Vec Pass)) → AreAllOfShards (i ∷ indexes) lists → lists ≡ [] → ⊥
lists_left i indexes lists are none = subst (λ l. AreAllOfShards (i ∷ indexes) l) none are

pub no_lists : (lists : List (Vec Pass)) → AreAllOfShards [] lists → lists ≡ []
no_lists [] are = refl
no_lists (l ∷ lists) are = absurd are

-- one of what is left came to the shards
pub one_came : {W A : Type 0} (f : W → A) (whole now : List W) (n : W) (x : A) (left rest all : List A)
    → now ≡ whole ++ n ∷ [] → f n ≡ x → left ≡ x ∷ rest → map f whole ++ left ≡ all → map f now ++ rest ≡ all
one_came f whole now n x left rest all pushed is steps was =
    ap (λ l. map f l ++ rest) pushed ∙ (ap (λ l. l ++ rest) (map-append f whole (n ∷ []))
    ∙ (append_assoc (map f whole) (f n ∷ []) rest
    ∙ (ap (λ y. map f whole ++ y ∷ rest) is ∙ (ap (λ l. map f whole ++ l) (sym steps) ∙ was))))

-- nothing is left
pub all_came : {W A : Type 0} (f : W → A) (whole : List W) (left all : List A) → left ≡ [] → map f whole ++ left ≡ all → map f whole ≡ all
all_came f whole left all none was = sym (append-nil (map f whole)) ∙ (ap (λ l. map f whole ++ l) (sym none) ∙ was)
