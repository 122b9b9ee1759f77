-- The list of all pairs at the end of an index, in the order of the keys, is the content of the cache after all that had happened.
use Rattle.std.proofs.Common.{◌≡◌, ℕ, List, [], ◌∷◌, Option, Some, None, refl, sym, ap, ◌∙◌, subst, inl, append-nil}
use Rattle.std.proofs.lemmas.Map.Made.{lookup-map_values}
use Rattle.std.specs.Prelude.{map}
use Rattle.std.specs.Ordering.{is_lt}
use Rattle.std.specs.List.Sorted.{IsStrictlySortedBy, IsSortedBy, IsPermutation}
use Rattle.std.specs.Map.{keys_of}
use Rattle.std.specs.BTreeMap.{is_at}
use Rattle.segword.specs.Words.{Shape}
use Rattle.segmodel.specs.Words.{after, Cached, IsLegal, key_cmp, value_under}
use Rattle.segmodel.specs.History as history
use Rattle.segmodel.proofs.Ordered.{sorted-after}
use Rattle.segcore.specs.Words.{Event, Knows, seen}
use Rattle.segcore.proofs.Counts.{mine_others}
use Rattle.segcore.proofs.Limits.{bucket_in}
use Rattle.segcore.proofs.Moments.{seen_begins}
use Rattle.segcore.proofs.Standing.{legal}
use Rattle.segbase.specs.declared.closing.Words.{Words}
use Rattle.segbase.specs.Words.{AreAll, Board, Closes, ClosesAll, IsAtRest, number, Pass, shape_of, trace, view}
use Rattle.segindex.specs.Closing.{Pairs, pair_of, pairs_of, listed, IsListed, IsEnd, IsContent, IsContentSeen, HasContent, HasPairs, WantsMemory, IsPairsAtRest, AreAllQuiet, IsEndOfAll, IsContentOfAll, WantsMemoryOfAll}
use Rattle.segindex.proofs.Pairs.{AreDistinct, IsOrdered, ordered, listed_sorted, listed_unsorted, one_list}

same_options : {A : Type 0} (a b : Option A) → ((x : A) → a ≡ Some x → b ≡ Some x) → ((x : A) → b ≡ Some x → a ≡ Some x) → a ≡ b
same_options None None on back = refl
same_options None (Some x) on back = back x refl
same_options (Some x) b on back = sym (on x refl)

keys_of_pairs : (items : List (List ℕ × Cached)) → keys_of (map pair_of items) ≡ keys_of items
keys_of_pairs [] = refl
keys_of_pairs (e ∷ es) = ap (λ ks. e.0 ∷ ks) (keys_of_pairs es)

module _ (words : Words) (now : List Event) (rest : IsAtRest words now) (pairs sorted : Pairs) (all : IsListed words now (shape_of words).buckets 1 pairs)
    (moves : IsPermutation pairs sorted) (up : IsSortedBy (λ p q. is_lt (key_cmp p.0 q.0)) sorted) where
  abbrev z : Shape
  z = shape_of words

  in_order : AreDistinct sorted × IsOrdered sorted
  in_order = ordered pairs sorted all.distinct moves up

  same_value : (key : List ℕ) → listed sorted key ≡ value_under (after z (seen now)) key
  same_value key = same_options (listed sorted key) (value_under (after z (seen now)) key)
      (λ value is. (all.only key value (listed_unsorted pairs sorted key value all.distinct moves is)).1)
      (λ value is. listed_sorted pairs sorted key value in_order.0 moves (all.all key value (inl (bucket_in z key rest.valid)) is))

  pub is_content : sorted ≡ pairs_of (after z (seen now))
  is_content =
      let items = (after z (seen now)).items in
      one_list sorted (map pair_of items) in_order.1 (subst (λ ks. IsStrictlySortedBy key_cmp ks) (sym (keys_of_pairs items)) (sorted-after z (seen now)))
      (λ key. same_value key ∙ sym (lookup-map_values (λ (c : Cached). c.value) (is_at (key_cmp key)) items))

-- what had happened goes on from what a pass has seen, by events of others alone
ends : (z : Shape) (p : Pass) (now : List Event) → IsLegal z (seen now) → Knows (number p) (view p) now → IsEnd z p (seen now)
ends z p now legal knows = record {
  legal = legal;
  goes_on = seen_begins (trace p) now (knows.more, knows.rest);
  mine = ap (λ h. history.mine (number p) (seen h)) knows.rest ∙ mine_others (number p) knows.more (trace p) knows.others;
}

legal_at : (z : Shape) (words : Words) (now : List Event) → shape_of words ≡ z → IsAtRest words now → IsLegal z (seen now)
legal_at z words now of rest = subst (λ (y : Shape). IsLegal y (seen now)) of (legal (shape_of words) now rest.lawful)

content_at : (z : Shape) (words : Words) (now : List Event) → shape_of words ≡ z → HasContent (shape_of words) (seen now) → HasContent z (seen now)
content_at z words now of content = subst (λ (y : Shape). HasContent y (seen now)) of content

pairs_at : (z : Shape) (words : Words) (now : List Event) (pairs : Pairs) → shape_of words ≡ z → IsAtRest words now → IsPairsAtRest words pairs → pairs ≡ pairs_of (after z (seen now))
pairs_at z words now pairs of rest lists = lists now rest ∙ ap (λ (y : Shape). pairs_of (after y (seen now))) of

-- ---- closed with one pass

module _ (b : Board) (p : Pass) (words : Words) (now : List Event) (closed : Closes b p words now) where
  is_end : IsEnd b.shape p (seen now)
  is_end = ends b.shape p now (legal_at b.shape words now closed.of closed.rest) (record { number = refl; more = closed.more; rest = closed.goes_on; others = closed.others })

  pub wants_memory : HasPairs words → WantsMemory b.shape p
  wants_memory content = record {
    end = seen now;
    is_end = is_end;
    alone = λ one. ap seen (closed.alone one);
    content = content_at b.shape words now closed.of (content now closed.rest);
  }

  module _ (pairs : Pairs) (lists : IsPairsAtRest words pairs) where
    pub some_content : IsContent b.shape p pairs
    some_content = (seen now, is_end, pairs_at b.shape words now pairs closed.of closed.rest lists)

    pub alone_content : b.shape.passes ≡ 1 → IsContentSeen b.shape p pairs
    alone_content one = pairs_at b.shape words now pairs closed.of closed.rest lists ∙ ap (λ h. pairs_of (after b.shape (seen h))) (closed.alone one)

-- ---- closed with all of them

pub passes_of : (b : Board) (passes : List Pass) → AreAllQuiet b passes → AreAll b passes
passes_of b passes all = record { each = λ at p is. (all.quiet at p is).pass; all = all.all }

module _ (b : Board) (passes : List Pass) (words : Words) (closed : ClosesAll b passes words) where
  abbrev last : List Event
  last = trace closed.last

  end_of_all : IsEndOfAll b.shape passes (seen last)
  end_of_all = record {
    place = closed.place;
    pass = closed.last;
    there = closed.there;
    has_seen = refl;
    each = λ at p is. ends b.shape p last (legal_at b.shape words last closed.of closed.rest) (closed.each at p is);
    among = λ n past. ap (λ h. history.mine n (seen h)) (sym (append-nil last)) ∙ mine_others n last [] (closed.among n past);
  }

  pub wants_memory_of_all : HasPairs words → WantsMemoryOfAll b.shape passes
  wants_memory_of_all content = (seen last, end_of_all, content_at b.shape words last closed.of (content last closed.rest))

  pub content_of_all : (pairs : Pairs) → IsPairsAtRest words pairs → IsContentOfAll b.shape passes pairs
  content_of_all pairs lists = (seen last, end_of_all, pairs_at b.shape words last pairs closed.of closed.rest lists)
