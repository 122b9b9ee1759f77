-- Clients of all passes of an index: as they begin, as they work, and their passes at the end.
use Rattle.std.proofs.Common.{◌≡◌, ℕ, ◌<◌, List, length, option_map, map, slice_index_or, Some, sym, ap, ◌∙◌, subst}
use Rattle.std.specs.List.{AllZip}
use Rattle.std.proofs.lemmas.Option.{get_or_from_slice_get, slice_get-get_or, slice_get-map, slice_get_within}
use Rattle.segword.specs.Words.{Shape}
use Rattle.segbase.specs.Words.{number, Pass}
use Rattle.segstore.specs.Words.{IsQuiet}
use Rattle.segindex.specs.Words.{AreAllQuiet, board_of, Index, IsNew}
use Rattle.segclient.specs.declared.client.Client.{Client}
use Rattle.segclient.specs.Client.{IsSame, Starts}
use Rattle.segclient.specs.Clients.{AreAllClients}
use Rattle.segclient.proofs.Places.{is_there, made_of, zip_at, zip_long}

-- ---- all of them

-- clients of all passes of a new index
pub all_clients : (shape : Shape) (i : Index) (passes : List Pass) (clients : List Client) → IsNew shape i passes → AllZip (Starts i (Some 0)) passes clients → AreAllClients i clients
all_clients shape i passes clients new zip = record {
  of = λ place client at. (zip_at (Starts i (Some 0)) passes clients place client zip at).2.index;
  all = λ n below.
      let there = is_there clients n (subst (λ count. n < count) (sym long) below) in
      let one = zip_at (Starts i (Some 0)) passes clients n there.0 zip there.1 in
      (n, there.0, there.1, ap number one.2.member.pass ∙ (new.made.dealt.each n one.0 one.1).number);
}
  where
    long : length clients ≡ (board_of i).shape.passes
    long = zip_long (Starts i (Some 0)) passes clients zip ∙ new.made.dealt.long ∙ sym (ap (λ (s : Shape). s.passes) new.made.of)

-- they stay so while each stays the same
pub still_all : (i : Index) (old new : List Client) → length new ≡ length old
    → ((n : ℕ) (client : Client) → n < length old
    → IsSame (slice_index_or old n client) (slice_index_or new n client)) → AreAllClients i old
    → AreAllClients i new
still_all i old new long same all = record {
  of = λ place client at.
      let below : place < length old = subst (λ count. place < count) long (slice_get_within new place client at) in
      let was = slice_index_or old place client in
      let now = subst (IsSame was) (get_or_from_slice_get new place client client at) (same place client below) in
      now.index ∙ all.of place was (slice_get-get_or old place client below);
  all = λ n below.
      let one = all.all n below in
      let place = one.0 in
      let was = one.1 in
      let within : place < length old = slice_get_within old place was one.2 in
      let now = slice_index_or new place was in
      let here = subst (λ client. IsSame client now) (get_or_from_slice_get old place was was one.2) (same place was within) in
      (place, now, slice_get-get_or new place was (subst (λ count. place < count) (sym long) within), here.number ∙ one.3);
}

abbrev pub pass_of : Client → Pass
pass_of client = client.member.pass

-- their passes are those of the index, all of them
pub passes_quiet : (i : Index) (clients : List Client) → AreAllClients i clients → AreAllQuiet (board_of i) (map pass_of clients)
passes_quiet i clients are = record {
  quiet = λ n p at.
      let one = made_of pass_of clients n p at in
      let of_index = subst (λ j. IsQuiet (board_of j) one.0.member.pass) (are.of n one.0 one.1) one.0.is_member.0 in
      subst (IsQuiet (board_of i)) one.2 of_index;
  all = λ n below.
      let one = are.all n below in
      (one.0, one.1.member.pass, slice_get-map pass_of clients one.0 ∙ ap (λ client. option_map pass_of client) one.2, one.3);
}
