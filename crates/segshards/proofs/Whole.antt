-- All passes of a shard, and whether there is one of each number.
use Rattle.std.proofs.Common.{◌≡◌, ℕ, ◌==◌, true, List, get_or, slice_get, Some, ap, ◌∙◌}
use Rattle.std.specs.List.{list_any}
use Rattle.std.proofs.lemmas.Bool.{eq-eqb, eqb-true}
use Rattle.std.proofs.lemmas.List.Folds.{Any-from_list_any, list_any_at}
use Rattle.std.proofs.lemmas.Option.{get_or_from_slice_get, slice_get-get_or, slice_get_within}
use Rattle.segbase.specs.Words.{Board, number, Pass}
use Rattle.segindex.specs.Words.{AreAllQuiet}
use Rattle.segshards.specs.Whole.{HasAll}

has_number : (passes : List Pass) (n place : ℕ) (p : Pass) → slice_get passes place ≡ Some p → number p ≡ n → list_any (λ q. number q == n) passes ≡ true
has_number passes n place p there is =
    list_any_at (λ q. number q == n) passes place p (slice_get_within passes place p there)
    (eq-eqb (number (get_or passes place p)) n (ap number (get_or_from_slice_get passes place p p there) ∙ is))

pub has_all : (b : Board) (passes : List Pass) → AreAllQuiet b passes → HasAll b passes
has_all b passes are = (are.quiet, λ n below. let one = are.all n below in has_number passes n one.0 one.1 one.2 one.3)

pub all_quiet : (b : Board) (passes : List Pass) → HasAll b passes → AreAllQuiet b passes
all_quiet b passes has = record {
  quiet = has.0;
  all = λ n below.
      let any = Any-from_list_any (λ q. number q == n) passes (has.1 n below) in
      (any.0, any.1, slice_get-get_or passes any.0 any.1 any.2 ∙ ap (λ p. Some p) any.3, eqb-true (number any.1) n any.4);
}
