use Rattle.std.proofs.Common.{◌≡◌, rules, Option, true, false, refl, ◌∙◌, subst, sym}
use Rattle.std.proofs.lemmas.Bool.{false≢true}
use Rattle.seghandles.specs.declared.kept.Kept.{Kept}
use Rattle.seghandles.specs.declared.status.Status.{Status}
use Rattle.seghandles.specs.declared.status.Status.TheVariants as status
use Rattle.seghandles.specs.Ending.{AreAllBack, Freed, is_cache}
use Rattle.seghandles.proofs.Answering.{unanswered}
use Rattle.seghandles.proofs.Ended.{freed_cache}
use Rattle.seghandles.proofs.closing.raw_free.Goals as goal

pub returns-in_default : goal.returns-in_default
returns-in_default c =
    unanswered (λ (b a : Option Kept) (returned : Status). Freed b a returned) _ _ _
    c.in_default.ensures.taken c.take.ensures.none c.number.ensures (refl, refl)

pub returns-then-not-is_cache : goal.returns-then-not-is_cache
returns-then-not-is_cache c =
    let is : is_cache c.in-Some.kept.value ≡ false = search rules in
    (status.NoHandle, search rules, freed_cache _ _ c.in-Some.kept.value status.NoHandle c.in-Some.ensures.taken (is, c.fill.ensures))

pub returns-then-not-has_all_back : goal.returns-then-not-has_all_back
returns-then-not-has_all_back c =
    let is : is_cache c.in-Some.kept.value ≡ true = search rules in
    let out : c.has_all_back.result ≡ false = search rules in
    let un : ¬ (AreAllBack c.in-Some.kept.value) = λ all. false≢true (sym out ∙ c.has_all_back.ensures.1 (subst (λ (k : Kept). AreAllBack k) (sym c.deref-2.ensures) all)) in
    (status.ClientOut, search rules, freed_cache _ _ c.in-Some.kept.value status.ClientOut c.in-Some.ensures.taken (is, un, c.fill-then-not-has_all_back.ensures))

pub returns : goal.returns
returns c =
    let all : c.has_all_back.result ≡ true = search rules in (
      status.Ok,
      search rules,
      freed_cache _ _ c.in-Some.kept.value status.Ok c.in-Some.ensures.taken
          (subst (λ (k : Kept). AreAllBack k) c.deref-2.ensures (c.has_all_back.ensures.0 all), c.take.ensures.none),
    )
