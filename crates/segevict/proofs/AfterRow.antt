-- What a row leaves that a keep went over: the rows that are used, what was gone, and what the pass keeps.
use Rattle.std.proofs.Common.{◌≡◌, ◌≢◌, ℕ, option_map, ◌+◌, is_some, List, [], ◌∷◌, ◌++◌, Option, Some, None, refl, sym, ap, ◌∙◌, ⊎_elim, arith}
use Rattle.std.proofs.lemmas.Option.{none-some, same_Some}
use Rattle.segmodel.specs.Words.{bucket_of, owner}
use Rattle.segcore.specs.Words.{Event, span_in}
use Rattle.segbase.specs.declared.pass.PlainPart.{PlainPart}
use Rattle.segbase.specs.Words.{AddsEvents, Board, deadline_in, number}
use Rattle.segbase.specs.Words.{own_segment, OwnSegment, Pass, state_in, trace, used_in}
use Rattle.segbase.specs.Words.{with_own}
use Rattle.segbase.proofs.Known.{own_apart, own_here, own_kept}
use Rattle.segstore.specs.Words.{bounces, ChangesNothing, fills}
use Rattle.segstore.specs.Words.{Idles, IsQuiet, memo}
use Rattle.segstore.proofs.Keeping.{AreCalmIn, calm_in}
use Rattle.segstore.proofs.Bounces.{bounces_calm}
use Rattle.segstore.proofs.Idling.{does_nothing}
use Rattle.segwrite.specs.Words.{more}
use Rattle.segwrite.proofs.Filling.{fills_calm}
use Rattle.segwrite.proofs.Places.{idles_then}
use Rattle.segevict.specs.declared.retention.KeepRowAnswer.TheVariants as kept
use Rattle.segevict.specs.Moving.{KeepsRow, moves, SeesRow, under_bit}
use Rattle.segevict.specs.Rows.{KeepsGone}
use Rattle.segevict.specs.Target.{UsesRows}
use Rattle.segevict.proofs.RowsOut.{calm_keeps_gone, keeps_gone_then}

-- ---- rows that are used

used_more : (rows : ℕ) (o : Option OwnSegment) (used : ℕ) → used_in o ≡ Some used → used_in (option_map (more rows) o) ≡ Some (used + rows)
used_more rows None used is = absurd (none-some used is)
used_more rows (Some own) used is = ap (λ n. Some (n + rows)) (same_Some own.used used is)

same_state : (rows : ℕ) (o : Option OwnSegment) → state_in (option_map (more rows) o) ≡ state_in o
same_state rows None = refl
same_state rows (Some own) = refl

same_deadline : (rows : ℕ) (o : Option OwnSegment) → deadline_in (option_map (more rows) o) ≡ deadline_in o
same_deadline rows None = refl
same_deadline rows (Some own) = refl

module _ (into : ℕ) (p q : Pass) where
  pub uses_none : q.plain ≡ p.plain → memo q ≡ memo p → UsesRows into 0 p q
  uses_none plain same = record {
    used = λ used is. ap (λ (x : PlainPart). used_in (own_segment x into)) plain ∙ (is ∙ ap Some (let e : used ≡ used + 0 = omega arith in e));
    others = λ other apart. ap (λ (x : PlainPart). used_in (own_segment x other)) plain;
    states = λ segment. ap (λ (x : PlainPart). state_in (own_segment x segment)) plain;
    deadlines = λ segment. ap (λ (x : PlainPart). deadline_in (own_segment x segment)) plain;
    current = ap (λ (x : PlainPart). x.current) plain;
    locked = ap (λ (x : PlainPart). x.locked) plain;
    holds = ap (λ (x : PlainPart). x.is_holding) plain;
    memo = same;
  }

  pub uses_more : (rows : ℕ) → q.plain ≡ with_own into (more rows) p.plain → memo q ≡ memo p → UsesRows into rows p q
  uses_more rows plain same = record {
    used = λ used is. ap (λ (x : PlainPart). used_in (own_segment x into)) plain ∙ (ap used_in (own_here p.plain into (more rows)) ∙ used_more rows (own_segment p.plain into) used is);
    others = λ other apart. ap (λ (x : PlainPart). used_in (own_segment x other)) plain ∙ ap used_in (own_apart p.plain into (more rows) other apart);
    states = λ segment. ap (λ (x : PlainPart). state_in (own_segment x segment)) plain ∙ own_kept p.plain into (more rows) state_in (same_state rows) segment;
    deadlines = λ segment. ap (λ (x : PlainPart). deadline_in (own_segment x segment)) plain ∙ own_kept p.plain into (more rows) deadline_in (same_deadline rows) segment;
    current = ap (λ (x : PlainPart). x.current) plain;
    locked = ap (λ (x : PlainPart). x.locked) plain;
    holds = ap (λ (x : PlainPart). x.is_holding) plain;
    memo = same;
  }

pub uses_then : (into m n all : ℕ) (p q r : Pass) → m + n ≡ all → UsesRows into m p q → UsesRows into n q r → UsesRows into all p r
uses_then into m n all p q r sum i j = record {
  used = λ used is. j.used (used + m) (i.used used is) ∙ ap Some (let e : used + m + n ≡ used + all = omega arith in e);
  others = λ other apart. j.others other apart ∙ i.others other apart;
  states = λ segment. j.states segment ∙ i.states segment;
  deadlines = λ segment. j.deadlines segment ∙ i.deadlines segment;
  current = j.current ∙ i.current;
  locked = j.locked ∙ i.locked;
  holds = j.holds ∙ i.holds;
  memo = j.memo ∙ i.memo;
}

-- ---- what a row leaves

calm_both : (s : ℕ) (xs ys : List Event) → AreCalmIn s xs → AreCalmIn s ys → AreCalmIn s (xs ++ ys)
calm_both s [] ys i j = j
calm_both s (e ∷ xs) ys i j = (i.0, calm_both s xs ys i.1 j)

taking_calm : (s pass bucket times : ℕ) (own : List Event) → AreCalmIn s own → AreCalmIn s (under_bit pass bucket times own)
taking_calm s pass bucket times own calm = (tt, calm_both s own _ calm (tt, calm_in s (bounces pass bucket times) (bounces_calm pass bucket times)))

module _ (b : Board) (segment row into cutoff : ℕ) (q r : Pass) (own : owner b.shape segment ≡ number q) where
  -- by looks alone
  pub idle_gone : (f : Pass) → Idles b q f → KeepsGone b segment q f
  idle_gone f i = calm_keeps_gone b segment [] q f i.moved tt own

  under_gone : (f : Pass) (bucket times : ℕ) (did : List Event) → Idles b q f → AreCalmIn segment did → AddsEvents b (under_bit (number f) bucket times did) f r → KeepsGone b segment q r
  under_gone f bucket times did i calm m =
      keeps_gone_then b segment q f r (idle_gone f i)
      (calm_keeps_gone b segment (under_bit (number f) bucket times did) f r m
      (taking_calm segment (number f) bucket times did calm) (own ∙ sym i.moved.same))

  pub moved_gone : segment ≢ into → KeepsRow b segment row into cutoff kept.Moved q r → KeepsGone b segment q r
  moved_gone apart k = let a = k.answer in let f = a.0 in
      under_gone f (bucket_of b.shape a.1.key) a.4 (moves (number f) a.1.key segment row into a.3 a.5 a.6) a.1.idles
      ((λ same. apart (sym same)), calm_in segment (fills (number f) into a.3 a.6.0 a.6.1) (fills_calm (number f) into a.3 a.6.0 a.6.1)) a.9

  pub left_gone : KeepsRow b segment row into cutoff kept.Left q r → KeepsGone b segment q r
  left_gone k = ⊎_elim
      (λ none. idle_gone r none.0)
      (λ some. ⊎_elim
      (λ seldom. idle_gone r (idles_then b q seldom.0 r seldom.1.idles seldom.2))
      (λ went. under_gone went.0 (bucket_of b.shape went.1.key) went.2 [] went.1.idles tt went.3)
      some)
      k.answer

-- the row's item takes as many rows as it took, by looks alone
pub seen_span : (b : Board) (segment row : ℕ) (IsSo : ℕ → Type 0) (p f : Pass) → owner b.shape segment ≡ number p → SeesRow b segment row IsSo p f
    → span_in (trace f) segment row ≡ span_in (trace p) segment row
seen_span b segment row IsSo p f own s = let keeps = idle_gone b segment row 0 0 p f own f s.idles in
    keeps.spans row (ap is_some (sym (keeps.linked row) ∙ s.linked))

-- nothing but looks
pub idle_changes : (b : Board) (q f : Pass) → IsQuiet b q → Idles b q f → ChangesNothing q f
idle_changes b q f quiet i = does_nothing b q f quiet i.moved i.plain i.memo

pub left_changes : (b : Board) (segment row into cutoff : ℕ) (q r : Pass) → IsQuiet b q → KeepsRow b segment row into cutoff kept.Left q r → ChangesNothing q r
left_changes b segment row into cutoff q r quiet k = ⊎_elim
    (λ none. idle_changes b q r quiet none.0)
    (λ some. ⊎_elim (λ seldom. idle_changes b q r quiet (idles_then b q seldom.0 r seldom.1.idles seldom.2)) (λ went. went.4) some)
    k.answer
