use Rattle.std.proofs.Common.{refl, sym, ◌∙◌, subst, inl, inr}
use Rattle.seghandles.specs.declared.kept.Kept.{Kept}
use Rattle.seghandles.specs.declared.status.Status.TheVariants as status
use Rattle.seghandles.specs.Closing.{IsListOf, IsLost, IsRefused}
use Rattle.seghandles.proofs.Closed.{closed, empty, not_closed, nothing_closed}
use Rattle.seghandles.proofs.closing.raw_close.Goals as goal

pub returns-then-not-is_empty : goal.returns-then-not-is_empty
returns-then-not-is_empty c = (
  status.NoHandle,
  c.number.ensures,
  not_closed c.args.cache.now.value c.args.cursor.now.value
      c.is_empty.new.self.value (sym c.is_empty.ensures.empty ∙ c.if-not-is_empty.true) c.is_empty.ensures.same,
)

pub returns-in_default : goal.returns-in_default
returns-in_default c = (
  status.NoHandle,
  c.number-in_default.ensures,
  nothing_closed c.args.cache.now.value c.take.new.self.value c.args.cursor.now.value c.is_empty.new.self.value
      c.in_default.ensures.taken c.take.ensures.none (sym c.is_empty.ensures.empty ∙ c.if-not-is_empty.false) c.is_empty.ensures.same,
)

pub returns-in-Listed : goal.returns-in-Listed
returns-in-Listed c =
    let was = c.in-Some.kept.value in
    let now = c.close.new.kept in
    let free = sym c.is_empty.ensures.empty ∙ c.if-not-is_empty.false in
    let lists = subst (λ (k : Kept). IsListOf k now) c.deref_mut.ensures.value c.in-Listed.ensures in (
      status.Ok,
      c.number-in-Listed.ensures,
      closed c.args.cache.now.value c.take.new.self.value c.args.cursor.now.value c.fill.new.self.value was status.Ok
          c.in-Some.ensures.taken free (inl (refl, c.take.ensures.none, (now, c.fill.ensures, lists))),
    )

pub returns-in-Refused : goal.returns-in-Refused
returns-in-Refused c =
    let was = c.in-Some.kept.value in
    let now = c.close.new.kept in
    let why = c.in-Refused.why in
    let free = sym c.is_empty.ensures.empty ∙ c.if-not-is_empty.false in
    let none = c.is_empty.ensures.same ∙ empty c.args.cursor.now.value free in
    let is = subst (λ (k : Kept). IsRefused k now why) c.deref_mut.ensures.value c.in-Refused.ensures in (
      why,
      c.number-in-Refused.ensures,
      closed c.args.cache.now.value c.fill-in-Refused.new.self.value c.args.cursor.now.value c.is_empty.new.self.value was why
          c.in-Some.ensures.taken free (inr (inl (none, (now, c.fill-in-Refused.ensures, is)))),
    )

pub returns-in-Gone : goal.returns-in-Gone
returns-in-Gone c =
    let was = c.in-Some.kept.value in
    let free = sym c.is_empty.ensures.empty ∙ c.if-not-is_empty.false in
    let none = c.is_empty.ensures.same ∙ empty c.args.cursor.now.value free in
    let lost = subst IsLost c.deref_mut.ensures.value c.in-Gone.ensures in (
      status.OutOfMemory,
      c.number-in-Gone.ensures,
      closed c.args.cache.now.value c.take.new.self.value c.args.cursor.now.value c.is_empty.new.self.value was status.OutOfMemory
          c.in-Some.ensures.taken free (inr (inr (refl, c.take.ensures.none, none, lost))),
    )
