use Rattle.std.proofs.Common.{◌≡◌, Option, refl, rules, subst}
use Rattle.seghandles.specs.declared.kept.Kept.{Kept}
use Rattle.seghandles.specs.declared.status.Status.{Status}
use Rattle.seghandles.specs.declared.status.Status.TheVariants as status
use Rattle.seghandles.specs.Ending.{Listed, ReturnsIn, SeeksIn}
use Rattle.seghandles.specs.Exports.{Out}
use Rattle.seghandles.proofs.Answering.{answered, unanswered}
use Rattle.seghandles.proofs.Ended.{listed, unlisted}
use Rattle.seghandles.proofs.listing.raw_next.Goals as goal

pub returns-in_default : goal.returns-in_default
returns-in_default c =
    unanswered (λ (b a : Option Kept) (returned : Status). Listed b a (c.args.key.now, c.args.key_len.now)
    (c.args.key.now, c.args.key_len.now) (c.args.value.now, c.args.value_len.now) (
      c.args.value.now,
      c.args.value_len.now,
    ) returned) _ _ _
    c.in_default.ensures.taken c.take.ensures.none c.number.ensures ((refl, refl, refl), refl)

pub returns-then-ne : goal.returns-then-ne
returns-then-ne c =
    let was : Kept = c.in-Some.kept.value in
    let mid : Kept = c.seek-sought.new.kept in
    let why : Status = c.seek-sought.result in
    let key : Out = (c.args.key.now, c.args.key_len.now) in
    let value : Out = (c.args.value.now, c.args.value_len.now) in
    let other : ¬ (why ≡ status.Ok) = search rules in
    let sought = subst (λ (k : Kept). SeeksIn k mid why) c.deref_mut.ensures.value c.seek-sought.ensures in
    answered (λ (b a : Option Kept) (returned : Status). Listed b a key key value value returned) _ _ was mid _ why
    c.in-Some.ensures.taken c.fill.ensures c.number-then-ne.ensures
    (unlisted was mid why key value other sought)

pub returns : goal.returns
returns c =
    let was : Kept = c.in-Some.kept.value in
    let mid : Kept = c.seek-sought.new.kept in
    let is : Kept = c.next-status.new.kept in
    let key : Out = (c.args.key.now, c.args.key_len.now) in
    let value : Out = (c.args.value.now, c.args.value_len.now) in
    let key' : Out = (c.next-status.new.key, c.next-status.new.key_len) in
    let value' : Out = (c.next-status.new.value, c.next-status.new.value_len) in
    let ok : c.seek-sought.result ≡ status.Ok = search rules in
    let sought = subst (λ (s : Status). SeeksIn was mid s) ok (subst (λ (k : Kept). SeeksIn k mid c.seek-sought.result) c.deref_mut.ensures.value c.seek-sought.ensures) in
    let next = subst (λ (k : Kept). ReturnsIn k is key key' value value' c.next-status.result) c.deref_mut-2.ensures.value c.next-status.ensures in
    answered (λ (b a : Option Kept) (returned : Status). Listed b a key key' value value' returned) _ _ was is _
    c.next-status.result c.in-Some.ensures.taken c.fill-2.ensures c.number-2.ensures
    (listed was mid is key key' value value' c.next-status.result sought next)
