use Rattle.std.proofs.Common.{◌≡◌, ◌≤◌, List, true, false, length, rules, vec_len, refl, sym, ap, ◌∙◌, subst, arith}
use Rattle.std.proofs.lemmas.Bool.{false≢true}
use Rattle.std.specs.Global.{Vec}
use Rattle.std.specs.List.{AllZip}
use Rattle.segclient.proofs.Places.{zip_long}
use Rattle.seghandles.specs.declared.home.Home.{Home}
use Rattle.seghandles.specs.Home.{IsSameHome}
use Rattle.seghandles.proofs.Turned.{all_same, is_refused}
use Rattle.seghandles.proofs.closing.close_cache.Goals as goal

pub returns-then-not-has_all : goal.returns-then-not-has_all
returns-then-not-has_all c =
    let cache = c.args.cache in
    let out : c.has_all.result ≡ false = search rules in
    (cache, refl, all_same cache.homes.items, λ all. false≢true (sym out ∙ c.has_all.ensures.1 all))

pub returns-in-Listed : goal.returns-in-Listed
returns-in-Listed c =
    let all : c.has_all.result ≡ true = search rules in
    (c.turn.new.self, refl, c.has_all.ensures.0 all, record { before = c.new-cursor.result; begins = c.new-cursor.ensures.homes ∙ c.into_homes-homes.ensures.homes; turns = c.in-Listed.ensures })

pub new-same-requires : goal.new-same-requires
new-same-requires c =
    let same = c.in-Refused.ensures.same in
    let homes : List Home = c.new-cursor.result.homes.items in
    let left : List Home = c.turn.new.self.homes.items in
    let long : length left ≡ length homes = zip_long IsSameHome homes left same in
    let some : 1 ≤ vec_len c.args.cache.homes = c.args.cache.some in
    let was : vec_len c.args.cache.homes ≡ length c.args.cache.homes.items = c.args.cache.homes.ok.0 in
    let moved : length homes ≡ length c.args.cache.homes.items = ap (λ (v : Vec Home). length v.items) (c.new-cursor.ensures.homes ∙ c.into_homes-homes.ensures.homes) in
    let ends : length c.into_homes-left.result.items ≡ length left = ap (λ (v : Vec Home). length v.items) c.into_homes-left.ensures.homes in
    let have : vec_len c.into_homes-left.result ≡ length c.into_homes-left.result.items = c.into_homes-left.result.ok.0 in
    record { some = omega (arith, long, some, was, moved, ends, have) }

pub returns-in-Refused : goal.returns-in-Refused
returns-in-Refused c =
    let cache = c.args.cache in
    let same = c.new-same.result in
    let leaves = c.in-Refused.ensures in
    let all : c.has_all.result ≡ true = search rules in
    let begins = c.new-cursor.ensures.homes ∙ c.into_homes-homes.ensures.homes in
    let ends = c.new-same.ensures.homes ∙ c.into_homes-left.ensures.homes in (
      same,
      refl,
      subst (λ (v : Vec Home). AllZip IsSameHome v.items same.homes.items) begins
          (subst (λ (v : Vec Home). AllZip IsSameHome c.new-cursor.result.homes.items v.items) (sym ends) leaves.same),
      is_refused cache leaves.among leaves.last c.in-Refused.why (c.has_all.ensures.0 all) (sym (ap (λ (v : Vec Home). v.items) begins) ∙ leaves.homes) leaves.is_refusal,
    )

pub returns-in-Gone : goal.returns-in-Gone
returns-in-Gone c =
    let all : c.has_all.result ≡ true = search rules in
    (c.has_all.ensures.0 all, record { before = c.new-cursor.result; after = c.turn.new.self; begins = c.new-cursor.ensures.homes ∙ c.into_homes-homes.ensures.homes; loses = c.in-Gone.ensures })
