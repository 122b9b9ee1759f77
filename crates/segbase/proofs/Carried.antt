-- Seats beside those of passes: they carry what a pass has seen to another, and change nothing.
use Rattle.std.proofs.Common.{◌≡◌, ℕ, ◌+◌, ◌*◌, ◌/◌, ◌<◌, List, [], ◌∷◌, ◌++◌, length, set, true, false, refl, sym, ap, ◌∙◌, subst, inl, inr, ⊎_elim, arith, append-nil}
use Rattle.std.proofs.lemmas.Bool.{false≢true}
use Rattle.std.proofs.lemmas.Nat.{div-mul-add}
use Rattle.std.proofs.Math.Nat.{mul-lt-mul_of_pos_right}
use mathlib.Core.Option.{some}
use lib.ListN.{get_elem?}
use Rattle.atomic_table.specs.Table.{Me, Splits, Joins}
use Rattle.atomic_table.proofs.Lists.{at_set, at_snoc}
use Rattle.segmodel.specs.Words.{AreOne, Begins}
use Rattle.segcore.specs.Words.{AllBy, AreWithin, Event, IsLawful, May, row_load, seen, View}
use Rattle.segbase.specs.declared.law.Constants.{Constants}
use Rattle.segbase.specs.Words.{Board, Memo, Pass}
use Rattle.segbase.specs.declared.law.Sight.{Sight}
use Rattle.segbase.specs.declared.pass.PlainPart.{PlainPart}
use Rattle.segbase.specs.PlainPart.{segments_of}
use Rattle.segbase.specs.Minding.{Minds}
use Rattle.segbase.specs.Passes.{sight, view, number, trace, IsPassOf, IsMemo}
use Rattle.segbase.specs.Ruled.{AreApart, AreViews, Rule, IsSight, witness, spent, meets, minding}
use Rattle.segbase.proofs.Allowed.{apart_kept}
use Rattle.segbase.proofs.Ended.{apart_longer, apart_moved, apart_spent}
use Rattle.segbase.proofs.Holders.{has_none, held_longer, held_moved, pass_only}

abbrev pub IsOne : List Sight → Type 0
IsOne views = (i j : ℕ) (a b : Sight) → get_elem? views i ≡ some a → get_elem? views j ≡ some b → a.is_pass ≡ true → b.is_pass ≡ true → a.view.number ≡ b.view.number → i ≡ j

-- a seat of no pass is added, or put in the place of another
pub one_longer : (views : List Sight) (u : Sight) → IsOne views → u.is_pass ≡ false → IsOne (views ++ u ∷ [])
one_longer views u one off i j a b ai bj pa pb e = ⊎_elim
    (λ t. ⊎_elim
    (λ o. one i j a b t o pa pb e)
    (λ o. absurd (false≢true (sym off ∙ (ap (λ (y : Sight). y.is_pass) o ∙ pb))))
    (at_snoc views u b j bj))
    (λ t. absurd (false≢true (sym off ∙ (ap (λ (y : Sight). y.is_pass) t ∙ pa))))
    (at_snoc views u a i ai)

pub one_spent : (views : List Sight) (id : ℕ) (u : Sight) → IsOne views → u.is_pass ≡ false → IsOne (set views id u)
one_spent views id u one off i j a b ai bj pa pb e = ⊎_elim
    (λ t. absurd (false≢true (sym off ∙ (ap (λ (y : Sight). y.is_pass) t.1 ∙ pa))))
    (λ t. ⊎_elim
    (λ o. absurd (false≢true (sym off ∙ (ap (λ (y : Sight). y.is_pass) o.1 ∙ pb))))
    (λ o. one i j a b t.1 o.1 pa pb e)
    (at_set views id j u b bj))
    (at_set views id i u a ai)

pub begins_all : (h : List Event) → Begins [] h
begins_all h = (h, sym (append-nil h))

-- a seat is split off that carries what a pass has seen; the pass may keep another thing in mind
pub carries : (S : Type 0) (k : Constants) (id : ℕ) (x u : Sight) → x.is_pass ≡ true → u.view ≡ x.view → u.met ≡ x.met → u.is_pass ≡ true → u.ended ≡ x.ended
    → Splits {S = S} (Rule k) id x u (witness x)
carries S k id x u pass view met is_pass ended s rule at =
    let old = rule.sights id x at in
    let one = apart_kept s.views id x u rule.one at pass (ap (λ v. v.number) view) in
    record {
      trace = rule.trace;
      views = rule.views;
      lawful = rule.lawful;
      within = rule.within;
      few = rule.few;
      sights = λ j y is. ⊎_elim
          (λ t. ⊎_elim
          (λ o. subst (IsSight rule.views rule.trace) o.1
          (record {
            seen = subst (λ v. Begins v.trace rule.trace) (sym view) old.seen;
            met = subst (λ m. Begins m rule.trace) (sym met) old.met;
            own = λ _. subst (λ v. get_elem? rule.views v.number ≡ some v) (sym view) (old.own pass);
            ended = subst (AreViews rule.views) (sym ended) old.ended;
          }))
          (λ o. rule.sights j y o.1)
          (at_set s.views id j u y t))
          (λ t. subst (IsSight rule.views rule.trace) t (record { seen = old.seen; met = begins_all rule.trace; own = λ yes. absurd (false≢true yes); ended = tt }))
          (at_snoc (set s.views id u) (witness x) y j is);
      held = λ n v is. held_longer (set s.views id u) (witness x) v (held_moved s.views id x u v at (λ has. inl (is_pass, view ∙ pass_only x v pass has)) (rule.held n v is));
      one = one_longer (set s.views id u) (witness x) one refl;
      apart = apart_longer (set s.views id u) (witness x) (apart_moved s.views id x u rule.apart at pass (ap (λ v. v.number) view) ended) refl refl;
    }

-- an item of a list in which one item was put in its own place was there before
same_there : (views : List Sight) (id : ℕ) (x : Sight) → get_elem? views id ≡ some x → (j : ℕ) (y : Sight) → get_elem? (set views id x) j ≡ some y → get_elem? views j ≡ some y
same_there views id x at j y is = ⊎_elim
    (λ t. subst (λ (z : Sight). get_elem? views j ≡ some z) t.1 (subst (λ k. get_elem? views k ≡ some x) (sym t.0) at))
    (λ t. t.1)
    (at_set views id j x y is)

-- a seat of no pass is split in two of the same
pub copies : (S : Type 0) (k : Constants) (id : ℕ) (x : Sight) → x.is_pass ≡ false → x.ended ≡ [] → Splits {S = S} (Rule k) id x x x
copies S k id x off none s rule at =
    let there = same_there s.views id x at in
    let one : IsOne (set s.views id x) = λ i j a b ai bj pa pb e. rule.one i j a b (there i a ai) (there j b bj) pa pb e in
    let apart : AreApart (set s.views id x) = λ i j a b ai bj pb. rule.apart i j a b (there i a ai) (there j b bj) pb in
    record {
      trace = rule.trace;
      views = rule.views;
      lawful = rule.lawful;
      within = rule.within;
      few = rule.few;
      sights = λ j y is. ⊎_elim
          (λ t. rule.sights j y (there j y t))
          (λ t. subst (IsSight rule.views rule.trace) t (rule.sights id x at))
          (at_snoc (set s.views id x) x y j is);
      held = λ n v is. held_longer (set s.views id x) x v (held_moved s.views id x x v at (λ has. has) (rule.held n v is));
      one = one_longer (set s.views id x) x one off;
      apart = apart_longer (set s.views id x) x apart off none;
    }

pub tells : (S : Type 0) (k : Constants) (id other : ℕ) (x w : Sight) → x.is_pass ≡ true → w.is_pass ≡ false → w.ended ≡ [] → Joins {S = S} (Rule k) id x other w (meets x w) spent
tells S k id other x w pass off none s rule at apart at' =
    let old = rule.sights id x at in
    let u : Sight = meets x w in
    let views = set s.views id u in
    let carried : get_elem? s.views other ≡ some w = ⊎_elim (λ t. absurd (apart t.0)) (λ t. t.1) (at_set s.views id other u w at') in
    let one = apart_kept s.views id x u rule.one at pass refl in
    record {
      trace = rule.trace;
      views = rule.views;
      lawful = rule.lawful;
      within = rule.within;
      few = rule.few;
      sights = λ j y is. ⊎_elim
          (λ t. subst (IsSight rule.views rule.trace) t.1 (record { seen = begins_all rule.trace; met = begins_all rule.trace; own = λ yes. absurd (false≢true yes); ended = tt }))
          (λ t. ⊎_elim
          (λ o. subst (IsSight rule.views rule.trace) o.1 (record { seen = old.seen; met = (rule.sights other w carried).seen; own = old.own; ended = old.ended }))
          (λ o. rule.sights j y o.1)
          (at_set s.views id j u y t.1))
          (at_set views other j spent y is);
      held = λ n v is. held_moved views other w spent v at' (λ has. absurd (has_none w v off none has)) (held_moved s.views id x u v at (λ has. inl (pass, pass_only x v pass has)) (rule.held n v is));
      one = one_spent views other spent one refl;
      apart = apart_spent views other spent (apart_moved s.views id x u rule.apart at pass refl refl) refl refl;
    }

abbrev rest : List Event → List Event
rest [] = []
rest (e ∷ es) = es

both_end : (xs ys f g : List Event) → xs ++ f ≡ ys ++ g → AreOne f g
both_end [] ys f g e = inr (ys, e)
both_end (x ∷ xs) [] f g e = inl (x ∷ xs, sym e)
both_end (x ∷ xs) (y ∷ ys) f g e = both_end xs ys f g (ap rest e)

-- of two traces that begin one, one begins the other
pub are_one : (f g h : List Event) → Begins f h → Begins g h → AreOne f g
are_one f g h a b = both_end a.0 b.0 f g (sym a.1 ∙ b.1)

-- the first segment of a pass is its own
pub own_first : (n each : ℕ) → 0 < each → n * each / each ≡ n
own_first n each more = ap (λ x. x / each) (let e : n * each ≡ n * each + 0 = omega arith in e) ∙ div-mul-add n each 0 more

pub within_first : (n each passes : ℕ) → n < passes → 0 < each → n * each < passes * each
within_first n each passes few more = mul-lt-mul_of_pos_right few more

-- a pass with the same view is the same pass
same_pass : (b : Board) (p q : Pass) → IsPassOf b p → q.seat.table_id ≡ p.seat.table_id → q.seat.me.1 ≡ p.seat.me.1
    → view q ≡ view p → (sight q).is_pass ≡ (sight p).is_pass → IsMemo b p (sight q).memo → q.plain ≡ p.plain
    → IsPassOf b q
same_pass b p q is table bare same pass minds plain =
    let of : number q ≡ number p = ap (λ (v : View). v.number) same in record {
      table = table ∙ is.table;
      bare = bare ∙ is.bare;
      is_pass = pass ∙ is.is_pass;
      valid = is.valid;
      lawful = subst (λ (v : View). IsLawful b.shape v.trace) (sym same) is.lawful;
      within = subst (λ (v : View). AreWithin b.limits (seen v.trace)) (sym same) is.within;
      one_of = rw of is.one_of;
      alone = λ one. subst (λ (v : View). AllBy v.number v.trace) (sym same) (is.alone one);
      minds = subst (λ (v : View). Minds b.shape v.trace v.number (sight q).memo) (sym same) minds;
      numbered = ap (λ (x : PlainPart). x.number) plain ∙ (is.numbered ∙ sym of);
      first = ap (λ (x : PlainPart). x.first) plain ∙ (is.first ∙ ap (λ n. n * b.shape.segments_each) (sym of));
      rows = ap (λ (x : PlainPart). x.rows) plain ∙ is.rows;
      owns = ap (λ (x : PlainPart). length (segments_of x)) plain ∙ is.owns;
    }

-- one that was told of another
pub retold : (b : Board) (p q : Pass) (w : Sight) → IsPassOf b p → q.seat.table_id ≡ p.seat.table_id → q.seat.me ≡ (meets p.seat.me.0 w, p.seat.me.1) → q.plain ≡ p.plain → IsPassOf b q
retold b p q w is table me plain = same_pass b p q is table (ap (λ (m : Me (Unit {0}) Sight). m.1) me)
    (ap (λ (m : Me (Unit {0}) Sight). m.0.view) me) (ap (λ (m : Me (Unit {0}) Sight). m.0.is_pass) me)
    (subst (λ (m : Memo). IsMemo b p m) (sym (ap (λ (m : Me (Unit {0}) Sight). m.0.memo) me)) is.minds) plain

-- and one that keeps another thing in mind
pub reminded : (b : Board) (p q : Pass) (memo : Memo) → IsPassOf b p → IsMemo b p memo
    → q.seat.table_id ≡ p.seat.table_id → q.seat.me ≡ (minding memo p.seat.me.0, p.seat.me.1) → q.plain ≡ p.plain
    → IsPassOf b q
reminded b p q memo is minds table me plain =
    same_pass b p q is table (ap (λ (m : Me (Unit {0}) Sight). m.1) me)
    (ap (λ (m : Me (Unit {0}) Sight). m.0.view) me) (ap (λ (m : Me (Unit {0}) Sight). m.0.is_pass) me)
    (subst (λ (m : Memo). IsMemo b p m) (sym (ap (λ (m : Me (Unit {0}) Sight). m.0.memo) me)) minds) plain

-- it may load the first word of its first row
pub own_row : (b : Board) (p : Pass) → IsPassOf b p → May b.shape (trace p) (number p) (row_load p.plain.first 0 0)
own_row b p is =
    let n = number p in let each = b.shape.segments_each in
    let more : 0 < each = is.valid.0.0.1.0 in
    (subst (λ s. s < b.shape.passes * each) (sym is.first) (within_first n each b.shape.passes is.one_of more), is.valid.0.1.0, omega arith, inl (ap (λ s. s / each) is.first ∙ own_first n each more))

-- a pass that was only looked at is the same pass
pub as_was : (b : Board) (p q : Pass) → IsPassOf b p → q.seat.table_id ≡ p.seat.table_id → q.seat.me ≡ (p.seat.me.0, p.seat.me.1) → q.plain ≡ p.plain → IsPassOf b q
as_was b p q is table me plain = same_pass b p q is table (ap (λ (m : Me (Unit {0}) Sight). m.1) me)
    (ap (λ (m : Me (Unit {0}) Sight). m.0.view) me) (ap (λ (m : Me (Unit {0}) Sight). m.0.is_pass) me)
    (subst (λ (m : Memo). IsMemo b p m) (sym (ap (λ (m : Me (Unit {0}) Sight). m.0.memo) me)) is.minds) plain
