-- What a table has stored is within the limits of the table.
use Rattle.std.proofs.Common.{◌≡◌, ℕ, ◌*◌, ◌%◌, ◌^◌, Bool, true, false, cond, eqb, List, [], ◌∷◌, ◌++◌, Option, Some, None, refl, sym, ap, subst, option_map, nat_lt}
use Rattle.std.proofs.lemmas.Option.{same_Some, none-some}
use Rattle.segword.specs.Words.{IsWithin, Limits, Shape}
use Rattle.segmodel.specs.declared.request.Reply.TheVariants.{Stored, NotStored, Exists, NotFound, Deleted}
use Rattle.segmodel.specs.declared.entry.Entry.TheVariants.{Wrote, Evicted, Refilled, Moved}
use Rattle.segmodel.specs.Words.{after, Begins, Cached, Entry, key_of, reads, Reply, Request, standing, tag_of, value_of}
use Rattle.segmodel.specs.Cache.{unless_expired, with_segment}
use Rattle.segcore.specs.declared.event.Event.TheVariants as event
use Rattle.segcore.specs.declared.event.Leaving.TheVariants.{Deletes, Evicts}
use Rattle.segcore.specs.Words.{adds, bump, chain, clear, draw, enter, Event, fill, glance, info_look, leave, Leaving, link, look, none_reading, packed, release, relink, row_load, row_store, Step, take, told, unless_own}
use Rattle.segcore.specs.Event.{seen}
use Rattle.segcore.specs.Mark.{same_key}
use Rattle.segcore.specs.Standing.{cached}
use Rattle.segcore.specs.Within.{AreWithin, LinksWithin}
use Rattle.segcore.proofs.Caches.{put, stands, stands_evicted, stands_moved, stands_wrote}
use Rattle.segcore.proofs.Keys.{key_true}

-- ---- what stands was stored

moved_value : (s : ℕ) (o : Option Cached) (x : Cached) → option_map (with_segment s) o ≡ Some x → (y : Cached) × (o ≡ Some y) × (y.value ≡ x.value)
moved_value s None x is = absurd (none-some x is)
moved_value s (Some y) x is = (y, refl, ap (λ (c : Cached). c.value) (same_Some (with_segment s y) x is))

module _ (z : Shape) (m : Limits) where
  abbrev Fits : List ℕ → Option Cached → Type 0
  Fits k o = (x : Cached) → o ≡ Some x → IsWithin m k x.value

  moved_fits : (s : ℕ) (k : List ℕ) (o : Option Cached) → Fits k o → Fits k (option_map (with_segment s) o)
  moved_fits s k o fits = λ x is. let y = moved_value s o x is in subst (λ v. IsWithin m k v) y.2 (fits y.0 y.1)

  none_fits : (k : List ℕ) → Fits k None
  none_fits k = λ x is. absurd (none-some x is)

  either_fits : (k : List ℕ) (t : Bool) (a b : Option Cached) → (t ≡ true → Fits k a) → Fits k b → Fits k (cond t a b)
  either_fits k true a b here else = here refl
  either_fits k false a b here else = else

  put_fits : (p : ℕ) (q : Request) (y : Reply) (s : Option ℕ) (h : List Entry) (k : List ℕ) → AreWithin m (Wrote p q y s ∷ h) → key_of q ≡ k → Fits k (stands z h k) → Fits k (put q y s (stands z h k))
  put_fits p q Stored (Some s) h k all same old = λ x is.
      subst (λ v. IsWithin m k v) (ap (λ (c : Cached). c.value) (same_Some (cached (value_of q) s) x is)) (subst (λ l. IsWithin m l (value_of q)) same all.0)
  put_fits p q Stored None h k all same old = old
  put_fits p q Deleted s h k all same old = none_fits k
  put_fits p q NotStored s h k all same old = old
  put_fits p q Exists s h k all same old = old
  put_fits p q NotFound s h k all same old = old

  stored_fits : (h : List Entry) (k : List ℕ) → AreWithin m h → Fits k (stands z h k)
  stored_fits [] k all = none_fits k
  stored_fits (Wrote p q y s ∷ h) k all =
      let old = stored_fits h k all.1 in
      subst (Fits k) (sym (stands_wrote z p q y s h k)) (either_fits k (same_key (key_of q) k) (put q y s (stands z h k)) (stands z h k)
      (λ t. put_fits p q y s h k all (key_true (key_of q) k t) old) old)
  stored_fits (Evicted p k' s ∷ h) k all =
      subst (Fits k) (sym (stands_evicted z p k' s h k)) (either_fits k (same_key k' k) None (stands z h k) (λ _. none_fits k) (stored_fits h k all.1))
  stored_fits (Refilled p s d ∷ h) k all = stored_fits h k all.1
  stored_fits (Moved p k' f s ∷ h) k all =
      let old = stored_fits h k all.1 in
      subst (Fits k) (sym (stands_moved z p k' f s h k)) (either_fits k (same_key k' k) (option_map (with_segment s) (stands z h k)) (stands z h k)
      (λ _. moved_fits s k (stands z h k) old) old)

-- what is read stands
read_stands : (deadline : ℕ → ℕ) (now : ℕ) (item : Option Cached) (value : List ℕ)
    → option_map (λ (x : Cached). x.value) (unless_expired deadline now item) ≡ Some value → (x : Cached) × (item ≡ Some x) × (x.value ≡ value)
read_stands deadline now None value e = absurd (none-some value e)
read_stands deadline now (Some x) value e = by (nat_lt now (deadline x.segment)) e
  where
    by : (b : Bool) → option_map (λ (y : Cached). y.value) (cond b (Some x) None) ≡ Some value → (y : Cached) × (Some x ≡ Some y) × (y.value ≡ value)
    by true same = (x, refl, same_Some x.value value same)
    by false same = absurd (none-some value same)

pub stands_within : (z : Shape) (m : Limits) (h : List Entry) (k : List ℕ) → AreWithin m h → (x : Cached) → standing (after z h) k ≡ Some x → IsWithin m k x.value
stands_within z m h k all = stored_fits z m h k all

pub reads_within : (z : Shape) (m : Limits) (h : List Entry) (now : ℕ) (key value : List ℕ) → AreWithin m h → reads (after z h) now key ≡ Some value → IsWithin m key value
reads_within z m h now key value all is =
    let x = read_stands (after z h).deadline now (standing (after z h) key) value is in
    subst (λ v. IsWithin m key v) x.2 (stored_fits z m h key all x.0 x.1)

-- what was seen earlier is within the limits, too
pub began_within : (m : Limits) (g h : List Entry) → Begins g h → AreWithin m h → AreWithin m g
began_within m g h begins all = rest begins.0 (subst (AreWithin m) begins.1 all)
  where
    rest : (more : List Entry) → AreWithin m (more ++ g) → AreWithin m g
    rest [] l = l
    rest (e ∷ more) l = rest more l.1

-- ---- steps

module _ (m : Limits) (h : List Event) (all : AreWithin m (seen h)) where
  abbrev Stay : List Event → Type 0
  Stay es = AreWithin m (seen (es ++ h))

  either_stays : (t : Bool) (es fs : List Event) → Stay es → Stay fs → Stay (cond t es fs)
  either_stays true es fs a b = a
  either_stays false es fs a b = b

  bounced : (own : Bool) (p b : ℕ) → Stay (unless_own own (event.Bounced p b))
  bounced true p b = all
  bounced false p b = all

  glanced : (own : Bool) (p b : ℕ) → Stay (unless_own own (event.Glanced p b))
  glanced true p b = all
  glanced false p b = all

  refused : (p : ℕ) (said : Option (Request × Reply)) → Stay (told p said)
  refused p None = all
  refused p (Some said) = (tt, all)

  left : (p : ℕ) (k : List ℕ) (n : ℕ) (why : Leaving) → Stay (event.Unlinked p k n why ∷ [])
  left p k n (Deletes now) = (tt, all)
  left p k n (Evicts s) = (tt, all)

  stay : (st : Step) (p found : ℕ) → LinksWithin m st → Stay (adds st p found)
  stay (take b own) p found may = either_stays (eqb (found % 2) 0) (event.Took p b ∷ []) (unless_own own (event.Bounced p b)) all (bounced own p b)
  stay (release b counted said) p found may = refused p said
  stay (info_look b) p found may = all
  stay (glance b own) p found may = either_stays (eqb (found % 2) 0) [] (unless_own own (event.Glanced p b)) all (glanced own p b)
  stay (look of) p found may = all
  stay (link q s r n of old) p found may = either_stays (eqb found old) (event.Linked p q s r n ∷ []) [] (may, all) all
  stay (relink k f i fr s r n of) p found may = either_stays (eqb found (packed (tag_of k) fr f i)) (event.Relinked p k f i s r n ∷ []) [] (tt, all) all
  stay (clear k n of old why) p found may = either_stays (eqb found old) (event.Unlinked p k n why ∷ []) [] (left p k n why) all
  stay (draw b depth from) p found may = either_stays (eqb found from) (event.Drew p b depth from ∷ []) [] all all
  stay (fill b number w) p found may = all
  stay (chain b of old number) p found may = either_stays (eqb found old) (event.Chained p b number ∷ []) [] all all
  stay (bump b n of tag s r fr raised) p found may = either_stays (eqb found (packed tag fr s r)) (event.Bumped p s r raised ∷ []) [] all all
  stay (row_store s r i w) p found may = all
  stay (row_load s r i) p found may = all
  stay (enter s) p found may = all
  stay (leave s) p found may = all
  stay (none_reading s old d) p found may = either_stays (eqb found (old * 2 ^ 32)) (event.Refilled p s d ∷ []) [] (tt, all) all

pub steps_within : (m : Limits) (st : Step) (p found : ℕ) (h : List Event) → LinksWithin m st → AreWithin m (seen h) → AreWithin m (seen (adds st p found ++ h))
steps_within m st p found h may all = stay m h all st p found may
