-- Segments of a ring that are tried in turn, all but the current one, and at last that one.
use Rattle.std.proofs.Common.{◌≡◌, ◌≢◌, ◌⊎◌, ℕ, ◌+◌, ◌<◌, ◌≤◌, Bool, true, false, Option, Some, None, refl, sym, ap, ◌∙◌, subst, inl, inr}
use mir.Val.{bool_byte}
use Rattle.std.proofs.lemmas.Bool.{false≢true, cases_eq}
use Rattle.std.proofs.lemmas.Option.{none-some, same_Some}
use Rattle.segmodel.specs.Words.{owner}
use Rattle.segbase.specs.Words.{Board, current_of, number, Pass}
use Rattle.segstore.specs.Words.{GoesOn}
use Rattle.segpolicy.specs.Words.{Cycle, next_of, turned}
use Rattle.segtally.specs.Rings.{IsOwnRing}
use Rattle.segtally.proofs.Turns.{IsAhead, all_ahead, still_ahead, none_ahead}
use Rattle.segclient.specs.PutCalls.{IsRefused}
use Rattle.segclient.specs.PutParts.{effort_from, GivesUp, MakesRoom}
use Rattle.segclient.proofs.Calls.{arranges_as, arranges_none}
use Rattle.segclient.proofs.Rooms.{PassesOver, passes_on, gives_up, no_room, refused_current}

-- calls gave up none, and each segment but the current one was refused or is among so many that come next
abbrev pub Tried : Board → ℕ → Option ℕ → Cycle → ℕ → ℕ → ℕ → Pass → Pass → Type 0
Tried b deadline current ring left most keys p q =
    (over : PassesOver b deadline most keys p q)
    × ((segment : ℕ) → owner b.shape segment ≡ number p → current ≢ Some segment → IsAhead ring left segment ⊎ IsRefused segment over.calls)

module _ (b : Board) (deadline : ℕ) (current : Option ℕ) (ring : Cycle) (p : Pass) (some : 0 < b.shape.segments_each) (own : IsOwnRing b.shape (number p) ring) where
  -- none was tried yet
  pub none_tried : Tried b deadline current ring b.shape.segments_each 0 0 p p
  none_tried = (
    arranges_none b None deadline p,
    λ segment is other. inl (all_ahead b.shape (number p) ring some own segment is),
  )

  module _ (left most keys : ℕ) (q : Pass) (over : Tried b deadline current ring (left + 1) most keys p q) where
    -- the next one is the current one, which is passed over
    pub skipped : (total : ℕ) → most ≤ total → current ≡ Some (next_of ring) → Tried b deadline current (turned ring) left total keys p q
    skipped total enough is = (
      arranges_as b None deadline most total (effort_from 0 0 keys) (effort_from 0 0 keys) p q enough refl refl refl over.0,
      λ segment mine other. elim (over.1 segment mine other) [
        | inl ahead ↦ inl (still_ahead b.shape (number p) ring some own segment mine left (λ e. other (is ∙ ap Some (sym e))) ahead)
        | inr was ↦ inr was
      ],
    )

    -- the next one was refused
    pub refused_next : (r : Pass) (segment more total sum : ℕ) → segment ≡ next_of ring
        → owner b.shape segment ≡ number q → current_of q ≡ current → current ≢ Some segment → most + 2 ≤ total
        → sum ≡ keys + more → GivesUp b segment deadline false more q r
        → Tried b deadline current (turned ring) left total sum p r
    refused_next r segment more total sum at mine is apart enough all gives =
        let to = passes_on b deadline most keys p q r over.0 segment more mine total sum enough all gives in (
          to.next,
          λ other its ne. elim (over.1 other its ne) [
            | inl ahead ↦ elim (cases_eq other segment) [
              | inl same ↦ inr (subst (λ s. IsRefused s to.next.calls) (sym same) to.here)
              | inr apart ↦ inl (still_ahead b.shape (number p) ring some own other its left (λ e. apart (e ∙ sym at)) ahead)
            ]
            | inr was ↦ inr (to.before other was)
          ],
        )

  -- ---- all were

  module _ (most keys : ℕ) (q : Pass) (over : Tried b deadline current ring 0 most keys p q) where
    pub all_refused : (segment : ℕ) → owner b.shape segment ≡ number p → current ≢ Some segment → IsRefused segment over.0.calls
    all_refused segment mine other = elim (over.1 segment mine other) [
      | inl ahead ↦ absurd (none_ahead b.shape (number p) ring some own segment mine ahead)
      | inr was ↦ was
    ]

    -- and none is current: there is no room
    pub none_left : (total : ℕ) → most ≤ total → current ≡ None → current_of q ≡ current → MakesRoom b None deadline total false (effort_from 0 0 keys) p q
    none_left total enough none is = record {
      arranges = arranges_as b None deadline most total (effort_from 0 0 keys) (effort_from 0 0 keys) p q enough refl refl refl over.0;
      room = no_room b q (is ∙ none);
      until = λ made. absurd (false≢true made);
      refused = λ made fits segment mine. all_refused segment mine (λ e. absurd (none-some segment (sym none ∙ e)));
    }

    -- and then the current one is given up, or not
    module _ (last : ℕ) (is : current ≡ Some last) (now : current_of q ≡ current) (on : GoesOn b p q) where
      pub at_last : (r : Pass) (made : Bool) (more total refilled sum : ℕ) → owner b.shape last ≡ number q
          → most + 2 ≤ total → sum ≡ keys + more → refilled ≡ bool_byte made → GivesUp b last deadline made more q r
          → MakesRoom b None deadline total made (effort_from refilled 0 sum) p r
      at_last r true more total refilled sum mine enough all one gives =
          subst (λ n. MakesRoom b None deadline total true (effort_from n 0 sum) p r) (sym one) (gives_up b deadline most keys p q r over.0 last more mine total sum enough all gives)
      at_last r false more total refilled sum mine enough all one gives =
          let to = passes_on b deadline most keys p q r over.0 last more mine total sum enough all gives in
          subst (λ n. MakesRoom b None deadline total false (effort_from n 0 sum) p r) (sym one) (record {
            arranges = to.next;
            room = no_room b r (refused_current b last deadline more q r on.quiet (now ∙ is) gives);
            until = λ made. absurd (false≢true made);
            refused = λ made fits segment its. elim (cases_eq segment last) [
              | inl same ↦ subst (λ s. IsRefused s to.next.calls) (sym same) to.here
              | inr apart ↦ to.before segment (all_refused segment its (λ e. apart (sym (same_Some last segment (sym is ∙ e)))))
            ];
          })
