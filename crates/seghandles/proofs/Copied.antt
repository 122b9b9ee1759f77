-- What a get, a gets and a read of what is held told of a value that they copied.
use Rattle.std.proofs.Common.{◌≡◌, ◌≤◌, ℕ, List, length, Option, Some, None, IsSomeAnd, Result, sym, ap, subst, inl, inr, arith}
use Rattle.std.proofs.lemmas.Bool.{cases_lt}
use Rattle.segmodel.specs.declared.answer.GetAnswer.TheVariants as get
use Rattle.segmodel.specs.declared.answer.GetsAnswer.TheVariants as gets
use Rattle.segmodel.specs.Words.{GetAnswer, GetsAnswer}
use Rattle.segread.specs.Words.{CopiesGet, CopiesGets, GetsIntoAnswer, HeldRow, IntoAnswer}
use Rattle.segindex.specs.declared.share.Share.{Share}
use Rattle.segindex.specs.Words.{board_of}
use Rattle.segclient.specs.Made.{Gets, GetsInto, GetsVersion, GetsVersionInto, ReadsHeldRow, ReadsKeptInto}
use Rattle.seghandles.specs.declared.client.SharedClient.{SharedClient}
use Rattle.seghandles.specs.declared.guest.Guest.{Guest}
use Rattle.seghandles.specs.declared.status.Status.{Status}
use Rattle.seghandles.specs.Calls.{MakesCall}
use Rattle.seghandles.specs.Copying.{CopiesHeld, HeldCopied, TellsHeld, TellsLength, TellsVersion}
use Rattle.seghandles.specs.Guest.{At, MakesCall as MakesItsCall, ReadsHeld}
use Rattle.seghandles.specs.Reading.{ReturnsGet, ReturnsGets, ReturnsHeld}

-- it returns as a get whose value is copied out
pub returns_copy : (answer : GetAnswer) (told : IntoAnswer) (returned : Status) (old new : List ℕ) (len next : ℕ)
    → CopiesGet answer told old new → TellsLength told returned len next → ReturnsGet answer returned (old, len) (new, next)
returns_copy (get.Found value) told returned old new len next x tells = record {
  len = elim (cases_lt (length old) (length value)) [
    | inl p ↦ (subst (λ (t : IntoAnswer). TellsLength t returned len next) (x.short (λ le. absurd (omega (arith, p, le)))).0 tells).1
    | inr p ↦ (subst (λ (t : IntoAnswer). TellsLength t returned len next) (x.fits (omega (arith, p))).0 tells).1
  ];
  copies = record {
    fits = λ fits. ((subst (λ (t : IntoAnswer). TellsLength t returned len next) (x.fits fits).0 tells).0, (x.fits fits).1);
    short = λ short. ((subst (λ (t : IntoAnswer). TellsLength t returned len next) (x.short short).0 tells).0, (x.short short).1);
  };
}
returns_copy get.Miss told returned old new len next x tells =
    let t = subst (λ (t : IntoAnswer). TellsLength t returned len next) x.0 tells in (t.0, λ i. (x.1 i, t.1 i))
returns_copy get.Busy told returned old new len next x tells =
    let t = subst (λ (t : IntoAnswer). TellsLength t returned len next) x.0 tells in (t.0, λ i. (x.1 i, t.1 i))

-- the get behind a call whose value went into a buffer
module _ (key : List ℕ) (now : ℕ) (told : IntoAnswer) (bytes next : List ℕ) (old new : SharedClient) (call : MakesCall key (At now (GetsInto key told bytes next)) old new) where
  abbrev pub answer_of : GetAnswer
  answer_of = call.calls.calls.does.calls.made.made.answer

  pub call_of : MakesCall key (At now (Gets key answer_of)) old new
  call_of =
      let shard = call.calls.calls in let made = shard.does.calls in record {
        calls = record {
          calls = record {
            was = shard.was;
            is = shard.is;
            there = shard.there;
            does = record {
              calls = record { index = made.index; made = record { before = made.made.before; sets = made.made.sets; made = made.made.made.reads } };
              held = shard.does.held;
            };
            guests = shard.guests;
          };
          holds = call.calls.holds;
        };
        wants = call.wants;
      }

  pub copies_of : CopiesGet answer_of told bytes next
  copies_of = call.calls.calls.does.calls.made.made.copies

-- ---- with the version

-- it returns as a gets whose value is copied out
pub returns_version : (answer : GetsAnswer) (told : GetsIntoAnswer) (returned : Status) (old new : List ℕ) (len next version next_version : ℕ)
    → CopiesGets answer told old new → TellsVersion told returned len next version next_version
    → ReturnsGets answer returned (old, len) (new, next) version next_version
returns_version (gets.Found value of) told returned old new len next version next_version x tells =
    let Tells : GetsIntoAnswer → Type 0 = λ t. TellsVersion t returned len next version next_version in
    let fits = λ (fits : length value ≤ length old). subst Tells (x.fits fits).0 tells in
    let short = λ (short : ¬ (length value ≤ length old)). subst Tells (x.short short).0 tells in
    let told : (next ≡ length value) × (next_version ≡ of) = elim (cases_lt (length old) (length value)) [
      | inl p ↦ (let t = short (λ le. absurd (omega (arith, p, le))) in (t.1, t.2))
      | inr p ↦ (let t = fits (omega (arith, p)) in (t.1, t.2))
    ] in (
      record {
        len = told.0;
        copies = record { fits = λ le. ((fits le).0, (x.fits le).1); short = λ lt. ((short lt).0, (x.short lt).1) };
      },
      told.1,
    )
returns_version gets.Miss told returned old new len next version next_version x tells =
    let t = subst (λ (t : GetsIntoAnswer). TellsVersion t returned len next version next_version) x.0 tells in ((t.0, λ i. (x.1 i, t.1 i)), t.2)
returns_version gets.Busy told returned old new len next version next_version x tells =
    let t = subst (λ (t : GetsIntoAnswer). TellsVersion t returned len next version next_version) x.0 tells in ((t.0, λ i. (x.1 i, t.1 i)), t.2)

-- the gets behind a call whose value went into a buffer
module _ (key : List ℕ) (now : ℕ) (told : GetsIntoAnswer) (bytes next : List ℕ) (old new : SharedClient) (call : MakesCall key (At now (GetsVersionInto key told bytes next)) old new) where
  abbrev pub version_answer_of : GetsAnswer
  version_answer_of = call.calls.calls.does.calls.made.made.answer

  pub version_call_of : MakesCall key (At now (GetsVersion key version_answer_of)) old new
  version_call_of =
      let shard = call.calls.calls in let made = shard.does.calls in record {
        calls = record {
          calls = record {
            was = shard.was;
            is = shard.is;
            there = shard.there;
            does = record {
              calls = record { index = made.index; made = record { before = made.made.before; sets = made.made.sets; made = made.made.made.reads } };
              held = shard.does.held;
            };
            guests = shard.guests;
          };
          holds = call.calls.holds;
        };
        wants = call.wants;
      }

  pub version_copies_of : CopiesGets version_answer_of told bytes next
  version_copies_of = call.calls.calls.does.calls.made.made.copies

-- ---- what is held

-- it returns as a read of what is held whose value is copied out
pub returns_held : (value : Option (List ℕ)) (told : Option (Result ℕ ℕ)) (returned : Status) (old new : List ℕ) (len next : ℕ)
    → CopiesHeld value told old new → TellsHeld told returned len next → ReturnsHeld value returned (old, len) (new, next)
returns_held (Some value) (Some copied) returned old new len next x tells = record {
  len = elim (cases_lt (length old) (length value)) [
    | inl p ↦ (subst (λ (t : Result ℕ ℕ). TellsHeld (Some t) returned len next) (x.short (λ le. absurd (omega (arith, p, le)))).0 tells).1
    | inr p ↦ (subst (λ (t : Result ℕ ℕ). TellsHeld (Some t) returned len next) (x.fits (omega (arith, p))).0 tells).1
  ];
  copies = record {
    fits = λ fits. ((subst (λ (t : Result ℕ ℕ). TellsHeld (Some t) returned len next) (x.fits fits).0 tells).0, (x.fits fits).1);
    short = λ short. ((subst (λ (t : Result ℕ ℕ). TellsHeld (Some t) returned len next) (x.short short).0 tells).0, (x.short short).1);
  };
}
returns_held (Some value) None returned old new len next x tells = absurd x
returns_held None told returned old new len next x tells =
    let t = subst (λ (t : Option (Result ℕ ℕ)). TellsHeld t returned len next) x.0 tells in (t.0, λ i. (x.1 i, t.1 i))

-- what a guest's share keeps was read, and went into a buffer
pub held_copied : (kept : Option HeldRow) (told : Option (Result ℕ ℕ)) (bytes next : List ℕ) (old new : Guest)
    → old.share.held ≡ kept → new.share ≡ old.share
    → ReadsKeptInto kept told bytes next (board_of old.share.index.value) old.member new.member
    → HeldCopied (λ value. ReadsHeld value old new) told bytes next
held_copied (Some row) (Some copied) bytes next old new at same x = record {
  value = Some x.value;
  reads = subst (λ held. IsSomeAnd held (λ row. MakesItsCall (ReadsHeldRow row x.value) old new)) (sym at)
      (record { calls = record { index = ap (λ (share : Share). share.index.value) same; made = x.reads }; held = ap (λ (share : Share). share.held) same });
  copies = x.copies;
}
held_copied (Some row) None bytes next old new at same x = absurd x
held_copied None told bytes next old new at same x = record { value = None; reads = (at, (same, x.2)); copies = (x.0, x.1) }
