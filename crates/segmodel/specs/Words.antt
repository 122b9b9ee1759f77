-- The words of this crate that others use, from one place.
pub use Rattle.segmodel.specs.Cache.{Cache, key_cmp, keys_in, present, put, reads, reads_version}
pub use Rattle.segmodel.specs.Cache.{in_segment, IsExpired, moved, segment_under, unless_expired}
pub use Rattle.segmodel.specs.Cache.{value_under, with_segment}
pub use Rattle.segmodel.specs.Cache.{reply_in, standing, with_at, without}
pub use Rattle.segmodel.specs.History.{after, AreOne, Begins, CameBetween, entries_of, Follows}
pub use Rattle.segmodel.specs.History.{is_of, is_write_to, IsBetween, IsLegal, IsSameAt, IsStanding}
pub use Rattle.segmodel.specs.History.{mine, NoneStandsIn, pass_of, StandsIn, stirred, writes}
pub use Rattle.segmodel.specs.History.{written}
pub use Rattle.segmodel.specs.Laws.{ChangedIsStored, EarlierIsLegal, GoneIsTakenOut, StoresValue}
pub use Rattle.segmodel.specs.Laws.{IsMoveBetween, kept, StoresKey, TakesKeyOut}
pub use Rattle.segmodel.specs.Places.{bucket_of, owner, tag_of}
pub use Rattle.segmodel.specs.Props.{Begins-prop, Cached-set, Follows-prop, IsStanding-prop}
pub use Rattle.segmodel.specs.Props.{Reply-set, Request-set}
pub use Rattle.segmodel.specs.Request.{adds_key, is_store, key_of, moment_of, reply_to}
pub use Rattle.segmodel.specs.Request.{value_of}
pub use Rattle.segmodel.specs.Serving.{after_hit, after_refill, after_reply, chained, Evicts}
pub use Rattle.segmodel.specs.Serving.{get_answer, higher, is_last_of, keep_into, keep_rows, keeps}
pub use Rattle.segmodel.specs.Serving.{moved_to, raised, raised_in, stands_in, with_filling}
pub use Rattle.segmodel.specs.Serving.{gets_answer, is_held, is_out_of_rows, is_own, IsGiven}
pub use Rattle.segmodel.specs.Serving.{lacks_word, may_chain, may_go, placed, refill_answer}
pub use Rattle.segmodel.specs.Serving.{reply_of_delete, reply_of_write, Serves, ServesDelete}
pub use Rattle.segmodel.specs.Serving.{ServesEvict, ServesStore, stored, taken_out, with_key}
pub use Rattle.segmodel.specs.Serving.{lacks_rows, span_under, with_rows}
pub use Rattle.segmodel.specs.State.{but_for, Filling, fresh, is_among, is_in, is_in_use, is_locked}
pub use Rattle.segmodel.specs.State.{is_named, is_stored, IsSound, State}
pub use Rattle.segmodel.specs.Turns.{Runs, Turns}
use Rattle.segmodel.specs.declared.answer.Answer as declared_answer
use Rattle.segmodel.specs.declared.entry.Cached as declared_cached
use Rattle.segmodel.specs.declared.answer.DeleteAnswer as declared_delete_answer
use Rattle.segmodel.specs.declared.entry.Entry as declared_entry
use Rattle.segmodel.specs.declared.answer.EvictAnswer as declared_evict_answer
use Rattle.segmodel.specs.declared.answer.GetAnswer as declared_get_answer
use Rattle.segmodel.specs.declared.answer.GetsAnswer as declared_gets_answer
use Rattle.segmodel.specs.declared.answer.KeepAnswer as declared_keep_answer
use Rattle.segmodel.specs.declared.answer.Outcome as declared_outcome
use Rattle.segmodel.specs.declared.answer.RefillAnswer as declared_refill_answer
use Rattle.segmodel.specs.declared.request.Reply as declared_reply
use Rattle.segmodel.specs.declared.request.Request as declared_request
use Rattle.segmodel.specs.declared.answer.SegState as declared_seg_state
use Rattle.segmodel.specs.declared.answer.Turn as declared_turn
use Rattle.segmodel.specs.declared.answer.WriteAnswer as declared_write_answer

-- The types of this crate that others name.
abbrev pub Answer : Type 0
Answer = declared_answer.Answer

abbrev pub Cached : Type 0
Cached = declared_cached.Cached

abbrev pub DeleteAnswer : Type 0
DeleteAnswer = declared_delete_answer.DeleteAnswer

abbrev pub Entry : Type 0
Entry = declared_entry.Entry

abbrev pub EvictAnswer : Type 0
EvictAnswer = declared_evict_answer.EvictAnswer

abbrev pub GetAnswer : Type 0
GetAnswer = declared_get_answer.GetAnswer

abbrev pub GetsAnswer : Type 0
GetsAnswer = declared_gets_answer.GetsAnswer

abbrev pub KeepAnswer : Type 0
KeepAnswer = declared_keep_answer.KeepAnswer

abbrev pub Outcome : Type 0
Outcome = declared_outcome.Outcome

abbrev pub RefillAnswer : Type 0
RefillAnswer = declared_refill_answer.RefillAnswer

abbrev pub Reply : Type 0
Reply = declared_reply.Reply

abbrev pub Request : Type 0
Request = declared_request.Request

abbrev pub SegState : Type 0
SegState = declared_seg_state.SegState

abbrev pub Turn : Type 0
Turn = declared_turn.Turn

abbrev pub WriteAnswer : Type 0
WriteAnswer = declared_write_answer.WriteAnswer
