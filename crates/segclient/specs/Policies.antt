-- How a client makes room now.
use Rattle.std.specs.Prelude.{◌≡◌, ℕ, is_some}
use Rattle.segclient.specs.declared.member.Member.{Member}
use Rattle.segclient.specs.declared.segments.Policy.{Policy}
use Rattle.segclient.specs.Lives.{IsDeadlineFor, IsLife, IsWindowFor, life_window}
use Rattle.segclient.specs.Puts.{deadline_of}

abbrev pub policy_of : Member → Policy
policy_of member = record {
  cutoff = member.cutoff;
  deadline = deadline_of member;
  window = life_window member.clock member.time_to_live;
  moment = member.clock;
}

-- how room is made for what is put now for this time
pub record IsPolicyFor (time : ℕ) (member : Member) (policy : Policy) : Type 0 where
  pub cutoff : policy.cutoff ≡ member.cutoff
  pub moment : policy.moment ≡ member.clock
  pub life : IsLife member.clock time policy.window policy.deadline
  pub deadline : IsDeadlineFor (is_some member.segments.queues) member.clock time policy.deadline
  pub asks : IsWindowFor (is_some member.segments.queues) member.clock time policy.deadline
      policy.window
