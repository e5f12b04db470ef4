-- What is asked of the profile: its rules, each a sentence; its verdict, which accepts exactly the strictly accepted packets that meet
-- them; and its builder, which makes those and no others.
use Rattle.std.specs.Prelude.{ℕ, ◌+◌, ◌-◌, ◌≤◌, ◌<◌, ◌≡◌, ◌↔◌, true, List, ◌++◌, length, take, drop, Result}
use Rattle.space_packet.specs.Answer.{answer_of, Answer, Numbers, gives, refuses}
use Rattle.space_packet.specs.declared.PusError.{PusError}
use Rattle.space_packet.specs.Fields.{apid_check, count_check}
use Rattle.space_packet.specs.declared.SequenceFlags.TheVariants.{Unsegmented}
use Rattle.space_packet.specs.declared.SpacePacketHeader.{SpacePacketHeader}
use Rattle.detect.specs.Errors.{UpToThree}
use Rattle.ecss.specs.Kind.{BeginsWith}
use Rattle.exactness.specs.Changed.{ChangedIn}
use Rattle.exactness.specs.Demand3.{RefusesIf, total_for}
use Rattle.tc_header.specs.Form.{form_c}
use Rattle.tc_header.specs.Header.{ack_check, pus_c}
use Rattle.tc_header.specs.declared.PusTcSecondaryHeader.{PusTcSecondaryHeader}
use Rattle.tc_read.specs.declared.PusTcRecord.{PusTcRecord}
use Rattle.tc_strict.specs.Verdict.{strict_of}
use Rattle.tc_demand3.specs.Rules.{Telecommand, report_for}
use Rattle.profile.specs.Rules.{is_service, asks_for_acceptance, service_of}
use Rattle.profile.specs.Builder.{command_from, command_of}
use Rattle.profile.specs.declared.ProfileTc.{ProfileTc}
use Rattle.profile_exact.specs.declared.Outcome.{Outcome}

-- the rules, on a command of the headers h and x with n octets of data
pub record Within (h : SpacePacketHeader) (x : PusTcSecondaryHeader) (n : ℕ) : Type 0 where
  -- it has at most 1,024 octets in total: headers of six and of five, the data, and a checksum of two
  pub at_most : 6 + 5 + n + 2 ≤ 1024
  -- it is unsegmented
  pub unsegmented : h.psc.seq_flags ≡ Unsegmented
  -- its APID is below 64
  pub apid-below : h.packet_id.apid.0 < 64
  -- its service is 1, 3, 5, 8, 17 or 20
  pub service : is_service (service_of x) ≡ true
  -- it asks for acceptance
  pub acceptance : asks_for_acceptance x.ack_flags ≡ true
  -- with service 17 it has no data
  pub empty : service_of x ≡ 17 → n ≡ 0

-- a packet meets them, and a record that is reported of one
abbrev pub Meets : Telecommand → Type 0
Meets p = Within p.primary p.secondary (length p.user)

abbrev pub MeetsRecord : PusTcRecord → Type 0
MeetsRecord r = Within r.sp_header r.sec_header (r.end - r.start)

-- a, the profile's answer on s, accepts what the strict verdict accepts and meets the rules, and no more: said by what is reported, and
-- by the packet that s begins with; and where the strict verdict refuses, its refusal is the profile's
pub record Exactly (a : Answer PusTcRecord) (s : List ℕ) : Type 0 where
  pub accepts : (r : PusTcRecord) → (a ≡ gives r) ↔ ((strict_of s ≡ gives r) × MeetsRecord r)
  pub begins : ((r : PusTcRecord) × (a ≡ gives r)) ↔ ((p : Telecommand) × (BeginsWith pus_c s p × Meets p))
  pub reports : (p : Telecommand) → BeginsWith pus_c s p → Meets p → a ≡ gives (report_for form_c p)
  pub strict-first : (e : Numbers) → strict_of s ≡ refuses e → a ≡ refuses e

-- where a, the profile's answer on s, accepts, b refuses s', to which s is changed inside its stated total in one, two or three bits,
-- none of them in octets 4 and 5; no bound is asked, since what is accepted has at most 1,024 octets
abbrev pub RefusesAnyThree : Answer PusTcRecord → List ℕ → Answer PusTcRecord → List ℕ → Type 0
RefusesAnyThree = RefusesIf (ChangedIn UpToThree)

-- what a write answered and the verdict on the buffer that it left: the command with the data d was written, and is accepted
pub record IsAccepted (t : ProfileTc) (d : List ℕ) (r : Outcome) : Type 0 where
  pub answers : answer_of r.size ≡ gives (total_for pus_c d)
  pub accepted : answer_of r.verdict ≡ gives (report_for form_c (command_of t d))

-- so it is, where octets were written at all
abbrev pub AcceptedIfWritten : ProfileTc → List ℕ → Outcome → Type 0
AcceptedIfWritten t d r = (n : ℕ) → answer_of r.size ≡ gives n → IsAccepted t d r

-- what is reported is within its widths, so that no setter refuses it
pub record Fitting (r : PusTcRecord) : Type 0 where
  pub apid : apid_check r.sp_header.packet_id.apid ≡ gives tt
  pub count : count_check r.sp_header.psc.seq_count ≡ gives tt
  pub ack : ack_check r.sec_header.ack_flags ≡ gives tt

-- what the setters are given for a packet that is reported so
abbrev pub fields_of : PusTcRecord → ProfileTc
fields_of r =
    command_from r.sp_header.packet_id.apid r.sp_header.psc r.sec_header.message_type_id
    r.sec_header.source_id r.sec_header.ack_flags

-- the buffer begins with the octets of the packet that s begins with, n of them, and behind them is as it was
pub record Again (s : List ℕ) (n : ℕ) (before : List ℕ) (r : Result ℕ PusError) (after : List ℕ) : Type 0 where
  pub answers : answer_of r ≡ gives n
  pub leaves : after ≡ take n s ++ drop n before
