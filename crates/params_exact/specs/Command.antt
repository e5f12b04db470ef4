-- A command as a whole: a telecommand of service 20, subtype 3, whose application data are the octets of pairs.
use Rattle.std.specs.Prelude.{ℕ, ◌≡◌, true, List}
use Rattle.space_packet.specs.Answer.{answer_of, gives, outcome}
use Rattle.ecss.specs.Kind.{BeginsWith, Rules}
use Rattle.ecss.specs.declared.MessageTypeId.{MessageTypeId}
use Rattle.ecss_write.specs.Writer.{packet_by}
use Rattle.exactness.specs.Demand3.{Fits}
use Rattle.tc_header.specs.Form.{form_check}
use Rattle.tc_header.specs.Header.{tc}
use Rattle.tc_header.specs.declared.TcForm.{TcForm}
use Rattle.tc_read.specs.Read.{app_data_in}
use Rattle.tc_read.specs.declared.PusTcRecord.{PusTcRecord}
use Rattle.tc_strict.specs.Verdict.{strict_in}
use Rattle.tc_write.specs.declared.PusTcCreator.{PusTcCreator}
use Rattle.tc_demand3.specs.Rules.{Telecommand, Accepts}
use Rattle.params.specs.Parameters.{Row}
use Rattle.params.specs.Request.{read_request, kept_of}
use Rattle.params.specs.declared.Pair.{Pair}
use Rattle.params_exact.specs.Requests.{request_for, HeldAll}
use Rattle.params_exact.specs.declared.Told.{Told}

abbrev pub set_request : MessageTypeId
set_request = record { type_id = 20; subtype_id = 3 }

module _ (f : TcForm) (l : List Row) (s : List ℕ) (ps : List Pair) where
  -- the octets begin with such a command under the written rules, and its data are just these pairs
  pub record Commands : Type 0 where
    pub packet : Telecommand
    pub begins : BeginsWith (tc f) s packet
    pub type-is : packet.secondary.message_type_id ≡ set_request
    pub octets : request_for l ps ≡ gives packet.user

  -- the verdict accepts a command of that type, and its data are read as these pairs
  pub record Reads : Type 0 where
    pub record_of : PusTcRecord
    pub accepted : strict_in f s ≡ gives record_of
    pub type-is : record_of.sec_header.message_type_id ≡ set_request
    pub read : read_request l (app_data_in f s true) ≡ gives ps

-- the calls' answers: a command of that type is accepted, and these pairs are read
pub record Tells (r : Told) (ps : List Pair) : Type 0 where
  pub record_of : PusTcRecord
  pub accepted : answer_of r.verdict ≡ gives record_of
  pub type-is : record_of.sec_header.message_type_id ≡ set_request
  pub read : outcome r.read.result r.read.params ≡ kept_of (gives ps)

-- they tell pairs of octets exactly if these begin with the command of just those pairs
pub record Received (f : TcForm) (l : List Row) (s : List ℕ) (r : Told) : Type 0 where
  pub commands : (ps : List Pair) → Tells r ps → Commands f l s ps
  pub tells : form_check f ≡ gives tt → (ps : List Pair) → HeldAll ps → Commands f l s ps → Tells r ps

module _ (t : PusTcCreator) (d : List ℕ) where
  -- a creator's command with these data, whatever its type, is under the written rules, and a buffer has room for it
  pub record Sendable (before : List ℕ) : Type 0 where
    pub form-good : form_check t.form ≡ gives tt
    pub checksummed : t.has_checksum ≡ true
    pub rules : Rules (tc t.form) (packet_by t.sp_header t.sec_header d)
    pub fits : Fits (tc t.form) d before

  -- the verdict accepts it, and its data are read as these pairs
  pub record Arrives (ps : List Pair) (r : Told) : Type 0 where
    pub accepted : Accepts t.form r.verdict (packet_by t.sp_header t.sec_header d)
    pub read : outcome r.read.result r.read.params ≡ kept_of (gives ps)
