-- What a write answers as one number, and what it leaves.
use Rattle.std.specs.Prelude.{ℕ, List, []}
use Rattle.space_packet.specs.Answer.{Answer, gives, refuses, ◌then◌}
use Rattle.space_packet.specs.Fields.{id_of, psc_of}
use Rattle.space_packet.specs.Header.{header_of}
use Rattle.ecss.specs.Version.{message_type_of, default_config}
use Rattle.ecss.specs.declared.PusVersion.TheVariants.{PusC}
use Rattle.tc_header.specs.Header.{ack_of, sec_from}
use Rattle.tc_write.specs.Creator.{new_of, write_of, octets_for}
use Rattle.tc_write.specs.declared.PusTcCreator.{PusTcCreator}

-- a command of two raw words and a message type, with n octets of data
abbrev pub made_of : ℕ → ℕ → ℕ → ℕ → ℕ → Answer PusTcCreator
made_of id psc service subtype n =
    new_of (header_of (id_of id) (psc_of psc) 0 0) (sec_from (message_type_of service subtype) (ack_of 15) 0 PusC) n default_config

abbrev pub written_of : Answer PusTcCreator → ℕ → ℕ → Answer ℕ
written_of a n m = a then λ t. write_of t n m

abbrev pub octets_of : Answer PusTcCreator → List ℕ → List ℕ
octets_of (gives t) d = octets_for t d
octets_of (refuses e) d = []

abbrev pub size_number : Answer ℕ → ℕ
size_number (gives n) = n
size_number (refuses e) = 0
