-- What a write of telemetry answers as one number, and what it leaves.
use Rattle.std.specs.Prelude.{ℕ, List, []}
use Rattle.space_packet.specs.Answer.{Answer, gives, refuses, ◌then◌}
use Rattle.space_packet.specs.Fields.{id_of, psc_of}
use Rattle.space_packet.specs.Header.{header_of}
use Rattle.ecss.specs.Version.{message_type_of, default_config}
use Rattle.ecss.specs.declared.PusVersion.TheVariants.{PusC}
use Rattle.tm_header.specs.Header.{sec_from}
use Rattle.tm_write.specs.Creator.{new_of, write_of, octets_for}
use Rattle.tm_write.specs.declared.PusTmCreator.{PusTmCreator}

-- telemetry of two raw words and a message type, with the octets l of its time and n octets of data
abbrev pub made_of : ℕ → ℕ → ℕ → ℕ → List ℕ → ℕ → Answer PusTmCreator
made_of id psc service subtype l n =
    new_of 7 (header_of (id_of id) (psc_of psc) 0 0) (sec_from PusC 0 (message_type_of service subtype) 0 0) l n default_config

abbrev pub written_of : Answer PusTmCreator → List ℕ → ℕ → ℕ → Answer ℕ
written_of a l n m = a then λ t. write_of t l n m

abbrev pub octets_of : Answer PusTmCreator → List ℕ → List ℕ → List ℕ
octets_of (gives t) l d = octets_for t l d
octets_of (refuses e) l d = []

abbrev pub size_number : Answer ℕ → ℕ
size_number (gives n) = n
size_number (refuses e) = 0
