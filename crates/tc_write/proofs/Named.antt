-- A builder whose acknowledgements are named has nothing of its default: who names all four has the builder that asked for four by itself.
use mathlib.Core.Path.{◌≡◌, refl}
use Rattle.space_packet.specs.Answer.{gives, refuse_if, set_if}
use Rattle.tc_header.specs.Header.{ack_of}
use Rattle.tc_header.specs.declared.AckFlags.{AckFlags}
use Rattle.tc_header.specs.declared.TcForm.{TcForm}
use Rattle.tc_write.specs.Builder.{builder_with, builder_in, asking, with_flags}
use Rattle.tc_write.specs.declared.PusTcBuilder.{PusTcBuilder}

pub four-named : (f : TcForm) → with_flags (builder_in f) (ack_of 15) ≡ record { passed = gives tt; kept = builder_with f (ack_of 15) }
unfolding refuse_if set_if
four-named f = refl

-- whatever it asked for before
pub flags-forgotten : (b : PusTcBuilder) (a : AckFlags) → (with_flags (asking b a) (ack_of 15)).kept ≡ asking b (ack_of 15)
unfolding refuse_if set_if
flags-forgotten b a = refl
