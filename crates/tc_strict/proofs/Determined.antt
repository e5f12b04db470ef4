-- Each answer tells its result (see `Determined` of space_packet).
use mathlib.Core.Path.{◌≡◌, refl, ap}
use Rattle.std.specs.Prelude.{Result, Ok, Err}
use Rattle.space_packet.specs.Answer.{answer_of, Answer, gives, refuses}
use Rattle.space_packet.specs.declared.PusError.{PusError}
use Rattle.space_packet.proofs.Answers.{by-inverse, error_of, error-back}
use Rattle.tc_read.specs.declared.PusTcRecord.{PusTcRecord}
use Rattle.tc_strict.specs.Split.{packet, tail, Next, end, piece, step_answer}
use Rattle.tc_strict.specs.declared.split.Step.{Step}
use Rattle.tc_strict.specs.declared.split.Step.TheVariants as S

verdict_of : Answer PusTcRecord → Result PusTcRecord PusError
verdict_of (gives r) = Ok r
verdict_of (refuses n) = Err (error_of n)

verdict-back : (v : Result PusTcRecord PusError) → verdict_of (answer_of v) ≡ v
unfolding verdict_of
verdict-back (Ok r) = refl
verdict-back (Err e) = ap Err (error-back e)

step_from : Next → Step
step_from end = S.End
step_from (piece (packet at n v) next) = S.Packet at n (verdict_of v) (record { at = next })
step_from (piece (tail at n) next) = S.Tail at n (record { at = next })

step_back : (r : Step) → step_from (step_answer r) ≡ r
unfolding step_from
step_back S.End = refl
step_back (S.Packet at n v next) = ap (λ (x : Result PusTcRecord PusError). S.Packet at n x next) (verdict-back v)
step_back (S.Tail at n next) = refl

pub step-inj : (x y : Step) → step_answer x ≡ step_answer y → x ≡ y
step-inj = by-inverse step_answer step_from step_back
