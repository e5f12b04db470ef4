-- Each answer tells its result, and a write what it leaves: so a contract that states one of a definition leaves one result.
-- `tools/calls` holds every public contract to such a statement, and finds the theorem here by its type.
use Prim.Native.Nat.{ℕ}
use mathlib.Core.Path.{◌≡◌, refl, sym, ap, ◌∙◌}
use mathlib.Core.List.{List}
use Rattle.std.specs.Prelude.{Result, Ok, Err}
use Rattle.space_packet.specs.Answer.{Answer, Kept, answer_of, outcome}
use Rattle.space_packet.specs.Wrote.{Wrote}
use Rattle.space_packet.specs.declared.PusError.{PusError}
use Rattle.space_packet.proofs.Answers.{by-inverse, result_of, error-back}

pub answer-inj : {A : Type 0} (x y : Result A PusError) → answer_of x ≡ answer_of y → x ≡ y
unfolding result_of
answer-inj = by-inverse answer_of (result_of Ok Err) (elim [ Ok a ↦ refl | Err e ↦ ap Err (error-back e) ])

-- a setter: the result, and the record that it leaves
pub outcome-inj : {A : Type 0} (x y : Result (Unit {0}) PusError) (a b : A) → outcome x a ≡ outcome y b → (x ≡ y) × (a ≡ b)
outcome-inj x y a b p = (answer-inj x y (ap (λ (k : Kept _). k.passed) p), ap (λ (k : Kept _). k.kept) p)

-- a write: the result, and what it leaves in the buffer
pub writes : (a : Answer ℕ) (p before : List ℕ) (x y : Result ℕ PusError) (l m : List ℕ) → Wrote a p before x l → Wrote a p before y m → (x ≡ y) × (l ≡ m)
writes a p before x y l m v w = (answer-inj x y (v.answered ∙ sym w.answered), v.left ∙ sym w.left)
