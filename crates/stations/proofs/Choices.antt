-- The choice by the verdicts, and what it says of the capture that is taken.
use Prim.Native.Nat.{ℕ}
use mathlib.Core.Path.{◌≡◌, refl, sym, ap, ◌∙◌}
use mathlib.Core.Bool.{true}
use mathlib.Core.List.{List}
use lib.ListN.{take}
use Rattle.space_packet.specs.Answer.{Answer, gives, refuses}
use Rattle.space_packet.proofs.Answers.{then-gives, gives_then}
use Rattle.ecss.specs.Frame.{checked_of, frame_after, raw_part}
use Rattle.ecss.specs.Kind.{ruled, judge}
use Rattle.ecss.proofs.Frames.{FrameIs, checked-total, total-frame}
use Rattle.tm_header.specs.Header.{time_limit, tm}
use Rattle.tm_read.specs.Read.{start_in, raw_data_in}
use Rattle.tm_read.specs.declared.PusTmRecord.{PusTmRecord}
use Rattle.tm_strict.specs.Verdict.{strict_in}
use Rattle.stations.specs.Best.{Choice, first, second, choose, chosen, packet_in, part_of, best_in}

-- the capture that is taken passes
first_passes : {A : Type 0} (v w : Answer A) → choose v w ≡ first → (r : A) × (v ≡ gives r)
first_passes (gives r) w e = (r, refl)
first_passes (refuses d) (gives r) e = absurd (cc)
first_passes (refuses d) (refuses f) e = absurd (cc)

second-passes : {A : Type 0} (v w : Answer A) → choose v w ≡ second → (r : A) × (w ≡ gives r)
second-passes (gives r) w e = absurd (cc)
second-passes (refuses d) (gives r) e = (r, refl)
second-passes (refuses d) (refuses f) e = absurd (cc)

-- a capture that passes holds its packet whole
pub passed-frame : (t : ℕ) (s : List ℕ) (r : PusTmRecord) → strict_in t s ≡ gives r → (time_limit t ≡ gives tt) × ((n : ℕ) × FrameIs (start_in t) s true n)
unfolding strict_in judge
passed-frame t s r p =
    let q = then-gives (time_limit t) _ r p in
    let j = then-gives (judge (tm t) s) _ r q.2 in
    let c = then-gives (checked_of (start_in t) s) (ruled (tm t) s) j.0 j.1 in
    (q.1, (c.0, (checked-total (start_in t) s c.0 c.1).0))

-- so the reader hands it out
handed_out : (t : ℕ) (s : List ℕ) (r : PusTmRecord) → strict_in t s ≡ gives r → raw_data_in t s true ≡ packet_in s
unfolding frame_after
handed_out t s r p =
    let f = passed-frame t s r p in
    ap (λ (a : Answer ℕ). raw_part a s) (gives_then _ _ tt f.0 ∙ total-frame (start_in t) s true f.1.0 f.1.1)
    ∙ ap (λ (n : ℕ). take n s) f.1.1.is

module _ (t : ℕ) (a b : List ℕ) where
  part-is : (c : Choice) → chosen t a b ≡ c → part_of c a b ≡ best_in t a b
  part-is c e = ap (λ (x : Choice). part_of x a b) (sym e)

  pub first_part : chosen t a b ≡ first → raw_data_in t a true ≡ best_in t a b
  unfolding chosen
  first_part e = let q = first_passes (strict_in t a) (strict_in t b) e in handed_out t a q.0 q.1 ∙ part-is first e

  pub second-part : chosen t a b ≡ second → raw_data_in t b true ≡ best_in t a b
  unfolding chosen
  second-part e = let q = second-passes (strict_in t a) (strict_in t b) e in handed_out t b q.0 q.1 ∙ part-is second e

-- what the check uses for the part of each
pub ruleset parts = (first_part, second-part)
