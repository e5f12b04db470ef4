-- The same octets read with two spare lengths: with the fewer spare octets, the data begin with zeros.
use Prim.Native.Nat.{ℕ, ◌+◌, ◌≤◌, ◌<◌}
use mathlib.Core.Path.{◌≡◌, sym, ap, ◌∙◌}
use mathlib.Core.Logic.{◌↔◌}
use mathlib.Core.List.{List, ◌++◌, append_assoc}
use native.Mathlib.Omega.{arith}
use lib.ListN.{length, replicate, length-append, length-replicate, replicate-append-replicate}
use Rattle.space_packet.specs.Answer.{gives}
use Rattle.space_packet.specs.Header.{header_octets}
use Rattle.space_packet.specs.declared.SpacePacketHeader.{SpacePacketHeader}
use Rattle.space_packet.proofs.Answers.{then-gives}
use Rattle.ecss.specs.Frame.{sealed}
use Rattle.ecss.specs.Kind.{BeginsWith, Rules, content_of, judge}
use Rattle.ecss_write.specs.Writer.{packet_by}
use Rattle.exactness.proofs.Exact.{accepted}
use Rattle.tc_header.specs.Form.{form_spare, form_check}
use Rattle.tc_header.specs.Header.{tc_octets, tc}
use Rattle.tc_header.specs.declared.PusTcSecondaryHeader.{PusTcSecondaryHeader}
use Rattle.tc_header.proofs.Laws.{before}
use Rattle.tc_read.specs.declared.PusTcRecord.{PusTcRecord}
use Rattle.tc_strict.specs.Verdict.{strict_in}
use Rattle.tc_demand3.specs.Rules.{Telecommand}

-- the zeros of k spare octets, as data
abbrev pub as_data : ℕ → Telecommand → Telecommand
as_data k p = record { primary = p.primary; secondary = p.secondary; user = replicate k 0 ++ p.user }

-- with another spare length, and as many octets of data more or less, headers and data stay under the rules
rules-stay : (m n : ℕ) (h : SpacePacketHeader) (x : PusTcSecondaryHeader) (d e : List ℕ) → m + length d ≡ n + length e
    → Rules (tc (form_spare m)) (packet_by h x d) → Rules (tc (form_spare n)) (packet_by h x e)
rules-stay m n h x d e l r =
    let s = r.stated in
    let f = s.fits in
    record {
      stated =
          record {
            in-range = s.in-range;
            fits = record { version-is = f.version-is; ack-fits = f.ack-fits; source_fits = f.source_fits };
            states-length = s.states-length ∙ omega (arith, l);
          };
      at_most = omega (arith, r.at_most, l);
      primary = r.primary;
    }

module _ (m k : ℕ) (p : Telecommand) where
  -- zeros that move from behind b to before d
  moved : (b d : List ℕ) → (b ++ replicate (m + k) 0) ++ d ≡ (b ++ replicate m 0) ++ (replicate k 0 ++ d)
  moved b d =
      ap (λ (z : List ℕ). (b ++ z) ++ d) (sym (replicate-append-replicate m k 0))
      ∙ ap (λ (z : List ℕ). z ++ d) (sym (append_assoc b (replicate m 0) (replicate k 0)))
      ∙ append_assoc (b ++ replicate m 0) (replicate k 0) d

  -- both are written as the same octets
  same-content : content_of (tc (form_spare (m + k))) p ≡ content_of (tc (form_spare m)) (as_data k p)
  unfolding content_of tc_octets
  same-content = ap (λ (z : List ℕ). header_octets p.primary ++ z) (moved (before (form_spare m) p.secondary) p.user)

  -- of the same number
  same_number : m + k + length p.user ≡ m + length (as_data k p).user
  same_number =
      let l = length-append (replicate k 0) p.user in
      let z = length-replicate {A = ℕ} k 0 in omega arith

  -- octets begin with a packet of m + k spare octets exactly where they begin with that of m whose data begin with k zeros
  pub spares-as-data : (s : List ℕ) → BeginsWith (tc (form_spare (m + k))) s p ↔ BeginsWith (tc (form_spare m)) s (as_data k p)
  spares-as-data s = (
    λ b. record { rules = rules-stay (m + k) m _ _ p.user _ same_number b.rules; rest = b.rest; octets = b.octets ∙ ap (λ (z : List ℕ). sealed z ++ b.rest) same-content },
    λ b. record { rules = rules-stay m (m + k) _ _ _ p.user (sym same_number) b.rules; rest = b.rest; octets = b.octets ∙ ap (λ (z : List ℕ). sealed z ++ b.rest) (sym same-content) },
  )

-- what is accepted with n spare octets has 13 octets and as many more; so 14 are the fewest that two spare lengths accept, and the case
-- `two-forms` has them
pub fewest : (m n : ℕ) (s : List ℕ) (r : PusTcRecord) → m < n → strict_in (form_spare n) s ≡ gives r → 14 ≤ length s
unfolding strict_in
fewest m n s r h p =
    let j = then-gives (judge (tc (form_spare n)) s) _ r (then-gives (form_check (form_spare n)) _ r p).2 in
    let f = (accepted (tc (form_spare n)) s j.0 j.1).frame in omega (arith, f.room, f.fits)
