-- `profile_exact::made` meets its contract: what is built is the command that the build gives, and that is written.
use mathlib.Core.Path.{◌≡◌, ◌∙◌, subst}
use mathlib.Core.List.{List}
use Prim.Native.Nat.{ℕ}
use Rattle.std.specs.Prelude.{Result}
use Rattle.space_packet.specs.declared.PusError.{PusError}
use Rattle.space_packet.proofs.Answers.{gives-inj, never}
use Rattle.profile.specs.Builder.{CommandWrote}
use Rattle.profile.specs.declared.ProfileTc.{ProfileTc}
use Rattle.profile_exact.proofs.made.Goals as goal

of-command : (t u : ProfileTc) (d before after : List ℕ) (r : Result ℕ PusError) → t ≡ u → CommandWrote t d before r after → CommandWrote u d before r after
of-command t u d before after r e w = subst (λ (z : ProfileTc). CommandWrote z d before r after) e w

pub returns-in_err-build : goal.returns-in_err-build
returns-in_err-build c =
    λ t p. absurd (never _ _ (c.in_err-build.ensures ∙ p))

pub returns : goal.returns
returns c =
    let a = c.args in
    λ t p. of-command _ t a.app_data.now a.buf.now _ _ (gives-inj _ t (c.in_ok-build.ensures ∙ p)) c.write_to_slice.ensures
