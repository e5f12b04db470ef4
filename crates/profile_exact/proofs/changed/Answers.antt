-- `profile_exact::changed` meets its contract: both verdicts are the profile's, of which `changed-outside` and
-- `up-to-three-outside` speak.
use Rattle.detect.specs.Errors.{UpToThree}
use Rattle.exactness.specs.Changed.{Changed, ChangedIn}
use Rattle.exactness.proofs.Demand3.{answered}
use Rattle.profile_exact.proofs.Exactly.{changed-outside, up-to-three-outside}
use Rattle.profile_exact.proofs.changed.Goals as goal

pub returns : goal.returns
returns c = (
  answered Changed _ _ c.judge.ensures c.judge-2.ensures (changed-outside _ _),
  answered (ChangedIn UpToThree) _ _ c.judge.ensures c.judge-2.ensures (up-to-three-outside _ _),
)
