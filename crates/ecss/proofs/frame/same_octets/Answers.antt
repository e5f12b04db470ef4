-- `frame::same_octets` meets its contract: octets compared in pairs.
use mathlib.Core.Path.{◌∙◌}
use Rattle.ecss.proofs.Octets.{pairwise-same}
use Rattle.ecss.proofs.frame.same_octets.Goals as goal

pub returns : goal.returns
returns c =
    c.eq.ensures ∙ pairwise-same _ _
