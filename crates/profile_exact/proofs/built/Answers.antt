-- `profile_exact::built` meets its contract: what is built is written where there is room, and what is written is accepted.
use mathlib.Core.Path.{◌∙◌}
use Rattle.profile_exact.proofs.Building.{written-accepted, built-written}
use Rattle.profile_exact.proofs.built.Goals as goal

pub returns : goal.returns
returns c =
    let a = c.args in
    λ t p f.
    let v = c.made-size.ensures t p in
    let n = built-written a.builder.0 a.app_data.now a.buf.now _ _ t p f v in
    record { answers = n; accepted = c.judge-verdict.ensures ∙ (written-accepted t a.app_data.now a.buf.now _ _ _ v n).1 }
