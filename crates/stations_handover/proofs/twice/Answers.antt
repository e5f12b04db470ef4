-- `stations_handover::twice` meets its contract: an answer tells its station, and the comparison whether two parts are one.
use mathlib.Core.Path.{sym, ◌∙◌}
use Rattle.std.proofs.lemmas.Bool.Decides.{Decides-eqb}
use Rattle.std.proofs.lemmas.Slice.Eq.{slice_eq-Decides}
use Rattle.stations.proofs.Determined.{station-inj}
use Rattle.stations_handover.proofs.twice.Goals as goal

pub returns : goal.returns
returns c =
    λ s. record {
      answer = station-inj _ _ (c.best_station.ensures ∙ s.answer ∙ sym c.best_station-2.ensures);
      part = (slice_eq-Decides Decides-eqb _ _ _ c.eq.ensures).1 (c.best.ensures.result_value ∙ s.part ∙ sym c.best-2.ensures.result_value);
    }
