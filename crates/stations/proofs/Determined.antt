-- Each answer tells its result (see `Determined` of space_packet).
use mathlib.Core.Path.{◌≡◌, refl, ap₂}
use Rattle.space_packet.proofs.Answers.{by-inverse, error_of, error-back}
use Rattle.stations.specs.Best.{Choice, first, second, neither, station_answer}
use Rattle.stations.specs.declared.Station.{Station}
use Rattle.stations.specs.declared.Station.TheVariants as S

station_of : Choice → Station
station_of first = S.First
station_of second = S.Second
station_of (neither d e) = S.Neither (error_of d) (error_of e)

station-back : (x : Station) → station_of (station_answer x) ≡ x
unfolding station_of
station-back S.First = refl
station-back S.Second = refl
station-back (S.Neither d e) = ap₂ S.Neither (error-back d) (error-back e)

pub station-inj : (x y : Station) → station_answer x ≡ station_answer y → x ≡ y
station-inj = by-inverse station_answer station_of station-back
