-- `ProfileTc::write_to_slice` meets its contract: the creator that is made writes it, with nothing left to ask but the room.
use mathlib.Core.Path.{sym}
use Rattle.profile.proofs.Commands.{command-written}
use Rattle.profile.proofs.ProfileTc.write_to_slice.Goals as goal

pub returns : goal.returns
returns c =
    let a = c.args in command-written a.self a.app_data.now _ (sym c.in_ok-creator.ensures) a.buf.now _ _ c.write_to_slice.ensures
