-- `packet::put_data` meets its contract: the data has room from `start` on, so it fills that part from its start.
use Rattle.ecss_write.proofs.Written.{fill-left}
use Rattle.ecss_write.proofs.packet.put_data.Goals as goal

pub returns : goal.returns
returns c =
    let a = c.args in fill-left a.start a.buf.now a.«data».now _ c.requires.1 c.fill.ensures.left
