-- `params::read_pair` meets its contract: where the value is refused, its octets are too few.
use Rattle.std.proofs.Common.{◌+◌, rules}
use Rattle.space_packet.specs.Answer.{refuse_if}
use Rattle.param_value.specs.Values.{read_value}
use Rattle.params.specs.Request.{read_pair}
use Rattle.params.proofs.Lists.{known_by}
use Rattle.params.proofs.ReadLaws.{tail_is}
use Rattle.params.proofs.read_pair.Goals as goal

pub returns-in_err-value : goal.returns-in_err-value
unfolding refuse_if read_value read_pair
returns-in_err-value c =
    let a = c.args in
    let k = known_by a.list.now c.word_at-id.result c.requires.0 in
    let t = tail_is (a.at + 2) a.«data».now in
    search (rules, k, t)
