use Rattle.frame.proofs.Telegrams.{datagram-leaves, datagram-is-followed, data-octet-asks}
use Rattle.frame.proofs.laws.of_datagrams.Goals as goal

pub returns : goal.returns
returns g c = record { leaves = datagram-leaves; followed = datagram-is-followed; asks = data-octet-asks }
