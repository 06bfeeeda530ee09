use Rattle.channel_law.specs.Law as channel-law
use Rattle.channel_law.proofs.Whole.{law}
use Rattle.rules.proofs.Law.{messages-are-whole}
use Rattle.earlier_promise.proofs.Channels.{whole, each-answered}
use Rattle.earlier_promise.proofs.Stations.{promise}
use Rattle.earlier_promise.proofs.Small.{octets}
use Rattle.earlier_promise.proofs.still_promised.Goals as goal

pub returns : goal.returns
returns c =
    record {
      channel = λ w m fits cs.
          let p : channel-law.Promise w m cs = law w m fits cs in
          record {
            whole = whole _ p.whole;
            answered = each-answered _ _ p.answered;
            writing-taken = p.whole.writing-taken;
            reading-taken = p.whole.reading-taken;
            status = p.status;
            alone = p.alone;
            sound = p.sound;
          };
      station = λ m number cs small. promise _ _ _ (messages-are-whole m number cs small);
      calls = λ before call after y h m number cs small came.
          let g = h.whenever m number cs small came in
          (g.run, promise _ _ _ g.promise);
      octets = octets;
    }
