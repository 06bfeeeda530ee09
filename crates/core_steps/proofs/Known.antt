-- What is known of the channels, and the search among it.
use Rattle.std.proofs.Common.{◌≡◌, ℕ, ◌+◌, cond, ◌&&◌, leb, List, [], ◌∷◌, Some, None, Option, sym, refl}
use Rattle.std.specs.Option.{option_map}
use Rattle.channel.specs.declared.service.Service.{Service}
use Rattle.channel.specs.declared.record.Channel.{Channel}
use Rattle.channel.specs.Services.{facts_of}
use Rattle.channel.specs.Areas.{low, high, low_in, high_in}
use Rattle.std.specs.List.{position_from}
use Rattle.cover.specs.Lowest.{covers}
use Rattle.rules.specs.Questions.{low_of, high_of}
use Rattle.rules.specs.Steps.{known}

covers-same : (a : ℕ) (o : Option Service) → (leb (low_of (option_map facts_of o)) a && leb a (high_of (option_map facts_of o))) ≡ (leb (low_in o) a && leb a (high_in o))
covers-same a None = refl
covers-same a (Some s) = refl

pub found_at : (cs : List Channel) (a n : ℕ) → position_from (covers low high a) n cs ≡ position_from (covers low_of high_of a) n (known cs)
found_at [] a n = refl
found_at (c ∷ cs) a n = λ k. cond (sym (covers-same a c.service) k) (Some n) (found_at cs a (n + 1) k)
