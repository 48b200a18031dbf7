-- Exchange of two sessions whose found flows are one slice of records, A's first, then B's: 01 'A session', "Exchange of A and B". What it does is
-- what the exchange's definition says of the list taken apart, put together again.
use Rattle.layout.specs.Sizes.{ipv4_layout}
use Rattle.room.specs.declared.Session.{Session}
use Rattle.room.specs.Memory.{Memory}
use Rattle.exchange.specs.Exchange.{Exchanged, exchange_of}
use Rattle.calls.specs.Calls.{Lent, Ran, ran, Called, over_records}

abbrev pub exchanging : Session → Session → Memory → Ran Exchanged
exchanging s t m = let e = exchange_of ipv4_layout s t m in ran e.answer e.room

abbrev pub exchange_records : Session → Session → Lent → Called Exchanged
exchange_records s t m = over_records (exchanging s t) m
