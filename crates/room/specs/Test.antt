-- The order in which every call on a session tests what it is given: 01's table of numbers, "tested before all else but size ranges (8 in a session)".
use Rattle.std.specs.Prelude.{not, cond}
use Rattle.layout.specs.declared.Layout.{Layout}
use Rattle.layout.specs.Sizes.{in_range}
use Rattle.test8.specs.Test8.{is_session}
use Rattle.room.specs.declared.Session.{Session}
use Rattle.room.specs.Memory.{Memory, room_fits}

-- sizes (8), lengths (16), the rest of the test of 8; else what the call then does
unfoldable pub tested : {A : Type 0} → Layout → Session → Memory → A → A → A → A
tested l s m notSession badRoom passed =
    cond (not (in_range s.sizes)) notSession
    (cond (not (room_fits l s.sizes m)) badRoom
    (cond (not (is_session l s.sizes s.salt s.listed m.table m.list)) notSession
    passed))
