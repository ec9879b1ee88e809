-- 01, "Port read or write", and 02, request 1: the configuration index, and what ports 22h and 23h do.
use Rattle.std.specs.Prelude.{ℕ, Bool, true, false, cond, ◌&&◌, ◌||◌, eqb, leb}
use Rattle.steps.specs.declared.Answer.{Answer}
use Rattle.steps.specs.declared.Answer.TheVariants.{Done, Value, External}
use Rattle.settings.specs.declared.Settings.{Settings}
use Rattle.config.specs.declared.Config.{Config}
use Rattle.config.specs.declared.Accessed.{Accessed}
use Rattle.settings.specs.Settings.{is_mii, mapen, byte_of, written}

-- the indexes that the core always answers itself: C0h to CFh, FEh and FFh
unfoldable pub always_internal : ℕ → Bool
always_internal i = (leb 0xc0 i && leb i 0xcf) || eqb i 0xfe || eqb i 0xff

-- the later core answers all others too while MAPEN is on
unfoldable pub internal : Settings → ℕ → Bool
internal s i = always_internal i || (is_mii s.edition && mapen s)

abbrev pub indexed : Settings → ℕ → Bool → Config
indexed s i armed = record { settings = s; index = i; armed = armed }

abbrev pub answering : Config → Answer → Accessed
answering c a = record { config = c; answer = a }

-- An armed index is disarmed by a read of port 23h, which gives its byte if it is internal. Every other read is external and changes
-- nothing.
unfoldable pub port_read : Config → ℕ → Accessed
port_read c port =
    cond (eqb port 0x23 && c.armed)
    (answering (indexed c.settings c.index false)
    (cond (internal c.settings c.index) (Value (byte_of c.settings c.index)) External))
    (answering c External)

-- A write to port 22h gives the index and arms it. An armed index is disarmed by a write to port 23h, which writes its byte if it is
-- internal. Every other write is external and changes nothing.
unfoldable pub port_write : Config → ℕ → ℕ → Bool → Accessed
port_write c port v inside =
    cond (eqb port 0x22) (answering (indexed c.settings v true) Done)
    (cond (eqb port 0x23 && c.armed)
    (cond (internal c.settings c.index)
    (answering (indexed (written c.settings c.index v inside) c.index false) Done)
    (answering (indexed c.settings c.index false) External))
    (answering c External))
