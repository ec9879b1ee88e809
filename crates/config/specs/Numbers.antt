-- 01, "Port read or write", and 02, request 1, a second time, by raw numbers: port 34 is 22h and port 35 is 23h.
use Rattle.std.specs.Prelude.{ℕ, ◌+◌, ◌/◌, ◌%◌, ◌≡◌, Bool, true, false, cond, ◌||◌, eqb}
use Rattle.steps.specs.declared.Answer.TheVariants.{Done, Value, External}
use Rattle.settings.specs.declared.Edition.TheVariants.{Cx486, Mii}
use Rattle.settings.specs.declared.Settings.{Settings}
use Rattle.settings.specs.Settings.{mapen, with_edition, byte_of, written}
use Rattle.config.specs.declared.Config.{Config}
use Rattle.config.specs.Ports.{internal, indexed, answering, port_read, port_write}

-- an access to a port is external and changes nothing
abbrev pub Untouched : Config → ℕ → Type 0
Untouched c port =
    (v : ℕ) (inside : Bool) → (port_read c port ≡ answering c External) × (port_write c port v inside ≡ answering c External)

-- so is every access to a port below 34 or above 35, and to port 35 while the index is not armed
abbrev pub OtherPorts : Type 0
OtherPorts = (c : Config) (k : ℕ) → Untouched c (k % 34) × Untouched c (36 + k) × Untouched (indexed c.settings c.index false) 35

-- a write to port 34 sets and arms the index, whatever it was, and a read of it is external
abbrev pub PortOfIndex : Type 0
PortOfIndex =
    (c : Config) (v : ℕ) (inside : Bool)
    → (port_write c 34 v inside ≡ answering (indexed c.settings v true) Done) × (port_read c 34 ≡ answering c External)

-- port 35 reaches an armed index where it is internal, and disarms it in any case
abbrev pub PortOfData : Type 0
PortOfData =
    (s : Settings) (i v : ℕ) (inside : Bool)
    → (port_read (indexed s i true) 35 ≡ answering (indexed s i false) (cond (internal s i) (Value (byte_of s i)) External))
    × (port_write (indexed s i true) 35 v inside
    ≡ cond (internal s i) (answering (indexed (written s i v inside) i false) Done) (answering (indexed s i false) External))

-- the indexes 192 to 207, 254 and 255 are internal; in the later edition all are under MAPEN, and in the 486 edition no others
abbrev pub InternalByNumber : Type 0
InternalByNumber =
    (s : Settings) (i : ℕ)
    → let always = eqb (i / 16) 12 || eqb (i / 2) 127 in
    (internal (with_edition s Cx486) i ≡ always) × (internal (with_edition s Mii) i ≡ (always || mapen s))
