-- The theorem of 02 request 4: whatever is called, and wherever the power is cut, no number is handed out twice.
use Rattle.std.specs.Prelude.{◌≡◌, List, [], ◌∷◌, ◌++◌, ℕ, ◌^◌, ◌<◌, length, get_or, replicate, Ok}
use Rattle.slots.specs.Area.{area_size, ceiling}
use Rattle.journal.specs.declared.Counter.{Counter}
use Rattle.journal.specs.Answers.{restart_of, next_of, raise_of, raise_part_of}
use Rattle.recovery.specs.Cuts.{Finds, SurvivesCuts}

-- whether a run is on, and with which counter: a restart begins it, and a power cut ends it
pub data Run : Type 0 where
  off : Run
  on : Counter → Run

-- a value that a caller can name has 64 bits
abbrev pub IsU64 : ℕ → Type 0
IsU64 v = v < 2 ^ 64

-- `History a r ns`: from a fresh area that nothing else writes, calls, each given what the one before left, have led to area a and run r, and
-- have handed out the numbers ns, over all runs, in order. A number that is refused has no row, since it leaves all as it is.
pub data History : List ℕ → Run → List ℕ → Type 0 where
  -- "fresh area all zero"
  fresh : History (replicate area_size 0) off []
  -- "each run begun by a restart", at any time
  restart : {a : List ℕ} {r : Run} {ns : List ℕ} {c : Counter} → History a r ns → restart_of a ≡ Ok c → History a (on c) ns
  next : {a : List ℕ} {c c' : Counter} {ns : List ℕ} {n : ℕ} → History a (on c) ns → next_of c a ≡ Ok (n, c')
      → History a (on c') (ns ++ (n ∷ []))
  raise : {a : List ℕ} {c : Counter} {ns : List ℕ} (v : ℕ) → IsU64 v → History a (on c) ns → History (raise_of a v).area (on c) ns
  -- a raise that stops after n of its stores: `power-off` may follow, which is a power cut there
  part : {a : List ℕ} {c : Counter} {ns : List ℕ} (v n : ℕ) → IsU64 v → History a (on c) ns → History (raise_part_of a v n).area (on c) ns
  -- the power goes, at any time
  power_off : {a : List ℕ} {r : Run} {ns : List ℕ} → History a r ns → History a off ns

-- each number is above those before it, so that none is there twice
abbrev pub StrictlyRising : List ℕ → Type 0
StrictlyRising ns = (i j : ℕ) → i < j → j < length ns → get_or ns i 0 < get_or ns j 0

-- what is promised at every moment, with the area and the numbers as they are then
pub record Promised (a : List ℕ) (ns : List ℕ) : Type 0 where
  -- a restart would be accepted, and find the present ceiling
  pub restarts : Finds a (ceiling a)
  -- a raise would leave the old or the new ceiling, wherever the power is cut
  pub raises : (v : ℕ) → IsU64 v → SurvivesCuts a v
  pub rises : StrictlyRising ns

abbrev pub EveryHistory : Type 0
EveryHistory = (a : List ℕ) (r : Run) (ns : List ℕ) → History a r ns → Promised a ns
