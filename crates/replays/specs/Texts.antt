-- Demand 3 of the player, by the text that it prints: two replays of one trace, from one machine that is outside the mode with SMI_LOCK set and
-- SMAC clear, over one main memory and two management memories of one size, print the same lines up to and including the first "entered", if the
-- trace holds no reset; and where nothing enters, the same text. The programs start from reset, where the lock is clear: for them it holds from
-- the record on that locks the machine.
use Rattle.std.specs.Prelude.{ℕ, ◌-◌, ◌≡◌, Bool, true, false, cond, ◌&&◌, List, [], ◌∷◌, ◌++◌, eqb, length, drop}
use Rattle.steps.specs.declared.Answer.{Answer}
use Rattle.steps.specs.Answers.{number_of}
use Rattle.memory.specs.Memory.{Memories, memories}
use Rattle.machine.specs.declared.Machine.{Machine}
use Rattle.runs.specs.Runs.{run, answers_of}
use Rattle.lines.specs.declared.Reason.{Reason}
use Rattle.lines.specs.declared.Reason.TheVariants as why
use Rattle.lines.specs.Lines.{newline, lines_of, text_of}
use Rattle.scripts.specs.Scripts.{record_limit, whole, limited, script_of}
use Rattle.player.specs.Player.{playing}
use Rattle.player.specs.Output.{replay_text}
use Rattle.isolation.specs.Isolation.{Start, NoReset}
use Rattle.isolation.specs.Tightness.{NoEntry}

-- ---- a text up to the first entry

-- the line of answer 11, "11 00000000", with its newline
abbrev pub entered_line : List ℕ
entered_line = 0x31 ∷ 0x31 ∷ 0x20 ∷ 0x30 ∷ 0x30 ∷ 0x30 ∷ 0x30 ∷ 0x30 ∷ 0x30 ∷ 0x30 ∷ 0x30 ∷ 0x0a ∷ []

-- whether a text begins with another
unfoldable pub begins : List ℕ → List ℕ → Bool
begins text [] = true
begins [] (b ∷ bs) = false
begins (a ∷ text) (b ∷ bs) = eqb a b && begins text bs

-- A text up to and including its first line "11 00000000", and all of it where it has none. The flag says that a line begins here.
unfoldable pub through_line : Bool → List ℕ → List ℕ
through_line first [] = []
through_line first (b ∷ text) = cond (first && begins (b ∷ text) entered_line) entered_line (b ∷ through_line (eqb b newline) text)

abbrev pub through_entered : List ℕ → List ℕ
through_entered text = through_line true text

-- So it is of every text: all of it where no answer is "entered", and else the lines before the first such, and its own.
abbrev pub ThroughEnteredAsked : Type 0
ThroughEnteredAsked =
    ((bs : List Answer) (r : Reason) → NoEntry bs → through_entered (text_of bs r) ≡ text_of bs r)
    × ((bs cs : List Answer) (a : Answer) (r : Reason) → NoEntry bs → number_of a ≡ 11
    → through_entered (text_of (bs ++ (a ∷ cs)) r) ≡ lines_of bs ++ entered_line)

-- two texts as a bench compares them
pub record Alike (t u : List ℕ) : Type 0 where
  -- the same lines up to and including the first "entered"
  pub lines : through_entered t ≡ through_entered u
  -- and where there is none, the same text, the reason included
  pub texts : through_entered t ≡ t → t ≡ u

-- ---- from a machine that is locked

-- the text of a trace that is played from machine m on memories x, with n records left up to the limit: a replay has 10,000
abbrev pub text_within : ℕ → Machine → Memories → List ℕ → List ℕ
text_within n m x trace = let t = limited n (whole trace) in text_of (answers_of (run m x t.steps)) t.reason

abbrev pub AlikeWithin : Type 0
AlikeWithin =
    (n : ℕ) (m : Machine) (main g h trace : List ℕ) → Start m → length g ≡ length h → NoReset (limited n (whole trace)).steps
    → Alike (text_within n m (memories main g) trace) (text_within n m (memories main h) trace)

-- so of a replay from there that doesn't enter: the two texts are the same, the reason included
abbrev pub SameTexts : Type 0
SameTexts =
    (m : Machine) (main g h trace : List ℕ) → Start m → length g ≡ length h → NoReset (script_of trace).steps
    → NoEntry (answers_of (playing m (memories main g) trace))
    → replay_text m (memories main g) trace ≡ replay_text m (memories main h) trace

-- ---- from reset, or from any machine

-- A trace p that is played to its end, and then q: the lines of p come first, and then the text of q from where p leads, with what p leaves
-- of the limit.
abbrev pub GoesOn : Type 0
GoesOn =
    (m : Machine) (x : Memories) (p q : List ℕ) → (script_of p).reason ≡ why.End
    → let r = playing m x p in
    replay_text m x (p ++ q)
    ≡ lines_of (answers_of r) ++ text_within (record_limit - length (script_of p).steps) r.machine r.memory q

-- what is printed after the lines of p
abbrev pub text_after : Machine → Memories → List ℕ → List ℕ → List ℕ
text_after m x p q = drop (length (lines_of (answers_of (playing m x p)))) (replay_text m x (p ++ q))

-- p is played to its end from machine m over memories x, and leads to machine m', main memory main and management memory g
pub record Leads (m : Machine) (x : Memories) (p : List ℕ) (m' : Machine) (main g : List ℕ) : Type 0 where
  pub ends : (script_of p).reason ≡ why.End
  pub machine_is : (playing m x p).machine ≡ m'
  pub memory_is : (playing m x p).memory ≡ memories main g

-- Two traces of as many records, such as two loads of firmware with another secret each, or one over two memories, lead from one machine,
-- such as that after a reset, to one that is locked, with one main memory and management memories of one size. What the same trace without a
-- reset then prints is the same up to and including the first "entered".
abbrev pub SameAfter : Type 0
SameAfter =
    (m : Machine) (x y : Memories) (p p' q : List ℕ) (m' : Machine) (main g h : List ℕ)
    → Leads m x p m' main g → Leads m y p' m' main h → length (script_of p).steps ≡ length (script_of p').steps
    → Start m' → length g ≡ length h → NoReset (script_of q).steps
    → Alike (text_after m x p q) (text_after m y p' q)
