-- What holds the theorem to the journal's code. Where a call is given what a history has led to, what it leaves is in a history again: so no
-- call and no number is left out. And what is promised of an area, of any one, settles what the code answers on it.
use Rattle.std.specs.Prelude.{◌≡◌, List, [], ◌∷◌, ◌++◌, ℕ, ◌<◌, length, get_or, replicate, Ok, Err}
use Rattle.slots.specs.Area.{ceiling}
use Rattle.journal.specs.declared.Counter.{Counter}
use Rattle.journal.specs.Answers.{Started, Handed, Raised, counter}
use Rattle.recovery.specs.Cuts.{found_after}
use Rattle.histories.specs.Histories.{Run, off, on, History, Promised}

-- a restart, at any time, begins a run at the ceiling of area a
abbrev pub RestartGoesOn : List ℕ → Type 0
RestartGoesOn a = (r : Run) (ns : List ℕ) → History a r ns → History a (on (counter (ceiling a))) ns

-- what is promised of area a settles s, the answer to a restart of it
abbrev pub RestartKept : List ℕ → Started → Type 0
RestartKept a s = (ns : List ℕ) → Promised a ns → s ≡ Ok (counter (ceiling a))

-- x answers the call for the next number of counter c on area a; a number that is handed out comes last
abbrev pub NumberComesLast : List ℕ → List ℕ → Handed → Type 0
NumberComesLast a ns (Ok (n, c)) = History a (on c) (ns ++ (n ∷ []))
NumberComesLast a ns (Err e) = Unit

abbrev pub NextGoesOn : List ℕ → Counter → Handed → Type 0
NextGoesOn a c x = (ns : List ℕ) → History a (on c) ns → NumberComesLast a ns x

-- a raise on area a, whole or in part, leaves area b, and the run goes on
abbrev pub RaiseGoesOn : List ℕ → List ℕ → Type 0
RaiseGoesOn a b = (c : Counter) (ns : List ℕ) → History a (on c) ns → History b (on c) ns

-- n stores of a raise to v are made, x answers it, and what is promised of area a settles s, the answer to the restart that follows
abbrev pub RaiseKept : List ℕ → ℕ → ℕ → Raised → Started → Type 0
RaiseKept a v n x s = (ns : List ℕ) → Promised a ns → s ≡ Ok (counter (found_after x (ceiling a) v n))

-- the power goes, at any time
abbrev pub PowerGoes : List ℕ → Type 0
PowerGoes a = (r : Run) (ns : List ℕ) → History a r ns → History a off ns

-- "no number is ever handed out twice"
abbrev pub NoneTwice : Type 0
NoneTwice = (a ns : List ℕ) → Promised a ns → (i j : ℕ) → i < j → j < length ns → get_or ns i 0 ≡ get_or ns j 0 → ⊥

-- ---- the same of the code after every history, with the history as the one hypothesis, so that nothing can come between the theorem and the code

-- a restart of area a, which s answers, is accepted, at the ceiling
abbrev pub RestartHeld : List ℕ → Started → Type 0
RestartHeld a s = (r : Run) (ns : List ℕ) → History a r ns → s ≡ Ok (counter (ceiling a))

-- a number that is handed out is above all that were handed out before it: "no number is ever handed out twice"
abbrev pub NumberIsAbove : List ℕ → Handed → Type 0
NumberIsAbove ns (Ok (n, c)) = (i : ℕ) → i < length ns → get_or ns i 0 < n
NumberIsAbove ns (Err e) = Unit

-- x answers the call for the next number of counter c on area a
abbrev pub NextIsAbove : List ℕ → Counter → Handed → Type 0
NextIsAbove a c x = (ns : List ℕ) → History a (on c) ns → NumberIsAbove ns x

-- The restart before a raise to v, whole or in part, is accepted, and so is the one after it. That finds the ceiling which the first found, or v,
-- as the raise's answer x and the number n of its stores say.
abbrev pub FoundAround : Started → ℕ → ℕ → Raised → Started → Type 0
FoundAround (Ok c) v n x after = after ≡ Ok (counter (found_after x c.next v n))
FoundAround (Err e) v n x after = ⊥

abbrev pub RaiseHeld : List ℕ → ℕ → ℕ → Started → Raised → Started → Type 0
RaiseHeld a v n before x after = (r : Run) (ns : List ℕ) → History a r ns → FoundAround before v n x after

-- The first raise of a fresh area, to any value above 0, is done, and the restart after it finds the value. A journal that refuses every
-- raise would meet all other sentences.
abbrev pub FirstRaise : List ℕ → ℕ → Raised → Started → Type 0
FirstRaise a v x after = a ≡ replicate 4096 0 → 0 < v → (x ≡ Ok tt) × (after ≡ Ok (counter v))
