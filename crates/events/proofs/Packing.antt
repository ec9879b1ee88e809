-- The packing of the log, taken apart. Assumes nothing.
use mathlib.Core.Path.{◌≡◌}
use Prim.Native.Nat.{◌/◌, ◌%◌, ◌<◌}
use native.Mathlib.Omega.{arith}
use Rattle.fields.specs.Fields.{bit}
use Rattle.fields.proofs.Laws.{bit_small, bit_back}
use Rattle.steps.specs.declared.Answer.{Answer}
use Rattle.steps.specs.declared.Answer.TheVariants.{Done, WrongSize, Malformed, WhileHalted, Invalid, Absent, Value, External, Nothing, Ignored, Latched, Entered, Resumed}
use Rattle.steps.specs.declared.Step.{Step}
use Rattle.steps.specs.declared.Step.TheVariants.{Reset, Registers, Read, Write, PortRead, PortWrite, Opcode, Boundary, MalformedBoundary, Halt, Wake}
use Rattle.steps.specs.Answers.{number_of}
use Rattle.steps.specs.Steps.{kind_of}
use Rattle.events.specs.Events.{noted, LogTakenApart}

-- a number and a kind are bytes
number_small : (a : Answer) → number_of a < 256
number_small Done = omega arith
number_small WrongSize = omega arith
number_small Malformed = omega arith
number_small WhileHalted = omega arith
number_small Invalid = omega arith
number_small Absent = omega arith
number_small (Value v) = omega arith
number_small External = omega arith
number_small Nothing = omega arith
number_small Ignored = omega arith
number_small Latched = omega arith
number_small Entered = omega arith
number_small Resumed = omega arith

kind_small : (s : Step) → kind_of s < 256
kind_small Reset = omega arith
kind_small (Registers eip eflags cr0 dr7 selector descriptor level writable) = omega arith
kind_small (Read width a) = omega arith
kind_small (Write width a v) = omega arith
kind_small (PortRead port) = omega arith
kind_small (PortWrite port v) = omega arith
kind_small (Opcode op modrm a next) = omega arith
kind_small (Boundary smi current i) = omega arith
kind_small MalformedBoundary = omega arith
kind_small Halt = omega arith
kind_small Wake = omega arith

pub taken_apart : LogTakenApart
unfolding noted
taken_apart e =
    let n = number_small e.answer in
    let k = kind_small e.step in
    let b = bit_small e.inside in
    let inside : noted e / 65536 % 2 ≡ bit e.inside = omega arith in record {
      number = omega arith;
      kind = omega arith;
      inside = rw inside (bit_back e.inside);
      value = omega arith;
    }
