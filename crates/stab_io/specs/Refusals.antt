-- Refusals: their numbers and names, the fault of a whole text or call, and how a call answers when there is a verdict on it.
-- Source: this project's own numbers and names.
use Rattle.std.specs.Prelude.{◌≡◌, ℕ, List, codes, Option, Some, None, Result, Ok, Err}
use Rattle.stab_io.specs.declared.refusal.Refusal.{Refusal}
use Rattle.stab_io.specs.declared.refusal.Refusal.TheVariants.{UnsupportedName, BadArguments, BadTarget, BadPairing, BadBlock, QubitOutOfRange, ObservableOutOfRange, LookbackTooFar, TooManySteps, TooDeep, BadLine, PlaceOutOfRange, BadCommand, TooLong, ReadFault, WriteFault, NotABlock, NotDeterministic, OutOfMemory}
use Rattle.stab_io.specs.declared.refusal.Fault.{Fault}

-- the number that a refusal is printed with
abbrev pub refusal_number : Refusal → ℕ
refusal_number UnsupportedName = 1
refusal_number BadArguments = 2
refusal_number BadTarget = 3
refusal_number BadPairing = 4
refusal_number BadBlock = 5
refusal_number QubitOutOfRange = 6
refusal_number ObservableOutOfRange = 7
refusal_number LookbackTooFar = 8
refusal_number TooManySteps = 9
refusal_number TooDeep = 10
refusal_number BadLine = 11
refusal_number PlaceOutOfRange = 12
refusal_number BadCommand = 13
refusal_number TooLong = 14
refusal_number ReadFault = 15
refusal_number WriteFault = 16
refusal_number NotABlock = 17
refusal_number NotDeterministic = 18
refusal_number OutOfMemory = 20

-- the name that a refusal is printed with
abbrev pub refusal_name : Refusal → List ℕ
refusal_name UnsupportedName = codes "UnsupportedName"
refusal_name BadArguments = codes "BadArguments"
refusal_name BadTarget = codes "BadTarget"
refusal_name BadPairing = codes "BadPairing"
refusal_name BadBlock = codes "BadBlock"
refusal_name QubitOutOfRange = codes "QubitOutOfRange"
refusal_name ObservableOutOfRange = codes "ObservableOutOfRange"
refusal_name LookbackTooFar = codes "LookbackTooFar"
refusal_name TooManySteps = codes "TooManySteps"
refusal_name TooDeep = codes "TooDeep"
refusal_name BadLine = codes "BadLine"
refusal_name PlaceOutOfRange = codes "PlaceOutOfRange"
refusal_name BadCommand = codes "BadCommand"
refusal_name TooLong = codes "TooLong"
refusal_name ReadFault = codes "ReadFault"
refusal_name WriteFault = codes "WriteFault"
refusal_name NotABlock = codes "NotABlock"
refusal_name NotDeterministic = codes "NotDeterministic"
refusal_name OutOfMemory = codes "OutOfMemory"

-- the fault of a refusal that belongs to no line
abbrev pub whole : Refusal → Fault
whole r = record { refusal = r; line = 0 }

-- the fault of a call with this verdict: what the verdict names; if it refuses nothing, 20
abbrev pub IsCallFault : Option Refusal → Fault → Type 0
IsCallFault (Some refusal) fault = fault ≡ whole refusal
IsCallFault None fault = fault ≡ whole OutOfMemory

-- a call answers as the verdict says: it is done if that refuses nothing, and else refused by it or for lack of memory
abbrev pub Refuses : {A : Type 0} → Result A Fault → Option Refusal → Type 0
Refuses (Ok x) verdict = verdict ≡ None
Refuses (Err fault) verdict = IsCallFault verdict fault
