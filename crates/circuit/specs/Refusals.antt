-- The number of each refusal, and how a call's answer stands to what is meant. Assumes nothing.
use Rattle.std.specs.Prelude.{◌≡◌, ℕ, Bool, true, cond, List, ◌++◌, codes, is_ok, Ok, Err, Result}
use Rattle.std.specs.Fmt.{decimal}
use Rattle.circuit.specs.declared.refusals.Failure.{Failure}
use Rattle.circuit.specs.declared.refusals.Failure.TheVariants.{Refused, Memory}
use Rattle.circuit.specs.declared.refusals.Refusal.{Refusal}
use Rattle.circuit.specs.declared.refusals.Refusal.TheVariants.{Malformed, Count, NotMade, Table, Values}

abbrev pub number_of : Refusal → ℕ
number_of Malformed = 1
number_of Count = 2
number_of NotMade = 3
number_of Table = 4
number_of Values = 7

-- what a refusal is told by: `refused: ` and its number
abbrev pub refusal_text : Refusal → List ℕ
refusal_text e = codes "refused: " ++ decimal (number_of e)

-- what is meant: an answer, or the number of a refusal
abbrev pub Answer : Type 0 → Type 0
Answer Y = Result Y ℕ

abbrev pub refuse : {Y : Type 0} → Refusal → Answer Y
refuse e = Err (number_of e)

-- refuse unless a test holds
abbrev pub require : {Y : Type 0} → Bool → Refusal → Answer Y → Answer Y
require test e m = cond test m (refuse e)

-- one thing after another, up to the first refusal
infixl 10 ◌and_then◌
abbrev pub ◌and_then◌ : {X Y : Type 0} → Answer X → (X → Answer Y) → Answer Y
Ok x and_then f = f x
Err n and_then f = Err n

-- a failure is the refusal that is meant, or want of memory in the place of an answer: what is to be refused is refused, however little memory there is
abbrev pub Fails : {Y : Type 0} → Failure → Answer Y → Type 0
Fails (Refused e) m = m ≡ refuse e
Fails Memory m = is_ok m ≡ true

-- a call answers what is meant
abbrev pub Answers : {X Y : Type 0} → (X → Y) → Result X Failure → Answer Y → Type 0
Answers f (Ok x) m = m ≡ Ok (f x)
Answers f (Err e) m = Fails e m
