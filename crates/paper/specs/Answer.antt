-- 01, "When the desk says no": the answer of every call, how checks are put in order, and the numbers of the table.
use Rattle.std.specs.Prelude.{ℕ, List, ◌++◌, Bool, true, false, ltb, length, drop}

-- done, with what is answered; or refused, with a number of the table
pub data Said (A : Type 0) : Type 0 where
  answer : A → Said A
  refuse : ℕ → Said A

-- "Zero means done. A refusal gives its number alone"
unfoldable pub number : {A : Type 0} → Said A → ℕ
number (answer a) = 0
number (refuse k) = k

-- one check: where the fault is there, its number is the answer, and nothing after it is looked at
abbrev pub guard : {A : Type 0} → Bool → ℕ → Said A → Said A
guard true k rest = refuse k
guard false k rest = rest

infixl 10 ◌then◌
-- checks in order: the first refusal is the answer
abbrev pub ◌then◌ : {A B : Type 0} → Said A → (A → Said B) → Said B
answer a then f = f a
refuse k then f = refuse k

-- What a call that writes gives: a value, and the bytes that the lent slice opens with afterwards.
pub record Wrote (A : Type 0) : Type 0 where
  pub value : A
  pub bytes : List ℕ

-- what comes back from a call that writes
unfoldable pub comes_back : {A : Type 0} → Said (Wrote A) → Said A
comes_back said = said then λ w. answer w.value

-- bytes where a lent slice opens: "output beyond the result stays"
abbrev pub onto : List ℕ → List ℕ → List ℕ
onto w old = w ++ drop (length w) old

-- what the lent slice `old` holds afterwards; a refusal "changes no lent byte"
unfoldable pub over : {A : Type 0} → List ℕ → Said (Wrote A) → List ℕ
over old (answer w) = onto w.bytes old
over old (refuse k) = old

-- The table of numbers.
abbrev pub CutOff : ℕ
CutOff = 1

abbrev pub BadMark : ℕ
BadMark = 2

abbrev pub BadHead : ℕ
BadHead = 3

abbrev pub TooMany : ℕ
TooMany = 4

abbrev pub BadOrder : ℕ
BadOrder = 5

abbrev pub Tail : ℕ
Tail = 6

abbrev pub BadState : ℕ
BadState = 7

abbrev pub BadImage : ℕ
BadImage = 8

abbrev pub Outside : ℕ
Outside = 9

abbrev pub BadStart : ℕ
BadStart = 10

abbrev pub Behind : ℕ
Behind = 11

abbrev pub Gap : ℕ
Gap = 12

abbrev pub Short : ℕ
Short = 13

abbrev pub NotExact : ℕ
NotExact = 14

abbrev pub Compared : ℕ
Compared = 15

abbrev pub Apart : ℕ
Apart = 16

abbrev pub NoRoom : ℕ
NoRoom = 17

abbrev pub ShelfFull : ℕ
ShelfFull = 18

abbrev pub NoChain : ℕ
NoChain = 19

abbrev pub BadGid : ℕ
BadGid = 20

-- "Whichever call writes output answers its length in bytes"; "the output buffer is shorter than the result"
unfoldable pub output : List ℕ → ℕ → Said (Wrote ℕ)
output w room = guard (ltb room (length w)) NoRoom (answer (record { value = length w; bytes = w }))
