-- The number of each refusal in 01's table, and what a call that may refuse says.
use Rattle.std.specs.Prelude.{ℕ}
use Rattle.std.specs.Prelude.{Result, Ok, Err}
use Rattle.paper.specs.Answer as table
use Rattle.record.specs.declared.refusal.Refusal.{Refusal}
use Rattle.record.specs.declared.refusal.Refusal.TheVariants.{CutOff, BadMark, BadHead, TooMany, BadOrder, Tail, BadState, BadImage, Outside, BadStart, Behind, Gap, Short, NotExact, Compared, Apart, NoRoom, ShelfFull, NoChain, BadGid}

abbrev pub number_of : Refusal → ℕ
number_of CutOff = table.CutOff
number_of BadMark = table.BadMark
number_of BadHead = table.BadHead
number_of TooMany = table.TooMany
number_of BadOrder = table.BadOrder
number_of Tail = table.Tail
number_of BadState = table.BadState
number_of BadImage = table.BadImage
number_of Outside = table.Outside
number_of BadStart = table.BadStart
number_of Behind = table.Behind
number_of Gap = table.Gap
number_of Short = table.Short
number_of NotExact = table.NotExact
number_of Compared = table.Compared
number_of Apart = table.Apart
number_of NoRoom = table.NoRoom
number_of ShelfFull = table.ShelfFull
number_of NoChain = table.NoChain
number_of BadGid = table.BadGid

-- "Zero means done. A refusal gives its number alone": an answer of the code as one of `paper`, where `means` is what its value stands for
abbrev pub said : {A B : Type 0} → (A → B) → Result A Refusal → table.Said B
said means (Ok a) = table.answer (means a)
said means (Err r) = table.refuse (number_of r)
